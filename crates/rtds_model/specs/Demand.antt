-- What a server takes of the last slots before one of its periods ends.
use Rattle.std.specs.Prelude.{ℕ, ◌+◌, ◌*◌, ◌/◌, ◌%◌, nat_lt, min, if◌then◌else◌}

-- the most that a server takes of the last t slots before one of its periods ends, where it keeps
-- its budget while it blocks: its budget in each whole period there, and its budget again, as far
-- as there are slots, in the rest of the period in which they begin (deferrable servers:
-- Strosnider, Lehoczky, Sha 1995; under earliest deadline first Ghazalie and Baker 1995)
abbrev pub deferrable_demand : ℕ → ℕ → ℕ → ℕ
deferrable_demand period budget t = (t / period) * budget + min budget (t % period)

-- by how many slots a period of u must end before one of v, to go before it: one for a VCPU that
-- stands behind v, since the first in the file goes first
abbrev pub later : ℕ → ℕ → ℕ
later v u = if nat_lt v u then 1 else 0
