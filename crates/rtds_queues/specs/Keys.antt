-- The order in which VCPUs go.
use Rattle.std.specs.Prelude.{ℕ, ◌==◌, Bool, ◌&&◌, ◌||◌, nat_lt}

-- the order of VCPUs: the least level, then the least deadline, then the first in the file
abbrev pub goes_first : ℕ → ℕ → ℕ → ℕ → ℕ → ℕ → Bool
goes_first level deadline place level' deadline' place' =
    nat_lt level level' ||
    (level == level' &&
    (nat_lt deadline deadline' || (deadline == deadline' && nat_lt place place')))
