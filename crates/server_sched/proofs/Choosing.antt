-- The server that goes first, among more and more of them.
use Rattle.std.proofs.Common.{◌≡◌, ℕ, ◌<◌, List, Option, Some, None}
use Rattle.server_sched.specs.declared.serving.Server.{Server}
use Rattle.server_sched.specs.inner.Serving.{server_at, goes_first}

-- the one of the first m
abbrev pub ChosenTo : List Server → ℕ → Option ℕ → Type 0
ChosenTo servers m None = (i : ℕ) → i < m → (server_at servers i).left ≡ 0
ChosenTo servers m (Some b) =
    (b < m) × (0 < (server_at servers b).left)
    × ((i : ℕ) → i < m → 0 < (server_at servers i).left → goes_first (server_at servers b) (server_at servers i))
