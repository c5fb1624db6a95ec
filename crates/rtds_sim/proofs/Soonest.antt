-- The soonest of several moments.
use Rattle.std.proofs.Common.{◌≡◌, ℕ, List, get_or, ◌⊎◌}
use Rattle.rtds_sim.specs.declared.switches.TheConstants.{NEVER}
use Rattle.rtds_sim.specs.inner.Soonest.{AreNever, IsSoonest}

-- of the first n moments the least one, and the first core that has it, if one is before all
abbrev pub SoonestBelow : List ℕ → ℕ → ℕ → ℕ → Type 0
SoonestBelow moments n least c =
    ((least ≡ NEVER) × AreNever moments n)
    ⊎ ((least ≡ get_or moments c 0) × IsSoonest moments n c)
