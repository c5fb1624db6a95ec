-- What a tie costs.
use Rattle.std.specs.Prelude.{ℕ}
use Rattle.isolation.specs.declared.ties.Ties.{Ties}
use Rattle.isolation.specs.declared.ties.Ties.TheVariants.{Open, InFileOrder}
use Rattle.rtds_model.specs.Demand.{later}
use Rattle.isolation.specs.Demand.{no_tie}

-- the slots that a tie costs
abbrev pub tie_of : Ties → ℕ → ℕ → ℕ
tie_of Open = no_tie
tie_of InFileOrder = later
