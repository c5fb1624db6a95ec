-- A cover up to the horizon shows that no window at all is short.
use Rattle.std.proofs.Common.{ℕ, Bool, List}
use Rattle.slot_model.specs.Task.{SporadicTask, AreConstrained}
use Rattle.slot_model.specs.Supply.{SupplyLaws}
use Rattle.slot_model.specs.Bound.{DemandFits, IsHorizon}
use Rattle.slot_model.specs.Points.{IsCover}
use Rattle.slot_model.proofs.Covers.{covers_show}
use Rattle.edf_demand.proofs.Horizons.{horizon_is_enough, rises_of_laws}

pub cover_fits : (tasks : List SporadicTask) → AreConstrained tasks
    → {bound : ℕ → ℕ} {amount cycle : ℕ} {pattern : ℕ → Bool} {start : ℕ} {Conforms : List Bool → Type 0}
    → SupplyLaws bound amount cycle pattern start Conforms
    → (h : ℕ) → IsHorizon tasks cycle h → (points : List ℕ) → IsCover tasks bound h points → DemandFits tasks bound
cover_fits tasks fit {bound} {amount} {cycle} {pattern} {start} {Conforms} laws h horizon points cover =
    horizon_is_enough tasks fit bound amount cycle h laws.some_cycle
    (rises_of_laws bound amount cycle pattern start Conforms laws) horizon
    (covers_show tasks fit bound laws.never_falls h points cover)
