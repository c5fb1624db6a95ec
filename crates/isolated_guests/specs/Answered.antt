-- What the answers of `isolate` mean for deadlines.
use Rattle.std.specs.Prelude.{◌≡◌, ℕ, true, List, ⊤}
use Rattle.tree_model.specs.View.{SystemView}
use Rattle.tree_model.specs.System.{IsSystem}
use Rattle.tree_model.specs.Admission.{Admitted}
use Rattle.rtds_model.specs.Rtds.{CoreRun}
use Rattle.isolation.specs.declared.isolation.Isolation.{Isolation}
use Rattle.isolation.specs.declared.isolation.Isolation.TheVariants.{Isolated, ByTies, ByBlock}
use Rattle.isolation.specs.declared.vcpus.PartIsolation.{PartIsolation}
use Rattle.isolation.specs.Open.{OpenRun}
use Rattle.isolation.specs.Answer.{IsIsolation}
use Rattle.isolation.specs.Answers.{AreIsolations, are_isolated}
use Rattle.isolated_guests.specs.Guests.{PartKeeps, HostsKeep}

-- what an answer means for part v of core c where it halts only where it has nothing to do:
-- isolated, in each run; by ties, in the run in the order of the file
abbrev pub LineKeeps : SystemView → List ℕ → ℕ → ℕ → Isolation → Type 0
LineKeeps sys budgets c v (Isolated last) =
    PartKeeps OpenRun sys budgets c v × PartKeeps CoreRun sys budgets c v
LineKeeps sys budgets c v (ByTies last) = PartKeeps CoreRun sys budgets c v
LineKeeps sys budgets c v ByBlock = ⊤

-- under budgets that admit the system
abbrev pub LinesKeep : Type 0
LinesKeep =
    (sys : SystemView) (budgets : List ℕ) (c v : ℕ) (answer : Isolation) → IsSystem sys →
    Admitted sys budgets → IsIsolation sys budgets c v answer → LineKeeps sys budgets c v answer

-- and what a yes means for the host
abbrev pub YesKeeps : Type 0
YesKeeps =
    (sys : SystemView) (budgets : List ℕ) (answers : List PartIsolation) → IsSystem sys →
    Admitted sys budgets → AreIsolations sys budgets answers → are_isolated answers ≡ true →
    HostsKeep sys budgets
