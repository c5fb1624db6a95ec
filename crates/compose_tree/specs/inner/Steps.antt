-- What the steps of a composition promise each other.
use Rattle.std.specs.Prelude.{ℕ, ◌<◌, List, Option}
use Rattle.slot_model.specs.declared.sched.Sched.{Sched}
use Rattle.slot_model.specs.Task.{SporadicTask}
use Rattle.slot_model.specs.Bound.{sbf, TestPasses}
use Rattle.tree_model.specs.declared.place.Place.TheVariants.{Core}
use Rattle.tree_model.specs.View.{SystemView}
use Rattle.tree_model.specs.Admission.{NodePasses, IsGivenOrLeast}

-- the budget of a part is the one that is given, or the least that passes, and the part passes
-- under it
pub record IsPartBudget (sched : Sched) (tasks : List SporadicTask) (period : ℕ)
    (given : Option ℕ) (budget : ℕ) : Type 0 where
  pub is : IsGivenOrLeast sched tasks period given budget
  pub passes : TestPasses sched tasks (sbf period budget) period

-- the cores before core n pass
abbrev pub CoresPassTo : SystemView → List ℕ → ℕ → Type 0
CoresPassTo sys budgets n = (c : ℕ) → c < n → NodePasses sys budgets (Core c)
