-- What the answers say, taken apart: of a level, and of every run of it. A definition that says
-- less breaks one of these.
use Rattle.std.proofs.Common.{ℕ, ◌<◌, ◌≤◌, Bool, List}
use Rattle.slot_model.specs.declared.job.Job.{Job}
use Rattle.slot_model.specs.declared.sched.Sched.{Sched}
use Rattle.slot_model.specs.declared.sched.Short.{Short}
use Rattle.slot_model.specs.Task.{SporadicTask}
use Rattle.slot_model.specs.Supply.{GivesBudget}
use Rattle.slot_model.specs.Bound.{sbf, Passes, IsShortfall, IsSmall, IsLeastBudget}
use Rattle.slot_model.specs.Miss.{NoJobLost, MustMiss}
use Rattle.least_budget.specs.declared.answers.Tested.TheVariants.{Passes as AllPasses, Short as FirstShort, Wide as TestWide}
use Rattle.least_budget.specs.declared.answers.Least.TheVariants.{Budget, Over, Wide}
use Rattle.least_budget.specs.Answers.{IsTested, Foretells, IsShort, IsLeast, Separates}
use Rattle.least_budget.proofs.Shortfalls.{short_fails, shortfall_is_short}

what_a_test_says : (sched : Sched) (tasks : List SporadicTask) (bound : ℕ → ℕ) (cycle : ℕ) (short : Short) →
    (IsTested sched tasks bound cycle AllPasses → IsSmall sched tasks cycle × Passes sched tasks bound)
    × (IsTested sched tasks bound cycle (FirstShort short)
    → IsSmall sched tasks cycle × IsShortfall sched tasks bound short)
    × (IsTested sched tasks bound cycle TestWide → IsSmall sched tasks cycle → ⊥)
what_a_test_says sched tasks bound cycle short = (λ h. h, λ h. h, λ h. h)

what_it_finds_short_is_short : (sched : Sched) (tasks : List SporadicTask) (bound : ℕ → ℕ) (cycle : ℕ) (short : Short) →
    IsTested sched tasks bound cycle (FirstShort short) → IsShort sched tasks bound short
what_it_finds_short_is_short sched tasks bound cycle short found = shortfall_is_short sched tasks bound short found.1

what_is_short_keeps_it_from_passing : (sched : Sched) (tasks : List SporadicTask) (bound : ℕ → ℕ) (cycle : ℕ)
    (short : Short) → IsShort sched tasks bound short → IsTested sched tasks bound cycle AllPasses → ⊥
what_is_short_keeps_it_from_passing sched tasks bound cycle short is_short passes =
    short_fails sched tasks bound short is_short passes.1

what_it_foretells : (Conforms : List Bool → Type 0) (before : Job → Job → Bool) (tasks : List SporadicTask)
    (short : Short) →
    (Foretells Conforms before tasks AllPasses → NoJobLost Conforms before tasks)
    × (Foretells Conforms before tasks (FirstShort short) → MustMiss Conforms before tasks)
what_it_foretells Conforms before tasks short = (λ h. h, λ h. h)

what_a_least_budget_says : (sched : Sched) (tasks : List SporadicTask) (period budget : ℕ) (short : Short) →
    (IsLeast sched tasks period (Budget budget) → IsSmall sched tasks period × IsLeastBudget sched tasks period budget)
    × (IsLeast sched tasks period (Over short)
    → IsSmall sched tasks period × IsShortfall sched tasks (sbf period period) short)
    × (IsLeast sched tasks period Wide → IsSmall sched tasks period → ⊥)
what_a_least_budget_says sched tasks period budget short = (λ h. h, λ h. h, λ h. h)

below_the_least_budget_some_release_must_miss : (before : Job → Job → Bool) (tasks : List SporadicTask)
    (period least budget : ℕ) → Separates before tasks period (Budget least) → budget ≤ period → budget < least
    → MustMiss (GivesBudget period budget) before tasks
below_the_least_budget_some_release_must_miss before tasks period least budget separates within less =
    (separates budget within).0 less

from_the_least_budget_on_no_job_is_lost : (before : Job → Job → Bool) (tasks : List SporadicTask)
    (period least budget : ℕ) → Separates before tasks period (Budget least) → budget ≤ period → least ≤ budget
    → NoJobLost (GivesBudget period budget) before tasks
from_the_least_budget_on_no_job_is_lost before tasks period least budget separates within more =
    (separates budget within).1 more

over_a_whole_period_no_budget_serves : (before : Job → Job → Bool) (tasks : List SporadicTask) (period budget : ℕ)
    (short : Short) → Separates before tasks period (Over short) → budget ≤ period
    → MustMiss (GivesBudget period budget) before tasks
over_a_whole_period_no_budget_serves before tasks period budget short separates within = separates budget within
