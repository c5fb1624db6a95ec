-- What the test answers.
use Rattle.std.proofs.Common.{◌-◌, ◌^◌, ◌≡◌, ◌≢◌, ℕ, ◌<◌, ◌≤◌, Bool, List, length, refl, arith, inl, inr}
use Rattle.std.proofs.lemmas.Bool.{cases_lt}
use Rattle.slot_model.specs.declared.sched.Sched.{Sched}
use Rattle.slot_model.specs.declared.sched.Sched.TheVariants.{Edf, Rm, Dm, Listed}
use Rattle.slot_model.specs.declared.sched.Short.TheVariants.{Task}
use Rattle.slot_model.specs.Task.{SporadicTask, AreConstrained}
use Rattle.slot_model.specs.Supply.{SupplyLaws}
use Rattle.slot_model.specs.Order.{before_of, ranks_above}
use Rattle.slot_model.specs.Bound.{IsHit, IsShortTask, IsFirstShortTask, IsHorizon, DemandFits, dbf, rbf}
use Rattle.least_budget.specs.declared.answers.Tested.{Tested}
use Rattle.least_budget.specs.declared.answers.Tested.TheVariants.{Passes as AllPasses, Short as FirstShort, Wide as TestWide}
use Rattle.least_budget.specs.Answers.{IsTested, Foretells}
use Rattle.least_budget.specs.inner.Hits.{HasHit}
use Rattle.edf_demand.specs.Cyclic.{RisesByCycle}
use Rattle.edf_demand.proofs.Horizons.{rises_of_laws}
use Rattle.least_budget.proofs.LevelRuns.{level_no_loss, short_misses}

-- under a fixed rank
pub fixed_passes : (sched : Sched) → sched ≢ Edf → (tasks : List SporadicTask) (bound : ℕ → ℕ) (cycle n : ℕ)
    → n ≡ length tasks → ((i : ℕ) → i < n → (t : ℕ) × IsHit (ranks_above sched tasks) tasks bound i t)
    → IsTested sched tasks bound cycle AllPasses
fixed_passes Edf fixed tasks bound cycle n e all = absurd (fixed refl)
fixed_passes Rm fixed tasks bound cycle n e all = (tt, λ i l. all i (omega arith))
fixed_passes Dm fixed tasks bound cycle n e all = (tt, λ i l. all i (omega arith))
fixed_passes Listed fixed tasks bound cycle n e all = (tt, λ i l. all i (omega arith))

pub fixed_short : (sched : Sched) → sched ≢ Edf → (tasks : List SporadicTask) (bound : ℕ → ℕ) (cycle i : ℕ)
    → IsFirstShortTask (ranks_above sched tasks) tasks bound i → IsTested sched tasks bound cycle (FirstShort (Task i))
fixed_short Edf fixed tasks bound cycle i h = absurd (fixed refl)
fixed_short Rm fixed tasks bound cycle i h = (tt, h)
fixed_short Dm fixed tasks bound cycle i h = (tt, h)
fixed_short Listed fixed tasks bound cycle i h = (tt, h)

-- what an answer says of every run
pub tested_foretells : (sched : Sched) (tasks : List SporadicTask) → AreConstrained tasks
    → {bound : ℕ → ℕ} {amount cycle : ℕ} {pattern : ℕ → Bool} {start : ℕ} {Conforms : List Bool → Type 0}
    → SupplyLaws bound amount cycle pattern start Conforms
    → (answer : Tested) → IsTested sched tasks bound cycle answer
    → Foretells Conforms (before_of sched tasks) tasks answer
tested_foretells sched tasks fits laws AllPasses h = level_no_loss sched tasks fits laws h.1
tested_foretells sched tasks fits laws (FirstShort short) h = short_misses sched tasks fits laws short h.1
tested_foretells sched tasks fits laws TestWide h = tt

-- a task without a hit is short
short_task : (above : ℕ → ℕ → Bool) (tasks : List SporadicTask) (bound : ℕ → ℕ) (i : ℕ)
    → (HasHit above tasks bound i → ⊥) → IsShortTask above tasks bound i
short_task above tasks bound i none t l m = elim (cases_lt (bound t) (rbf above tasks i t)) [
  | inl short ↦ short
  | inr enough ↦ absurd (none (t, record { some_slots = l; in_deadline = m; enough = enough }))
]

pub first_without_hit : (sched : Sched) → sched ≢ Edf → (tasks : List SporadicTask) (bound : ℕ → ℕ) (cycle i : ℕ)
    → i < length tasks → (HasHit (ranks_above sched tasks) tasks bound i → ⊥)
    → ((k : ℕ) → k < i → HasHit (ranks_above sched tasks) tasks bound k)
    → IsTested sched tasks bound cycle (FirstShort (Task i))
first_without_hit sched fixed tasks bound cycle i l none before =
    fixed_short sched fixed tasks bound cycle i
    (record { is_task = l; short = short_task (ranks_above sched tasks) tasks bound i none; before = before })

-- where no window up to the horizon is short
pub windows_pass : (tasks : List SporadicTask) {bound : ℕ → ℕ} {amount cycle : ℕ} {pattern : ℕ → Bool} {start : ℕ}
    {Conforms : List Bool → Type 0} → SupplyLaws bound amount cycle pattern start Conforms
    → (h : ℕ) → IsHorizon tasks cycle h × (h ≤ 2 ^ 128 - 2)
    → ((b : ℕ → ℕ) (a : ℕ) → RisesByCycle b a cycle → ((t : ℕ) → 1 ≤ t → t ≤ h → dbf tasks t ≤ b t)
    → DemandFits tasks b)
    → ((t : ℕ) → 1 ≤ t → t ≤ h → dbf tasks t ≤ bound t) → IsTested Edf tasks bound cycle AllPasses
windows_pass tasks {bound} {amount} {cycle} {pattern} {start} {Conforms} laws h horizon enough near =
    ((h, horizon.0, horizon.1), enough bound amount (rises_of_laws bound amount cycle pattern start Conforms laws) near)
