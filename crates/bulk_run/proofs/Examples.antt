-- The jobs of a host of one guest, counted by hand: in 100,000 slots its tasks, of periods of
-- 10,000 and 20,000 slots, release ten jobs and five. A wrong definition breaks this.
use Rattle.std.proofs.Common.{◌≡◌, ℕ, zero, suc, ◌+◌, ◌/◌, ◌%◌, ◌<◌, ◌≤◌, Bool, true, cond, leb, ◌&&◌, ◌-◌, ◌==◌, List, [], ◌∷◌, length, Option, refl, ◌∙◌, ap, arith, inl, inr, eq-eqb, le-leb}
use Rattle.std.specs.Prelude.{sum_by}
use Rattle.std.proofs.lemmas.Bool.{cases_lt, ne_eqb}
use Rattle.slot_model.specs.declared.job.Job.{Job}
use Rattle.slot_model.specs.Task.{SporadicTask, plain_task, plain_job, task_at}
use Rattle.slot_model.specs.Slots.{push_if}
use Rattle.slot_model.specs.Release.{begins_now, staggered}
use Rattle.slot_model.proofs.Places.{length-push_if}
use Rattle.bulk_run.specs.Summary.{counts_in}

abbrev tasks : List SporadicTask
tasks = plain_task 10000 10000 250 ∷ plain_task 20000 20000 500 ∷ []

abbrev ten : ℕ → ℕ
ten x = (x + 9999) / 10000

abbrev five : ℕ → ℕ
five x = (x + 19999) / 20000

-- a task that begins at 0 releases at the multiples of its period
now_is : (period work x : ℕ) → begins_now (plain_task period period work) 0 x ≡ (x % period == 0)
now_is period work x =
    let from : x - 0 ≡ x = omega arith in
    ap (λ (b : Bool). b && ((x - 0) % period == 0)) (le-leb 0 x (omega arith))
    ∙ ap (λ (z : ℕ). z % period == 0) from

ten_more : (x : ℕ) → ten (suc x) ≡ ten x + cond (begins_now (task_at tasks 0) 0 x) 1 0
ten_more x = elim (cases_lt 0 (x % 10000)) [
  | inl l ↦
      let none : cond {A = ℕ} (begins_now (task_at tasks 0) 0 x) 1 0 ≡ 0
      = ap (λ (b : Bool). cond {A = ℕ} b 1 0)
      (now_is 10000 250 x ∙ ne_eqb (x % 10000) 0 (λ e. absurd (omega (arith, l, e)))) in
      omega (arith, l, none)
  | inr l ↦
      let one : cond {A = ℕ} (begins_now (task_at tasks 0) 0 x) 1 0 ≡ 1
      = ap (λ (b : Bool). cond {A = ℕ} b 1 0) (now_is 10000 250 x ∙ eq-eqb (x % 10000) 0 (omega (arith, l))) in
      omega (arith, l, one)
]

five_more : (x : ℕ) → five (suc x) ≡ five x + cond (begins_now (task_at tasks 1) 0 x) 1 0
five_more x = elim (cases_lt 0 (x % 20000)) [
  | inl l ↦
      let none : cond {A = ℕ} (begins_now (task_at tasks 1) 0 x) 1 0 ≡ 0
      = ap (λ (b : Bool). cond {A = ℕ} b 1 0)
      (now_is 20000 500 x ∙ ne_eqb (x % 20000) 0 (λ e. absurd (omega (arith, l, e)))) in
      omega (arith, l, none)
  | inr l ↦
      let one : cond {A = ℕ} (begins_now (task_at tasks 1) 0 x) 1 0 ≡ 1
      = ap (λ (b : Bool). cond {A = ℕ} b 1 0) (now_is 20000 500 x ∙ eq-eqb (x % 20000) 0 (omega (arith, l))) in
      omega (arith, l, one)
]

released : (n : ℕ) → length (staggered tasks [] n) ≡ ten n + five n
unfolding staggered
released zero = refl
released (suc x) =
    let before : List Job = staggered tasks [] x in
    let first : Bool = begins_now (task_at tasks 0) 0 x in
    let second : Bool = begins_now (task_at tasks 1) 0 x in
    let one : List Job = push_if before first (plain_job 0 x 250) in
    omega (
      arith,
      released x,
      ten_more x,
      five_more x,
      length-push_if before first (plain_job 0 x 250),
      length-push_if one second (plain_job 1 x 500),
    )

jobs_of_one_guest : (budgets : List ℕ) (core_runs part_runs : List (List (Option ℕ)))
    → (counts_in 1 budgets core_runs part_runs).jobs ≡ 15
jobs_of_one_guest budgets core_runs part_runs = omega (arith, released 100000)

-- of nine guests two cores, and the sum of the budgets that it is asked of
cores_of_nine_guests : (core_runs part_runs : List (List (Option ℕ)))
    → ((counts_in 9 (3 ∷ 4 ∷ []) core_runs part_runs).guests ≡ 9)
    × ((counts_in 9 (3 ∷ 4 ∷ []) core_runs part_runs).cores ≡ 2)
    × ((counts_in 9 (3 ∷ 4 ∷ []) core_runs part_runs).budgets ≡ 7)
cores_of_nine_guests core_runs part_runs = (refl, refl, refl)
