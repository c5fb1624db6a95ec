-- A hit of the task that all others rank above is one of each task whose deadline leaves as much.
use Rattle.std.proofs.Common.{◌≡◌, ℕ, ◌+◌, ◌<◌, ◌≤◌, ◌/◌, ◌-◌, Bool, true, false, List, length, Option, Some, None, IfSome, refl, sym, arith, subst, inl, inr, mul-le-mul_right}
use Rattle.std.proofs.lemmas.Bool.{cases_eq, cond-true, cond-false}
use Rattle.std.proofs.lemmas.Nat.{le-div}
use Rattle.slot_model.specs.Task.{SporadicTask, AreConstrained, IsConstrained, task_at}
use Rattle.slot_model.specs.Order.{IsRank}
use Rattle.slot_model.specs.Bound.{request_of, rbf, IsHit}
use Rattle.slot_model.proofs.Sums.{sum_below-lt}
use Rattle.fp_request.specs.Parts.{part_of}
use Rattle.fp_test.specs.Hits.{AnswersLeastHit}
use Rattle.fp_request.specs.Lowest.{IsLowest}
use Rattle.least_budget.specs.inner.CommonHit.{IsCommon}

-- a task asks for its work in every window
work_asked : (task : SporadicTask) → IsConstrained task → (t : ℕ) → 1 ≤ t → task.work ≤ request_of task t
work_asked task fits t l =
    let some : 1 ≤ (t + task.jitter + (task.period - 1)) / task.period
    = le-div 1 (t + task.jitter + (task.period - 1)) task.period
    (omega (arith, fits.works, fits.in_deadline, fits.in_period)) (omega arith) in
    omega (arith, mul-le-mul_right task.work some)

part_within : (above : ℕ → ℕ → Bool) (tasks : List SporadicTask) → IsRank above → (i low t k : ℕ) → above i low ≡ true
    → part_of above tasks i t k ≤ part_of above tasks low t k
part_within above tasks ranks i low t k a = go (above k i) refl
  where
    go : (b : Bool) → above k i ≡ b → part_of above tasks i t k ≤ part_of above tasks low t k
    go true e =
        omega (
          arith,
          cond-true {A = ℕ} (above k i) (request_of (task_at tasks k) t) 0 e,
          cond-true {A = ℕ} (above k low) (request_of (task_at tasks k) t) 0 (ranks.in_turn k i low e a),
        )
    go false e = omega (arith, cond-false {A = ℕ} (above k i) (request_of (task_at tasks k) t) 0 e)

-- so the lowest task asks for as much as any other
request_of_lowest : (above : ℕ → ℕ → Bool) (tasks : List SporadicTask) → IsRank above → AreConstrained tasks
    → (i low t : ℕ) → i < length tasks → 1 ≤ t → above i low ≡ true → rbf above tasks i t ≤ rbf above tasks low t
request_of_lowest above tasks ranks fits i low t li l a =
    omega (
      arith,
      sum_below-lt (part_of above tasks i t) (part_of above tasks low t) i (length tasks) (task_at tasks i).work
          (λ k m. part_within above tasks ranks i low t k a) li
          (omega (
            arith,
            work_asked (task_at tasks i) (fits i li) t l,
            cond-false {A = ℕ} (above i i) (request_of (task_at tasks i) t) 0 (ranks.not_itself i),
            cond-true {A = ℕ} (above i low) (request_of (task_at tasks i) t) 0 a,
          )),
    )

pub common_of_lowest : (above : ℕ → ℕ → Bool) (tasks : List SporadicTask) → IsRank above → AreConstrained tasks
    → (bound : ℕ → ℕ) (low t : ℕ) → IsLowest above (length tasks) low → IsHit above tasks bound low t
    → IsCommon above tasks bound t
common_of_lowest above tasks ranks fits bound low t lowest h i li room = elim (cases_eq i low) [
  | inl e ↦ subst (λ (z : ℕ). IsHit above tasks bound z t) (sym e) h
  | inr ne ↦
      record {
        some_slots = h.some_slots;
        in_deadline = room;
        enough =
            omega
            (arith, h.enough, request_of_lowest above tasks ranks fits i low t li h.some_slots (lowest i li ne));
      }
]

-- so an answer of the lowest task's test tells one
pub common_answer : (above : ℕ → ℕ → Bool) (tasks : List SporadicTask) → IsRank above → AreConstrained tasks
    → (bound : ℕ → ℕ) (low : ℕ) → IsLowest above (length tasks) low → (answer : Option ℕ)
    → AnswersLeastHit above tasks bound low answer → IfSome answer (λ t. IsCommon above tasks bound t)
common_answer above tasks ranks fits bound low lowest None h = tt
common_answer above tasks ranks fits bound low lowest (Some t) h =
    common_of_lowest above tasks ranks fits bound low t lowest h.0
