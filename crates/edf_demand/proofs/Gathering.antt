-- One task more among the terms.
use Rattle.std.proofs.Common.{◌≡◌, ℕ, ◌+◌, ◌-◌, ◌*◌, ◌/◌, ◌<◌, ◌≤◌, List, length, get_or, take, set, ◌∙◌, ap, arith}
use Rattle.std.proofs.lemmas.List.Sums.{sum_by_more}
use Rattle.slot_model.specs.declared.task.Task.{Task}
use Rattle.slot_model.specs.Task.{sporadic_task}
use Rattle.slot_model.specs.Bound.{demand_of}
use Rattle.slot_model.proofs.Constrained.{constrained}
use Rattle.slot_model.proofs.Demand.{demand_closed}
use Rattle.window_terms.specs.declared.term.Term.{Term}
use Rattle.window_terms.specs.Asked.{asked_by}
use Rattle.window_terms.proofs.Written.{asked_of, written}

-- the term of a task, and a term with a task more
pub alone : (term : Term) (task : Task) (t : ℕ) → term.period ≡ task.period
    → term.slack ≡ task.period - (task.deadline - task.jitter) → term.work ≡ task.work
    → asked_of term t ≡ demand_of (sporadic_task task) t
alone term task t period slack work =
    omega (
      arith,
      demand_closed (sporadic_task task) (constrained task) t,
      ap (λ (z : ℕ). ((t + z) / term.period) * term.work) slack,
      ap (λ (z : ℕ). ((t + (task.period - (task.deadline - task.jitter))) / z) * term.work) period,
      ap (λ (z : ℕ). ((t + (task.period - (task.deadline - task.jitter))) / task.period) * z) work,
    )

pub alone_behind : (terms : List Term) (i : ℕ) (term : Term) (task : Task) (t : ℕ) → i < length terms
    → term.period ≡ task.period → term.slack ≡ task.period - (task.deadline - task.jitter) → term.work ≡ task.work
    → asked_by (take (i + 1) (set terms i term)) t ≡ asked_by (take i terms) t + demand_of (sporadic_task task) t
alone_behind terms i term task t l period slack work =
    omega (arith, written terms i term t l, alone term task t period slack work)

-- the task is one more of the last term's run
pub longer_by : (terms : List Term) (n : ℕ) (last longer : Term) (task : Task) (t : ℕ) → 1 ≤ n → n ≤ length terms
    → last ≡ get_or terms (n - 1) last
    → (longer.period ≡ last.period) × (longer.slack ≡ last.slack) × (longer.work ≡ last.work + task.work)
    × (last.period ≡ task.period) × (last.slack ≡ task.period - (task.deadline - task.jitter))
    → asked_by (take n (set terms (n - 1) longer)) t ≡ asked_by (take n terms) t + demand_of (sporadic_task task) t
longer_by terms n last longer task t some l is (period, slack, work, of_task, room) =
    let e : n - 1 + 1 ≡ n = omega arith in
    let jobs : ℕ = (t + (task.period - (task.deadline - task.jitter))) / task.period in
    let more : asked_of longer t ≡ asked_of last t + demand_of (sporadic_task task) t =
    omega (
      arith,
      demand_closed (sporadic_task task) (constrained task) t,
      shape longer task t (period ∙ of_task) (slack ∙ room),
      shape last task t of_task room,
      ap (λ (z : ℕ). jobs * z) work,
    ) in
    omega (
      arith,
      ap (λ (k : ℕ). asked_by (take k (set terms (n - 1) longer)) t) e,
      ap (λ (k : ℕ). asked_by (take k terms) t) e,
      written terms (n - 1) longer t (omega arith),
      sum_by_more (λ x. asked_of x t) terms (n - 1) last (omega arith),
      ap (λ (x : Term). asked_of x t) is,
      more,
    )
  where
    shape : (term : Term) (task : Task) (t : ℕ) → term.period ≡ task.period
        → term.slack ≡ task.period - (task.deadline - task.jitter)
        → asked_of term t ≡ ((t + (task.period - (task.deadline - task.jitter))) / task.period) * term.work
    shape term task t p s =
        ap (λ (z : ℕ). ((t + z) / term.period) * term.work) s
        ∙ ap (λ (z : ℕ). ((t + (task.period - (task.deadline - task.jitter))) / z) * term.work) p
