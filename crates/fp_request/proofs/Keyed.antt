-- A fixed order goes by its keys.
use Rattle.std.proofs.Common.{◌≡◌, ◌≢◌, ℕ, ◌+◌, ◌<◌, ◌≤◌, ◌||◌, ◌&&◌, ◌==◌, nat_lt, Bool, true, false, List, refl, sym, ◌∙◌, ap, arith, inl, inr, lt-ltb, le-ltb, eq-eqb, eqb-true}
use Rattle.std.proofs.lemmas.Bool.{cases_lt}
use Rattle.slot_model.specs.Task.{SporadicTask, task_at}
use Rattle.slot_model.specs.declared.job.Job.{Job}
use Rattle.slot_model.specs.declared.sched.Sched.{Sched}
use Rattle.slot_model.specs.declared.sched.Sched.TheVariants.{Edf, Rm, Dm, Listed}
use Rattle.slot_model.specs.Order.{before_of, arrives_before, IsKeyed}
use Rattle.fp_request.specs.Keys.{arrival_of, fixed_key}

-- two tests of the same
same_test : (x y z w : ℕ) → (x < y → z < w) → (z < w → x < y) → nat_lt x y ≡ nat_lt z w
same_test x y z w to from = elim (cases_lt x y) [
  | inl l ↦ lt-ltb x y l ∙ sym (lt-ltb z w (to l))
  | inr m ↦
      le-ltb x y m ∙ sym (elim (cases_lt z w) [ inl l ↦ absurd (omega (arith, m, from l)) | inr n ↦ le-ltb z w n ])
]

-- jobs of one task go by their arrivals
by_arrival : (tasks : List SporadicTask) (a b : Job) → a.early ≤ (task_at tasks a.task).jitter
    → b.early ≤ (task_at tasks b.task).jitter → a.task ≡ b.task
    → arrives_before a b
    ≡ nat_lt (arrival_of tasks a) (arrival_of tasks b)
by_arrival tasks a b in_a in_b same =
    let one : (task_at tasks a.task).jitter ≡ (task_at tasks b.task).jitter
    = ap (λ (i : ℕ). (task_at tasks i).jitter) same in
    same_test (a.release + b.early) (b.release + a.early) _ _
    (λ l. omega (arith, in_a, in_b, one, l)) (λ l. omega (arith, in_a, in_b, one, l))

-- the rank, the place and the arrival in turn, as the rank of tasks and the arrival in one task
in_turn : (less same above one sooner earlier : Bool)
    → (one ≡ true → (less ≡ false) × (same ≡ true) × (sooner ≡ earlier))
    → ((less || (same && above)) || (one && sooner)) ≡ (less || (same && (above || (one && earlier))))
in_turn true same above false sooner earlier h = refl
in_turn false true true false sooner earlier h = refl
in_turn false true false false sooner earlier h = refl
in_turn false false above false sooner earlier h = refl
in_turn true same above true sooner earlier h = let clash : true ≡ false = (h refl).0 in cc
in_turn false false above true sooner earlier h = let clash : false ≡ true = (h refl).1 in cc
in_turn false true above true sooner earlier h = ap (λ (z : Bool). above || z) (h refl).2

in_list : (above one sooner earlier : Bool) → (one ≡ true → sooner ≡ earlier)
    → (above || (one && sooner)) ≡ (above || (one && earlier))
in_list above false sooner earlier h = refl
in_list above true sooner earlier h = ap (λ (z : Bool). above || z) (h refl)

-- by a number of each task
by_number : (tasks : List SporadicTask) (key : ℕ → ℕ) (a b : Job) → a.early ≤ (task_at tasks a.task).jitter
    → b.early ≤ (task_at tasks b.task).jitter → a.task == b.task ≡ true
    → (nat_lt (key a.task) (key b.task) ≡ false) × ((key a.task == key b.task) ≡ true) × (arrives_before a b
    ≡ nat_lt (arrival_of tasks a) (arrival_of tasks b))
by_number tasks key a b in_a in_b same =
    let one : a.task ≡ b.task = eqb-true a.task b.task same in
    let equal : key a.task ≡ key b.task = ap key one in (
      le-ltb (key a.task) (key b.task) (omega (arith, equal)),
      eq-eqb (key a.task) (key b.task) equal,
      by_arrival tasks a b in_a in_b one,
    )

-- of two jobs that which a fixed order has first has the smaller key
pub fixed_keyed : (sched : Sched) → sched ≢ Edf → (tasks : List SporadicTask)
    → IsKeyed tasks (before_of sched tasks) (fixed_key sched tasks)
fixed_keyed Edf fixed tasks a b in_a in_b = absurd (fixed refl)
fixed_keyed Rm fixed tasks a b in_a in_b =
    in_turn _ _ _ _ _ _ (by_number tasks (λ i. (task_at tasks i).period) a b in_a in_b)
fixed_keyed Dm fixed tasks a b in_a in_b =
    in_turn _ _ _ _ _ _ (by_number tasks (λ i. (task_at tasks i).deadline) a b in_a in_b)
fixed_keyed Listed fixed tasks a b in_a in_b =
    in_list _ _ _ _ (λ same. by_arrival tasks a b in_a in_b (eqb-true a.task b.task same))
