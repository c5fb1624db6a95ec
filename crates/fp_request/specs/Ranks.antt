-- The ranks of tasks are strict total orders of their places, and every way to choose keeps the
-- laws of an order of jobs.
use Rattle.std.proofs.Common.{◌≡◌, ◌≢◌, ◌⊎◌, ℕ, ◌+◌, ◌<◌, Bool, true, false, ltb, List, sym, ◌∙◌, arith, subst, inl, inr, lt-ltb, le-ltb, ltb-true, eq-eqb, eqb-true}
use Rattle.std.proofs.lemmas.Bool.{cases_lt, cases_order, or_left, or_right, and_from, and_parts, or_cases, false_from_ne_true, both_ways}
use Rattle.slot_model.specs.Task.{SporadicTask, task_at}
use Rattle.slot_model.specs.declared.job.Job.{Job}
use Rattle.slot_model.specs.declared.sched.Sched.{Sched}
use Rattle.slot_model.specs.declared.sched.Sched.TheVariants.{Edf, Rm, Dm, Listed}
use Rattle.slot_model.specs.Order.{IsRank, OrderLaws, ranks_by, ranks_above, fixed_before, before_of}
use Rattle.slot_model.specs.EdfOrder.{edf_laws}

-- the order of keys, and of places where keys are equal, as a test
keyed : (key : ℕ → ℕ) (i j : ℕ) → (key i < key j) ⊎ ((key i ≡ key j) × (i < j)) →
    ranks_by key i j ≡ true
keyed key i j (inl l) = or_left _ _ (lt-ltb _ _ l)
keyed key i j (inr h) = or_right _ _ (and_from _ _ (eq-eqb _ _ h.0) (lt-ltb _ _ h.1))

-- and the test as that order
keys : (key : ℕ → ℕ) (i j : ℕ) → ranks_by key i j ≡ true →
    (key i < key j) ⊎ ((key i ≡ key j) × (i < j))
keys key i j h =
    elim (or_cases _ _ h) [
      | inl l ↦ inl (ltb-true _ _ l)
      | inr b ↦ inr (eqb-true _ _ (and_parts _ _ b).0, ltb-true _ _ (and_parts _ _ b).1)
    ]

key_turn : (x y z i j k : ℕ) → (x < y) ⊎ ((x ≡ y) × (i < j)) → (y < z) ⊎ ((y ≡ z) × (j < k)) →
    (x < z) ⊎ ((x ≡ z) × (i < k))
key_turn x y z i j k h g = grind arith

key_either : (x y i j : ℕ) → i ≢ j →
    ((x < y) ⊎ ((x ≡ y) × (i < j))) ⊎ ((y < x) ⊎ ((y ≡ x) × (j < i)))
key_either x y i j ne =
    elim (cases_order x y) [
      | inr w ↦ elim w [ inl l ↦ inl (inl l) | inr l ↦ inr (inl l) ]
      | inl e ↦ elim (cases_lt i j) [
        | inl l ↦ inl (inr (e, l))
        | inr l ↦ inr (inr (sym e, omega arith))
      ]
    ]

key_self : (x i : ℕ) → (x < x) ⊎ ((x ≡ x) × (i < i)) → ⊥
key_self x i (inl l) = omega arith
key_self x i (inr h) = omega arith

-- the smaller key, and of equal keys the earlier place
pub key_ranks : (key : ℕ → ℕ) → IsRank (ranks_by key)
key_ranks key = record {
  not_itself = λ i. false_from_ne_true _ (λ h. key_self _ _ (keys key i i h));
  in_turn = λ i j k h g.
      keyed key i k (key_turn (key i) (key j) (key k) i j k (keys key i j h) (keys key j k g));
  one_way = λ i j ne. elim (key_either (key i) (key j) i j ne)
      [ inl l ↦ inl (keyed key i j l) | inr l ↦ inr (keyed key j i l) ];
}

-- the earlier place
pub place_ranks : IsRank ltb
place_ranks = record {
  not_itself = λ i. le-ltb _ _ (omega arith);
  in_turn = λ i j k h g. lt-ltb _ _ (omega (arith, ltb-true _ _ h, ltb-true _ _ g));
  one_way = λ i j ne. elim (cases_lt i j)
      [ inl l ↦ inl (lt-ltb _ _ l) | inr l ↦ inr (lt-ltb _ _ (omega arith)) ];
}

-- every way to rank gives a rank
pub ranks_is_rank : (sched : Sched) (tasks : List SporadicTask) → IsRank (ranks_above sched tasks)
ranks_is_rank Edf tasks = place_ranks
ranks_is_rank Rm tasks = key_ranks (λ i. (task_at tasks i).period)
ranks_is_rank Dm tasks = key_ranks (λ i. (task_at tasks i).deadline)
ranks_is_rank Listed tasks = place_ranks

-- job a goes before b: its task ranks above, or both are of one task and a arrived earlier
goes : (above : ℕ → ℕ → Bool) (a b : Job) → fixed_before above a b ≡ true →
    (above a.task b.task ≡ true) ⊎
    ((a.task ≡ b.task) × (a.release + b.early < b.release + a.early))
goes above a b h =
    elim (or_cases _ _ h) [
      | inl u ↦ inl u
      | inr v ↦ inr (eqb-true _ _ (and_parts _ _ v).0, ltb-true _ _ (and_parts _ _ v).1)
    ]

-- and back
comes : (above : ℕ → ℕ → Bool) (a b : Job) →
    (above a.task b.task ≡ true) ⊎
    ((a.task ≡ b.task) × (a.release + b.early < b.release + a.early)) →
    fixed_before above a b ≡ true
comes above a b (inl u) = or_left _ _ u
comes above a b (inr v) = or_right _ _ (and_from _ _ (eq-eqb _ _ v.0) (lt-ltb _ _ v.1))

-- no job goes before itself
pub fixed_not_itself : (above : ℕ → ℕ → Bool) → IsRank above → (a : Job) →
    fixed_before above a a ≡ false
fixed_not_itself above r a =
    false_from_ne_true _ (λ h. elim (goes above a a h)
    [ inl u ↦ both_ways _ (r.not_itself a.task) u | inr v ↦ omega arith ])

-- what goes before a job goes before all that the job goes before
pub fixed_in_turn : (above : ℕ → ℕ → Bool) → IsRank above → (a b c : Job) →
    fixed_before above a b ≡ true → fixed_before above b c ≡ true → fixed_before above a c ≡ true
fixed_in_turn above r a b c h g = comes above a c (turn (goes above a b h) (goes above b c g))
  where
    turn : (above a.task b.task ≡ true) ⊎
        ((a.task ≡ b.task) × (a.release + b.early < b.release + a.early)) →
        (above b.task c.task ≡ true) ⊎
        ((b.task ≡ c.task) × (b.release + c.early < c.release + b.early)) →
        (above a.task c.task ≡ true) ⊎
        ((a.task ≡ c.task) × (a.release + c.early < c.release + a.early))
    turn (inl u) (inl v) = inl (r.in_turn _ _ _ u v)
    turn (inl u) (inr v) = inl (subst (λ (z : ℕ). above a.task z ≡ true) v.0 u)
    turn (inr u) (inl v) = inl (subst (λ (z : ℕ). above z c.task ≡ true) (sym u.0) v)
    turn (inr u) (inr v) = inr (u.0 ∙ v.0, omega arith)

-- a fixed order keeps the laws of an order of jobs
pub fixed_laws : (above : List SporadicTask → ℕ → ℕ → Bool) →
    ((tasks : List SporadicTask) → IsRank (above tasks)) →
    OrderLaws (λ tasks. fixed_before (above tasks))
fixed_laws above r = record {
  not_itself = λ tasks a. fixed_not_itself (above tasks) (r tasks) a;
  one_way = λ tasks a b h. false_from_ne_true _ (λ g.
      both_ways _ (fixed_not_itself (above tasks) (r tasks) a)
      (fixed_in_turn (above tasks) (r tasks) a b a h g));
  in_turn = λ tasks a b c h g. fixed_in_turn (above tasks) (r tasks) a b c h g;
  one_task = λ tasks a b same in_deadline sooner. comes (above tasks) a b (inr (same, sooner));
}

-- every way to choose keeps the laws of an order of jobs
pub order_laws : (sched : Sched) → OrderLaws (before_of sched)
order_laws Edf = edf_laws
order_laws Rm = fixed_laws (ranks_above Rm) (ranks_is_rank Rm)
order_laws Dm = fixed_laws (ranks_above Dm) (ranks_is_rank Dm)
order_laws Listed = fixed_laws (ranks_above Listed) (ranks_is_rank Listed)
