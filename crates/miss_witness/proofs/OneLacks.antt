-- There is one task whose job lacks first.
use Rattle.std.proofs.Common.{◌≡◌, ◌⊎◌, ℕ, ◌+◌, ◌<◌, ◌≤◌, Bool, true, false, cond, ◌&&◌, List, length, refl, sym, arith, inl, inr}
use Rattle.std.proofs.lemmas.Bool.{cases_order, and_from, and_right, cond-true, cond-false}
use Rattle.slot_model.specs.Task.{SporadicTask, task_at}
use Rattle.slot_model.proofs.Sums.{sum_below-lt}
use Rattle.miss_witness.specs.inner.DueLast.{is_due_last, last_release, stands_from, part_from, work_from, LacksFirst}
use Rattle.miss_witness.proofs.LastDue.{behind_where, ahead_where, where_behind}

-- the order of two such jobs
abbrev Sooner : List SporadicTask → ℕ → ℕ → ℕ → Type 0
Sooner tasks n i k =
    (last_release (task_at tasks i) n < last_release (task_at tasks k) n)
    ⊎ ((last_release (task_at tasks i) n ≡ last_release (task_at tasks k) n) × (i < k))

-- what stands from the later one on stands from the sooner one on
later_too : (tasks : List SporadicTask) (n i k m : ℕ) → Sooner tasks n i k → stands_from tasks n k m ≡ true
    → stands_from tasks n i m ≡ true
later_too tasks n i k m s h =
    let ri : ℕ = last_release (task_at tasks i) n in let rk : ℕ = last_release (task_at tasks k) n in
    let rm : ℕ = last_release (task_at tasks m) n in
    behind_where ri i rm m (elim (where_behind rk k rm m h) [
      | inl l ↦ elim s [ inl p ↦ inl (omega (arith, l, p)) | inr p ↦ inl (omega (arith, l, p.0)) ]
      | inr l ↦ elim s [
        | inl p ↦ inl (omega (arith, l.0, p))
        | inr p ↦ inr (omega (arith, l.0, p.0), omega (arith, l.1, p.1))
      ]
    ])

-- and the sooner one does not stand from the later one on
not_from_later : (tasks : List SporadicTask) (n i k : ℕ) → Sooner tasks n i k → stands_from tasks n k i ≡ false
not_from_later tasks n i k s = ahead_where (last_release (task_at tasks k) n) k (last_release (task_at tasks i) n) i s

more_of : (d p q : Bool) (w : ℕ) → (p ≡ true → q ≡ true) → cond (d && p) w 0 ≤ cond (d && q) w 0
more_of false p q w h = omega arith
more_of true false q w h = omega arith
more_of true true q w h = omega (arith, cond-true {A = ℕ} q w 0 (h refl))

-- so more work is asked for from the sooner one on, by its own work
more_work : (tasks : List SporadicTask) (n i k : ℕ) → i < length tasks → is_due_last (task_at tasks i) n ≡ true
    → Sooner tasks n i k → work_from tasks n k + (task_at tasks i).work ≤ work_from tasks n i
more_work tasks n i k l due s =
    sum_below-lt (part_from tasks n k) (part_from tasks n i) i (length tasks) (task_at tasks i).work
    (λ m lm. more_of (is_due_last (task_at tasks m) n) (stands_from tasks n k m) (stands_from tasks n i m)
    (task_at tasks m).work (λ h. later_too tasks n i k m s h)) l
    (omega (
      arith,
      cond-false {A = ℕ} (is_due_last (task_at tasks i) n && stands_from tasks n k i) (task_at tasks i).work 0
          (and_right (is_due_last (task_at tasks i) n) (stands_from tasks n k i) (not_from_later tasks n i k s)),
      cond-true {A = ℕ} (is_due_last (task_at tasks i) n && stands_from tasks n i i) (task_at tasks i).work 0
          (and_from (is_due_last (task_at tasks i) n) (stands_from tasks n i i) due
          (behind_where (last_release (task_at tasks i) n) i (last_release (task_at tasks i) n) i
          (inr (refl, omega arith)))),
    ))

not_sooner : (tasks : List SporadicTask) (n lack i k : ℕ) → LacksFirst tasks n lack i → LacksFirst tasks n lack k
    → Sooner tasks n i k → ⊥
not_sooner tasks n lack i k p q s = omega (arith, p.served, q.lacks, more_work tasks n i k p.is_task p.due s)

pub one_lacks : (tasks : List SporadicTask) (n lack i k : ℕ) → LacksFirst tasks n lack i → LacksFirst tasks n lack k
    → i ≡ k
one_lacks tasks n lack i k p q =
    elim (cases_order (last_release (task_at tasks i) n) (last_release (task_at tasks k) n)) [
      | inl same ↦ elim (cases_order i k) [
        | inl e ↦ e
        | inr w ↦ elim w [
          | inl l ↦ absurd (not_sooner tasks n lack i k p q (inr (same, l)))
          | inr l ↦ absurd (not_sooner tasks n lack k i q p (inr (sym same, l)))
        ]
      ]
      | inr w ↦ elim w [
        | inl l ↦ absurd (not_sooner tasks n lack i k p q (inl l))
        | inr l ↦ absurd (not_sooner tasks n lack k i q p (inl l))
      ]
    ]
