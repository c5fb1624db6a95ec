-- The jobs of a synchronous release that are due at the end of its window: when they are released,
-- how they stand in the list, and what they ask for, task by task.
use Rattle.std.proofs.Common.{◌≡◌, ◌⊎◌, ℕ, ◌+◌, ◌-◌, ◌%◌, ◌<◌, ◌≤◌, nat_lt, Bool, true, false, cond, eqb, leb, ◌&&◌, ◌||◌, List, length, refl, sym, ◌∙◌, ap, arith, subst, inl, inr, eq-eqb, eqb-true, le-leb, leb-true}
use Rattle.std.proofs.lemmas.Bool.Decides.{nat_tests}
use Rattle.std.proofs.lemmas.Bool.{cases_lt, cases_order, and_parts, and_from, or_left, or_right, lt-leb, false≢true}
use Rattle.std.proofs.Math.Nat.{mod-eq_of_lt}
use Rattle.slot_model.specs.Slots.{sum_below}
use Rattle.slot_model.specs.Task.{AreConstrained, IsConstrained, SporadicTask, deadline_of, default_job, job_at, room_of, task_at}
use Rattle.slot_model.specs.Release.{releases_now, synchronous}
use Rattle.slot_model.specs.declared.job.Job.{Job}
use Rattle.slot_model.proofs.Sums.{sum_below-same, sum_below_one}
use Rattle.slot_model.proofs.Synchronous.{early_at, early_at-start, early_at-later, released_at, each_release, sum_synchronous, synchronous_in_turn}
use Rattle.slot_model.proofs.Windows.{sum_by-places}
use Rattle.miss_witness.specs.inner.DueLast.{is_due_last, last_release, stands_from, part_from, work_from}

-- a release x slots after the start that is due n slots after it
record DueAt (b : SporadicTask) (n x : ℕ) : Type 0 where
  moment : x ≡ last_release b n
  due : is_due_last b n ≡ true

due_first : (b : SporadicTask) → IsConstrained b → (n : ℕ) → room_of b ≡ n → DueAt b n 0
due_first b f n e =
    record {
      moment = omega (arith, e);
      due =
          and_from _ _ (le-leb _ _ (omega (arith, e)))
          (eq-eqb _ _ (ap (λ (z : ℕ). z % b.period) (let z : n - room_of b ≡ 0 = omega (arith, e) in z)
          ∙ mod-eq_of_lt {n = 0} {m = b.period} (omega (arith, f.works, f.in_deadline, f.in_period))));
    }

due_later : (b : SporadicTask) → IsConstrained b → (n x : ℕ) → x + b.deadline ≡ n → (x + b.jitter) % b.period ≡ 0
    → DueAt b n x
due_later b f n x e m =
    record {
      moment = omega (arith, e);
      due =
          and_from _ _ (le-leb _ _ (omega (arith, e, f.in_deadline)))
          (eq-eqb _ _
          (ap (λ (z : ℕ). z % b.period) (let z : n - room_of b ≡ x + b.jitter = omega (arith, e, f.in_deadline) in z)
          ∙ m));
    }

-- what is released and due then is such a job
due_where_released : (b : SporadicTask) → IsConstrained b → (a n x : ℕ) → releases_now b x ≡ true
    → a + x + b.deadline - early_at x b.jitter ≡ a + n → DueAt b n x
due_where_released b f a n x r e = elim (cases_lt x 1) [
  | inl first ↦
      let zero_is : 0 ≡ x = omega (arith, first) in
      subst (DueAt b n) zero_is
      (due_first b f n (omega (arith, e, first, f.in_deadline, early_at-start x b.jitter (omega arith))))
  | inr later ↦
      let plain : early_at x b.jitter ≡ 0 = early_at-later x b.jitter later in
      elim (released_at b x r) [
        | inl none ↦ absurd (omega (arith, none, later))
        | inr m ↦ due_later b f n x (omega (arith, e, plain)) m
      ]
]

-- and such a job is released and due then
released_where_due : (b : SporadicTask) → IsConstrained b → (a n x : ℕ) → DueAt b n x
    → (releases_now b x ≡ true) × (a + x + b.deadline - early_at x b.jitter ≡ a + n)
released_where_due b f a n x h =
    let both = and_parts (leb (room_of b) n) (eqb ((n - room_of b) % b.period) 0) h.due in
    let reach : room_of b ≤ n = leb-true (room_of b) n both.0 in
    let even : (n - room_of b) % b.period ≡ 0 = eqb-true ((n - room_of b) % b.period) 0 both.1 in
    elim (cases_lt x 1) [
      | inl first ↦
          let small : (n - room_of b) % b.period ≡ n - room_of b
          = mod-eq_of_lt {n = n - room_of b} {m = b.period}
          (omega (arith, first, h.moment, reach, f.works, f.in_deadline, f.in_period)) in (
            or_left (eqb x 0) (eqb ((x + b.jitter) % b.period) 0) (eq-eqb x 0 (omega (arith, first))),
            omega (
              arith,
              first,
              even,
              small,
              reach,
              f.in_deadline,
              early_at-start x b.jitter (omega (arith, first)),
            ),
          )
      | inr later ↦
          let back : x + b.jitter ≡ n - room_of b = omega (arith, later, h.moment, reach, f.in_deadline) in (
            or_right (eqb x 0) (eqb ((x + b.jitter) % b.period) 0)
                (eq-eqb ((x + b.jitter) % b.period) 0 (ap (λ (z : ℕ). z % b.period) back ∙ even)),
            omega (arith, later, h.moment, early_at-later x b.jitter later),
          )
    ]

-- two pairs of tests that hold together
same_conds : (r e q m v : Bool) (w : ℕ) → (r ≡ true → e ≡ true → (q ≡ true) × (m ≡ true))
    → (q ≡ true → m ≡ true → (r ≡ true) × (e ≡ true)) → cond r (cond (e && v) w 0) 0 ≡ cond q (cond (m && v) w 0) 0
same_conds true true true true v w h k = refl
same_conds true true true false v w h k = absurd (false≢true (h refl refl).1)
same_conds true true false m v w h k = absurd (false≢true (h refl refl).0)
same_conds true false true true v w h k = absurd (false≢true (k refl refl).1)
same_conds true false true false v w h k = refl
same_conds true false false m v w h k = refl
same_conds false e true true v w h k = absurd (false≢true (k refl refl).0)
same_conds false e true false v w h k = refl
same_conds false e false m v w h k = refl

-- at each moment a task has no more than that one
one_moment : (b : SporadicTask) → IsConstrained b → (v : Bool) (a n x : ℕ)
    → cond (releases_now b x) (cond (eqb (a + x + b.deadline - early_at x b.jitter) (a + n) && v) b.work 0) 0
    ≡ cond (eqb (last_release b n) x) (cond (is_due_last b n && v) b.work 0) 0
one_moment b f v a n x =
    same_conds (releases_now b x) (eqb (a + x + b.deadline - early_at x b.jitter) (a + n)) (eqb (last_release b n) x)
    (is_due_last b n) v b.work
    (λ r e. let d : DueAt b n x = due_where_released b f a n x r (eqb-true _ _ e) in
    (eq-eqb _ _ (sym d.moment), d.due))
    (λ q m. let r
    = released_where_due b f a n x (record { moment = sym (eqb-true _ _ q); due = m }) in
    (r.0, eq-eqb _ _ r.1))

one_task : (b : SporadicTask) → IsConstrained b → (v : Bool) (a n : ℕ) → 1 ≤ n
    → sum_below
    (λ x. cond (releases_now b x) (cond (eqb (a + x + b.deadline - early_at x b.jitter) (a + n) && v) b.work 0) 0) n
    ≡ cond (is_due_last b n && v) b.work 0
one_task b f v a n some =
    sum_below-same _ (λ x. cond (eqb (last_release b n) x) (cond (is_due_last b n && v) b.work 0) 0) n
    (λ x l. one_moment b f v a n x)
    ∙ (sum_below_one (λ x. cond (is_due_last b n && v) b.work 0) (last_release b n) n).0
    (omega (arith, some, f.works, f.in_deadline))

-- what a job asks for that is due then and is that of task i or behind it
abbrev pub asked_behind : List SporadicTask → ℕ → ℕ → ℕ → Job → ℕ
asked_behind tasks a n i b =
    cond (eqb (deadline_of tasks b) (a + n) && stands_from tasks n i b.task) b.work 0

-- so the list has just the work from task i's on
pub work_behind : (tasks : List SporadicTask) → AreConstrained tasks → (a n i : ℕ) → 1 ≤ n
    → sum_below (λ k. asked_behind tasks a n i (job_at (synchronous tasks a n) k)) (length (synchronous tasks a n))
    ≡ work_from tasks n i
unfolding early_at
work_behind tasks fits a n i some =
    sym (sum_by-places (asked_behind tasks a n i) default_job (synchronous tasks a n))
    ∙ (sum_synchronous (asked_behind tasks a n i) tasks a n
    ∙ sum_below-same _ (part_from tasks n i) (length tasks)
    (λ k l. one_task (task_at tasks k) (fits k l) (stands_from tasks n i k) a n some))

-- a job that is due then is the one release of its task that is
pub last_job : (tasks : List SporadicTask) → AreConstrained tasks → (a n k : ℕ) → k < length (synchronous tasks a n)
    → deadline_of tasks (job_at (synchronous tasks a n) k) ≡ a + n
    → ((job_at (synchronous tasks a n) k).release
    ≡ a + last_release (task_at tasks (job_at (synchronous tasks a n) k).task) n)
    × (is_due_last (task_at tasks (job_at (synchronous tasks a n) k).task) n ≡ true)
unfolding early_at
last_job tasks fits a n =
    each_release (λ b. deadline_of tasks b ≡ a + n → (b.release ≡ a + last_release (task_at tasks b.task) n)
    × (is_due_last (task_at tasks b.task) n ≡ true)) tasks a n (λ x i _ l r due.
    let d : DueAt (task_at tasks i) n x = due_where_released (task_at tasks i) (fits i l) a n x r due in
    (ap (λ (z : ℕ). a + z) d.moment, d.due))

-- the order of two releases, told by their numbers: by release and then by place
abbrev pub behind : ℕ → ℕ → ℕ → ℕ → Bool
behind r i s k = nat_lt r s || (eqb r s && leb i k)

pub behind_where : (r i s k : ℕ) → (r < s) ⊎ ((r ≡ s) × (i ≤ k)) → behind r i s k ≡ true
behind_where r i s k h = grind (arith, nat_tests)

pub ahead_where : (r i s k : ℕ) → (s < r) ⊎ ((s ≡ r) × (k < i)) → behind r i s k ≡ false
ahead_where r i s k h = grind (arith, nat_tests)

pub where_behind : (r i s k : ℕ) → behind r i s k ≡ true → (r < s) ⊎ ((r ≡ s) × (i ≤ k))
where_behind r i s k h = grind (arith, nat_tests)

-- the places of the list tell it
pub places_tell : (tasks : List SporadicTask) → AreConstrained tasks → (a n j k : ℕ)
    → j < length (synchronous tasks a n) → k < length (synchronous tasks a n)
    → deadline_of tasks (job_at (synchronous tasks a n) j) ≡ a + n
    → deadline_of tasks (job_at (synchronous tasks a n) k) ≡ a + n
    → leb j k
    ≡ stands_from tasks n (job_at (synchronous tasks a n) j).task (job_at (synchronous tasks a n) k).task
places_tell tasks fits a n j k lj lk dj dk =
    let jobs : List Job = synchronous tasks a n in
    let first = last_job tasks fits a n j lj dj in
    let next = last_job tasks fits a n k lk dk in
    let r : ℕ = last_release (task_at tasks (job_at jobs j).task) n in
    let s : ℕ = last_release (task_at tasks (job_at jobs k).task) n in
    elim (cases_order j k) [
      | inl same ↦
          le-leb j k (omega (arith, same))
          ∙ sym (behind_where r (job_at jobs j).task s (job_at jobs k).task (inr (
            omega (arith, first.0, next.0, ap (λ (z : ℕ). (job_at jobs z).release) same),
            omega (arith, ap (λ (z : ℕ). (job_at jobs z).task) same),
          )))
      | inr w ↦ elim w [
        | inl l ↦
            le-leb j k (omega (arith, l))
            ∙ sym (behind_where r (job_at jobs j).task s (job_at jobs k).task
            (elim (synchronous_in_turn tasks a n j k l lk) [
              | inl m ↦ inl (omega (arith, m, first.0, next.0))
              | inr e ↦ inr (omega (arith, e.0, first.0, next.0), omega (arith, e.1))
            ]))
        | inr l ↦
            lt-leb j k l
            ∙ sym (ahead_where r (job_at jobs j).task s (job_at jobs k).task
            (elim (synchronous_in_turn tasks a n k j l lj) [
              | inl m ↦ inl (omega (arith, m, first.0, next.0))
              | inr e ↦ inr (omega (arith, e.0, first.0, next.0), omega (arith, e.1))
            ]))
      ]
    ]
