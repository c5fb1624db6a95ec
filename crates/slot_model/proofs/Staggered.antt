-- The staggered release is legal, has each job, and is the synchronous one where all starts are 0.
use Rattle.std.proofs.Common.{◌≡◌, ℕ, ◌+◌, ◌*◌, ◌-◌, ◌/◌, ◌%◌, ◌<◌, ◌≤◌, Bool, true, cond, eqb, leb, ◌&&◌, ◌||◌, List, length, sym, ◌∙◌, ap, arith, subst, inl, inr, eq-eqb, eqb-true, leb-true, le-leb, zero-add}
use Rattle.std.proofs.Math.Nat.{mul-mod_left}
use Rattle.std.proofs.lemmas.Bool.{cases_eq, and_from, and_parts, ne_eqb}
use Rattle.slot_model.specs.Release.{LegalRelease, releases_now, task_releases, release_of, synchronous, start_at, begins_now, task_begins, begun_of, staggered}
use Rattle.slot_model.specs.Task.{AreConstrained, ArrivesAfter, plain_job, early_job, default_job, job_at, task_at, SporadicTask}
use Rattle.slot_model.specs.declared.job.Job.{Job}
use Rattle.slot_model.proofs.Sums.{cond-none}
use Rattle.slot_model.proofs.Gathered.{each_gathered, each_two_gathered, gathered_same}
use Rattle.slot_model.proofs.Synchronous.{multiple, multiples_apart}
use Rattle.slot_model.proofs.HasRelease.{In, gathered_in}

-- a task begins a period at the start and a number of periods
periods_at : (b : SporadicTask) (s x : ℕ) → begins_now b s x ≡ true → (m : ℕ) × (x ≡ s + m * b.period)
periods_at b s x h =
    let l : s ≤ x = leb-true s x (and_parts _ _ h).0 in
    ((x - s) / b.period, omega (arith, l, multiple (x - s) b.period (eqb-true _ _ (and_parts _ _ h).1)))

pub begins_at : (b : SporadicTask) (s m : ℕ) → begins_now b s (s + m * b.period) ≡ true
begins_at b s m =
    let e : s + m * b.period - s ≡ m * b.period = omega arith in
    and_from _ _ (le-leb s (s + m * b.period) (omega arith))
    (eq-eqb _ _ (ap (λ (z : ℕ). z % b.period) e ∙ mul-mod_left m b.period))

-- of two releases of a task the later arrives at least a period after the earlier
begins_apart : (b : SporadicTask) (s x y : ℕ) → x < y → begins_now b s x ≡ true → begins_now b s y ≡ true
    → x + b.period + 0 ≤ y + 0
begins_apart b s x y l e f =
    let p : (m : ℕ) × (x ≡ s + m * b.period) = periods_at b s x e in
    let q : (m : ℕ) × (y ≡ s + m * b.period) = periods_at b s y f in
    omega (arith, p.1, q.1, multiples_apart p.0 q.0 b.period (omega (arith, p.1, q.1)))

each_begun : (P : Job → Type 0) (tasks : List SporadicTask) (starts : List ℕ) (n : ℕ)
    → ((x i : ℕ) → i < length tasks → begins_now (task_at tasks i) (start_at starts i) x ≡ true
    → P (begun_of tasks x i))
    → (k : ℕ) → k < length (staggered tasks starts n) → P (job_at (staggered tasks starts n) k)
unfolding staggered
each_begun P tasks starts n h =
    each_gathered (task_begins tasks starts) (begun_of tasks) (length tasks) default_job P n (λ x i _. h x i)

-- the staggered release is legal, whatever the starts
pub legal_staggered : (tasks : List SporadicTask) → AreConstrained tasks → (starts : List ℕ) (n : ℕ)
    → LegalRelease tasks (staggered tasks starts n)
unfolding staggered
legal_staggered tasks fits starts n = record {
  named = each_begun (λ b. b.task < length tasks) tasks starts n (λ x i l _. l);
  works = each_begun (λ b. 1 ≤ b.work) tasks starts n (λ x i l _. (fits i l).works);
  in_work = each_begun (λ b. b.work ≤ (task_at tasks b.task).work) tasks starts n (λ x i l _. omega arith);
  in_jitter = each_begun (λ b. b.early ≤ (task_at tasks b.task).jitter) tasks starts n (λ x i l _. omega arith);
  apart =
      each_two_gathered (task_begins tasks starts) (begun_of tasks) (length tasks) default_job
      (λ b c. b.task ≡ c.task → ArrivesAfter b (task_at tasks b.task).period c) n
      (λ x i y j s l e f same. elim s [
        | inr q ↦ absurd (omega (arith, q.1, same))
        | inl m ↦
            begins_apart (task_at tasks i) (start_at starts i) x y m e
            (subst (λ (z : ℕ). begins_now (task_at tasks z) (start_at starts z) y ≡ true) (sym same) f)
      ]);
}

-- it has the job of each period
pub has_staggered : (tasks : List SporadicTask) (starts : List ℕ) (t x i : ℕ) → i < length tasks → x < t
    → begins_now (task_at tasks i) (start_at starts i) x ≡ true → In (staggered tasks starts t) (begun_of tasks x i)
unfolding staggered
has_staggered tasks starts t = gathered_in (task_begins tasks starts) (begun_of tasks) (length tasks) t

-- where all starts are 0, it is the synchronous release of tasks without jitter
begins_from_zero : (p x : ℕ) → (leb 0 x && eqb ((x - 0) % p) 0) ≡ (eqb x 0 || eqb ((x + 0) % p) 0)
begins_from_zero p x = ap (λ (v : Bool). v && eqb ((x - 0) % p) 0) (le-leb 0 x (omega arith)) ∙ elim (cases_eq x 0) [
  | inl e ↦
      let none : x - 0 ≡ 0 * p = omega arith in
      eq-eqb _ _ (ap (λ (z : ℕ). z % p) none ∙ mul-mod_left 0 p)
      ∙ sym (ap (λ (v : Bool). v || eqb ((x + 0) % p) 0) (eq-eqb x 0 e))
  | inr ne ↦
      let same : x - 0 ≡ x + 0 = omega arith in
      ap (λ (z : ℕ). eqb (z % p) 0) same ∙ sym (ap (λ (v : Bool). v || eqb ((x + 0) % p) 0) (ne_eqb x 0 ne))
]

same_now : (t : SporadicTask) (s x : ℕ) → t.jitter ≡ 0 → s ≡ 0 → begins_now t s x ≡ releases_now t x
same_now t s x j e =
    ap (λ (z : ℕ). begins_now t z x) e
    ∙ (begins_from_zero t.period x ∙ ap (λ (z : ℕ). eqb x 0 || eqb ((x + z) % t.period) 0) (sym j))

same_job : (tasks : List SporadicTask) (x i : ℕ) → (task_at tasks i).jitter ≡ 0
    → plain_job i x (task_at tasks i).work ≡ release_of tasks 0 x i
same_job tasks x i j =
    ap (λ (z : ℕ). early_job i z (task_at tasks i).work 0) (sym (zero-add x))
    ∙ ap (λ (z : ℕ). early_job i (0 + x) (task_at tasks i).work z)
    (sym (ap (λ (z : ℕ). cond (eqb x 0) z 0) j ∙ cond-none (eqb x 0)))

-- tasks without jitter that all start at 0
pub record AtZero (tasks : List SporadicTask) (starts : List ℕ) : Type 0 where
  pub prompt : (i : ℕ) → i < length tasks → (task_at tasks i).jitter ≡ 0
  pub at_zero : (i : ℕ) → i < length tasks → start_at starts i ≡ 0

-- the staggered release with all starts at 0 is the synchronous one
pub staggered_at_zero : (tasks : List SporadicTask) (starts : List ℕ) → AtZero tasks starts → (n : ℕ)
    → staggered tasks starts n ≡ synchronous tasks 0 n
unfolding staggered synchronous
staggered_at_zero tasks starts h =
    gathered_same (task_begins tasks starts) (task_releases tasks) (begun_of tasks) (release_of tasks 0) (length tasks)
    (λ x i l. same_now (task_at tasks i) (start_at starts i) x (h.prompt i l) (h.at_zero i l))
    (λ x i l. same_job tasks x i (h.prompt i l))
