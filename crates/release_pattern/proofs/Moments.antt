-- The synchronous release from moment to moment.
use Rattle.std.proofs.Common.{◌≡◌, ◌||◌, ℕ, zero, suc, min, ◌+◌, ◌-◌, ◌*◌, ◌%◌, ◌^◌, ◌<◌, ◌≤◌, Bool, true, false, eqb, List, [], ◌∷◌, ◌++◌, length, refl, sym, ◌∙◌, ap, arith, eq-eqb}
use Rattle.std.proofs.Math.Nat.{mul-mod_left}
use Rattle.std.proofs.lemmas.Nat.{mod-mul-add}
use Rattle.std.proofs.lemmas.Bool.{or_right, ne_eqb}
use Rattle.slot_model.specs.Task.{IsConstrained, SporadicTask, task_at}
use Rattle.slot_model.specs.Release.{push_if, releases_now, release_of, releases_at, synchronous}
use Rattle.slot_model.specs.declared.job.Job.{Job}
use Rattle.slot_model.proofs.Synchronous.{early_at, early_at-le, periods_at}
use Rattle.release_pattern.specs.Due.{IsNext, NoneRelease}

-- one task more, which releases or does not
pub one_releases : (tasks : List SporadicTask) (start x i : ℕ) (jobs : List Job)
    → releases_now (task_at tasks i) x ≡ true
    → releases_at tasks start x (i + 1) jobs ≡ releases_at tasks start x i jobs ++ release_of tasks start x i ∷ []
unfolding releases_at
one_releases tasks start x i jobs e =
    ap (λ (z : ℕ). releases_at tasks start x z jobs) (let q : i + 1 ≡ suc i = omega arith in q)
    ∙ ap (λ (b : Bool). push_if (releases_at tasks start x i jobs) b (release_of tasks start x i)) e

pub one_waits : (tasks : List SporadicTask) (start x i : ℕ) (jobs : List Job) → releases_now (task_at tasks i) x ≡ false
    → releases_at tasks start x (i + 1) jobs ≡ releases_at tasks start x i jobs
unfolding releases_at
one_waits tasks start x i jobs e =
    ap (λ (z : ℕ). releases_at tasks start x z jobs) (let q : i + 1 ≡ suc i = omega arith in q)
    ∙ ap (λ (b : Bool). push_if (releases_at tasks start x i jobs) b (release_of tasks start x i)) e

-- k tasks that do not release
pub some_wait : (tasks : List SporadicTask) (start x i k : ℕ) (jobs : List Job)
    → ((j : ℕ) → i ≤ j → j < i + k → releases_now (task_at tasks j) x ≡ false)
    → releases_at tasks start x (i + k) jobs ≡ releases_at tasks start x i jobs
some_wait tasks start x i zero jobs h =
    ap (λ (z : ℕ). releases_at tasks start x z jobs) (let q : i + 0 ≡ i = omega arith in q)
some_wait tasks start x i (suc k) jobs h =
    ap (λ (z : ℕ). releases_at tasks start x z jobs) (let q : i + suc k ≡ (i + k) + 1 = omega arith in q)
    ∙ one_waits tasks start x (i + k) jobs (h (i + k) (omega arith) (omega arith))
    ∙ some_wait tasks start x i k jobs (λ j a b. h j a (omega arith))

pub next_moment : (tasks : List SporadicTask) (start x : ℕ)
    → synchronous tasks start (suc x) ≡ releases_at tasks start x (length tasks) (synchronous tasks start x)
unfolding synchronous releases_at
next_moment tasks start x = refl

pub no_moment : (tasks : List SporadicTask) (start : ℕ) → synchronous tasks start 0 ≡ []
unfolding synchronous
no_moment tasks start = refl

pub no_task : (tasks : List SporadicTask) (start x : ℕ) (jobs : List Job) → releases_at tasks start x 0 jobs ≡ jobs
unfolding releases_at
no_task tasks start x jobs = refl

-- k moments at which no task releases
pub quiet : (tasks : List SporadicTask) (start x k : ℕ) → NoneRelease tasks x (x + k)
    → synchronous tasks start (x + k) ≡ synchronous tasks start x
quiet tasks start x zero h = ap (synchronous tasks start) (let q : x + 0 ≡ x = omega arith in q)
quiet tasks start x (suc k) h =
    ap (synchronous tasks start) (let q : x + suc k ≡ suc (x + k) = omega arith in q)
    ∙ next_moment tasks start (x + k)
    ∙ ap (λ (z : ℕ). releases_at tasks start (x + k) z (synchronous tasks start (x + k)))
    (let q : length tasks ≡ 0 + length tasks = omega arith in q)
    ∙ some_wait tasks start (x + k) 0 (length tasks) (synchronous tasks start (x + k))
    (λ j a b. h j (x + k) (omega arith) (omega arith) (omega arith))
    ∙ no_task tasks start (x + k) (synchronous tasks start (x + k))
    ∙ quiet tasks start x k (λ i y l a b. h i y l a (omega arith))

-- up to the next moment at which one may release
pub up_to_next : (tasks : List SporadicTask) (start x next span : ℕ) (jobs more : List Job) → x < span → x < next
    → jobs ≡ synchronous tasks start (min x span) → more ≡ releases_at tasks start x (length tasks) jobs
    → NoneRelease tasks (x + 1) next → more ≡ synchronous tasks start (min next span)
up_to_next tasks start x next span jobs more l m e f h =
    let k : ℕ = min next span - (x + 1) in
    let end : (x + 1) + k ≡ min next span = omega arith in
    f
    ∙ ap (releases_at tasks start x (length tasks))
    (e ∙ ap (synchronous tasks start) (let q : min x span ≡ x = omega arith in q))
    ∙ sym (next_moment tasks start x) ∙ ap (synchronous tasks start) (let q : suc x ≡ x + 1 = omega arith in q)
    ∙ sym (quiet tasks start (x + 1) k (λ i y a b c. h i y a b (omega arith)))
    ∙ ap (synchronous tasks start) end

-- between two releases of a task there is none
between : (b : SporadicTask) (m r : ℕ) → releases_now b m ≡ true → 1 ≤ r → early_at m b.jitter + r < b.period
    → releases_now b (m + r) ≡ false
between b m r now l h =
    let w : (n : ℕ) × (m + b.jitter ≡ n * b.period + early_at m b.jitter) = periods_at b m now in
    let e : m + r + b.jitter ≡ w.0 * b.period + (early_at m b.jitter + r) = omega (arith, w.1) in
    let rest : (m + r + b.jitter) % b.period ≡ early_at m b.jitter + r
    = ap (λ (z : ℕ). z % b.period) e ∙ mod-mul-add w.0 b.period (early_at m b.jitter + r) h in
    neither (eqb (m + r) 0) (eqb ((m + r + b.jitter) % b.period) 0) (ne_eqb (m + r) 0 (λ q. omega arith))
    (ne_eqb ((m + r + b.jitter) % b.period) 0 (λ q. omega (arith, rest)))
  where
    neither : (u v : Bool) → u ≡ false → v ≡ false → u || v ≡ false
    neither u v p q = grind arith

-- the next release of a task
pub released_next : (b : SporadicTask) (x early n : ℕ) → IsConstrained b → releases_now b x ≡ true
    → early ≡ early_at x b.jitter → n ≡ min (x + (b.period - early)) (2 ^ 64 - 1) → x < 2 ^ 64 - 1 → IsNext b (x + 1) n
released_next b x early n fits now is e l =
    let w : (n : ℕ) × (x + b.jitter ≡ n * b.period + early_at x b.jitter) = periods_at b x now in
    let small : early < b.period
    = omega (arith, is, early_at-le x b.jitter, fits.works, fits.in_deadline, fits.in_period) in
    let next : ℕ = x + (b.period - early) in
    let arrives : next + b.jitter ≡ suc w.0 * b.period = omega (arith, w.1, is) in
    record {
      from = omega arith;
      none =
          λ y a c. ap (releases_now b) (let q : y ≡ x + (y - x) = omega arith in q)
          ∙ between b x (y - x) now (omega arith) (omega arith);
      due =
          λ m. ap (releases_now b) (let q : n ≡ next = omega arith in q)
          ∙ or_right _ _ (eq-eqb _ _ (ap (λ (z : ℕ). z % b.period) arrives ∙ mul-mod_left (suc w.0) b.period));
    }
