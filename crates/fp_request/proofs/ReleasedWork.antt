-- The work that a task's legal releases ask for in a window of t slots.
use Rattle.std.proofs.Common.{◌≡◌, ℕ, ◌+◌, ◌*◌, ◌-◌, ◌/◌, ◌<◌, ◌≤◌, Bool, true, false, cond, eqb, leb, ltb, ◌&&◌, List, length, refl, ◌∙◌, ap, arith, subst, inl, inr, ne_eqb, eqb-true, leb-true, ltb-true}
use Rattle.std.proofs.lemmas.Bool.{cases_eq, and_parts}
use Rattle.slot_model.specs.Slots.{sum_below}
use Rattle.slot_model.specs.Release.{LegalRelease}
use Rattle.slot_model.specs.Task.{AreConstrained, IsConstrained, job_at, task_at, SporadicTask}
use Rattle.slot_model.specs.Bound.{request_of}
use Rattle.slot_model.specs.declared.job.Job.{Job}
use Rattle.fp_request.specs.Released.{RequestsBound}
use Rattle.slot_model.proofs.Sums.{sum_below-le, sum_below-same, sum_below-none}
use Rattle.slot_model.proofs.Arrivals.{arrival, early_within, arrivals_apart}
use Rattle.slot_model.proofs.Windows.{release_window, by_task}

-- whether job j is of task i and released from a on and before b
abbrev asks : List Job → ℕ → ℕ → ℕ → ℕ → Bool
asks jobs a b i j = eqb (job_at jobs j).task i && (leb a (job_at jobs j).release && ltb (job_at jobs j).release b)

record Asks (jobs : List Job) (a b i j : ℕ) : Type 0 where
  mine : (job_at jobs j).task ≡ i
  after : a ≤ (job_at jobs j).release
  before : (job_at jobs j).release < b

asked : (jobs : List Job) (a b i j : ℕ) → asks jobs a b i j ≡ true → Asks jobs a b i j
asked jobs a b i j h =
    let p : (eqb (job_at jobs j).task i ≡ true)
    × ((leb a (job_at jobs j).release && ltb (job_at jobs j).release b) ≡ true)
    = and_parts _ _ h in
    let q : (leb a (job_at jobs j).release ≡ true) × (ltb (job_at jobs j).release b ≡ true) = and_parts _ _ p.1 in
    record { mine = eqb-true _ _ p.0; after = leb-true _ _ q.0; before = ltb-true _ _ q.1 }

-- the quotient's bound
periods_cover : (t p : ℕ) → 1 ≤ p → t ≤ ((t + (p - 1)) / p) * p
periods_cover t p l = omega arith

-- one task's jobs that are released in t slots from a on ask for no more than its request
pub task_request : (tasks : List SporadicTask) (jobs : List Job) → AreConstrained tasks → LegalRelease tasks jobs
    → (a t i : ℕ) → i < length tasks
    → sum_below (λ j. cond (asks jobs a (a + t) i j) (job_at jobs j).work 0) (length jobs)
    ≤ request_of (task_at tasks i) t
task_request tasks jobs fits legal a t i l =
    let f : IsConstrained (task_at tasks i) = fits i l in
    let late : ℕ = (task_at tasks i).jitter in
    let far : (x y : ℕ) → x < y → y < length jobs → asks jobs a (a + t) i x ≡ true → asks jobs a (a + t) i y ≡ true
    → arrival jobs late x + (task_at tasks i).period ≤ arrival jobs late y
    =
    λ x y m n p q. arrivals_apart tasks jobs legal i x y m n (asked jobs a (a + t) i x p).mine
    (asked jobs a (a + t) i y q).mine in
    let works : (j : ℕ) → j < length jobs → asks jobs a (a + t) i j ≡ true
    → (job_at jobs j).work ≤ (task_at tasks i).work
    = λ j m q. subst (λ (z : ℕ). (job_at jobs j).work ≤ (task_at tasks z).work) (asked jobs a (a + t) i j q).mine
    (legal.in_work j m) in
    release_window (arrival jobs late) (λ j. (job_at jobs j).work) (asks jobs a (a + t) i) (task_at tasks i).period
    (task_at tasks i).work a (length jobs) ((t + late + ((task_at tasks i).period - 1)) / (task_at tasks i).period)
    (a + t + late) far
    (λ j m q. let early : (job_at jobs j).early ≤ late
    = early_within tasks jobs legal i j m (asked jobs a (a + t) i j q).mine in (
      works j m q,
      omega (arith, early, (asked jobs a (a + t) i j q).after),
      omega (arith, (asked jobs a (a + t) i j q).before),
    ))
    (omega (arith, periods_cover (t + late) (task_at tasks i).period (omega arith)))

-- the jobs of tasks above i that are released in t slots from a on
abbrev pub urgent : (ℕ → ℕ → Bool) → List Job → ℕ → ℕ → ℕ → ℕ → Bool
urgent above jobs i a b j =
    above (job_at jobs j).task i && (leb a (job_at jobs j).release && ltb (job_at jobs j).release b)

by_rank_same : (x u v : Bool) (w : ℕ) → cond x (cond (u && v) w 0) 0 ≡ cond u (cond (x && v) w 0) 0
by_rank_same true true v w = refl
by_rank_same true false v w = refl
by_rank_same false true v w = refl
by_rank_same false false v w = refl

by_rank : (above : ℕ → ℕ → Bool) (i k z : ℕ) (v : Bool) (w : ℕ)
    → cond (eqb z k) (cond (above z i && v) w 0) 0 ≡ cond (above k i) (cond (eqb z k && v) w 0) 0
by_rank above i k z v w = elim (cases_eq z k) [
  | inl e ↦ ap (λ (y : ℕ). cond (eqb z k) (cond (above y i && v) w 0) 0) e ∙ by_rank_same (eqb z k) (above k i) v w
  | inr ne ↦ by_rank_not (eqb z k) (above z i) (above k i) v w (ne_eqb z k ne)
]
  where
    by_rank_not : (x u1 u2 v : Bool) (w : ℕ) → x ≡ false → cond x (cond (u1 && v) w 0) 0 ≡ cond u2 (cond (x && v) w 0) 0
    by_rank_not x u1 u2 v w e = grind arith

cond-sum_below : (u : Bool) (f : ℕ → ℕ) (n b : ℕ) → sum_below f n ≤ b → sum_below (λ j. cond u (f j) 0) n ≤ cond u b 0
cond-sum_below true f n b l = l
cond-sum_below false f n b l = omega (arith, sum_below-none n)

pub request_bound : (above : ℕ → ℕ → Bool) (tasks : List SporadicTask) (jobs : List Job) → AreConstrained tasks
    → LegalRelease tasks jobs → (a t i : ℕ)
    → sum_below (λ j. cond (urgent above jobs i a (a + t) j) (job_at jobs j).work 0) (length jobs)
    ≤ sum_below (λ k. cond (above k i) (request_of (task_at tasks k) t) 0) (length tasks)
request_bound above tasks jobs fits legal a t i =
    omega (
      arith,
      by_task (λ j. (job_at jobs j).task) (λ j. cond (urgent above jobs i a (a + t) j) (job_at jobs j).work 0)
          (length jobs) (length tasks) legal.named,
      sum_below-le (λ k. sum_below
          (λ j. cond (eqb (job_at jobs j).task k) (cond (urgent above jobs i a (a + t) j) (job_at jobs j).work 0) 0)
          (length jobs)) (λ k. cond (above k i) (request_of (task_at tasks k) t) 0) (length tasks)
          (λ k l. omega (
            arith,
            sum_below-same (λ j. cond (eqb (job_at jobs j).task k)
                (cond (urgent above jobs i a (a + t) j) (job_at jobs j).work 0) 0)
                (λ j. cond (above k i) (cond (asks jobs a (a + t) k j) (job_at jobs j).work 0) 0) (length jobs)
                (λ j m. by_rank above i k (job_at jobs j).task
                (leb a (job_at jobs j).release && ltb (job_at jobs j).release (a + t)) (job_at jobs j).work),
            cond-sum_below (above k i) (λ j. cond (asks jobs a (a + t) k j) (job_at jobs j).work 0) (length jobs)
                (request_of (task_at tasks k) t) (task_request tasks jobs fits legal a t k l),
          )),
    )

-- the same, as the definition has it
pub requests_bound : (tasks : List SporadicTask) → AreConstrained tasks → (t : ℕ) → RequestsBound tasks t
requests_bound tasks fits t jobs legal k from l = task_request tasks jobs fits legal from t k l
