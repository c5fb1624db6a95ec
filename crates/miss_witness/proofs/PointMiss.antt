-- The first miss of the synchronous release whose window is the least short one under earliest
-- deadline first: no job misses that is due sooner, every slot of the window goes to jobs that are
-- due by its end, and of those that are due there the first in the list go first.
use Rattle.std.proofs.Common.{◌≡◌, ◌⊎◌, ℕ, zero, suc, ◌+◌, ◌-◌, ◌<◌, ◌≤◌, Bool, true, false, cond, leb, ◌&&◌, List, length, get_or, Option, None, refl, sym, ap, arith, subst, inl, inr, leb-true, le-leb, lt-ltb}
use Rattle.std.proofs.lemmas.Bool.{cases_lt, cases_eq, cases_Bool, and_from, both_ways}
use Rattle.slot_model.specs.Slots.{sum_below, slots_between}
use Rattle.slot_model.specs.Task.{AreConstrained, IsConstrained, SporadicTask, deadline_of, job_at, task_at}
use Rattle.slot_model.specs.Order.{edf_before}
use Rattle.slot_model.specs.Run.{service, guest, FirstRun, PermittedRun}
use Rattle.slot_model.specs.Release.{LegalRelease, synchronous, work_within}
use Rattle.slot_model.specs.Bound.{dbf, IsFirstShortPoint}
use Rattle.slot_model.specs.Miss.{IsFirstMissed, Missed, is_missed}
use Rattle.slot_model.specs.declared.job.Job.{Job}
use Rattle.slot_model.proofs.FirstRuns.{first_permitted, held_slot}
use Rattle.slot_model.proofs.MissedJobs.{early_in_deadline, missed_is_lost, missed_where_tested, tested_where_missed}
use Rattle.slot_model.proofs.Served.{served_ge}
use Rattle.slot_model.proofs.Sums.{sum_below-le}
use Rattle.slot_model.proofs.Synchronous.{legal_synchronous, synchronous_demand, synchronous_from}
use Rattle.edf_demand.proofs.DemandBound.{demand_bound}
use Rattle.edf_test.proofs.EdfKeeps.{Edf, LostWindow, due_by, in_window, lost_window, window_slots}

-- the first run of the release at a over slots that give no less than the bound in any window, and
-- just the bound in the least short one, of n slots from a on
pub record AtPoint (tasks : List SporadicTask) (bound : ℕ → ℕ) (a n : ℕ) (slots : List Bool) (run : List (Option ℕ))
    : Type 0 where
  pub fits : AreConstrained tasks
  pub slow : (t : ℕ) → bound (suc t) ≤ suc (bound t)
  pub windows : (from to : ℕ) → from ≤ to → to ≤ length slots → bound (to - from) ≤ slots_between slots from to
  pub point : IsFirstShortPoint tasks bound n
  pub long : length slots ≡ a + n
  pub exact : slots_between slots a (a + n) ≡ bound n
  pub first_run : FirstRun guest (edf_before tasks) tasks (synchronous tasks a n) slots run

pub permitted_of : (tasks : List SporadicTask) (bound : ℕ → ℕ) (a n : ℕ) (slots : List Bool) (run : List (Option ℕ))
    → AtPoint tasks bound a n slots run
    → PermittedRun guest (edf_before tasks) tasks (synchronous tasks a n) slots run
permitted_of tasks bound a n slots run p =
    first_permitted guest (edf_before tasks) tasks (synchronous tasks a n) slots run p.first_run

edf_of : (tasks : List SporadicTask) (bound : ℕ → ℕ) (a n : ℕ) (slots : List Bool) (run : List (Option ℕ))
    → AtPoint tasks bound a n slots run → Edf guest (edf_before tasks) tasks (synchronous tasks a n) slots run
edf_of tasks bound a n slots run p =
    record {
      fits = p.fits;
      legal = legal_synchronous tasks p.fits a n;
      permitted = permitted_of tasks bound a n slots run p;
      first = λ b c l. lt-ltb _ _ l;
    }

-- a window of a missed job that asks for more than the bound, up to its deadline moment
record MissWindow (tasks : List SporadicTask) (bound : ℕ → ℕ) (a n : ℕ) (run : List (Option ℕ)) (k : ℕ)
    : Type 0 where
  from : ℕ
  window : LostWindow guest tasks (synchronous tasks a n) run bound
      (deadline_of tasks (job_at (synchronous tasks a n) k)) k (deadline_of tasks (job_at (synchronous tasks a n) k))
      from
  some : from < deadline_of tasks (job_at (synchronous tasks a n) k)
  long : n ≤ deadline_of tasks (job_at (synchronous tasks a n) k) - from

miss_window : (tasks : List SporadicTask) (bound : ℕ → ℕ) (a n : ℕ) (slots : List Bool) (run : List (Option ℕ))
    → AtPoint tasks bound a n slots run → (k : ℕ) → Missed tasks (synchronous tasks a n) run k
    → MissWindow tasks bound a n run k
miss_window tasks bound a n slots run p k miss =
    let jobs : List Job = synchronous tasks a n in
    let legal : LegalRelease tasks jobs = legal_synchronous tasks p.fits a n in
    let fit : IsConstrained (task_at tasks (job_at jobs k).task) = p.fits _ (legal.named k miss.is_job) in
    let (from, w)
    = lost_window guest (edf_before tasks) tasks jobs slots run (edf_of tasks bound a n slots run p) bound p.slow
    p.windows k (deadline_of tasks (job_at jobs k))
    (missed_is_lost tasks jobs run k (early_in_deadline tasks jobs p.fits legal k miss.is_job) miss) in
    let some : from < deadline_of tasks (job_at jobs k)
    = omega (arith, w.released, fit.works, fit.in_deadline, legal.in_jitter k miss.is_job) in
    record {
      from = from;
      window = w;
      some = some;
      long =
          elim (cases_lt (deadline_of tasks (job_at jobs k) - from) n) [
            | inr l ↦ l
            | inl l ↦
                absurd
                (omega
                (arith, w.asks, p.point.before (deadline_of tasks (job_at jobs k) - from) (omega (arith, some)) l))
          ];
    }

-- no job misses that is due before the end of the window
pub none_sooner : (tasks : List SporadicTask) (bound : ℕ → ℕ) (a n : ℕ) (slots : List Bool) (run : List (Option ℕ))
    → AtPoint tasks bound a n slots run → (k : ℕ) → Missed tasks (synchronous tasks a n) run k
    → deadline_of tasks (job_at (synchronous tasks a n) k) ≡ a + n
none_sooner tasks bound a n slots run p k miss =
    let jobs : List Job = synchronous tasks a n in
    let w = miss_window tasks bound a n slots run p k miss in
    elim (cases_lt (deadline_of tasks (job_at jobs k)) (a + n)) [
      | inr l ↦ omega (arith, l, miss.in_run, (permitted_of tasks bound a n slots run p).same_length, p.long)
      | inl l ↦
          let busy = w.window.busy w.from (omega arith) w.some in
          absurd
          (omega
          (arith, l, w.long, w.some, busy.pending.released, synchronous_from tasks a n busy.job busy.pending.is_job))
    ]

more_class : (p q g : Bool) → (p ≡ true → q ≡ true) → cond {A = ℕ} (p && g) 1 0 ≤ cond {A = ℕ} (q && g) 1 0
more_class false q g h = omega arith
more_class true q g h = omega (arith, ap (λ (b : Bool). cond {A = ℕ} (b && g) 1 0) (h refl))

less_class : (p q : Bool) (x : ℕ) → cond (p && q) x 0 ≤ cond q x 0
less_class true q x = omega arith
less_class false q x = omega arith

same_class : (p q : Bool) (x : ℕ) → p ≡ true → cond q x 0 ≤ cond (p && q) x 0
same_class true q x e = omega arith
same_class false q x e = cc

-- what the jobs that are due by the end of the window get there, and what they ask for
abbrev pub got_by : List SporadicTask → List Job → List (Option ℕ) → ℕ → ℕ → ℕ
got_by tasks jobs run end k = cond (due_by tasks jobs end k) (service run k end) 0

abbrev pub asked_by_end : List SporadicTask → List Job → ℕ → ℕ → ℕ
asked_by_end tasks jobs end k = cond (due_by tasks jobs end k) (job_at jobs k).work 0

-- where a job misses, they get all slots of the window
pub all_given : (tasks : List SporadicTask) (bound : ℕ → ℕ) (a n : ℕ) (slots : List Bool) (run : List (Option ℕ))
    → AtPoint tasks bound a n slots run → (j : ℕ) → Missed tasks (synchronous tasks a n) run j
    → sum_below (got_by tasks (synchronous tasks a n) run (a + n)) (length (synchronous tasks a n)) ≡ bound n
all_given tasks bound a n slots run p j miss =
    let jobs : List Job = synchronous tasks a n in
    let permitted = permitted_of tasks bound a n slots run p in
    let due : deadline_of tasks (job_at jobs j) ≡ a + n = none_sooner tasks bound a n slots run p j miss in
    let v = miss_window tasks bound a n slots run p j miss in
    let w : LostWindow guest tasks jobs run bound (a + n) j (a + n) v.from
    = subst (λ (z : ℕ). LostWindow guest tasks jobs run bound z j z v.from) due v.window in
    let least : slots_between slots v.from (a + n)
    ≤ sum_below (λ k. cond (in_window tasks jobs v.from (a + n) k) (service run k (a + n)) 0) (length jobs)
    = window_slots guest (edf_before tasks) tasks jobs slots run (edf_of tasks bound a n slots run p) (a + n) v.from
    (a + n) (omega (arith, p.long)) w.busy w.quiet in
    let wider : slots_between slots a (a + n) ≤ slots_between slots v.from (a + n)
    = sum_below-le (λ x. cond (leb a x && get_or slots x false) 1 0)
    (λ x. cond (leb v.from x && get_or slots x false) 1 0) (a + n)
    (λ x l. more_class (leb a x) (leb v.from x) (get_or slots x false)
    (λ h. le-leb v.from x (omega (arith, leb-true a x h, v.long, v.some, due)))) in
    let all : sum_below (λ k. cond (in_window tasks jobs v.from (a + n) k) (service run k (a + n)) 0) (length jobs)
    ≤ sum_below (got_by tasks jobs run (a + n)) (length jobs)
    = sum_below-le _ (got_by tasks jobs run (a + n)) (length jobs)
    (λ k l. less_class (leb v.from (job_at jobs k).release) (due_by tasks jobs (a + n) k) (service run k (a + n))) in
    let most : sum_below (got_by tasks jobs run (a + n)) (length jobs) ≤ slots_between slots a (a + n) =
    served_ge (λ y. get_or run y None) (λ y. leb a y && get_or slots y false) (due_by tasks jobs (a + n)) (length jobs)
    (a + n)
    (λ y i l q w. and_from _ _ (le-leb _ _ (omega (
      arith,
      (permitted.served y i (omega (arith, l, p.long)) q).released,
      synchronous_from tasks a n i (permitted.served y i (omega (arith, l, p.long)) q).is_job,
    )))
    (held_slot guest (edf_before tasks) tasks jobs slots run permitted y i (omega (arith, l, p.long)) q)) in
    omega (arith, least, wider, all, most, p.exact)

-- and they ask for the demand bound
pub all_asked : (tasks : List SporadicTask) → AreConstrained tasks → (a n : ℕ)
    → sum_below (asked_by_end tasks (synchronous tasks a n) (a + n)) (length (synchronous tasks a n)) ≡ dbf tasks n
all_asked tasks fits a n =
    let jobs : List Job = synchronous tasks a n in
    let most : sum_below (asked_by_end tasks jobs (a + n)) (length jobs) ≤ work_within tasks jobs a (a + n)
    = sum_below-le (asked_by_end tasks jobs (a + n)) _ (length jobs)
    (λ k l. same_class (leb a (job_at jobs k).release) (due_by tasks jobs (a + n) k) (job_at jobs k).work
    (le-leb _ _ (synchronous_from tasks a n k l))) in
    omega (
      arith,
      most,
      demand_bound tasks jobs fits (legal_synchronous tasks fits a n) a n,
      synchronous_demand tasks fits a n n (omega arith),
    )

-- the first of the numbers below n that passes a test
first_true : (p : ℕ → Bool) (n : ℕ)
    → ((j : ℕ) × (j < n) × (p j ≡ true) × ((k : ℕ) → k < j → p k ≡ false)) ⊎ ((k : ℕ) → k < n → p k ≡ false)
first_true p zero = inr (λ k l. absurd (omega arith))
first_true p (suc n) = elim (first_true p n) [
  | inl r ↦ inl (r.0, omega (arith, r.1), r.2, r.3)
  | inr none ↦ elim (cases_Bool (p n)) [
    | inl e ↦ inl (n, omega arith, e, none)
    | inr e ↦ inr (λ k l. elim (cases_eq k n) [
      | inl q ↦ subst (λ (z : ℕ). p z ≡ false) (sym q) e
      | inr ne ↦ none k (omega arith)
    ])
  ]
]

-- so there is a first missed job
pub first_missed : (tasks : List SporadicTask) (bound : ℕ → ℕ) (a n : ℕ) (slots : List Bool) (run : List (Option ℕ))
    → AtPoint tasks bound a n slots run → (j : ℕ) → Missed tasks (synchronous tasks a n) run j
    → (i : ℕ) × IsFirstMissed tasks (synchronous tasks a n) run i
first_missed tasks bound a n slots run p j miss =
    let jobs : List Job = synchronous tasks a n in
    elim (first_true (is_missed tasks jobs run) (length jobs)) [
      | inr none ↦ absurd (both_ways _ (none j miss.is_job) (tested_where_missed tasks jobs run j miss))
      | inl r ↦
          let first : Missed tasks jobs run r.0 = missed_where_tested tasks jobs run r.0 r.2 in (
            r.0,
            record {
              missed = first;
              least =
                  λ k m. omega (
                    arith,
                    none_sooner tasks bound a n slots run p r.0 first,
                    none_sooner tasks bound a n slots run p k m,
                  );
              first = λ k l m. absurd (both_ways _ (r.3 k l) (tested_where_missed tasks jobs run k m));
            },
          )
    ]
