-- Of the jobs that are due at the end of the least short window the first that misses gets what
-- those behind it leave: nothing of what is missing is lacked by one before it.
use Rattle.std.proofs.Common.{◌≡◌, ◌⊎◌, ℕ, ◌+◌, ◌-◌, ◌<◌, ◌≤◌, Bool, true, false, cond, eqb, leb, ◌&&◌, List, length, get_or, Option, Some, None, refl, sym, ◌∙◌, ap, arith, subst, inl, inr, leb-true, le-leb, ltb-true, lt-ltb, eqb-true}
use Rattle.std.proofs.lemmas.Bool.{cases_lt, cases_eq, cases_order, ne_eqb, leb-false, eqb-false}
use Rattle.slot_model.specs.Slots.{sum_below}
use Rattle.slot_model.specs.Task.{SporadicTask, deadline_of, job_at}
use Rattle.slot_model.specs.Order.{edf_before}
use Rattle.slot_model.specs.Run.{holds, service, guest, Pending, MayHold}
use Rattle.slot_model.specs.Release.{synchronous}
use Rattle.slot_model.specs.Bound.{dbf}
use Rattle.slot_model.specs.Miss.{IsFirstMissed, Missed, miss_of}
use Rattle.slot_model.specs.declared.job.Job.{Job}
use Rattle.slot_model.specs.declared.miss.Miss.{Miss}
use Rattle.slot_model.proofs.Runs.{count_below-mono, count_reaches, holds-is, service-le-work}
use Rattle.slot_model.proofs.Sums.{sum_below-add, sum_below-same, sum_below_one}
use Rattle.slot_model.proofs.Synchronous.{legal_synchronous, synchronous_whole, synchronous_in_turn}
use Rattle.edf_test.proofs.EdfKeeps.{due_by}
use Rattle.miss_witness.specs.inner.DueLast.{LacksFirst, stands_from, work_from, miss_at}
use Rattle.miss_witness.proofs.LastDue.{asked_behind, last_job, places_tell, work_behind}
use Rattle.miss_witness.proofs.PointMiss.{AtPoint, permitted_of, none_sooner, got_by, asked_by_end, all_given, all_asked, first_missed}

abbrev pub miss_of_numbers : ℕ → ℕ → ℕ → ℕ → ℕ → Miss
miss_of_numbers task release deadline got work =
    record { task = task; release = release; deadline = deadline; got = got; work = work }

-- a job that does not miss and is due by the end of the run gets its work
whole_where_kept : (tasks : List SporadicTask) (bound : ℕ → ℕ) (a n : ℕ) (slots : List Bool) (run : List (Option ℕ))
    → AtPoint tasks bound a n slots run → (k : ℕ) → k < length (synchronous tasks a n)
    → deadline_of tasks (job_at (synchronous tasks a n) k) ≤ a + n
    → (Missed tasks (synchronous tasks a n) run k → ⊥)
    → service run k (a + n) ≡ (job_at (synchronous tasks a n) k).work
whole_where_kept tasks bound a n slots run p k l due kept =
    let jobs : List Job = synchronous tasks a n in
    let permitted = permitted_of tasks bound a n slots run p in
    let enough : (job_at jobs k).work ≤ service run k (deadline_of tasks (job_at jobs k))
    = elim (cases_lt (service run k (deadline_of tasks (job_at jobs k))) (job_at jobs k).work) [
      | inr m ↦ m
      | inl m ↦
          absurd
          (kept (record { is_job = l; in_run = omega (arith, due, permitted.same_length, p.long); short = m }))
    ] in
    omega (
      arith,
      enough,
      count_below-mono (λ y. holds (get_or run y None) k) (deadline_of tasks (job_at jobs k)) (a + n) due,
      service-le-work guest (edf_before tasks) tasks jobs slots run permitted k (a + n) (omega (arith, p.long)),
    )

-- while a missed job waits, none behind it of the same deadline moment is held
none_behind : (tasks : List SporadicTask) (bound : ℕ → ℕ) (a n : ℕ) (slots : List Bool) (run : List (Option ℕ))
    → AtPoint tasks bound a n slots run → (j k : ℕ) → Missed tasks (synchronous tasks a n) run j
    → j < k → k < length (synchronous tasks a n)
    → deadline_of tasks (job_at (synchronous tasks a n) k) ≡ a + n → service run k (a + n) ≡ 0
none_behind tasks bound a n slots run p j k miss lt lk due =
    let jobs : List Job = synchronous tasks a n in
    let last : deadline_of tasks (job_at jobs j) ≡ a + n = none_sooner tasks bound a n slots run p j miss in
    elim (cases_lt (service run k (a + n)) 1) [
      | inl none ↦ omega (arith, none)
      | inr some ↦
          let (y, l, h, _) = count_reaches (λ y. holds (get_or run y None) k) 1 (a + n) (omega arith) some in
          let entry = p.first_run.each y (omega (arith, l, p.long)) in
          let is : get_or run y None ≡ Some k = holds-is (get_or run y None) k h in
          let held : MayHold guest (edf_before tasks) tasks jobs run y k = entry.held k is in
          let sooner : (job_at jobs j).release ≤ (job_at jobs k).release
          = elim (synchronous_in_turn tasks a n j k lt lk)
          [ inl r ↦ omega (arith, r) | inr e ↦ omega (arith, e.0) ] in
          let waits : Pending guest tasks jobs run j y
          = record {
            is_job = miss.is_job;
            released = omega (arith, sooner, held.pending.released);
            unfinished =
                omega (
                  arith,
                  miss.short,
                  count_below-mono (λ z. holds (get_or run z None) j) y (deadline_of tasks (job_at jobs j))
                      (omega (arith, l, last)),
                );
            still_open = tt;
          } in
          absurd (entry.first k j is lt (record {
            pending = waits;
            best =
                λ m q first. held.best m q
                (lt-ltb _ _ (omega (arith, due, last, ltb-true _ _ first)));
          }))
    ]

-- of two places the other, where the first is no greater
behind_where : (j k : ℕ) → leb j k ≡ true → eqb j k ≡ false → j < k
behind_where j k l ne = elim (cases_order j k) [
  | inl e ↦ absurd (eqb-false j k ne e)
  | inr w ↦ elim w [ inl m ↦ m | inr m ↦ absurd (omega (arith, m, leb-true j k l)) ]
]

-- one job: what it asks for, and what the first missed one got, and what it gets, and what those
-- behind ask for
abbrev asked_from : List SporadicTask → List Job → ℕ → ℕ → ℕ → ℕ
asked_from tasks jobs end j k =
    cond (eqb (deadline_of tasks (job_at jobs k)) end && leb j k) (job_at jobs k).work 0

shares : (by same from is : Bool) (work got served : ℕ)
    → (by ≡ false → (same ≡ false) × (is ≡ false))
    → (by ≡ true → same ≡ false → (is ≡ false) × (served ≡ work))
    → (same ≡ true → by ≡ true)
    → (same ≡ true → from ≡ false → (is ≡ false) × (served ≡ work))
    → (same ≡ true → from ≡ true → is ≡ true → served ≡ got)
    → (same ≡ true → from ≡ true → is ≡ false → served ≡ 0)
    → cond by work 0 + cond is got 0 ≡ cond by served 0 + cond (same && from) work 0
shares by same from is work got served h1 h2 h3 h4 h5 h6 = go by same from is h1 h2 h3 h4 h5 h6
  where
    go : (by same from is : Bool)
        → (by ≡ false → (same ≡ false) × (is ≡ false))
        → (by ≡ true → same ≡ false → (is ≡ false) × (served ≡ work))
        → (same ≡ true → by ≡ true)
        → (same ≡ true → from ≡ false → (is ≡ false) × (served ≡ work))
        → (same ≡ true → from ≡ true → is ≡ true → served ≡ got)
        → (same ≡ true → from ≡ true → is ≡ false → served ≡ 0)
        → cond by work 0 + cond is got 0 ≡ cond by served 0 + cond (same && from) work 0
    go false true from is h1 h2 h3 h4 h5 h6 = let e = h3 refl in absurd (cc)
    go false false from true h1 h2 h3 h4 h5 h6 = let e = (h1 refl).1 in absurd (cc)
    go false false from false h1 h2 h3 h4 h5 h6 = refl
    go true false from true h1 h2 h3 h4 h5 h6 = let e = (h2 refl refl).0 in absurd (cc)
    go true false from false h1 h2 h3 h4 h5 h6 = omega (arith, (h2 refl refl).1)
    go true true false true h1 h2 h3 h4 h5 h6 = let e = (h4 refl refl).0 in absurd (cc)
    go true true false false h1 h2 h3 h4 h5 h6 = omega (arith, (h4 refl refl).1)
    go true true true true h1 h2 h3 h4 h5 h6 = omega (arith, h5 refl refl refl)
    go true true true false h1 h2 h3 h4 h5 h6 = omega (arith, h6 refl refl refl)

one_share : (tasks : List SporadicTask) (bound : ℕ → ℕ) (a n : ℕ) (slots : List Bool) (run : List (Option ℕ))
    → AtPoint tasks bound a n slots run → (j : ℕ) → IsFirstMissed tasks (synchronous tasks a n) run j
    → (k : ℕ) → k < length (synchronous tasks a n)
    → asked_by_end tasks (synchronous tasks a n) (a + n) k + cond (eqb j k) (service run j (a + n)) 0
    ≡ got_by tasks (synchronous tasks a n) run (a + n) k + asked_from tasks (synchronous tasks a n) (a + n) j k
one_share tasks bound a n slots run p j first k l =
    let jobs : List Job = synchronous tasks a n in
    let due : deadline_of tasks (job_at jobs j) ≡ a + n = none_sooner tasks bound a n slots run p j first.missed in
    let apart : deadline_of tasks (job_at jobs k) ≡ a + n ⊎ (eqb j k ≡ false)
    = elim (cases_eq j k) [
      | inl e ↦ inl (subst (λ (z : ℕ). deadline_of tasks (job_at jobs z) ≡ a + n) e due)
      | inr ne ↦ inr (ne_eqb j k ne)
    ] in
    shares (due_by tasks jobs (a + n) k) (eqb (deadline_of tasks (job_at jobs k)) (a + n)) (leb j k) (eqb j k)
    (job_at jobs k).work (service run j (a + n)) (service run k (a + n))
    (λ late. let past : a + n < deadline_of tasks (job_at jobs k) = leb-false _ _ late in (
      ne_eqb _ _ (λ e. omega (arith, e, past)),
      elim apart [ inl e ↦ absurd (omega (arith, e, past)) | inr ne ↦ ne ],
    ))
    (λ by other. let differs : deadline_of tasks (job_at jobs k) ≡ a + n → ⊥ = eqb-false _ _ other in (
      elim apart [ inl e ↦ absurd (differs e) | inr ne ↦ ne ],
      whole_where_kept tasks bound a n slots run p k l (leb-true _ _ by)
          (λ m. differs (none_sooner tasks bound a n slots run p k m)),
    ))
    (λ same. le-leb _ _ (omega (arith, eqb-true _ _ same)))
    (λ same before. let earlier : k < j = leb-false j k before in (
      ne_eqb j k (λ e. omega (arith, e, earlier)),
      whole_where_kept tasks bound a n slots run p k l (omega (arith, eqb-true _ _ same))
          (λ m. first.first k earlier m (omega (arith, none_sooner tasks bound a n slots run p k m, due))),
    ))
    (λ same from is. ap (λ (z : ℕ). service run z (a + n)) (sym (eqb-true j k is)))
    (λ same from isnt. none_behind tasks bound a n slots run p j k first.missed (behind_where j k from isnt) l
    (eqb-true _ _ same))

same_second : (e p q : Bool) (w : ℕ) → (e ≡ true → p ≡ q) → cond (e && p) w 0 ≡ cond (e && q) w 0
same_second true p q w h = ap (λ (b : Bool). cond b w 0) (h refl)
same_second false p q w h = refl

-- the first missed job and those behind it ask for the work from its task on
from_task : (tasks : List SporadicTask) (bound : ℕ → ℕ) (a n : ℕ) (slots : List Bool) (run : List (Option ℕ))
    → AtPoint tasks bound a n slots run → (j : ℕ) → Missed tasks (synchronous tasks a n) run j
    → sum_below (asked_from tasks (synchronous tasks a n) (a + n) j) (length (synchronous tasks a n))
    ≡ work_from tasks n (job_at (synchronous tasks a n) j).task
from_task tasks bound a n slots run p j miss =
    let jobs : List Job = synchronous tasks a n in
    sum_below-same (asked_from tasks jobs (a + n) j)
    (λ k. asked_behind tasks a n (job_at jobs j).task (job_at jobs k)) (length jobs)
    (λ k l. same_second (eqb (deadline_of tasks (job_at jobs k)) (a + n)) (leb j k)
    (stands_from tasks n (job_at jobs j).task (job_at jobs k).task) (job_at jobs k).work
    (λ e. places_tell tasks p.fits a n j k miss.is_job l (none_sooner tasks bound a n slots run p j miss)
    (eqb-true _ _ e)))
    ∙ work_behind tasks p.fits a n (job_at jobs j).task p.point.some_slots

-- so what it gets is what is left of that by what is missing
first_gets : (tasks : List SporadicTask) (bound : ℕ → ℕ) (a n : ℕ) (slots : List Bool) (run : List (Option ℕ))
    → AtPoint tasks bound a n slots run → (j : ℕ) → IsFirstMissed tasks (synchronous tasks a n) run j
    → dbf tasks n + service run j (a + n) ≡ bound n + work_from tasks n (job_at (synchronous tasks a n) j).task
first_gets tasks bound a n slots run p j first =
    let jobs : List Job = synchronous tasks a n in
    omega (
      arith,
      sum_below-add (asked_by_end tasks jobs (a + n)) (λ k. cond (eqb j k) (service run j (a + n)) 0) (length jobs),
      sum_below-add (got_by tasks jobs run (a + n)) (asked_from tasks jobs (a + n) j) (length jobs),
      sum_below-same (λ k. asked_by_end tasks jobs (a + n) k + cond (eqb j k) (service run j (a + n)) 0)
          (λ k. got_by tasks jobs run (a + n) k + asked_from tasks jobs (a + n) j k) (length jobs)
          (λ k l. one_share tasks bound a n slots run p j first k l),
      (sum_below_one (λ k. service run j (a + n)) j (length jobs)).0 first.missed.is_job,
      all_asked tasks p.fits a n,
      all_given tasks bound a n slots run p j first.missed,
      from_task tasks bound a n slots run p j first.missed,
    )

same_miss : (i r s d e g h v w : ℕ) → r ≡ s → d ≡ e → g ≡ h → v ≡ w
    → miss_of_numbers i r d g v ≡ miss_of_numbers i s e h w
same_miss i r s d e g h v w release deadline got work = rw (release, deadline, got, work) refl

-- the first miss, told by the numbers of its task
pub point_miss : (tasks : List SporadicTask) (bound : ℕ → ℕ) (a n : ℕ) (slots : List Bool) (run : List (Option ℕ))
    → AtPoint tasks bound a n slots run → (k : ℕ) → Missed tasks (synchronous tasks a n) run k
    → (j : ℕ) × IsFirstMissed tasks (synchronous tasks a n) run j
    × LacksFirst tasks n (dbf tasks n - bound n) (job_at (synchronous tasks a n) j).task
    × (miss_of tasks (synchronous tasks a n) run j
    ≡ miss_at tasks a n (dbf tasks n - bound n) (job_at (synchronous tasks a n) j).task)
point_miss tasks bound a n slots run p k miss =
    let jobs : List Job = synchronous tasks a n in
    let (j, first) = first_missed tasks bound a n slots run p k miss in
    let due : deadline_of tasks (job_at jobs j) ≡ a + n = none_sooner tasks bound a n slots run p j first.missed in
    let last = last_job tasks p.fits a n j first.missed.is_job due in
    let gets = first_gets tasks bound a n slots run p j first in
    let whole = synchronous_whole tasks a n j first.missed.is_job in
    let short : service run j (a + n) < (job_at jobs j).work
    = subst (λ (z : ℕ). service run j z < (job_at jobs j).work) due first.missed.short in (
      j,
      first,
      record {
        is_task = (legal_synchronous tasks p.fits a n).named j first.missed.is_job;
        due = last.1;
        lacks = omega (arith, gets, p.point.short);
        served = omega (arith, gets, p.point.short, whole, short);
      },
      same_miss (job_at jobs j).task _ _ _ _ _ _ _ _ last.0 due
          (ap (λ (z : ℕ). service run j z) due ∙ (let got : service run j (a + n)
          ≡ work_from tasks n (job_at jobs j).task - (dbf tasks n - bound n)
          = omega (arith, gets, p.point.short) in got))
          whole,
    )
