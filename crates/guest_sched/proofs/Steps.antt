-- One span more of a run.
use Rattle.std.proofs.Common.{◌≡◌, ℕ, ◌+◌, ◌-◌, ◌<◌, ◌≤◌, ◌^◌, Bool, true, false, cond, List, [], ◌++◌, length, get_or, set, map, replicate, Option, Some, None, refl, sym, ◌∙◌, ap, arith, subst, inl, inr, eqb, eq-eqb, ne_eqb, length-set, get_or-set_same, get_or-set_other}
use Rattle.std.proofs.lemmas.Bool.{cases_eq, cases_lt, cond-true, cond-false, both_ways, true≢false}
use Rattle.std.proofs.lemmas.List.{get_or-map, length-map}
use Rattle.std.proofs.lemmas.Option.{same_Some}
use Rattle.slot_model.specs.declared.job.Job.{Job}
use Rattle.slot_model.specs.Task.{SporadicTask, sporadic_tasks, default_job, job_at}
use Rattle.slot_model.specs.Run.{holds, service, Level, Pending, MayHold, Entry, FirstRunTo}
use Rattle.slot_model.proofs.Sums.{sum_below-zero}
use Rattle.slot_model.proofs.FirstRuns.{none_some}
use Rattle.guest_sched.specs.declared.releases.Release.{Release}
use Rattle.guest_sched.specs.declared.ready.Ready.{Ready}
use Rattle.guest_sched.specs.declared.released.ReleasedLevel.{ReleasedLevel}
use Rattle.guest_sched.specs.declared.spans.Span.{Span}
use Rattle.guest_sched.specs.Levels.{level_of}
use Rattle.guest_sched.specs.inner.Releases.{release_at, AreReleases}
use Rattle.guest_sched.specs.inner.Keep.{AreEnds}
use Rattle.guest_sched.specs.inner.Places.{StandsIn}
use Rattle.guest_sched.specs.inner.Ready.{HasCome, IsReady, HaveCome, AreToCome, GoesFirst, IsServed, IsSteady, left_after}
use Rattle.guest_sched.specs.Spans.{Window, slots_of, entries_of}
use Rattle.guest_sched.proofs.State.{ready_in}
use Rattle.guest_sched.proofs.Steady.{Steady, no_entry, span_run, gap_run, service_span}

-- what the state says of the run so far: each job lacks its work but for its service
abbrev pub IsLeft : List Job → List (Option ℕ) → ℕ → List ℕ → Type 0
IsLeft jobs run x left = (j : ℕ) → j < length jobs → get_or left j 0 + service run j x ≡ (job_at jobs j).work

-- the ready jobs are those that are pending at x
pub record AreReady (level : Level) (tasks : List SporadicTask) (jobs : List Job) (run : List (Option ℕ)) (x : ℕ)
    (ready : List ℕ) : Type 0 where
  pub pending : (j : ℕ) → StandsIn ready j → Pending level tasks jobs run j x
  pub all : (j : ℕ) → Pending level tasks jobs run j x → StandsIn ready j

ready_are : (level : Level) (tasks : List SporadicTask) (jobs : List Job) (state : Ready) (run : List (Option ℕ))
    → AreReleases jobs state.releases.items → IsReady state → HaveCome state state.time → AreToCome state state.time
    → IsLeft jobs run state.time state.left.items
    → AreEnds level tasks jobs state.ends.items → state.time < state.soonest → state.time < 2 ^ 64 - 1
    → AreReady level tasks jobs run state.time state.ready
ready_are level tasks jobs state run by h come later lacks ends soon early = record {
  pending = λ j s.
      let c : HasCome state.releases.items state.released j = h.come j s in
      let l : c.0 < length state.releases.items = omega (arith, c.1, h.some_come) in
      let k : j < length jobs = omega (arith, c.2, by.in_jobs c.0 l) in
      record {
        is_job = k;
        released = omega (arith, come c.0 c.1, by.of_job c.0 l, ap (λ (z : ℕ). (job_at jobs z).release) c.2);
        unfinished = omega (arith, lacks j k, h.lacks j s);
        still_open = (ends.each j k).stays state.time (omega (arith, soon, h.soon j s));
      };
  all = λ j p.
      let e : (i : ℕ) × (i < length state.releases.items) × ((release_at state.releases.items i).place ≡ j)
      = by.every j p.is_job in
      h.all j
      (elim (cases_lt e.0 state.released) [
        | inl l ↦ (e.0, l, e.2)
        | inr m ↦
            absurd (omega
            (arith, later e.0 m e.1, by.of_job e.0 e.1, ap (λ (z : ℕ). (job_at jobs z).release) e.2, p.released))
      ])
      (omega (arith, lacks j p.is_job, p.unfinished))
      ((ends.each j p.is_job).closes state.time early p.still_open);
}

first_may : (level : Level) (before : Job → Job → Bool) (tasks : List SporadicTask) (jobs : List Job)
    (run : List (Option ℕ)) (x : ℕ) (ready : List ℕ) → AreReady level tasks jobs run x ready → (j : ℕ)
    → GoesFirst before jobs ready j → MayHold level before tasks jobs run x j
first_may level before tasks jobs run x ready are j f =
    record { pending = are.pending j f.stands; best = λ k p w. both_ways _ (f.unbeaten k (are.all k p)) w }

none_sooner : (level : Level) (before : Job → Job → Bool) (tasks : List SporadicTask) (jobs : List Job)
    (run : List (Option ℕ)) (x : ℕ) (ready : List ℕ) → AreReady level tasks jobs run x ready → (j : ℕ)
    → GoesFirst before jobs ready j → (k : ℕ) → k < j → MayHold level before tasks jobs run x k → ⊥
none_sooner level before tasks jobs run x ready are j f k l m =
    let b : (r : ℕ) × StandsIn ready r × (before (job_at jobs r) (job_at jobs k) ≡ true)
    = f.first k (are.all k m.pending) l in
    m.best b.0 (are.pending b.0 b.1) b.2

-- the entry of the run at the start of a span
served_entry : (level : Level) (before : Job → Job → Bool) (tasks : List SporadicTask) (jobs : List Job)
    (run : List (Option ℕ)) (x : ℕ) (ready : List ℕ) → AreReady level tasks jobs run x ready
    → (slot : Bool) (entry : Option ℕ) → IsServed before jobs ready slot entry
    → Entry level before tasks jobs run x slot entry
served_entry level before tasks jobs run x ready are false entry h =
    subst (Entry level before tasks jobs run x false) (sym h) (no_entry level before tasks jobs run x)
served_entry level before tasks jobs run x ready are true None h = record {
  no_slot = λ e. refl;
  idle = λ e q j p. let s : StandsIn ready j = are.all j p in omega (arith, h, s.1);
  held = λ j e. absurd (none_some None j refl e);
  first = λ j k e. absurd (none_some None j refl e);
}
served_entry level before tasks jobs run x ready are true (Some p) h = record {
  no_slot = λ e. absurd (true≢false e);
  idle = λ e q. absurd (none_some (Some p) p q refl);
  held =
      λ j e. subst (MayHold level before tasks jobs run x) (same_Some p j e)
      (first_may level before tasks jobs run x ready are p h);
  first =
      λ j k e l. none_sooner level before tasks jobs run x ready are p h k (omega (arith, l, same_Some p j e));
}

-- what the jobs lack after a span
left_more : (jobs : List Job) (run : List (Option ℕ)) (x k : ℕ) (left : List ℕ) (entry : Option ℕ) → length run ≡ x
    → IsLeft jobs run x left → ((p : ℕ) → entry ≡ Some p → (p < length left) × (k ≤ get_or left p 0))
    → IsLeft jobs (run ++ replicate k entry) (x + k) (left_after left entry k)
left_more jobs run x k left None l h some j lj = omega (arith, h j lj, service_span None j k x run l)
left_more jobs run x k left (Some p) l h some j lj = elim (cases_eq j p) [
  | inl e ↦
      omega (
        arith,
        h j lj,
        some p refl,
        service_span (Some p) j k x run l,
        cond-true {A = ℕ} (eqb p j) k 0 (eq-eqb p j (sym e)),
        ap (λ (z : ℕ). get_or (set left p (get_or left p 0 - k)) z 0) e,
        ap (λ (z : ℕ). get_or left z 0) e,
        get_or-set_same left p (get_or left p 0 - k) 0 (some p refl).0,
      )
  | inr ne ↦
      omega (
        arith,
        h j lj,
        service_span (Some p) j k x run l,
        cond-false {A = ℕ} (eqb p j) k 0 (ne_eqb p j (λ q. ne (sym q))),
        get_or-set_other left p j (get_or left p 0 - k) 0 ne,
      )
]

length_after : (left : List ℕ) (entry : Option ℕ) (k : ℕ) → length (left_after left entry k) ≡ length left
length_after left None k = refl
length_after left (Some p) k = length-set left p (get_or left p 0 - k)

-- what a scheduler keeps between two events
pub record Kept (level : Level) (before : Job → Job → Bool) (tasks : List SporadicTask) (jobs : List Job)
    (slots : List Bool) (run : List (Option ℕ)) (state : Ready) : Type 0 where
  pub run_so_far : FirstRunTo level before tasks jobs slots state.time run
  pub by_release : AreReleases jobs state.releases.items
  pub long : length state.left.items ≡ length jobs
  pub is_state : IsReady state
  pub come : HaveCome state state.time
  pub lacks : IsLeft jobs run state.time state.left.items
  pub ends : AreEnds level tasks jobs state.ends.items

-- the same of a level and an order
abbrev pub KeptOf : ReleasedLevel → (Job → Job → Bool) → List (Option ℕ) → Ready → Type 0
KeptOf level before run state =
    Kept (level_of level.keep) before (sporadic_tasks level.tasks.now) level.jobs.now
    (slots_of level.given.now level.slots) run state

-- before the first slot
pub kept_start : (level : Level) (before : Job → Job → Bool) (tasks : List SporadicTask) (jobs : List Job)
    (slots : List Bool) (state : Ready) → state.time ≡ 0 → AreReleases jobs state.releases.items → IsReady state
    → state.released ≡ 0 → state.left.items ≡ map (λ (j : Job). j.work) jobs → AreEnds level tasks jobs state.ends.items
    → Kept level before tasks jobs slots [] state
kept_start level before tasks jobs slots state start by h none full ends = record {
  run_so_far = record { long = sym start; each = λ x l. absurd (omega arith) };
  by_release = by;
  long = ap (λ (z : List ℕ). length z) full ∙ length-map jobs (λ (a : Job). a.work);
  is_state = h;
  come = λ i l. absurd (omega arith);
  lacks =
      λ j l. omega (
        arith,
        ap (λ (z : List ℕ). get_or z j 0) full,
        get_or-map (λ (a : Job). a.work) jobs j default_job 0 l,
        sum_below-zero (λ y. cond (holds (get_or [] y None) j) 1 0),
        ap (service [] j) start,
      );
  ends = ends;
}

-- a state when the jobs have come that are released by its moment, and those are given up that end
-- by it
pub record IsCurrent (state : Ready) : Type 0 where
  pub is_state : IsReady state
  pub come : HaveCome state state.time
  pub to_come : AreToCome state state.time
  pub none_over : state.time < state.soonest
  pub early : state.time < 2 ^ 64 - 1

-- what serves a span
pub record Serves (before : Job → Job → Bool) (jobs : List Job) (came : Ready) (span : Span) (after : Ready) : Type 0
  where
    pub from : span.from ≡ came.time
    pub some : came.time < span.until
    pub served : IsServed before jobs came.ready true span.job
    pub steady : IsSteady came span.until
    pub enough : (p : ℕ) → span.job ≡ Some p → span.until - came.time ≤ get_or came.left.items p 0
    pub left : after.left.items ≡ left_after came.left.items span.job (span.until - came.time)
    pub is_state : IsReady after
    pub time : after.time ≡ span.until
    pub releases : after.releases.items ≡ came.releases.items
    pub released : after.released ≡ came.released
    pub ends : after.ends.items ≡ came.ends.items

pub served_stands : (before : Job → Job → Bool) (jobs : List Job) (ready : List ℕ) (slot : Bool) (entry : Option ℕ)
    (p : ℕ) → IsServed before jobs ready slot entry → entry ≡ Some p → StandsIn ready p
served_stands before jobs ready false entry p v e = absurd (none_some entry p v e)
served_stands before jobs ready true None p v e = absurd (none_some None p refl e)
served_stands before jobs ready true (Some j) p v e = subst (StandsIn ready) (same_Some j p e) v.stands

-- the slots from one moment up to another are given
abbrev pub AreGiven : List Bool → ℕ → ℕ → Type 0
AreGiven slots from until = (x : ℕ) → from ≤ x → x < until → get_or slots x false ≡ true

-- nothing changes within a span
steady_span : (level : Level) (before : Job → Job → Bool) (tasks : List SporadicTask) (jobs : List Job)
    (windows : List Window) (n : ℕ) (run : List (Option ℕ)) (state : Ready) (span : Span) (after : Ready)
    → AreReleases jobs state.releases.items → AreEnds level tasks jobs state.ends.items
    → IsLeft jobs run state.time state.left.items → length state.left.items ≡ length jobs → IsCurrent state
    → AreReady level tasks jobs run state.time state.ready
    → AreGiven (slots_of windows n) state.time span.until → Serves before jobs state span after
    → Steady level tasks jobs (slots_of windows n) run state.time (span.until - state.time) true span.job
steady_span level before tasks jobs windows n run state span after by ends lacks long now are same v = record {
  same_slots = λ x a b. same x a (omega (arith, v.some));
  releases = λ j l.
      let e : (i : ℕ) × (i < length state.releases.items) × ((release_at state.releases.items i).place ≡ j)
      = by.every j l in
      let rel : (release_at state.releases.items e.0).release ≡ (job_at jobs j).release
      = by.of_job e.0 e.1 ∙ ap (λ (z : ℕ). (job_at jobs z).release) e.2 in
      elim (cases_lt e.0 state.released) [
        | inl m ↦ inl (omega (arith, now.come e.0 m))
        | inr m ↦
            inr (omega (
              arith,
              v.some,
              v.steady.none_comes (omega (arith, e.1)),
              now.is_state.in_order state.released e.0 m e.1,
            ))
      ];
  still_open = λ j x p l.
      let s : StandsIn state.ready j = are.all j p in
      (ends.each j p.is_job).stays x (omega (arith, v.some, v.steady.none_ends, now.is_state.soon j s));
  enough = λ j e.
      let s : StandsIn state.ready j = served_stands before jobs state.ready true span.job j v.served e in
      omega (arith, v.enough j e, lacks j (are.pending j s).is_job);
}

span_more : (level : Level) (before : Job → Job → Bool) (tasks : List SporadicTask) (jobs : List Job)
    (windows : List Window) (n : ℕ) (run : List (Option ℕ)) (state : Ready) (span : Span) (after : Ready)
    → FirstRunTo level before tasks jobs (slots_of windows n) state.time run → AreReleases jobs state.releases.items
    → AreEnds level tasks jobs state.ends.items → IsLeft jobs run state.time state.left.items
    → length state.left.items ≡ length jobs → IsCurrent state
    → AreGiven (slots_of windows n) state.time span.until → Serves before jobs state span after
    → FirstRunTo level before tasks jobs (slots_of windows n) (state.time + (span.until - state.time))
    (run ++ replicate (span.until - state.time) span.job)
span_more level before tasks jobs windows n run state span after f by ends lacks long now same v =
    let are : AreReady level tasks jobs run state.time state.ready
    = ready_are level tasks jobs state run by now.is_state now.come now.to_come lacks ends now.none_over
    now.early in
    span_run level before tasks jobs (slots_of windows n) true span.job (span.until - state.time) state.time run f
    (steady_span level before tasks jobs windows n run state span after by ends lacks long now are same v)
    (served_entry level before tasks jobs run state.time state.ready are true span.job v.served)

-- after one span more: `came` is the state when the jobs have come, and `after` the state when one
-- is served
pub kept_more : (level : Level) (before : Job → Job → Bool) (tasks : List SporadicTask) (jobs : List Job)
    (windows : List Window) (n : ℕ) (run more : List (Option ℕ)) (state came after : Ready) (span : Span)
    → Kept level before tasks jobs (slots_of windows n) run state
    → IsCurrent came → came.time ≡ state.time → came.releases.items ≡ state.releases.items
    → came.left.items ≡ state.left.items → came.ends.items ≡ state.ends.items
    → AreGiven (slots_of windows n) state.time span.until → Serves before jobs came span after
    → more ≡ run ++ entries_of span → Kept level before tasks jobs (slots_of windows n) more after
kept_more level before tasks jobs windows n run more state came after span k now time kept same_left same_ends same v
    e =
    let by : AreReleases jobs came.releases.items = subst (AreReleases jobs) (sym kept) k.by_release in
    let lacks : IsLeft jobs run came.time came.left.items
    = subst (λ (z : ℕ). IsLeft jobs run z came.left.items) (sym time)
    (subst (IsLeft jobs run state.time) (sym same_left) k.lacks) in
    let ends : AreEnds level tasks jobs came.ends.items = subst (AreEnds level tasks jobs) (sym same_ends) k.ends in
    let long : length came.left.items ≡ length jobs = ap (λ (z : List ℕ). length z) same_left ∙ k.long in
    let so_far : FirstRunTo level before tasks jobs (slots_of windows n) came.time run
    = subst (λ (z : ℕ). FirstRunTo level before tasks jobs (slots_of windows n) z run) (sym time) k.run_so_far in
    let given : AreGiven (slots_of windows n) came.time span.until
    = subst (λ (z : ℕ). AreGiven (slots_of windows n) z span.until) (sym time) same in
    let is : run ++ replicate (span.until - came.time) span.job ≡ more
    = ap (λ (z : ℕ). run ++ replicate (span.until - z) span.job) (sym v.from) ∙ sym e in
    let end : came.time + (span.until - came.time) ≡ after.time = omega (arith, v.some, v.time) in
    let first : FirstRunTo level before tasks jobs (slots_of windows n) (came.time + (span.until - came.time))
    (run ++ replicate (span.until - came.time) span.job)
    = span_more level before tasks jobs windows n run came span after so_far by ends lacks long now given v in
    let left : IsLeft jobs (run ++ replicate (span.until - came.time) span.job) (came.time + (span.until - came.time))
    (left_after came.left.items span.job (span.until - came.time))
    = left_more jobs run came.time (span.until - came.time) came.left.items span.job so_far.long lacks (λ p q. (
      ready_in came.releases.items came.released came.keys.all.items came.left.items came.ends.items came.ready
          came.soonest came.time
          now.is_state p (served_stands before jobs came.ready true span.job p v.served q),
      v.enough p q,
    )) in
    record {
      run_so_far =
          subst (λ (z : ℕ). FirstRunTo level before tasks jobs (slots_of windows n) z more) end
          (subst (FirstRunTo level before tasks jobs (slots_of windows n) (came.time + (span.until - came.time))) is
          first);
      by_release = subst (AreReleases jobs) (sym v.releases) by;
      long =
          ap (λ (z : List ℕ). length z) v.left
          ∙ (length_after came.left.items span.job (span.until - came.time) ∙ long);
      is_state = v.is_state;
      come =
          λ i l. omega (
            arith,
            v.some,
            v.time,
            now.come i (omega (arith, v.released)),
            ap (λ (a : List Release). (release_at a i).release) v.releases,
          );
      lacks =
          subst (IsLeft jobs more after.time) (sym v.left) (subst
          (λ (z : ℕ). IsLeft jobs more z (left_after came.left.items span.job (span.until - came.time))) end
          (subst (λ (r : List (Option ℕ)). IsLeft jobs r (came.time + (span.until - came.time))
          (left_after came.left.items span.job (span.until - came.time))) is left));
      ends = subst (AreEnds level tasks jobs) (sym v.ends) ends;
    }

-- after slots that are not given
pub kept_gap : (level : Level) (before : Job → Job → Bool) (tasks : List SporadicTask) (jobs : List Job)
    (slots : List Bool) (run more : List (Option ℕ)) (state after : Ready) (until : ℕ)
    → Kept level before tasks jobs slots run state
    → ((x : ℕ) → state.time ≤ x → x < until → get_or slots x false ≡ false)
    → after ≡ record state { time = after.time } → after.time ≡ state.time + (until - state.time) → IsReady after
    → more ≡ run ++ replicate (until - state.time) None → Kept level before tasks jobs slots more after
kept_gap level before tasks jobs slots run more state after until k none same time is e =
    let releases : after.releases.items ≡ state.releases.items = ap (λ (s : Ready). s.releases.items) same in
    let left : after.left.items ≡ state.left.items = ap (λ (s : Ready). s.left.items) same in
    let d : ℕ = until - state.time in
    let first : FirstRunTo level before tasks jobs slots (state.time + d) (run ++ replicate d None)
    = gap_run level before tasks jobs slots d state.time run k.run_so_far (λ x a b. none x a (omega arith)) in
    let lacks : IsLeft jobs (run ++ replicate d None) (state.time + d) state.left.items
    = left_more jobs run state.time d state.left.items None k.run_so_far.long k.lacks
    (λ p q. absurd (none_some None p refl q)) in
    record {
      run_so_far =
          subst (λ (z : ℕ). FirstRunTo level before tasks jobs slots z more) (sym time)
          (subst (FirstRunTo level before tasks jobs slots (state.time + d)) (sym e) first);
      by_release = subst (AreReleases jobs) (sym releases) k.by_release;
      long = ap (λ (z : List ℕ). length z) left ∙ k.long;
      is_state = is;
      come =
          λ i l. omega (
            arith,
            time,
            k.come i (omega (arith, ap (λ (s : Ready). s.released) same)),
            ap (λ (a : List Release). (release_at a i).release) releases,
          );
      lacks =
          subst (λ (z : List ℕ). IsLeft jobs more after.time z) (sym left)
          (subst (λ (z : ℕ). IsLeft jobs more z state.left.items) (sym time)
          (subst (λ (r : List (Option ℕ)). IsLeft jobs r (state.time + d) state.left.items) (sym e) lacks));
      ends = subst (AreEnds level tasks jobs) (sym (ap (λ (s : Ready). s.ends.items) same)) k.ends;
    }
