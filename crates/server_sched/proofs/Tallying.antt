-- The late jobs of a level of servers, as the run goes on and as each is found.
use Rattle.std.proofs.Common.{◌≡◌, ◌≢◌, ◌⊎◌, ℕ, zero, suc, ◌+◌, ◌-◌, ◌<◌, ◌≤◌, ◌&&◌, ◌||◌, nat_lt, nat_le, min, Bool, true, false, cond, List, ◌++◌, length, Option, Some, None, MatchOption, IfSome, eqb, ltb, refl, sym, ◌∙◌, ap, arith, subst, inl, inr, lt-ltb, le-ltb, add-one}
use Rattle.std.proofs.lemmas.Bool.Decides.{nat_tests}
use Rattle.std.proofs.lemmas.Bool.{cases_eq, cases_lt, both_ways}
use Rattle.slot_model.specs.declared.job.Job.{Job}
use Rattle.slot_model.specs.declared.miss.Miss.{Miss}
use Rattle.slot_model.specs.declared.sched.Sched.{Sched}
use Rattle.slot_model.specs.Slots.{count_below}
use Rattle.slot_model.specs.Task.{SporadicTask, AreConstrained, task_at, job_at, deadline_of}
use Rattle.slot_model.specs.Release.{synchronous}
use Rattle.slot_model.specs.Run.{service}
use Rattle.slot_model.specs.Miss.{is_missed, miss_of, Missed, IsFirstMiss}
use Rattle.slot_model.proofs.Sums.{sum_below-add, sum_below-same, sum_below_one}
use Rattle.slot_model.proofs.Counts.{count_same}
use Rattle.slot_model.proofs.FirstRuns.{service_same}
use Rattle.slot_model.proofs.MissedJobs.{none_passes, missed_where_tested, tested_where_missed, none_where_zero}
use Rattle.slot_model.proofs.Synchronous.{early_at-le, legal_synchronous, synchronous_early, synchronous_whole}
use Rattle.server_sched.specs.declared.serving.Server.{Server}
use Rattle.server_sched.specs.declared.tally.Late.{Late}
use Rattle.server_sched.specs.inner.Serving.{AreServerTasks, server_at, HasJob, AtRest, is_late, IsFirstLate, Tallies}
use Rattle.server_sched.proofs.Releasing.{later_jobs, more_moments}

-- one more that passes
count_more : (f g : ℕ → Bool) (n j : ℕ) → j < n → f j ≡ false → g j ≡ true → ((k : ℕ) → k < n → k ≢ j → f k ≡ g k)
    → count_below g n ≡ count_below f n + 1
count_more f g n j l e t h =
    omega (
      arith,
      sum_below-same (λ k. cond {A = ℕ} (g k) 1 0) (λ k. cond {A = ℕ} (f k) 1 0 + cond (eqb j k) 1 0) n
          (λ k m. elim (cases_eq k j) [
            | inl q ↦ joins (f k) (g k) j k (ap f q ∙ e) (ap g q ∙ t) (sym q)
            | inr ne ↦ keeps (f k) (g k) j k (h k m ne) (λ q. ne (sym q))
          ]),
      sum_below-add (λ k. cond {A = ℕ} (f k) 1 0) (λ k. cond (eqb j k) 1 0) n,
      (sum_below_one (λ k. 1) j n).0 l,
    )
  where
    joins : (a b : Bool) (j k : ℕ) → a ≡ false → b ≡ true → j ≡ k
        → cond {A = ℕ} b 1 0 ≡ cond {A = ℕ} a 1 0 + cond (eqb j k) 1 0
    joins a b j k p q r = grind (arith, nat_tests)

    keeps : (a b : Bool) (j k : ℕ) → a ≡ b → j ≢ k → cond {A = ℕ} b 1 0 ≡ cond {A = ℕ} a 1 0 + cond (eqb j k) 1 0
    keeps a b j k p r = grind (arith, nat_tests)

pub tallies_same : (T : List SporadicTask) (jobs : List Job) (run : List (Option ℕ)) (late now : ℕ → Bool) (missed : ℕ)
    (first : Option Late) → ((k : ℕ) → k < length jobs → late k ≡ now k) → Tallies T jobs run late missed first
    → Tallies T jobs run now missed first
tallies_same T jobs run late now missed None same h =
    record { count = h.count ∙ count_same late now (length jobs) same; some = h.some; none = h.none }
tallies_same T jobs run late now missed (Some first) same h = record {
  count = h.count ∙ count_same late now (length jobs) same;
  some =
      record {
        inside = h.some.inside;
        is_late = sym (same first.place h.some.inside) ∙ h.some.is_late;
        told = h.some.told;
        least = λ k l t. h.some.least k l (same k l ∙ t);
      };
  none = h.none;
}

-- one job more that is late
abbrev Leads : ℕ → ℕ → ℕ → ℕ → Type 0
Leads d p e q = (d < e) ⊎ ((d ≡ e) × (p ≤ q))

-- which is kept of the first so far and one that is found
abbrev Kept : Option Late → Late → Late → Type 0
Kept first found new =
    MatchOption first (new ≡ found) (λ old.
    (Leads old.miss.deadline old.place found.miss.deadline found.place → new ≡ old)
    × ((found.miss.deadline < old.miss.deadline)
    ⊎ ((found.miss.deadline ≡ old.miss.deadline) × (found.place < old.place)) → new ≡ found))

first_of : (T : List SporadicTask) (jobs : List Job) (run : List (Option ℕ)) (late now : ℕ → Bool) (j : ℕ)
    (first : Option Late) (found new : Late) → j < length jobs → now j ≡ true
    → ((k : ℕ) → k < length jobs → k ≢ j → late k ≡ now k) → found.place ≡ j → found.miss ≡ miss_of T jobs run j
    → ((k : ℕ) → k < length jobs → late k ≡ true → first ≡ None → ⊥) → IfSome first (IsFirstLate T jobs run late)
    → Kept first found new → IsFirstLate T jobs run now new
first_of T jobs run late now j None found new l t same place told none h e = grind arith
first_of T jobs run late now j (Some old) found new l t same place told none h e = grind arith

pub tallies_more : (T : List SporadicTask) (jobs : List Job) (run : List (Option ℕ)) (late now : ℕ → Bool)
    (j missed : ℕ) (first : Option Late) (found new : Late) → j < length jobs → late j ≡ false → now j ≡ true
    → ((k : ℕ) → k < length jobs → k ≢ j → late k ≡ now k) → found.place ≡ j → found.miss ≡ miss_of T jobs run j
    → Kept first found new
    → Tallies T jobs run late missed first → Tallies T jobs run now (missed + 1) (Some new)
tallies_more T jobs run late now j missed first found new l f t same place told e h = record {
  count = omega (arith, h.count, count_more late now (length jobs) j l f t same);
  some =
      first_of T jobs run late now j first found new l t same place told
      (λ k m p q. both_ways _ (none_passes late (length jobs) k (omega (arith, h.count, h.none q)) m) p) h.some e;
  none = λ q. absurd (cc);
}

-- lateness once one task more, one moment more or a longer run is looked at
same_late : (d x t p : ℕ) (short : Bool) → (d ≡ x → t ≡ p → short ≡ false)
    → ((ltb d x || (eqb d x && ltb t p)) && short) ≡ ((ltb d x || (eqb d x && ltb t (p + 1))) && short)
same_late d x t p short h = grind (arith, nat_tests)

not_yet : (d x t p : ℕ) (short : Bool) → d ≡ x → t ≡ p → ((ltb d x || (eqb d x && ltb t p)) && short) ≡ false
not_yet d x t p short e f = grind (arith, nat_tests)

now_late : (d x t p : ℕ) (short : Bool) → d ≡ x → t ≡ p → short ≡ true
    → ((ltb d x || (eqb d x && ltb t (p + 1))) && short) ≡ true
now_late d x t p short e f g = grind (arith, nat_tests)

none_of : (d x t : ℕ) → x ≤ d → (ltb d x || (eqb d x && ltb t 0)) ≡ false
none_of d x t l = grind (arith, nat_tests)

same_by_next : (d x next t p : ℕ) → t < p → x < next → (d < next → d ≤ x)
    → (ltb d x || (eqb d x && ltb t p)) ≡ (ltb d next || (eqb d next && ltb t 0))
same_by_next d x next t p l m before = grind (arith, nat_tests)

longer_late : (d x t : ℕ) (short now : Bool) → (d < x → short ≡ now)
    → ((ltb d x || (eqb d x && ltb t 0)) && short) ≡ ((ltb d x || (eqb d x && ltb t 0)) && now)
longer_late d x t short now h = grind (arith, nat_tests)

late_before : (d x t : ℕ) (short : Bool) → ((ltb d x || (eqb d x && ltb t 0)) && short) ≡ true → d < x
late_before d x t short e = grind (arith, nat_tests)

pub none_late : (T : List SporadicTask) (jobs : List Job) (run : List (Option ℕ)) (x k : ℕ)
    → x ≤ deadline_of T (job_at jobs k) → is_late T jobs run x 0 k ≡ false
none_late T jobs run x k l =
    ap (λ (b : Bool). b && nat_lt (service run k (deadline_of T (job_at jobs k))) (job_at jobs k).work)
    (none_of (deadline_of T (job_at jobs k)) x (job_at jobs k).task l)

abbrev miss_with : ℕ → ℕ → ℕ → ℕ → ℕ → Miss
miss_with task release deadline got work =
    record { task = task; release = release; deadline = deadline; got = got; work = work }

same_miss : (a b : Miss) → a.task ≡ b.task → a.release ≡ b.release → a.deadline ≡ b.deadline → a.got ≡ b.got
    → a.work ≡ b.work → a ≡ b
same_miss a b p q r s t =
    ap (λ (z : ℕ). miss_with z a.release a.deadline a.got a.work) p
    ∙ ap (λ (z : ℕ). miss_with b.task z a.deadline a.got a.work) q
    ∙ ap (λ (z : ℕ). miss_with b.task b.release z a.got a.work) r
    ∙ ap (λ (z : ℕ). miss_with b.task b.release b.deadline z a.work) s
    ∙ ap (miss_with b.task b.release b.deadline b.got) t

-- the jobs of a level of servers over n slots, and a run of them
module _ (sched : Sched) (T : List SporadicTask) (fits : AreConstrained T) (are : AreServerTasks T) (n : ℕ)
    (run : List (Option ℕ)) where
  abbrev jobs : List Job
  jobs = synchronous T 0 n

  abbrev due_of : ℕ → ℕ
  due_of j = deadline_of T (job_at jobs j)

  abbrev is_short : ℕ → Bool
  is_short j = nat_lt (service run j (due_of j)) (job_at jobs j).work

  -- what is tallied of the jobs due before x, and of the first p tasks at x
  abbrev Tallied : ℕ → ℕ → ℕ → Option Late → Type 0
  Tallied x p = Tallies T jobs run (is_late T jobs run x p)

  -- each is due a period after its release
  due_after : (j : ℕ) → j < length jobs
      → (due_of j ≡ (job_at jobs j).release + (task_at T (job_at jobs j).task).period)
      × ((job_at jobs j).release < due_of j)
  due_after j l =
      let named = (legal_synchronous T fits 0 n).named j l in
      let task = fits (job_at jobs j).task named in
      let server = are (job_at jobs j).task named in
      let early : (job_at jobs j).early ≡ 0
      = omega (
        arith,
        synchronous_early T 0 n j l,
        early_at-le ((job_at jobs j).release - 0) (task_at T (job_at jobs j).task).jitter,
        server.prompt,
      ) in
      let due : due_of j ≡ (job_at jobs j).release + (task_at T (job_at jobs j).task).period
      = omega (arith, early, server.to_period) in
      (due, omega (arith, due, task.works, task.in_deadline, task.in_period))

  -- at rest, what is due before the next release is over
  settled : (x released next : ℕ) (servers : List Server) → AtRest sched T n run x released next servers → (j : ℕ)
      → j < length jobs → due_of j < next → due_of j ≤ x
  settled x released next servers h j l d = elim (cases_lt j released) [
    | inl come ↦ elim (h.come j come) [
      | inl over ↦ over.0
      | inr has ↦
          absurd
          (omega (arith, d, has.due, (h.to_come (job_at jobs j).task ((legal_synchronous T fits 0 n).named j l)).from))
    ]
    | inr later ↦ absurd (elim (cases_lt n next) [
      | inl m ↦
          omega (
            arith,
            l,
            later,
            h.counted,
            ap (λ (z : ℕ). length (synchronous T 0 z)) (let e : min next n ≡ n = omega arith in e),
          )
      | inr m ↦
          omega (arith, d, (due_after j l).1, later_jobs T (min next n) n j (omega (arith, later, h.counted)) l)
    ])
  ]

  -- a job that is due at the moment of rest is that of its server
  due_now : (x released : ℕ) (servers : List Server) → x ≤ n → AtRest sched T n run x released x servers → (j : ℕ)
      → j < length jobs → due_of j ≡ x → HasJob T jobs run x servers j
  due_now x released servers m h j l d = elim (cases_lt j released) [
    | inl come ↦ elim (h.come j come) [ inl over ↦ absurd (omega (arith, d, over.1)) | inr has ↦ has ]
    | inr later ↦
        absurd
        (omega (arith, d, (due_after j l).1, later_jobs T (min x n) n j (omega (arith, later, h.counted)) l))
  ]

  -- one server more whose job is looked at: in time, or late
  pub one_in_time : (x released : ℕ) (servers : List Server) → x ≤ n → AtRest sched T n run x released x servers
      → (i missed : ℕ) (first : Option Late) → ((server_at servers i).next ≡ x → (server_at servers i).left ≡ 0)
      → Tallied x i missed first → Tallied x (i + 1) missed first
  one_in_time x released servers m h i missed first none t =
      tallies_same T jobs run (is_late T jobs run x i) (is_late T jobs run x (i + 1)) missed first
      (λ k l. same_late (due_of k) x (job_at jobs k).task i (is_short k) (λ e q.
      let has = due_now x released servers m h k l e in
      let done : (server_at servers i).left ≡ 0
      = none (ap (λ (z : ℕ). (server_at servers z).next) (sym q) ∙ (has.due ∙ e)) in
      le-ltb (service run k (due_of k)) (job_at jobs k).work
      (omega (arith, has.lacks, done, ap (λ (z : ℕ). (server_at servers z).left) q, ap (service run k) e)))) t

  pub one_late : (x released : ℕ) (servers : List Server) → x ≤ n → AtRest sched T n run x released x servers
      → (i missed : ℕ) (first : Option Late) (found new : Late) → i < length T → (server_at servers i).next ≡ x
      → 0 < (server_at servers i).left → found.place ≡ (server_at servers i).place → found.miss.task ≡ i
      → found.miss.release ≡ x - (task_at T i).period → found.miss.deadline ≡ x
      → found.miss.got ≡ (task_at T i).work - (server_at servers i).left → found.miss.work ≡ (task_at T i).work
      → Kept first found new → Tallied x i missed first → Tallied x (i + 1) (missed + 1) (Some new)
  one_late x released servers m h i missed first found new li next some place of_task at_release at_deadline has_got
      of_work e t =
      let j : ℕ = (server_at servers i).place in
      let a = h.active i li some in
      let is_job : j < length jobs = omega (arith, a.come, h.counted, more_moments T (min x n) n (omega arith)) in
      let due : due_of j ≡ x = sym a.job.due ∙ (ap (λ (z : ℕ). (server_at servers z).next) a.own ∙ next) in
      let lacks : (server_at servers i).left + service run j x ≡ (job_at jobs j).work
      = omega (arith, a.job.lacks, ap (λ (z : ℕ). (server_at servers z).left) a.own) in
      let whole : (job_at jobs j).work ≡ (task_at T i).work
      = synchronous_whole T 0 n j is_job ∙ ap (λ (z : ℕ). (task_at T z).work) a.own in
      let after : due_of j ≡ (job_at jobs j).release + (task_at T i).period
      = (due_after j is_job).0 ∙ ap (λ (z : ℕ). (job_at jobs j).release + (task_at T z).period) a.own in
      let told : found.miss ≡ miss_of T jobs run j
      = same_miss found.miss (miss_of T jobs run j) (of_task ∙ sym a.own) (omega (arith, at_release, due, after))
      (at_deadline ∙ sym due) (omega (arith, has_got, lacks, whole, ap (service run j) due))
      (of_work ∙ sym whole) in
      tallies_more T jobs run (is_late T jobs run x i) (is_late T jobs run x (i + 1)) j missed first found new is_job
      (not_yet (due_of j) x (job_at jobs j).task i (is_short j) due a.own)
      (now_late (due_of j) x (job_at jobs j).task i (is_short j) due a.own
      (lt-ltb _ _ (omega (arith, lacks, some, ap (service run j) due))))
      (λ k l ne. same_late (due_of k) x (job_at jobs k).task i (is_short k)
      (λ d q. absurd (ne (sym (due_now x released servers m h k l d).there
      ∙ ap (λ (z : ℕ). (server_at servers z).place) q))))
      place told e t

  -- where no job lacks slots, all are in time
  pub all_in_time : (x released : ℕ) (servers : List Server) → x ≤ n → AtRest sched T n run x released x servers
      → ((i : ℕ) → i < length servers → (server_at servers i).left ≡ 0) → (missed : ℕ) (first : Option Late) (p : ℕ)
      → p ≤ length T → Tallied x 0 missed first → Tallied x p missed first
  all_in_time x released servers m h none missed first zero l t = t
  all_in_time x released servers m h none missed first (suc p) l t =
      subst (λ (q : ℕ). Tallied x q missed first) (add-one p) (one_in_time x released servers m h p missed first
      (λ e. none p (omega (arith, l, h.one_each)))
      (all_in_time x released servers m h none missed first p (omega arith) t))

  -- after the last server, up to the next release, and back
  late_by_next : (x released next : ℕ) (servers : List Server) → x < next
      → AtRest sched T n run x released next servers → (k : ℕ) → k < length jobs
      → is_late T jobs run x (length T) k ≡ is_late T jobs run next 0 k
  late_by_next x released next servers m h k l =
      ap (λ (b : Bool). b && is_short k) (same_by_next (due_of k) x next (job_at jobs k).task (length T)
      ((legal_synchronous T fits 0 n).named k l) m (settled x released next servers h k l))

  pub next_late : (x released next : ℕ) (servers : List Server) → x < next
      → AtRest sched T n run x released next servers → (missed : ℕ) (first : Option Late)
      → Tallied x (length T) missed first → Tallied next 0 missed first
  next_late x released next servers m h missed first t =
      tallies_same T jobs run (is_late T jobs run x (length T)) (is_late T jobs run next 0) missed first
      (late_by_next x released next servers m h) t

  pub rest_late : (x released next : ℕ) (servers : List Server) → x < next
      → AtRest sched T n run x released next servers → (missed : ℕ) (first : Option Late)
      → Tallied next 0 missed first → Tallied x (length T) missed first
  rest_late x released next servers m h missed first t =
      tallies_same T jobs run (is_late T jobs run next 0) (is_late T jobs run x (length T)) missed first
      (λ k l. sym (late_by_next x released next servers m h k l)) t

  -- as the run goes on up to there
  pub tallies_longer : (x released next : ℕ) (servers : List Server) → length run ≡ x
      → AtRest sched T n run x released next servers → (more : List (Option ℕ)) (missed : ℕ) (first : Option Late)
      → Tallied next 0 missed first → Tallies T jobs (run ++ more) (is_late T jobs (run ++ more) next 0) missed first
  tallies_longer x released next servers long h more missed first t =
      retold first (tallies_same T jobs run (is_late T jobs run next 0) (is_late T jobs (run ++ more) next 0) missed
      first (λ k l. longer_late (due_of k) next (job_at jobs k).task (is_short k)
      (nat_lt (service (run ++ more) k (due_of k)) (job_at jobs k).work)
      (λ d. ap (λ (s : ℕ). nat_lt s (job_at jobs k).work) (sym (service_same run more k (due_of k)
      (omega (arith, long, settled x released next servers h k l d)))))) t)
    where
      retold : (o : Option Late) → Tallies T jobs run (is_late T jobs (run ++ more) next 0) missed o
          → Tallies T jobs (run ++ more) (is_late T jobs (run ++ more) next 0) missed o
      retold None h2 = record { count = h2.count; some = h2.some; none = h2.none }
      retold (Some late) h2 = record {
        count = h2.count;
        some = record {
          inside = h2.some.inside;
          is_late = h2.some.is_late;
          told =
              h2.some.told
              ∙ ap (λ (s : ℕ). record (miss_of T jobs run late.place) { got = s })
              (sym (service_same run more late.place (due_of late.place) (omega (
                arith,
                long,
                settled x released next servers h late.place h2.some.inside (late_before _ _ _ _ h2.some.is_late),
              ))));
          least = h2.some.least;
        };
        none = h2.none;
      }

-- at the end
pub all_late : (T : List SporadicTask) (jobs : List Job) (run : List (Option ℕ)) (n p : ℕ) (missed : ℕ)
    (first : Option Late) → length run ≡ n → ((k : ℕ) → k < length jobs → (job_at jobs k).task < p)
    → Tallies T jobs run (is_late T jobs run n p) missed first → Tallies T jobs run (is_missed T jobs run) missed first
all_late T jobs run n p missed first long named t =
    tallies_same T jobs run (is_late T jobs run n p) (is_missed T jobs run) missed first
    (λ k l. ap (λ (b : Bool). b && nat_lt (service run k (deadline_of T (job_at jobs k))) (job_at jobs k).work)
    (whole (deadline_of T (job_at jobs k)) (job_at jobs k).task (named k l))) t
  where
    whole : (d t : ℕ) → t < p → (ltb d n || (eqb d n && ltb t p)) ≡ nat_le d (length run)
    whole d t l = grind (arith, nat_tests, long)

pub first_missed : (T : List SporadicTask) (jobs : List Job) (run : List (Option ℕ)) (missed : ℕ) (late : Late)
    → Tallies T jobs run (is_missed T jobs run) missed (Some late) → IsFirstMiss T jobs run (Some late.miss)
first_missed T jobs run missed late h =
    let place : ℕ = late.place in
    let of : (k : ℕ) → Missed T jobs run k
    → (deadline_of T (job_at jobs place) < deadline_of T (job_at jobs k))
    ⊎ ((deadline_of T (job_at jobs place) ≡ deadline_of T (job_at jobs k)) × (place ≤ k))
    = λ k m. h.some.least k m.is_job (tested_where_missed T jobs run k m) in (
      place,
      record {
        missed = missed_where_tested T jobs run place h.some.is_late;
        least = λ k m. at_most (of k m);
        first = λ k l m e. elim (of k m) [ inl a ↦ omega (arith, a, e) | inr b ↦ omega (arith, b.1, l) ];
      },
      h.some.told,
    )
  where
    at_most : {d e p q : ℕ} → (d < e) ⊎ ((d ≡ e) × (p ≤ q)) → d ≤ e
    at_most (inl a) = omega arith
    at_most (inr b) = omega (arith, b.0)

pub none_missed : (T : List SporadicTask) (jobs : List Job) (run : List (Option ℕ)) (missed : ℕ)
    → Tallies T jobs run (is_missed T jobs run) missed None → IsFirstMiss T jobs run None
none_missed T jobs run missed h = none_where_zero T jobs run (sym h.count ∙ h.none refl)
