-- The servers that are due at a moment release their next jobs, one after the other.
use Rattle.std.proofs.Common.{◌≡◌, ◌≢◌, ℕ, ◌+◌, ◌-◌, ◌<◌, ◌≤◌, ◌^◌, ◌==◌, min, Bool, true, false, if◌then◌else◌, List, length, set, Option, refl, sym, ◌∙◌, ap, arith, subst, inl, inr, length-set, get_or-set_same, get_or-set_other}
use Rattle.std.proofs.lemmas.Bool.{cases_eq}
use Rattle.slot_model.specs.declared.job.Job.{Job}
use Rattle.slot_model.specs.declared.sched.Sched.{Sched}
use Rattle.slot_model.specs.Task.{SporadicTask, AreConstrained, task_at, job_at, deadline_of}
use Rattle.slot_model.specs.Release.{releases_now, release_of, releases_at, synchronous}
use Rattle.slot_model.specs.Miss.{HoldsReleased}
use Rattle.slot_model.proofs.Synchronous.{early_at-le}
use Rattle.slot_model.proofs.MissedJobs.{service-before_release}
use Rattle.release_pattern.specs.Due.{IsNext, NoneRelease}
use Rattle.release_pattern.proofs.Moments.{one_waits, released_next, up_to_next}
use Rattle.release_pattern.proofs.Dues.{later}
use Rattle.server_sched.specs.declared.serving.Server.{Server}
use Rattle.server_sched.specs.inner.Serving.{IsServerTask, AreServerTasks, server_at, no_server, IsKeyed, HasJob, IsActive, AtMoment, AtRest}
use Rattle.server_sched.proofs.Releasing.{come_by, come_more, comes_at}

-- a server's job as it is released
none_early : (b : Bool) (jitter : ℕ) → jitter ≡ 0 → (if b then jitter else 0) ≡ 0
none_early true jitter e = e
none_early false jitter e = refl

record IsNew (T : List SporadicTask) (x p : ℕ) (job : Job) : Type 0 where
  task : job.task ≡ p
  release : job.release ≡ x
  work : job.work ≡ (task_at T p).work
  due : deadline_of T job ≡ x + (task_at T p).period

is_new : (T : List SporadicTask) (x p : ℕ) → IsServerTask (task_at T p) → (job : Job) → job ≡ release_of T 0 x p
    → IsNew T x p job
is_new T x p is job e =
    let early : job.early ≡ 0 = ap (λ (j : Job). j.early) e ∙ none_early (x == 0) (task_at T p).jitter is.prompt in
    let task : job.task ≡ p = ap (λ (j : Job). j.task) e in
    let release : job.release ≡ x = ap (λ (j : Job). j.release) e ∙ (let z : 0 + x ≡ x = omega arith in z) in
    record {
      task = task;
      release = release;
      work = ap (λ (j : Job). j.work) e;
      due = omega (arith, early, release, is.to_period, ap (λ (z : ℕ). (task_at T z).deadline) task);
    }

-- another server's job stays
other_job : (T : List SporadicTask) (jobs : List Job) (run : List (Option ℕ)) (x : ℕ) (servers : List Server) (p : ℕ)
    (s : Server) (j : ℕ) → (job_at jobs j).task ≢ p → HasJob T jobs run x servers j
    → HasJob T jobs run x (set servers p s) j
other_job T jobs run x servers p s j ne h =
    let same : server_at (set servers p s) (job_at jobs j).task ≡ server_at servers (job_at jobs j).task
    = get_or-set_other servers p (job_at jobs j).task s no_server ne in
    record {
      there = ap (λ (v : Server). v.place) same ∙ h.there;
      due = ap (λ (v : Server). v.next) same ∙ h.due;
      lacks = omega (arith, ap (λ (v : Server). v.left) same, h.lacks);
    }

-- a server that is due
pub one_renewed : (sched : Sched) (T : List SporadicTask) → AreConstrained T → AreServerTasks T
    → (n : ℕ) (run : List (Option ℕ)) (x p released : ℕ) (servers : List Server) (s : Server) → x < n
    → HoldsReleased (synchronous T 0 n) run → p < length T → x + (task_at T p).period < 2 ^ 64
    → (server_at servers p).next ≡ x
    → s.left ≡ (task_at T p).work → s.next ≡ x + (task_at T p).period → s.place ≡ released
    → IsKeyed sched (task_at T p) p s
    → AtMoment sched T (synchronous T 0 n) run x p released servers
    → AtMoment sched T (synchronous T 0 n) run x (p + 1) (released + 1) (set servers p s)
one_renewed sched T fits are n run x p released servers s m holds l room due left next place keyed h =
    let jobs = synchronous T 0 n in
    let works = (fits p l).works in
    let in_deadline = (fits p l).in_deadline in
    let in_period = (fits p l).in_period in
    let early : x < 2 ^ 64 - 1 = omega (arith, room, works, in_deadline, in_period) in
    let now : releases_now (task_at T p) x ≡ true
    = ap (releases_now (task_at T p)) (sym due) ∙ (h.to_come p (omega arith) l).due (omega (arith, due, early)) in
    let comes = comes_at T x n p m l now in
    let new : IsNew T x p (job_at jobs released)
    = subst (λ (z : ℕ). IsNew T x p (job_at jobs z)) (sym h.counted)
    (is_new T x p (are p l) (job_at jobs (come_by T x p)) comes.1) in
    let here : server_at (set servers p s) p ≡ s
    = get_or-set_same servers p s no_server (omega (arith, h.one_each, l)) in
    let at_task : server_at (set servers p s) (job_at jobs released).task ≡ s
    = ap (server_at (set servers p s)) new.task ∙ here in
    let has : HasJob T jobs run x (set servers p s) released = record {
      there = ap (λ (v : Server). v.place) at_task ∙ place;
      due = ap (λ (v : Server). v.next) at_task ∙ (next ∙ sym new.due);
      lacks =
          omega (
            arith,
            ap (λ (v : Server). v.left) at_task,
            left,
            new.work,
            service-before_release jobs run holds released x (omega (arith, new.release)),
          );
    } in
    record {
      one_each = length-set servers p s ∙ h.one_each;
      counted = omega (arith, h.counted, come_more T x p now);
      past = λ i a b. elim (cases_eq i p) [
        | inl e ↦
            subst (λ (z : ℕ). IsNext (task_at T z) (x + 1) (server_at (set servers p s) z).next) (sym e)
            (subst (IsNext (task_at T p) (x + 1)) (sym (ap (λ (v : Server). v.next) here ∙ next))
            (released_next (task_at T p) x 0 (x + (task_at T p).period) (fits p l) now
            (omega (arith, early_at-le x (task_at T p).jitter, (are p l).prompt)) (omega (arith, room)) early))
        | inr ne ↦
            subst (λ (v : Server). IsNext (task_at T i) (x + 1) v.next)
            (sym (get_or-set_other servers p i s no_server ne)) (h.past i (omega arith) b)
      ];
      to_come =
          λ i a b. subst (λ (v : Server). IsNext (task_at T i) x v.next)
          (sym (get_or-set_other servers p i s no_server (λ e. omega arith))) (h.to_come i (omega arith) b);
      by_now =
          λ j a. elim (cases_eq j released) [
            | inl e ↦
                omega (arith, new.release, ap (λ (z : ℕ). (job_at jobs z).release) e)
            | inr ne ↦ h.by_now j (omega arith)
          ];
      come = λ j a. elim (cases_eq j released) [
        | inl e ↦ inr (subst (HasJob T jobs run x (set servers p s)) (sym e) has)
        | inr ne ↦ elim (h.come j (omega arith)) [
          | inl over ↦ inl over
          | inr own ↦ elim (cases_eq (job_at jobs j).task p) [
            | inl e ↦ inl (omega (arith, own.due, due, ap (λ (z : ℕ). (server_at servers z).next) e))
            | inr other ↦ inr (other_job T jobs run x servers p s j other own)
          ]
        ]
      ];
      active = λ i a some. elim (cases_eq i p) [
        | inl e ↦ subst (IsActive sched T jobs run x (released + 1) (set servers p s)) (sym e) (record {
          come = omega (arith, ap (λ (v : Server). v.place) here, place);
          own = subst (λ (z : ℕ). (job_at jobs z).task ≡ p) (sym (ap (λ (v : Server). v.place) here ∙ place)) new.task;
          job = subst (HasJob T jobs run x (set servers p s)) (sym (ap (λ (v : Server). v.place) here ∙ place)) has;
          keyed = subst (IsKeyed sched (task_at T p) p) (sym here) keyed;
        })
        | inr ne ↦
            let same : server_at (set servers p s) i ≡ server_at servers i
            = get_or-set_other servers p i s no_server ne in
            let was = h.active i a (subst (λ (v : Server). 0 < v.left) same some) in
            record {
              come = omega (arith, was.come, ap (λ (v : Server). v.place) same);
              own = subst (λ (v : Server). (job_at jobs v.place).task ≡ i) (sym same) was.own;
              job =
                  subst (λ (v : Server). HasJob T jobs run x (set servers p s) v.place) (sym same)
                  (other_job T jobs run x servers p s (server_at servers i).place (λ e. ne (sym was.own ∙ e)) was.job);
              keyed = subst (IsKeyed sched (task_at T i) i) (sym same) was.keyed;
            }
      ];
    }

-- one that is not
pub one_waiting : (sched : Sched) (T : List SporadicTask) (n : ℕ) (run : List (Option ℕ)) (x p released : ℕ)
    (servers : List Server) → p < length T → (server_at servers p).next ≢ x
    → AtMoment sched T (synchronous T 0 n) run x p released servers
    → AtMoment sched T (synchronous T 0 n) run x (p + 1) released servers
one_waiting sched T n run x p released servers l ne h =
    let past : x < (server_at servers p).next = omega (arith, (h.to_come p (omega arith) l).from, ne) in
    record {
      one_each = h.one_each;
      counted =
          h.counted
          ∙ ap (λ (js : List Job). length js)
          (sym (one_waits T 0 x p (synchronous T 0 x) ((h.to_come p (omega arith) l).none x (omega arith) past)));
      past = λ i a b. elim (cases_eq i p) [
        | inl e ↦
            subst (λ (z : ℕ). IsNext (task_at T z) (x + 1) (server_at servers z).next) (sym e)
            (later (task_at T p) x (x + 1) (server_at servers p).next (h.to_come p (omega arith) l) (omega arith)
            (omega (arith, past)))
        | inr other ↦ h.past i (omega arith) b
      ];
      to_come = λ i a b. h.to_come i (omega arith) b;
      by_now = h.by_now;
      come = h.come;
      active = h.active;
    }

-- all of them
pub all_renewed : (sched : Sched) (T : List SporadicTask) (n : ℕ) (run : List (Option ℕ)) (x p released next : ℕ)
    (servers : List Server) → x < n → x < next → p ≡ length T → ((i : ℕ) → i < p → next ≤ (server_at servers i).next)
    → AtMoment sched T (synchronous T 0 n) run x p released servers → AtRest sched T n run x released next servers
all_renewed sched T n run x p released next servers m l all least h =
    let none : NoneRelease T (x + 1) next
    = λ i y a b c. (h.past i (omega arith) a).none y b (omega (arith, c, least i (omega arith))) in
    let whole : length (releases_at T 0 x (length T) (synchronous T 0 x)) ≡ length (synchronous T 0 (min next n))
    = ap (λ (js : List Job). length js) (up_to_next T 0 x next n (synchronous T 0 x)
    (releases_at T 0 x (length T) (synchronous T 0 x)) m l
    (ap (synchronous T 0) (let e : x ≡ min x n = omega arith in e)) refl none) in
    record {
      in_time = omega arith;
      one_each = h.one_each;
      counted = h.counted ∙ (ap (λ (z : ℕ). length (releases_at T 0 x z (synchronous T 0 x))) all ∙ whole);
      to_come =
          λ i a. later (task_at T i) (x + 1) next (server_at servers i).next (h.past i (omega arith) a) (omega arith)
          (least i (omega arith));
      by_now = h.by_now;
      come = λ j a. elim (h.come j a) [ inl over ↦ inl (over, omega (arith, over)) | inr has ↦ inr has ];
      active = h.active;
    }
