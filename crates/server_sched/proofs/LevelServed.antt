-- A level of servers at its end: its first run, and what is kept of it.
use Rattle.std.proofs.Common.{◌≡◌, ℕ, ◌<◌, ◌≤◌, min, Bool, List, length, map, Option, Some, None, sym, ◌∙◌, ap, arith, subst, lt-ltb, Vec, Global}
use Rattle.slot_model.specs.declared.job.Job.{Job}
use Rattle.slot_model.specs.declared.sched.Sched.{Sched}
use Rattle.slot_model.specs.Slots.{count_below, slots_between}
use Rattle.slot_model.specs.Task.{SporadicTask, AreConstrained}
use Rattle.slot_model.specs.Order.{before_of}
use Rattle.slot_model.specs.Release.{synchronous}
use Rattle.slot_model.specs.Run.{server, FirstRunTo}
use Rattle.slot_model.specs.Miss.{is_missed, IsFirstMiss}
use Rattle.slot_model.proofs.MissedJobs.{none_where_zero, zero_where_none}
use Rattle.slot_model.proofs.Synchronous.{legal_synchronous}
use Rattle.slot_model.proofs.Counts.{count_all}
use Rattle.guest_sched.specs.Spans.{Window, slots_of}
use Rattle.guest_sched.proofs.Given.{slots-long}
use Rattle.span_counts.specs.Counts.{is_early, AreCounts}
use Rattle.server_sched.specs.declared.level.Level.{Level}
use Rattle.server_sched.specs.declared.tally.Late.{Late}
use Rattle.tree_spans.specs.Shares.{AreShares}
use Rattle.server_sched.specs.inner.Kept.{KeptView}
use Rattle.server_sched.specs.inner.Serving.{AreServerTasks, AtRest, AreSharesTo, Tallies, is_late, IsUnderway, IsServed, told_of}
use Rattle.server_sched.proofs.Releasing.{in_moments}
use Rattle.tree_spans.proofs.Sharing.{all_shared}
use Rattle.server_sched.proofs.Tallying.{all_late, rest_late, first_missed, none_missed}

-- the late jobs are those that miss
pub late_at_end : (sched : Sched) (T : List SporadicTask) → AreConstrained T → (slots : List Bool) (level : Level)
    → (h : IsUnderway sched T slots level) → level.time ≡ level.slots → (missed : ℕ) (first : Option Late)
    → Tallies T (synchronous T 0 level.slots) h.run
    (is_late T (synchronous T 0 level.slots) h.run level.slots (length T)) missed first
    → Tallies T (synchronous T 0 level.slots) h.run (is_missed T (synchronous T 0 level.slots) h.run) missed first
late_at_end sched T fits slots level h end missed first t =
    all_late T (synchronous T 0 level.slots) h.run level.slots (length T) missed first (h.first.long ∙ end)
    (legal_synchronous T fits 0 level.slots).named t

pub late_before_next : (sched : Sched) (T : List SporadicTask) → AreConstrained T → AreServerTasks T
    → (slots : List Bool) (level : Level) → (h : IsUnderway sched T slots level) → level.time ≡ level.slots
    → level.slots < level.come.next
    → Tallies T (synchronous T 0 level.slots) h.run
    (is_late T (synchronous T 0 level.slots) h.run level.slots (length T)) level.tally.missed level.tally.first
late_before_next sched T fits are slots level h end next =
    rest_late sched T fits are level.slots h.run level.slots level.come.released level.come.next level.servers.items
    next (subst (λ (x : ℕ). AtRest sched T level.slots h.run x level.come.released level.come.next level.servers.items)
    end h.rest) level.tally.missed level.tally.first h.tallied

first_told : (T : List SporadicTask) (jobs : List Job) (run : List (Option ℕ)) (missed : ℕ) (first : Option Late)
    → Tallies T jobs run (is_missed T jobs run) missed first → IsFirstMiss T jobs run (told_of first)
first_told T jobs run missed None h = none_missed T jobs run missed h
first_told T jobs run missed (Some late) h = first_missed T jobs run missed late h

-- all jobs are released before the end
all_early : (T : List SporadicTask) (n : ℕ)
    → count_below (is_early (synchronous T 0 n) n) (length (synchronous T 0 n)) ≡ length (synchronous T 0 n)
all_early T n =
    count_all (is_early (synchronous T 0 n) n) (length (synchronous T 0 n)) (λ k l. lt-ltb _ _ (in_moments T n k l))

pub served : (sched : Sched) (T : List SporadicTask) → AreConstrained T → (windows : List Window) (level : Level)
    → (h : IsUnderway sched T (slots_of windows level.slots) level) → level.time ≡ level.slots
    → level.slots ≤ level.come.next → (kept : KeptView) (given missed : ℕ) (first : Option Late)
    → given ≡ slots_between (slots_of windows level.slots) 0 level.slots
    → Tallies T (synchronous T 0 level.slots) h.run (is_missed T (synchronous T 0 level.slots) h.run) missed first
    → kept.shares ≡ map (λ (s : Vec Window Global). s.items) level.shares.items
    → kept.counts ≡ record { given = given; released = level.come.released; missed = missed; first = told_of first }
    → IsServed sched T windows level.slots kept
served sched T fits windows level h end next kept given missed first g t shares counts =
    let n : ℕ = level.slots in
    let jobs = synchronous T 0 n in
    let long : length h.run ≡ n = h.first.long ∙ end in
    let slots_long : length (slots_of windows n) ≡ n = slots-long windows n in
    let to : AreSharesTo jobs h.run (length h.run) (length T) kept.shares
    = subst (λ (s : List (List Window)). AreSharesTo jobs h.run (length h.run) (length T) s) (sym shares)
    (subst (λ (x : ℕ). AreSharesTo jobs h.run x (length T)
    (map (λ (s : Vec Window Global). s.items) level.shares.items)) (sym h.first.long) h.shares) in
    let all : AreShares jobs h.run (length h.run) (length T) kept.shares
    = all_shared jobs h.run (length T) kept.shares
    (record { long = to.one_each; each = λ k l. record { fit = to.fit k l; same = λ y m. to.same k y l m } }) in
    let released : level.come.released ≡ length jobs
    = h.rest.counted
    ∙ ap (λ (x : ℕ). length (synchronous T 0 x)) (let e : min level.come.next n ≡ n = omega arith in e) in
    let counted : AreCounts T jobs (slots_of windows n) h.run
    (record { given = given; released = level.come.released; missed = missed; first = told_of first })
    = record {
      given = g ∙ ap (slots_between (slots_of windows n) 0) (sym slots_long);
      released =
          released
          ∙ (sym (all_early T n) ∙ ap (λ (x : ℕ). count_below (is_early jobs x) (length jobs)) (sym slots_long));
      missed = t.count;
      none = (λ e. none_where_zero T jobs h.run (sym t.count ∙ e), λ none. t.count ∙ zero_where_none T jobs h.run none);
      first = first_told T jobs h.run missed first t;
    } in
    record {
      run = h.run;
      first =
          subst (λ (x : ℕ). FirstRunTo server (before_of sched T) T jobs (slots_of windows n) x h.run)
          (end ∙ sym slots_long) h.first;
      shares = subst (λ (x : ℕ). AreShares jobs h.run x (length T) kept.shares) long all;
      counts = subst (AreCounts T jobs (slots_of windows n) h.run) (sym counts) counted;
    }
