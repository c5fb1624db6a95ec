-- A level of servers whose first run is made up to a moment, one event more.
use Rattle.std.proofs.Common.{◌≡◌, ℕ, ◌+◌, ◌-◌, ◌^◌, ◌<◌, ◌≤◌, min, Bool, true, false, List, [], ◌++◌, length, map, set, get_or, replicate, Option, Some, None, refl, sym, ◌∙◌, ap, arith, subst, inl, inr, Vec, Global}
use Rattle.std.proofs.lemmas.List.{get_or_append_left, get_or-append_right, get_or-replicate, length-replicate, length-map}
use Rattle.std.proofs.lemmas.Option.{same_Some}
use Rattle.slot_model.specs.declared.job.Job.{Job}
use Rattle.slot_model.specs.declared.sched.Sched.{Sched}
use Rattle.slot_model.specs.declared.task.Task.{Task}
use Rattle.slot_model.specs.Task.{SporadicTask, AreConstrained, sporadic_task, sporadic_tasks, task_at, job_at}
use Rattle.slot_model.specs.Order.{before_of}
use Rattle.slot_model.specs.Release.{synchronous, releases_now}
use Rattle.slot_model.specs.Run.{holds_task, service, server, FirstRunTo}
use Rattle.slot_model.specs.Miss.{HoldsReleased}
use Rattle.slot_model.proofs.FirstRuns.{none_some}
use Rattle.slot_model.proofs.MissedJobs.{count_below-none}
use Rattle.slot_model.proofs.Runs.{count_below-le}
use Rattle.release_pattern.proofs.Moments.{no_task, no_moment}
use Rattle.guest_sched.specs.Spans.{Window, AreWindows, slots_of, window_at}
use Rattle.guest_sched.proofs.Given.{AreOver, slot_at, none_given}
use Rattle.guest_sched.specs.MoreWindows.{AddsWindow}
use Rattle.guest_sched.proofs.SpanByOne.{Holds}
use Rattle.guest_sched.proofs.Steady.{span_run, gap_run}
use Rattle.server_sched.specs.declared.serving.Server.{Server}
use Rattle.server_sched.specs.declared.level.Level.{Level}
use Rattle.tree_spans.specs.Shares.{share_at}
use Rattle.server_sched.specs.inner.Serving.{AreServerTasks, no_server, server_at, IsChosen, AtMoment, AtRest, AreSharesTo, Tallies, is_late, IsUnderway}
use Rattle.tree_spans.proofs.Sharing.{SharedTo, none_shared, idle_shared, task_shared}
use Rattle.server_sched.proofs.ServedRuns.{chosen_entry, idle_entry, steady_rest, rest_idle, rest_given, given_to, in_jobs}
use Rattle.server_sched.proofs.Tallying.{tallies_longer, none_late}

-- what a run made so far holds is released
pub made_released : (sched : Sched) (T : List SporadicTask) (jobs : List Job) (slots : List Bool) (x : ℕ)
    (run : List (Option ℕ)) → FirstRunTo server (before_of sched T) T jobs slots x run → HoldsReleased jobs run
made_released sched T jobs slots x run h y j l e =
    let may = (h.each y (omega (arith, l, h.long))).held j e in
    record { is_job = may.pending.is_job; by_then = may.pending.released }

-- before the first server releases
pub at_moment : (sched : Sched) (T : List SporadicTask) (n : ℕ) (run : List (Option ℕ)) (x released : ℕ)
    (servers : List Server) → x < n → AtRest sched T n run x released x servers
    → AtMoment sched T (synchronous T 0 n) run x 0 released servers
at_moment sched T n run x released servers m h = record {
  one_each = h.one_each;
  counted =
      h.counted
      ∙ (ap (λ (z : ℕ). length (synchronous T 0 z)) (let e : min x n ≡ x = omega arith in e)
      ∙ sym (ap (λ (js : List Job). length js) (no_task T 0 x (synchronous T 0 x))));
  past = λ i a. absurd (omega arith);
  to_come = λ i a b. h.to_come i b;
  by_now = h.by_now;
  come = λ j l. elim (h.come j l) [ inl over ↦ inl over.0 | inr has ↦ inr has ];
  active = h.active;
}

-- the windows of the children, as the run goes on
to_shared : (jobs : List Job) (run more : List (Option ℕ)) (x count : ℕ) (shares : List (List Window)) → length run ≡ x
    → AreSharesTo jobs run x count shares → SharedTo jobs (run ++ more) x count shares
to_shared jobs run more x count shares e h = record {
  long = h.one_each;
  each =
      λ k l. record {
        fit = h.fit k l;
        same =
            λ y m. h.same k y l m
            ∙ ap (λ (o : Option ℕ). holds_task jobs o k) (sym (get_or_append_left run more None y (omega arith)));
      };
}

from_shared : (jobs : List Job) (run : List (Option ℕ)) (x count : ℕ) (shares : List (List Window))
    → SharedTo jobs run x count shares → AreSharesTo jobs run x count shares
from_shared jobs run x count shares h =
    record { one_each = h.long; fit = λ k l. (h.each k l).fit; same = λ k y l m. (h.each k l).same y m }

holds_more : (run : List (Option ℕ)) (x k : ℕ) (o : Option ℕ) → length run ≡ x
    → Holds (run ++ replicate k o) x (x + k) o
holds_more run x k o e y a b =
    get_or-append_right run (replicate k o) x y None e a ∙ get_or-replicate k (y - x) o None (omega arith)

abbrev lists : Level → List (List Window)
lists one = map (λ (s : Vec Window Global). s.items) one.shares.items

-- slots for none, where none are given or no job lacks any
pub idle_on : (sched : Sched) (T : List SporadicTask) → AreConstrained T → AreServerTasks T
    → (slots : List Bool) (level new : Level) → (h : IsUnderway sched T slots level) → (k : ℕ)
    → level.time + k ≤ level.come.next → level.time + k ≤ level.slots → new ≡ record level { time = level.time + k }
    → FirstRunTo server (before_of sched T) T (synchronous T 0 level.slots) slots (level.time + k)
    (h.run ++ replicate k None) → IsUnderway sched T slots new
idle_on sched T fits are slots level new h k u v e first = subst (IsUnderway sched T slots) (sym e) (record {
  run = h.run ++ replicate k None;
  first = first;
  in_slots = v;
  rest =
      rest_idle sched T level.slots h.run level.time level.come.released level.come.next level.servers.items
      h.first.long h.rest k u;
  chosen = h.chosen;
  shares =
      from_shared (synchronous T 0 level.slots) (h.run ++ replicate k None) (level.time + k) (length T) (lists level)
      (idle_shared (synchronous T 0 level.slots) (h.run ++ replicate k None) level.time (level.time + k) (length T)
      (lists level) (to_shared (synchronous T 0 level.slots) h.run (replicate k None) level.time (length T)
      (lists level) h.first.long h.shares) (omega arith) (holds_more h.run level.time k None h.first.long));
  tallied =
      tallies_longer sched T fits are level.slots h.run level.time level.come.released level.come.next
      level.servers.items h.first.long h.rest (replicate k None) level.tally.missed level.tally.first h.tallied;
})

pub no_slots : (sched : Sched) (T : List SporadicTask) → AreConstrained T → AreServerTasks T
    → (slots : List Bool) (level new : Level) → IsUnderway sched T slots level → (k : ℕ)
    → level.time + k ≤ level.come.next → level.time + k ≤ level.slots
    → ((y : ℕ) → level.time ≤ y → y < level.time + k → get_or slots y false ≡ false)
    → new ≡ record level { time = level.time + k } → IsUnderway sched T slots new
no_slots sched T fits are slots level new h k u v none e =
    idle_on sched T fits are slots level new h k u v e
    (gap_run server (before_of sched T) T (synchronous T 0 level.slots) slots k level.time h.run h.first none)

pub no_job : (sched : Sched) (T : List SporadicTask) → AreConstrained T → AreServerTasks T
    → (slots : List Bool) (level new : Level) → IsUnderway sched T slots level → (k : ℕ) → level.time < level.come.next
    → level.time + k ≤ level.come.next → level.time < level.slots → level.time + k ≤ level.slots
    → ((y : ℕ) → level.time ≤ y → y < level.time + k → get_or slots y false ≡ true)
    → IsChosen level.servers.items None → new ≡ record level { time = level.time + k } → IsUnderway sched T slots new
no_job sched T fits are slots level new h k l u m v given none e =
    let jobs = synchronous T 0 level.slots in
    idle_on sched T fits are slots level new h k u v e
    (span_run server (before_of sched T) T jobs slots true None k level.time h.run h.first
    (steady_rest sched T fits level.slots slots h.run level.time level.come.released level.come.next level.servers.items
    h.rest l m k u v given None (λ j q. absurd (none_some None j refl q)))
    (idle_entry sched T fits level.slots h.run level.time level.come.released level.come.next level.servers.items
    h.rest l m none))

-- the parts of such a level
abbrev Parts : Sched → List SporadicTask → List Bool → Level → List (Option ℕ) → ℕ → Type 0
Parts sched T slots new later n =
    FirstRunTo server (before_of sched T) T (synchronous T 0 n) slots new.time later × (new.time ≤ n)
    × AtRest sched T n later new.time new.come.released new.come.next new.servers.items
    × AreSharesTo (synchronous T 0 n) later new.time (length T)
    (map (λ (s : Vec Window Global). s.items) new.shares.items)
    × Tallies T (synchronous T 0 n) later (is_late T (synchronous T 0 n) later new.come.next 0) new.tally.missed
    new.tally.first

of_parts : (sched : Sched) (T : List SporadicTask) (slots : List Bool) (new : Level) (later : List (Option ℕ)) (n : ℕ)
    → n ≡ new.slots → IsChosen new.servers.items new.best → Parts sched T slots new later n
    → IsUnderway sched T slots new
of_parts sched T slots new later n e chosen h =
    let p : Parts sched T slots new later new.slots = subst (Parts sched T slots new later) e h in
    record { run = later; first = p.0; in_slots = p.1; rest = p.2; chosen = chosen; shares = p.3; tallied = p.4 }

-- slots for the job of the server that goes first
pub job_served : (sched : Sched) (T : List SporadicTask) → AreConstrained T → AreServerTasks T
    → (slots : List Bool) (level new : Level) → IsUnderway sched T slots level → (k b : ℕ)
    → level.time < level.come.next → level.time + k ≤ level.come.next → level.time < level.slots
    → level.time + k ≤ level.slots → ((y : ℕ) → level.time ≤ y → y < level.time + k → get_or slots y false ≡ true)
    → IsChosen level.servers.items (Some b) → k ≤ (server_at level.servers.items b).left → (window : List Window)
    → AddsWindow (share_at (map (λ (s : Vec Window Global). s.items) level.shares.items) b) level.time
    (level.time + k) window
    → new.slots ≡ level.slots → new.time ≡ level.time + k → new.come ≡ level.come
    → new.servers.items ≡ given_to level.servers.items b k
    → map (λ (s : Vec Window Global). s.items) new.shares.items
    ≡ set (map (λ (s : Vec Window Global). s.items) level.shares.items) b window → new.tally ≡ level.tally
    → IsChosen new.servers.items new.best → IsUnderway sched T slots new
job_served sched T fits are slots level new h k b l u m v given best enough window adds same_slots time come servers
    shares tally chosen =
    let n : ℕ = level.slots in
    let jobs = synchronous T 0 n in
    let p : ℕ = (server_at level.servers.items b).place in
    let later = h.run ++ replicate k (Some p) in
    let own = h.rest.active b (omega (arith, best.0, h.rest.one_each)) best.1 in
    let lists = map (λ (s : Vec Window Global). s.items) level.shares.items in
    let first : FirstRunTo server (before_of sched T) T jobs slots (level.time + k) later
    = span_run server (before_of sched T) T jobs slots true (Some p) k level.time h.run h.first
    (steady_rest sched T fits n slots h.run level.time level.come.released level.come.next level.servers.items h.rest l
    m k u v given (Some p) (λ j q. omega (
      arith,
      own.job.lacks,
      enough,
      ap (λ (z : ℕ). (server_at level.servers.items z).left) own.own,
      ap (λ (z : ℕ). (job_at jobs z).work) (same_Some p j q),
      ap (λ (z : ℕ). service h.run z level.time) (same_Some p j q),
    )))
    (chosen_entry sched T fits n h.run level.time level.come.released level.come.next level.servers.items h.rest l m b
    best) in
    let rest : AtRest sched T n later (level.time + k) level.come.released level.come.next
    (given_to level.servers.items b k)
    = rest_given sched T n h.run level.time level.come.released level.come.next level.servers.items h.first.long
    h.rest k b u best.0 best.1 enough in
    let shared : SharedTo jobs later (level.time + k) (length T) (set lists b window)
    = subst (λ (z : ℕ). SharedTo jobs later (level.time + k) (length T) (set lists z window)) own.own
    (task_shared jobs later level.time (level.time + k) (length T) p lists window
    (to_shared jobs h.run (replicate k (Some p)) level.time (length T) lists h.first.long h.shares) (omega arith)
    (holds_more h.run level.time k (Some p) h.first.long) (omega (arith, own.own, best.0, h.rest.one_each))
    (subst (λ (z : ℕ). AddsWindow (share_at lists z) level.time (level.time + k) window) (sym own.own) adds)) in
    of_parts sched T slots new later n (sym same_slots) chosen (
      rw time first,
      omega (arith, time, v),
      rw servers (rw come (rw time rest)),
      rw shares (rw time (from_shared jobs later (level.time + k) (length T) (set lists b window) shared)),
      rw tally (rw come (tallies_longer sched T fits are n h.run level.time level.come.released level.come.next
          level.servers.items h.first.long h.rest (replicate k (Some p)) level.tally.missed level.tally.first
          h.tallied)),
    )

-- what the numbers of such a level are at the most
pub record IsSound (T : List SporadicTask) (n : ℕ) (level : Level) : Type 0 where
  pub one_each : length level.servers.items ≡ length T
  pub shares : length level.shares.items ≡ length T
  pub released : level.come.released ≤ length (synchronous T 0 n)
  pub missed : level.tally.missed ≤ length (synchronous T 0 n)
  pub in_time : level.time ≤ level.come.next

pub sound : (sched : Sched) (T : List SporadicTask) (slots : List Bool) (level : Level) → IsUnderway sched T slots level
    → IsSound T level.slots level
sound sched T slots level h = record {
  one_each = h.rest.one_each;
  shares = omega (arith, h.shares.one_each, length-map level.shares.items (λ (s : Vec Window Global). s.items));
  released =
      in_jobs sched T level.slots h.run level.time level.come.released level.come.next level.servers.items h.rest;
  missed =
      omega (
        arith,
        h.tallied.count,
        count_below-le (is_late T (synchronous T 0 level.slots) h.run level.come.next 0)
            (length (synchronous T 0 level.slots)),
      );
  in_time = h.rest.in_time;
}

pub sound_in : (sched : Sched) (T : List SporadicTask) (slots : List Bool) (n : ℕ) (level : Level)
    → IsUnderway sched T slots level → level.slots ≡ n → IsSound T n level
sound_in sched T slots n level h same = subst (λ (m : ℕ). IsSound T m level) same (sound sched T slots level h)

-- such a level, on its way from one moment to another
pub record UnderwayTo (sched : Sched) (T : List SporadicTask) (windows : List Window) (n old until : ℕ) (level : Level)
    : Type 0 where
  pub state : IsUnderway sched T (slots_of windows n) level
  pub slots : level.slots ≡ n
  pub later : old ≤ level.time
  pub in_time : level.time ≤ until

-- what a turn of it asks
pub may_turn : (sched : Sched) (tasks : List Task) (windows : List Window) (n old until : ℕ) (level : Level)
    → UnderwayTo sched (sporadic_tasks tasks) windows n old until level
    → length (synchronous (sporadic_tasks tasks) 0 n) < 2 ^ 32
    → (level.come.released < 2 ^ 32) × (level.tally.missed < 2 ^ 32) × (length level.servers.items ≡ length tasks)
may_turn sched tasks windows n old until level h few =
    let s = sound_in sched (sporadic_tasks tasks) (slots_of windows n) n level h.state h.slots in (
      omega (arith, s.released, few),
      omega (arith, s.missed, few),
      omega (arith, s.one_each, length-map tasks sporadic_task),
    )

-- before the first slot
pub begun : (sched : Sched) (T : List SporadicTask) (slots : List Bool) (level : Level) → level.time ≡ 0
    → level.come ≡ record { released = 0; next = 0 } → level.servers.items ≡ replicate (length T) no_server
    → map (λ (s : Vec Window Global). s.items) level.shares.items ≡ replicate (length T) []
    → level.tally ≡ record { missed = 0; first = None } → level.best ≡ None → IsUnderway sched T slots level
begun sched T slots level time come servers shares tally best =
    let jobs = synchronous T 0 level.slots in
    of_parts sched T slots level [] level.slots refl (rw best (rw servers none_lacks)) (
      rw time (record { long = refl; each = λ x l. absurd (omega arith) }),
      omega (arith, time),
      rw servers (rw come (rw time (none_come level.slots))),
      rw shares
          (rw time (from_shared jobs [] 0 (length T) (replicate (length T) []) (none_shared jobs [] (length T)))),
      rw tally (rw come (record {
        count =
            sym (count_below-none (is_late T jobs [] 0 0) (length jobs)
            (λ k l. none_late T jobs [] 0 k (omega arith)));
        some = tt;
        none = λ e. refl;
      })),
    )
  where
    none_lacks : IsChosen (replicate (length T) no_server) None
    none_lacks i l =
        ap (λ (s : Server). s.left)
        (get_or-replicate (length T) i no_server no_server (omega (arith, l, length-replicate (length T) no_server)))

    none_come : (n : ℕ) → AtRest sched T n [] 0 0 0 (replicate (length T) no_server)
    none_come n = record {
      in_time = omega arith;
      one_each = length-replicate (length T) no_server;
      counted =
          sym (ap (λ (js : List Job). length js)
          (ap (synchronous T 0) (let e : min 0 n ≡ 0 = omega arith in e) ∙ no_moment T 0));
      to_come =
          λ i l. record {
            from = omega arith;
            none =
                λ y a b. absurd
                (omega (arith, b, ap (λ (s : Server). s.next) (get_or-replicate (length T) i no_server no_server l)));
            due =
                λ m. ap (releases_now (task_at T i))
                (ap (λ (s : Server). s.next) (get_or-replicate (length T) i no_server no_server l));
          };
      by_now = λ j l. absurd (omega arith);
      come = λ j l. absurd (omega arith);
      active =
          λ i l some. absurd
          (omega (arith, some, ap (λ (s : Server). s.left) (get_or-replicate (length T) i no_server no_server l)));
    }

-- where no window gives a slot
pub gap_passed : (sched : Sched) (T : List SporadicTask) → AreConstrained T → AreServerTasks T
    → (windows : List Window) (n at until : ℕ) (level : Level) → IsUnderway sched T (slots_of windows n) level
    → level.slots ≡ n → AreWindows windows n → AreOver windows at level.time
    → (at < length windows → until ≤ (window_at windows at).from)
    → level.time ≤ until → until ≤ n → until ≤ level.come.next
    → IsUnderway sched T (slots_of windows n) (record level { time = until })
gap_passed sched T fits are windows n at until level h same fit over begin later in_slots before =
    let k : ℕ = until - level.time in
    let end : until ≡ level.time + k = omega arith in
    no_slots sched T fits are (slots_of windows n) level (record level { time = until }) h k
    (omega (arith, end, before)) (omega (arith, end, in_slots, same))
    (λ y a b. slot_at windows n y (omega (arith, end, b, in_slots))
    ∙ none_given windows n at level.time y fit over a (λ l. omega (arith, begin l, end, b)))
    (ap (λ (z : ℕ). record level { time = z }) end)
