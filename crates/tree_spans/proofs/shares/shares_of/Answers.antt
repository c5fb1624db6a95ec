use Rattle.std.proofs.Common.{◌≡◌, ℕ, ◌<◌, List, [], Option, length, map, set, replicate, arith, ap, sym, ◌∙◌, subst, Vec, Global}
use Rattle.std.proofs.lemmas.List.{map-set, length-map}
use Rattle.slot_model.specs.Task.{job_at, sporadic_tasks}
use Rattle.slot_model.specs.Miss.{AreNamed}
use Rattle.slot_model.specs.declared.job.Job.{Job}
use Rattle.slot_model.specs.declared.task.Task.{Task}
use Rattle.fp_request.proofs.Parts.{sporadic_tasks-length}
use Rattle.guest_sched.specs.Spans.{Window, run_of, end_of, span_at, AreWindows}
use Rattle.guest_sched.specs.MoreWindows.{AddsWindow}
use Rattle.guest_sched.proofs.SpanByOne.{SpanHere, span_here, span_job}
use Rattle.tree_spans.specs.Shares.{share_at}
use Rattle.tree_spans.proofs.Sharing.{SharedTo, none_shared, idle_shared, task_shared, all_shared}
use Rattle.tree_spans.proofs.shares.shares_of.Goals as goal
use Rattle.tree_spans.proofs.shares.shares_of.Goals.{in-Some+in_ok-add_window, in_default}
use Rattle.tree_spans.proofs.Lists.{share_read, window_lists}

pub bounds-jobs-job : goal.bounds-jobs-job
bounds-jobs-job c =
    (span_job c.args.spans.now c.args.jobs.now c.loop-span.span-index c.in-Some.job c.requires.spans c.requires.released
    c.loop-span-test.true c.in-Some.is).is_job

-- a job's task has a share
in_shares : (tasks : List Task) (jobs : List Job) (run : List (Option ℕ)) (m j : ℕ)
    (shares : Vec (Vec Window Global) Global) → AreNamed (sporadic_tasks tasks) jobs → j < length jobs
    → SharedTo jobs run m (length tasks) (window_lists shares.items) → (job_at jobs j).task < length shares.items
in_shares tasks jobs run m j shares named is_job h =
    omega (
      arith,
      named j is_job,
      sporadic_tasks-length tasks,
      h.long,
      length-map shares.items (λ (s : Vec Window Global). s.items),
    )

pub index_mut-requires : goal.index_mut-requires
index_mut-requires c =
    let is_job
    = (span_job c.args.spans.now c.args.jobs.now c.loop-span.span-index c.in-Some.job c.requires.spans
    c.requires.released c.loop-span-test.true c.in-Some.is).is_job in
    omega (
      arith,
      in_shares c.args.tasks.now c.args.jobs.now (run_of c.args.spans.now)
          (end_of c.args.spans.now c.loop-span.span-index) c.in-Some.job c.loop-span.shares c.requires.named
          is_job c.loop-span.invariant,
      c.loop-span.shares.ok.0,
    )

pub add_window-requires-clause-windows : goal.add_window-requires-clause-windows
add_window-requires-clause-windows c =
    let spans = c.args.spans.now in
    let i = c.loop-span.span-index in
    let here : SpanHere spans i = span_here spans (length (run_of spans)) i c.requires.spans c.loop-span-test.true in
    let j = c.in-Some.job in
    let t : ℕ = (job_at c.args.jobs.now j).task in
    let is_job
    = (span_job spans c.args.jobs.now i j c.requires.spans c.requires.released c.loop-span-test.true
    c.in-Some.is).is_job in
    let in_list
    = in_shares c.args.tasks.now c.args.jobs.now (run_of spans) (end_of spans i) j c.loop-span.shares
    c.requires.named is_job c.loop-span.invariant in
    let own = share_read c.loop-span.shares.items t c.index_mut.result.now in_list c.index_mut.ensures.value in
    let lt : t < length c.args.tasks.now
    = omega (arith, c.requires.named j is_job, sporadic_tasks-length c.args.tasks.now) in
    subst (λ (w : List Window). AreWindows w (span_at spans i).from) own
    (subst (λ (m : ℕ). AreWindows (share_at (window_lists c.loop-span.shares.items) t) m) (sym here.from)
    (c.loop-span.invariant.each t lt).fit)

pub loop-span-init : goal.loop-span-init
loop-span-init c =
    subst (λ (z : List (List Window)). SharedTo c.args.jobs.now (run_of c.args.spans.now) 0 (length c.args.tasks.now) z)
    (sym c.loop.invariant)
    (subst (λ (n : ℕ). SharedTo c.args.jobs.now (run_of c.args.spans.now) 0 (length c.args.tasks.now) (replicate n []))
    (omega (arith, c.loop-test.false))
    (none_shared c.args.jobs.now (run_of c.args.spans.now) (length c.args.tasks.now)))

pub loop-span-preserved : goal.loop-span-preserved
loop-span-preserved c =
    let spans = c.args.spans.now in
    let jobs = c.args.jobs.now in
    let run = run_of spans in
    let i = c.loop-span.span-index in
    let count = length c.args.tasks.now in
    let old = c.loop-span.shares in
    let here : SpanHere spans i = span_here spans (length run) i c.requires.spans c.loop-span-test.true in
    let before : SharedTo jobs run (span_at spans i).from count (window_lists old.items)
    = subst (λ (m : ℕ). SharedTo jobs run m count (window_lists old.items)) (sym here.from) c.loop-span.invariant in
    subst (λ (m : ℕ). SharedTo jobs run m count (window_lists c.match-span.shares.items)) here.until
    (elim c.match-span.branch [
      | in-Some+in_ok-add_window w ↦
          let j = w.in-Some.job in
          let t : ℕ = (job_at jobs j).task in
          let is_job
          = (span_job spans jobs i j c.requires.spans c.requires.released c.loop-span-test.true w.in-Some.is).is_job in
          let in_list
          = in_shares c.args.tasks.now jobs run (end_of spans i) j old c.requires.named is_job
          c.loop-span.invariant in
          let own = share_read old.items t w.index_mut.result.now in_list w.index_mut.ensures.value in
          let lt : t < count = omega (arith, c.requires.named j is_job, sporadic_tasks-length c.args.tasks.now) in
          let new = w.add_window.new.windows in
          let adds : AddsWindow (share_at (window_lists old.items) t) (span_at spans i).from (span_at spans i).until
          new.items
          = subst (λ (v : List Window). AddsWindow v (span_at spans i).from (span_at spans i).until new.items)
          (sym own) w.in_ok-add_window.ensures in
          let done : SharedTo jobs run (span_at spans i).until count (set (window_lists old.items) t new.items)
          = task_shared jobs run (span_at spans i).from (span_at spans i).until count j (window_lists old.items)
          new.items before (omega (arith, here.some)) (λ x a b. here.holds x a b ∙ w.in-Some.is) lt adds in
          subst (λ (v : Vec (Vec Window Global) Global). SharedTo jobs run (span_at spans i).until count
          (window_lists v.items)) (sym w.shares-is)
          (subst (λ (v : List (List Window)). SharedTo jobs run (span_at spans i).until count v)
          (sym (map-set (λ (s : Vec Window Global). s.items) old.items t new)) done)
      | in_default w ↦
          subst (λ (v : Vec (Vec Window Global) Global). SharedTo jobs run (span_at spans i).until count
          (window_lists v.items)) (sym w.shares-is)
          (idle_shared jobs run (span_at spans i).from (span_at spans i).until count (window_lists old.items) before
          (omega (arith, here.some)) (λ x a b. here.holds x a b ∙ w.in_default.is))
    ])

pub returns : goal.returns
returns c =
    let spans = c.args.spans.now in
    let n : end_of spans c.loop-span.span-index ≡ length (run_of spans)
    = ap (end_of spans) (omega (arith, c.loop-span-test.false)) ∙ c.requires.spans.whole in
    all_shared c.args.jobs.now (run_of spans) (length c.args.tasks.now)
    (map (λ (s : Vec Window Global). s.items) c.loop-span.shares.items)
    (subst (λ (m : ℕ). SharedTo c.args.jobs.now (run_of spans) m (length c.args.tasks.now)
    (map (λ (s : Vec Window Global). s.items) c.loop-span.shares.items)) n c.loop-span.invariant)
