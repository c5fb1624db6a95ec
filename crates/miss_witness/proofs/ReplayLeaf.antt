-- What an admission says of a computed leaf, and what is seen when its defeat is run.
use Rattle.std.proofs.Common.{◌≡◌, ℕ, zero, suc, ◌+◌, ◌-◌, ◌<◌, ◌≤◌, Bool, true, List, length, Option, Some, None, get_or, arith, refl, ◌∙◌, ap, subst}
use Rattle.slot_model.specs.declared.sched.Sched.{Sched}
use Rattle.slot_model.specs.declared.job.Job.{Job}
use Rattle.slot_model.specs.declared.sched.Short.{Short}
use Rattle.slot_model.specs.declared.miss.Miss.{Miss}
use Rattle.slot_model.specs.Task.{SporadicTask}
use Rattle.slot_model.specs.Supply.{Follows, worst_slot}
use Rattle.slot_model.specs.Order.{before_of}
use Rattle.slot_model.specs.Release.{synchronous}
use Rattle.slot_model.specs.Run.{guest, FirstRun}
use Rattle.slot_model.specs.Bound.{sbf, IsShortfall}
use Rattle.slot_model.specs.Miss.{IsFirstMiss, MissesFromStart, WorstList}
use Rattle.slot_model.proofs.FirstRuns.{first_permitted}
use Rattle.guest_sched.specs.Spans.{Window, slots_of}
use Rattle.guest_sched.proofs.Given.{slots-long}
use Rattle.miss_witness.specs.declared.defeat.Defeat.{Defeat}
use Rattle.tree_model.specs.View.{PartView, SystemView}
use Rattle.tree_model.specs.System.{is_computed_leaf, own_tasks, part_at}
use Rattle.tree_model.specs.Tree.{budget_at}
use Rattle.tree_model.proofs.NodeTasks.{part_here}
use Rattle.compose_tree.specs.Shorts.{IsShortOf}
use Rattle.miss_witness.specs.Replay.{IsReplay, IsReplayed}
use Rattle.miss_witness.specs.Defeat.{IsDefeat}

-- the first run of the defeat's jobs over its worst pattern
pub record RunsDefeat (sched : Sched) (tasks : List SporadicTask) (period : ℕ) (defeat : Defeat) (jobs : List Job)
    (run : List (Option ℕ)) : Type 0 where
  pub jobs_are : jobs ≡ synchronous tasks defeat.start defeat.span
  pub slots : List Bool
  pub worst : WorstList (worst_slot period defeat.budget) defeat.start defeat.span slots
  pub first : FirstRun guest (before_of sched tasks) tasks jobs slots run

-- as the code makes it: the jobs, and the windows of the pattern
pub runs_over : (sched : Sched) (tasks : List SporadicTask) (period : ℕ) (defeat : Defeat) (end : ℕ)
    → end ≡ defeat.start + defeat.span → (made jobs : List Job) (drawn windows : List Window) (run : List (Option ℕ))
    → made ≡ synchronous tasks defeat.start defeat.span → jobs ≡ made → windows ≡ drawn
    → Follows (worst_slot period defeat.budget) (slots_of drawn end)
    → FirstRun guest (before_of sched tasks) tasks jobs (slots_of windows end) run
    → RunsDefeat sched tasks period defeat jobs run
runs_over sched tasks period defeat end e made jobs drawn windows run exact j w follows first = record {
  jobs_are = j ∙ exact;
  slots = slots_of drawn end;
  worst = record { follows = follows; long = slots-long drawn end ∙ e };
  first =
      subst (λ (z : List Window). FirstRun guest (before_of sched tasks) tasks jobs (slots_of z end) run) w first;
}

-- its first miss is there
pub run_is_replay : (sched : Sched) (tasks : List SporadicTask) (period : ℕ) (defeat : Defeat)
    → defeat.start + defeat.span ≤ 1000000
    → ((slots : List Bool) → WorstList (worst_slot period defeat.budget) defeat.start defeat.span slots
    → MissesFromStart (worst_slot period defeat.budget) defeat.start defeat.span (before_of sched tasks) tasks
    slots)
    → (jobs : List Job) (run : List (Option ℕ)) → RunsDefeat sched tasks period defeat jobs run → (miss : Option Miss)
    → IsFirstMiss tasks jobs run miss → IsReplayed sched tasks period defeat miss
run_is_replay sched tasks period defeat reach misses jobs run h None none =
    let first : FirstRun guest (before_of sched tasks) tasks (synchronous tasks defeat.start defeat.span) h.slots run
    = subst (λ (z : List Job). FirstRun guest (before_of sched tasks) tasks z h.slots run) h.jobs_are h.first in
    let missed
    = (misses h.slots h.worst).misses run (first_permitted guest (before_of sched tasks) tasks
    (synchronous tasks defeat.start defeat.span) h.slots run first) in
    absurd (subst (λ (z : List Job). IsFirstMiss tasks z run None) h.jobs_are none missed.0 missed.1)
run_is_replay sched tasks period defeat reach misses jobs run h (Some miss) first = (
  reach,
  record {
    slots = h.slots;
    run = run;
    worst = h.worst;
    first_run = subst (λ (z : List Job). FirstRun guest (before_of sched tasks) tasks z h.slots run) h.jobs_are h.first;
    first_miss = subst (λ (z : List Job). IsFirstMiss tasks z run (Some miss)) h.jobs_are first;
  },
)

-- what the code reads of a leaf
pub record LeafRead (sys : SystemView) (budgets : List ℕ) (q : ℕ) (sched : Sched) (tasks : List SporadicTask)
    (period least : ℕ) : Type 0 where
  pub sched_is : sched ≡ (part_at sys q).sched
  pub tasks_are : tasks ≡ own_tasks (part_at sys q)
  pub period_is : period ≡ (part_at sys q).period
  pub least_is : least ≡ budget_at budgets q

pub leaf_read : (sys : SystemView) (budgets : List ℕ) (q : ℕ) (parts : List PartView) (part : PartView) (sched : Sched)
    (tasks : List SporadicTask) (period : ℕ) (read : List ℕ) → parts ≡ sys.parts → q < length sys.parts
    → part ≡ get_or parts q part → sched ≡ part.sched → tasks ≡ own_tasks part → period ≡ part.period → read ≡ budgets
    → LeafRead sys budgets q sched tasks period (get_or read q 0)
leaf_read sys budgets q parts part sched tasks period read same h is s t p b =
    let here : part ≡ part_at sys q
    = part_here sys parts q part same (omega (arith, h, ap (λ (ps : List PartView). length ps) same)) is in
    record {
      sched_is = s ∙ ap (λ (z : PartView). z.sched) here;
      tasks_are = t ∙ ap own_tasks here;
      period_is = p ∙ ap (λ (z : PartView). z.period) here;
      least_is = ap (λ (bs : List ℕ). get_or bs q 0) b;
    }

-- its budget is 1 or more, and this is short first with one slot less
pub some_short : (leaf : PartView) (budget : ℕ) → 1 ≤ budget → IsShortOf leaf budget None → ⊥
some_short leaf zero some h = absurd (omega (arith, some))
some_short leaf (suc budget) some h = h

short_one_below : (leaf : PartView) (budget : ℕ) (short : Short) → 1 ≤ budget → IsShortOf leaf budget (Some short)
    → IsShortfall leaf.sched (own_tasks leaf) (sbf leaf.period (budget - 1)) short
short_one_below leaf zero short some h = absurd (omega (arith, some))
short_one_below leaf (suc budget) short some h =
    let e : suc budget - 1 ≡ budget = omega arith in
    rw e h

pub read_short : (sys : SystemView) (budgets : List ℕ) (q : ℕ) → 1 ≤ budget_at budgets q
    → (sched : Sched) (tasks : List SporadicTask) (period least : ℕ) → LeafRead sys budgets q sched tasks period least
    → (short : Short) → IsShortOf (part_at sys q) (budget_at budgets q) (Some short)
    → IsShortfall sched tasks (sbf period (least - 1)) short
read_short sys budgets q some sched tasks period least read short h =
    rw (read.sched_is, read.tasks_are, read.period_is, read.least_is)
    (short_one_below (part_at sys q) (budget_at budgets q) short some h)

-- so what was found is its replay
pub read_replay : (sys : SystemView) (budgets : List ℕ) (q : ℕ) → q < length sys.parts
    → is_computed_leaf (part_at sys q) ≡ true → (sched : Sched) (tasks : List SporadicTask) (period least : ℕ)
    → LeafRead sys budgets q sched tasks period least
    → (witness : Defeat) (miss : Option Miss) → IsDefeat sched tasks period least witness
    → IsReplayed sched tasks period witness miss
    → IsReplay sys budgets q (record { part = q; witness = witness; miss = miss })
read_replay sys budgets q l computed sched tasks period least read witness miss defeat replayed = record {
  is_part = l;
  is_computed = computed;
  of_part = refl;
  defeat = rw (← read.sched_is, ← read.tasks_are, ← read.period_is, ← read.least_is) defeat;
  replayed = rw (← read.sched_is, ← read.tasks_are, ← read.period_is) replayed;
}
