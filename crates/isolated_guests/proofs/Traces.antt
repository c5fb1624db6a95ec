-- A leaf that passes its test keeps its deadlines in a trace in which it is spared.
use Rattle.std.proofs.Common.{ℕ, ◌*◌, ◌≤◌, List, arith}
use Rattle.slot_model.specs.Task.{SporadicTask, AreConstrained}
use Rattle.slot_model.specs.Order.{before_of}
use Rattle.slot_model.specs.Supply.{GivesBudget}
use Rattle.slot_model.specs.Run.{guest}
use Rattle.slot_model.specs.Miss.{NoJobLost}
use Rattle.slot_model.proofs.WorstPattern.{periodic_laws}
use Rattle.least_budget.proofs.LevelRuns.{level_no_loss}
use Rattle.tree_model.specs.System.{part_at, own_tasks_at}
use Rattle.tree_model.specs.Tree.{budget_at}
use Rattle.tree_model.proofs.Parents.{leaf_constrained}
use Rattle.trace_file.specs.Events.{end_of}
use Rattle.trace_file.specs.Periods.{period_of, budget_of, blocked, running}
use Rattle.halting.proofs.Halting.{keeps_deadlines}
use Rattle.halting.proofs.Units.{passes_in_units, constrained_in_units}
use Rattle.isolated_guests.specs.Traces.{tasks_in_trace, KeepsInTraces}

pub keeps_in_traces : KeepsInTraces
keeps_in_traces sys budgets events v f jobs own_run system plan l leaf passes few is =
    let P : ℕ = (part_at sys v).period in
    let B : ℕ = budget_at budgets v in
    let sched = (part_at sys v).sched in
    let slots : List SporadicTask = own_tasks_at sys v in
    let tasks : List SporadicTask = tasks_in_trace sys v in
    let fits : AreConstrained slots = leaf_constrained sys system v l in
    let some : 1 ≤ P = (system.parts v l).period.0 in
    let range : B ≤ P = plan.in_period v l in
    let none : NoJobLost (GivesBudget (P * 1000) (B * 1000)) (before_of sched tasks) tasks
    = level_no_loss sched tasks (constrained_in_units 1000 slots (omega arith) fits)
    (periodic_laws (P * 1000) (B * 1000) (omega (arith, some)) (omega (arith, range)))
    (passes_in_units 1000 sched slots P B (omega arith) fits some range passes) in
    keeps_deadlines (period_of sys v) (budget_of budgets v) (before_of sched tasks) tasks none (blocked events v)
    (running sys events v) f (end_of events) guest jobs own_run few is
