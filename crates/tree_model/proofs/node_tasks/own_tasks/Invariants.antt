use Rattle.std.proofs.Common.{◌≡◌, map, take}
use Rattle.slot_model.specs.Task.{sporadic_tasks}
use Rattle.tree_model.specs.View.{NamedTask}
use Rattle.tree_model.proofs.node_tasks.own_tasks.Given as goal

abbrev pub invariant-loop-named : goal.invariant-loop-named
invariant-loop-named l =
    sporadic_tasks l.tasks.items ≡ map (λ (t : NamedTask). t.task) (take l.named-index l.named-items)
