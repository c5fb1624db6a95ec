use Rattle.std.proofs.Common.{◌≡◌, true, subst, arith}
use Rattle.std.proofs.lemmas.Grind.{common_steps}
use Rattle.std.proofs.lemmas.List.Elements.{All-more}
use Rattle.slot_model.specs.Name.{is_name}
use Rattle.tree_model.specs.View.{NamedTask}
use Rattle.system_file.proofs.print.task_tables.Goals as goal

pub loop-task-preserved : goal.loop-task-preserved
loop-task-preserved c = (
  grind (arith, common_steps),
  All-more (λ (x : NamedTask). is_name x.name ≡ true) c.args.tasks.now c.loop-task.task-index c.task-item.result
      (omega arith) c.loop-task.invariant.1
      (subst (λ (x : NamedTask). is_name x.name ≡ true) c.task-item.is c.in_ok-task_table.ensures.named),
)
