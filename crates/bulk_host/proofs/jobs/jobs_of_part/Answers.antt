use Rattle.std.proofs.Common.{◌≡◌, ◌≤◌, List, length, ◌∙◌, ap, arith, mul-le-mul_left}
use Rattle.std.proofs.lemmas.List.{length-map}
use Rattle.slot_model.specs.Task.{SporadicTask, sporadic_tasks}
use Rattle.tree_model.specs.View.{NamedTask}
use Rattle.tree_model.specs.System.{own_tasks}
use Rattle.release_pattern.proofs.Prompt.{multiples_few}
use Rattle.bulk_host.proofs.jobs.jobs_of_part.Goals as goal

pub jobs_at_multiples-requires : goal.jobs_at_multiples-requires
jobs_at_multiples-requires c =
    let tasks : List SporadicTask = sporadic_tasks c.deref.result.now in
    let own : tasks ≡ own_tasks c.args.part.now
    = ap sporadic_tasks c.deref.ensures.value ∙ c.in_ok-tasks.ensures.tasks in
    let few : length tasks ≤ 256
    = omega (
      arith,
      ap (λ (ts : List SporadicTask). length ts) own,
      length-map c.args.part.now.tasks (λ (t : NamedTask). t.task),
      c.requires.few,
    ) in
    record { few = omega (arith, multiples_few tasks c.args.slots, mul-le-mul_left c.args.slots few, c.requires.slots) }
