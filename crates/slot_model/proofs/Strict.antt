-- An order that keeps the laws of an order of jobs is strict, whatever the tasks.
use Rattle.std.proofs.Common.{Bool, List}
use Rattle.slot_model.specs.declared.job.Job.{Job}
use Rattle.slot_model.specs.Task.{SporadicTask}
use Rattle.slot_model.specs.Order.{IsStrictOrder, OrderLaws}

pub strict_of : (before : List SporadicTask → Job → Job → Bool) → OrderLaws before → (tasks : List SporadicTask)
    → IsStrictOrder (before tasks)
strict_of before laws tasks = record { not_itself = laws.not_itself tasks; in_turn = laws.in_turn tasks }
