-- The keys of the orders that numbers tell.
use Rattle.std.proofs.Common.{◌≡◌, ◌||◌, ◌&&◌, ◌==◌, Bool, true, false, List, refl}
use Rattle.slot_model.specs.Task.{SporadicTask, deadline_of}
use Rattle.slot_model.specs.Order.{edf_before, edf_key, IsKeyed}

alone : (less same : Bool) → less ≡ (less || (same && false))
alone true same = refl
alone false true = refl
alone false false = refl

-- of two jobs that with the earlier deadline moment has the smaller key
pub edf_keyed : (tasks : List SporadicTask) → IsKeyed tasks (edf_before tasks) (edf_key tasks)
edf_keyed tasks a b in_a in_b = alone (edf_before tasks a b) (deadline_of tasks a == deadline_of tasks b)
