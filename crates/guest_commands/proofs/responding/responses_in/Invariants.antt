use Rattle.std.proofs.Common.{◌≡◌, ℕ, ◌<◌, length, get_or}
use Rattle.slot_model.specs.Task.{sporadic_tasks}
use Rattle.slot_model.specs.Supply.{GivesBudget}
use Rattle.slot_model.specs.Order.{before_of, ranks_above}
use Rattle.slot_model.specs.Bound.{sbf}
use Rattle.fp_test.specs.Hits.{IsLeastHit}
use Rattle.response_times.specs.Response.{IsGreatestResponse}
use Rattle.guest_commands.proofs.responding.responses_in.Given as goal

-- the greatest responses of the tasks so far
abbrev pub invariant-loop-i : goal.invariant-loop-i
invariant-loop-i l =
    let T = sporadic_tasks l.level.tasks.now in
    record {
      long : length l.worst.items ≡ l.i;
      least : (k : ℕ) → k < l.i
          → IsLeastHit (ranks_above l.level.sched T) T (sbf l.supply.period l.supply.budget) k
          (get_or l.worst.items k 0);
      greatest : (k : ℕ) → k < l.i
          → IsGreatestResponse (GivesBudget l.supply.period l.supply.budget) (before_of l.level.sched T) T k
          (get_or l.worst.items k 0);
    }
