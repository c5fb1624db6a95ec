use Rattle.std.proofs.Common.{◌≡◌, ◌<◌, ◌≤◌, ◌*◌, ◌-◌, true, length}
use Rattle.slot_model.specs.declared.task.TheConstants.{LIMIT}
use Rattle.tree_model.specs.declared.place.Place.TheVariants.{Core}
use Rattle.tree_model.specs.Tree.{is_child}
use Rattle.isolation.proofs.Sums.{IsSummed}
use Rattle.isolation.proofs.budgets.budgets_of.Given as goal

-- of the parts of the core ahead of the next one
abbrev pub invariant-loop-u : goal.invariant-loop-u
invariant-loop-u l = record {
  within : l.u ≤ length l.sys.parts;
  here : l.u < length l.sys.parts → is_child l.sys (Core l.core) l.u ≡ true;
  summed : IsSummed l.sys l.plan l.core l.budgets l.shortest l.u;
  few : l.budgets ≤ l.u * LIMIT;
}

abbrev pub decreases-loop-u : goal.decreases-loop-u
decreases-loop-u l = length l.sys.parts - l.u
