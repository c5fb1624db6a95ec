use Rattle.std.proofs.Common.{◌≡◌, ◌<◌, ◌≤◌, ◌*◌, ◌-◌, true, length}
use Rattle.slot_model.specs.declared.task.TheConstants.{LIMIT}
use Rattle.tree_model.specs.declared.place.Place.TheVariants.{Core}
use Rattle.tree_model.specs.Tree.{is_child}
use Rattle.isolation.specs.inner.Ties.{tie_of}
use Rattle.isolation.proofs.Least.{asked_by}
use Rattle.isolation.proofs.Whole.{whole_by}
use Rattle.isolation.proofs.window.asked_in.Given as goal

-- the sums are what those ahead of the next one ask for
abbrev pub invariant-loop-u : goal.invariant-loop-u
invariant-loop-u l = record {
  within : l.u ≤ length l.sys.parts;
  here : l.u < length l.sys.parts → is_child l.sys (Core l.core) l.u ≡ true;
  slots_are : l.slots ≡ asked_by (tie_of l.ties) l.sys l.plan l.core l.v l.t l.u;
  few : l.slots ≤ l.u * LIMIT;
  whole_is : l.whole ≡ whole_by (tie_of l.ties) l.sys l.plan l.core l.v l.t l.u;
  few_more : l.whole ≤ l.u * (2 * LIMIT);
}

abbrev pub decreases-loop-u : goal.decreases-loop-u
decreases-loop-u l = length l.sys.parts - l.u
