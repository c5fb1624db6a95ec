use Rattle.std.proofs.Common.{◌≡◌, map}
use Rattle.slot_model.specs.Slots.{places_where}
use Rattle.tree_model.specs.declared.place.Place.TheVariants.{Core}
use Rattle.tree_model.specs.Tree.{is_child}
use Rattle.rtds_sim.specs.inner.Accounts.{new_account}
use Rattle.rtds_sim.proofs.host_core.accounts_of.Given as goal

-- those of the parts so far
abbrev pub invariant-loop-v : goal.invariant-loop-v
invariant-loop-v l =
    l.accounts.items ≡ map (new_account l.sys l.plan) (places_where (is_child l.sys (Core l.core)) l.v)
