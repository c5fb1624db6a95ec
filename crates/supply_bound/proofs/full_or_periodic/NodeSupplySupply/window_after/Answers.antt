use Rattle.std.proofs.Common.{subst}
use Rattle.supply_bound.specs.NextWindow.{IsFirstStretch}
use Rattle.supply_bound.specs.declared.node_supply.NodeSupply.{NodeSupply}
use Rattle.supply_bound.specs.NodeSupplies.{pattern_of}
use Rattle.supply_bound.proofs.full_or_periodic.NodeSupplySupply.window_after.Goals as goal

pub window_after-requires-in-Periodic : goal.window_after-requires-in-Periodic
window_after-requires-in-Periodic c =
    subst (λ (supply : NodeSupply). IsFirstStretch (pattern_of supply) c.args.last.from c.args.below c.args.last)
    c.in-Periodic.is c.requires
