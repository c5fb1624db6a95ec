use Rattle.std.proofs.Common.{◌≡◌, ◌<◌, true, length}
use Rattle.tree_model.specs.declared.place.Place.TheVariants.{Core}
use Rattle.tree_model.specs.Tree.{is_child}
use Rattle.isolation.proofs.Neighbouring.{its_core, on_core}
use Rattle.isolation.proofs.neighbours.Neighbours.put.Goals as goal

pub returns-in-Core : goal.returns-in-Core
returns-in-Core c =
    let its : (c.in-Core.core < length c.args.sys.now.cores)
    × (is_child c.args.sys.now (Core c.in-Core.core) c.args.v ≡ true)
    = its_core c.args.sys.now c.parts.ensures.system c.args.v c.parts.result.now c.index-parts-v.result c.parent.result
    c.in-Core.core c.requires.is_part c.parts.ensures.parts c.index-parts-v.is c.parent.ensures c.in-Core.is in
    on_core c.args.sys.now c.args.self.now c.args.v c.requires.is_part c.requires.behind c.in-Core.core its.0 its.1
    c.parts.ensures.system.few_cores c.parts.ensures.system.few_parts
