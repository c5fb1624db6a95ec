use Rattle.std.proofs.Common.{List, length, ap}
use Rattle.tree_model.specs.View.{PartView}
use Rattle.isolation.proofs.Neighbouring.{none_behind}
use Rattle.isolation.proofs.neighbours.Neighbours.new.Goals as goal

pub loop-v-init : goal.loop-v-init
loop-v-init c =
    none_behind c.args.sys.now (length c.parts-end.result.now)
    (ap (λ (ps : List PartView). length ps) c.parts-end.ensures.parts) c.parts-end.ensures.system.few_cores
