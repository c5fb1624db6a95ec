use Rattle.tree_model.specs.Admission.{visited_from}
use Rattle.compose_tree.proofs.recomposition.+settle_up.Given as goal

abbrev pub decreases-settle_up : goal.decreases-settle_up
decreases-settle_up l = visited_from l.start
