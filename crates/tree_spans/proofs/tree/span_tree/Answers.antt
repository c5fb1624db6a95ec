use Rattle.tree_model.proofs.FirstTrees.{first_tree_permitted, first_tree_unique, one_first_tree}
use Rattle.fp_request.proofs.Strict.{order_strict}
use Rattle.tree_spans.proofs.TreeNodes.{tree_counted}
use Rattle.tree_spans.proofs.KeptNodes.{spans_kept}
use Rattle.tree_spans.proofs.tree.span_tree.Goals as goal

pub returns-clause-spans : goal.returns-clause-spans
returns-clause-spans c = spans_kept _ _ _ _ _ _ _ c.in_ok-tree.ensures.tree

pub returns-clause-permitted : goal.returns-clause-permitted
returns-clause-permitted c = first_tree_permitted _ _ _ _ _ _ _ (returns-clause-spans c).first

pub returns-clause-only : goal.returns-clause-only
returns-clause-only c cores parts h =
    first_tree_unique _ _ _ _ _ c.in_ok-tree.ensures.system cores parts _ _ h (returns-clause-spans c).first

pub returns-clause-counts : goal.returns-clause-counts
returns-clause-counts c = tree_counted _ _ _ _ _ _ (returns-clause-spans c)

pub returns-clause-one : goal.returns-clause-one
returns-clause-one c =
    one_first_tree order_strict _ _ _ _ _ c.in_ok-tree.ensures.system
