use Rattle.tree_model.specs.Admission.{AssignedFrom}
use Rattle.compose_tree.specs.inner.Shorts.{ShortsFrom}
use Rattle.compose_tree.specs.Steps.{PartsPassFrom}
use Rattle.compose_tree.proofs.budgets.settle_parts.Given as goal

abbrev pub invariant-loop-q : goal.invariant-loop-q
invariant-loop-q l =
    record {
      assigned : AssignedFrom l.sys l.budgets l.q;
      pass : PartsPassFrom l.sys l.budgets l.q;
      shorts : ShortsFrom l.sys l.budgets l.shorts l.q;
    }
