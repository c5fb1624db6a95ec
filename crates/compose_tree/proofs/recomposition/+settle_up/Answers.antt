use Rattle.compose_tree.proofs.Settling.{put_back}
use Rattle.compose_tree.proofs.recomposition.+settle_up.Goals as goal

pub returns-in-Err-clause-unchanged : goal.returns-in-Err-clause-unchanged
returns-in-Err-clause-unchanged t c =
    put_back c.args.budgets.now c.settle_up.new.budgets c.in-Part.q c.replace-was.new.dest c.replace-was.result _
    c.in-Err.ensures.unchanged c.replace-was.ensures.value
