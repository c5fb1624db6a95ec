use Rattle.slack.proofs.Halving.{written_is}
use Rattle.std.proofs.Common.{subst}
use Rattle.tree_model.specs.View.{SystemView}
use Rattle.tree_model.specs.System.{IsSystem}
use Rattle.slack.proofs.budgets.with_budget.Goals as goal

pub invariant_of-result : goal.invariant_of-result
invariant_of-result c =
    written_is c.args.sys c.sys.inside.cores.items c.sys.inside.parts.items c.sys.view_is
    (subst (λ (s : SystemView). IsSystem s) c.sys.view_is c.sys.invariant) c.args.q c.requires.is_part _
    c.index_mut.result.now c.behind-parts.view_is c.index_mut.ensures.value c.args.budget c.requires.some
    c.requires.in_period
