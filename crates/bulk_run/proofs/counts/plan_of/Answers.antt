use Rattle.std.proofs.Common.{sym, subst}
use Rattle.tree_model.specs.View.{SystemView}
use Rattle.tree_model.specs.Admission.{Admitted}
use Rattle.bulk_host.specs.Host.{bulk_budgets}
use Rattle.bulk_host.proofs.Admitting.{host_is_admitted}
use Rattle.bulk_run.proofs.counts.plan_of.Goals as goal

pub returns-in-Ok : goal.returns-in-Ok
returns-in-Ok c =
    c.in-Ok.ensures.complete (bulk_budgets c.args.n) (subst (λ (s : SystemView). Admitted s (bulk_budgets c.args.n))
    (sym c.requires.host) (host_is_admitted c.args.n c.requires.some c.requires.most))
