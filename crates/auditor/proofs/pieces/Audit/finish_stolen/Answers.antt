use Rattle.std.proofs.Common.{subst}
use Rattle.tree_model.specs.View.{SystemView}
use Rattle.std.specs.Prelude.{IfOk}
use Rattle.auditor.specs.declared.counted.Counted.TheVariants.{Stolen}
use Rattle.auditor.specs.Steal.{IsStolenOf}
use Rattle.auditor.proofs.Streaming.{plan_of, watched_all}
use Rattle.auditor.proofs.pieces.Audit.finish_stolen.Goals as goal

pub stolen_of-requires-clause-watched : goal.stolen_of-requires-clause-watched
stolen_of-requires-clause-watched c =
    let (sys, budgets, text, h) = c.requires in
    let watched = c.in-Ok.ensures.watched sys h.start text h.fed in (
      budgets,
      text,
      plan_of Stolen sys budgets text c.args.self c.in-Ok.w h watched,
      watched_all Stolen sys budgets text c.args.self c.in-Ok.w h watched,
    )

pub returns-in-Ok-clause-stolen : goal.returns-in-Ok-clause-stolen
returns-in-Ok-clause-stolen c sys budgets text h =
    let watched = c.in-Ok.ensures.watched sys h.start text h.fed in
    subst
    (λ (z : SystemView). IfOk c.stolen_of.result (λ t. IsStolenOf z budgets text t.finding t.vcpus.items)) h.sys_is
    (c.stolen_of.ensures.stolen budgets text (plan_of Stolen sys budgets text c.args.self c.in-Ok.w h watched)
    (watched_all Stolen sys budgets text c.args.self c.in-Ok.w h watched))

pub returns-in-Err-clause-fault : goal.returns-in-Err-clause-fault
returns-in-Err-clause-fault c sys budgets text h = c.in-Err.ensures.fault sys h.start text h.fed
