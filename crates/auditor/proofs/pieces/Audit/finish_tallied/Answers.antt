use Rattle.std.proofs.Common.{subst}
use Rattle.tree_model.specs.View.{SystemView}
use Rattle.std.specs.Prelude.{IfOk}
use Rattle.auditor.specs.Tally.{IsTalliedOf}
use Rattle.auditor.specs.declared.counted.Counted.TheVariants.{Core}
use Rattle.auditor.proofs.Streaming.{watched_all}
use Rattle.auditor.proofs.pieces.Audit.finish_tallied.Goals as goal

pub both_of-requires-clause-watched : goal.both_of-requires-clause-watched
both_of-requires-clause-watched c =
    let (sys, budgets, text, h) = c.requires in (
      budgets,
      text,
      watched_all Core sys budgets text c.args.self c.in-Ok.w h (c.in-Ok.ensures.watched sys h.start text h.fed),
    )

pub returns-in-Ok-clause-tallied : goal.returns-in-Ok-clause-tallied
returns-in-Ok-clause-tallied c sys budgets text h =
    subst
    (λ (z : SystemView). IfOk c.both_of.result (λ t. IsTalliedOf z budgets text t.finding t.vcpus.items)) h.sys_is
    (c.both_of.ensures.tallied budgets text
    (watched_all Core sys budgets text c.args.self c.in-Ok.w h (c.in-Ok.ensures.watched sys h.start text h.fed)))

pub returns-in-Err-clause-fault : goal.returns-in-Err-clause-fault
returns-in-Err-clause-fault c sys budgets text h = c.in-Err.ensures.fault sys h.start text h.fed
