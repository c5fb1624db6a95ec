use Rattle.std.proofs.Common.{subst}
use Rattle.tree_model.specs.View.{SystemView}
use Rattle.auditor.specs.Finding.{IsFindingOf}
use Rattle.auditor.specs.declared.counted.Counted.TheVariants.{Core}
use Rattle.auditor.proofs.Streaming.{watched_all}
use Rattle.auditor.proofs.pieces.Audit.finish.Goals as goal

pub finding-requires-clause-watched : goal.finding-requires-clause-watched
finding-requires-clause-watched c =
    let (sys, budgets, text, h) = c.requires in
    let all
    = watched_all Core sys budgets text c.args.self c.in-Ok.w h (c.in-Ok.ensures.watched sys h.start text h.fed) in
    (budgets, all.events, all.at_end)

pub returns-in-Ok-clause-found : goal.returns-in-Ok-clause-found
returns-in-Ok-clause-found c sys budgets text h =
    let all
    = watched_all Core sys budgets text c.args.self c.in-Ok.w h (c.in-Ok.ensures.watched sys h.start text h.fed) in
    subst (λ (z : SystemView). IsFindingOf z budgets text c.finding.result) h.sys_is (record {
      events = all.events;
      spelled = all.spelled;
      kept = all.at_end.kept;
      found = c.finding.ensures budgets all.events all.at_end;
    })

pub returns-in-Err-clause-fault : goal.returns-in-Err-clause-fault
returns-in-Err-clause-fault c sys budgets text h = c.in-Err.ensures.fault sys h.start text h.fed
