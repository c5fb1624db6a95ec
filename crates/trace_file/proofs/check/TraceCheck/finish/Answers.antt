use Rattle.trace_file.proofs.check.TraceCheck.finish.Goals as goal

pub returns-in-Ok-clause-kept : goal.returns-in-Ok-clause-kept
returns-in-Ok-clause-kept c sys text (start, h) =
    let w = c.in-Ok.ensures.watched sys start text h in (w.events, w.spelled, w.kept)

pub returns-in-Err-clause-fault : goal.returns-in-Err-clause-fault
returns-in-Err-clause-fault c sys text (start, h) = c.in-Err.ensures.fault sys start text h
