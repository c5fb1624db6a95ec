use Rattle.std.proofs.Common.{◌++◌}
use Rattle.trace_file.proofs.Feeding.{checked_on}
use Rattle.trace_file.proofs.check.TraceCheck.take.Goals as goal

pub returns : goal.returns
returns c sys text (start, h) =
    checked_on c.take.result sys start (text ++ c.args.piece.now) (record { feed = c.take.new.self })
    (c.take.ensures sys start text h)
