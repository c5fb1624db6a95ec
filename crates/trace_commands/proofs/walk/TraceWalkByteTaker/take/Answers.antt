use Rattle.std.proofs.Common.{refl}
use Rattle.trace_commands.proofs.Walked.{took_more}
use Rattle.trace_commands.proofs.walk.TraceWalkByteTaker.take.Goals as goal

pub returns : goal.returns
returns c =
    took_more c.take.result c.args.self.now
    (record { sys = c.args.self.now.sys; counted = c.args.self.now.counted; walker = c.take.new.self })
    c.args.piece.now refl refl c.take.ensures
