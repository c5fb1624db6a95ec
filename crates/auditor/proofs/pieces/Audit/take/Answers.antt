use Rattle.std.proofs.Common.{◌++◌, refl}
use Rattle.auditor.proofs.Streaming.{audited_on}
use Rattle.auditor.proofs.pieces.Audit.take.Goals as goal

pub returns : goal.returns
returns c counted sys budgets text h =
    audited_on c.take.result counted sys budgets text (text ++ c.args.piece.now) c.args.self.now
    (record { sys = c.args.self.now.sys; feed = c.take.new.self }) refl h (c.take.ensures sys h.start text h.fed)
