use Rattle.std.proofs.Common.{arith}
use Rattle.script_file.proofs.CutPieces.{cut_nowhere, cut_at}
use Rattle.script_file.proofs.cutting.cut.Goals as goal

pub returns-then-text-i-clause-pieces : goal.returns-then-text-i-clause-pieces
returns-then-text-i-clause-pieces c =
    cut_at c.args.at c.args.text.now c.loop-i.i c.loop-i-test.true c.if-text-i.true c.loop-i.invariant

pub returns-clause-pieces : goal.returns-clause-pieces
returns-clause-pieces c =
    cut_nowhere c.args.at c.args.text.now (λ j l. c.loop-i.invariant j (omega (arith, l, c.loop-i-test.false)))
