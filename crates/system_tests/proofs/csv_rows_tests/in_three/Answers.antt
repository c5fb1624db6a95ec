use Rattle.std.proofs.Common.{[]}
use Rattle.system_tests.specs.declared.csv_rows_tests.Written.{Written}
use Rattle.system_tests.proofs.csv_rows_tests.in_three.Goals as goal

pub loop-piece-init : goal.loop-piece-init
loop-piece-init c =
    let written : Written = record { text = c.new.result } in
    (written, [], c.new-feed.ensures)

pub take-requires : goal.take-requires
take-requires c = c.loop-piece.invariant

pub loop-piece-preserved : goal.loop-piece-preserved
loop-piece-preserved c =
    let (start, text, fed) = c.loop-piece.invariant in
    (start, _, c.in_ok-take.ensures start text fed)

pub finish-requires : goal.finish-requires
finish-requires c = c.loop-piece.invariant
