use Rattle.std.proofs.Common.{[]}
use Rattle.auditor.specs.declared.counted.Counted.TheVariants.{Core}
use Rattle.schedule_tests.proofs.auditor_tests.found_in_two.Goals as goal

pub loop-piece-init : goal.loop-piece-init
loop-piece-init c = ([], c.in_ok-audit.ensures)

pub take-requires : goal.take-requires
take-requires c = (Core, c.args.sys.now, c.args.plan.now, c.loop-piece.invariant.0, c.loop-piece.invariant.1)

pub loop-piece-preserved : goal.loop-piece-preserved
loop-piece-preserved c =
    let taken = c.loop-piece.invariant in
    (_, c.in_ok-take.ensures Core c.args.sys.now c.args.plan.now taken.0 taken.1)

pub finish-requires : goal.finish-requires
finish-requires c = (c.args.sys.now, c.args.plan.now, c.loop-piece.invariant.0, c.loop-piece.invariant.1)
