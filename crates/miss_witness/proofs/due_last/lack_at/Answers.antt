use Rattle.std.proofs.Common.{arith}
use Rattle.fp_request.proofs.Parts.{sporadic_tasks-length}
use Rattle.miss_witness.proofs.EndMiss.{small_lack}
use Rattle.miss_witness.proofs.due_last.lack_at.Goals as goal

pub unreachable-requires : goal.unreachable-requires
unreachable-requires c =
    let small
    = small_lack c.args.tasks.now c.args.period c.args.budget c.args.span c.requires.few c.requires.some_period
    c.requires.in_period c.requires.in_reach (sporadic_tasks-length c.args.tasks.now) c.requires.lacking in
    omega (arith, small.1, c.in_default.ensures.exact)

pub overflow_cast-result : goal.overflow_cast-result
overflow_cast-result c =
    let small
    = small_lack c.args.tasks.now c.args.period c.args.budget c.args.span c.requires.few c.requires.some_period
    c.requires.in_period c.requires.in_reach (sporadic_tasks-length c.args.tasks.now) c.requires.lacking in
    omega (arith, small.0, c.saturating_sub.ensures, c.in-Some.ensures.exact, c.least-given.ensures)
