use Rattle.std.proofs.Common.{arith}
use Rattle.vcpu_watch.proofs.Telling.{stays_in}
use Rattle.vcpu_watch.proofs.watch.Watch.advance_far.Goals as goal

pub returns-clause-tells : goal.returns-clause-tells
returns-clause-tells c runs blocks f st t =
    let s = c.args.state in
    let from = c.args.self.now.now in
    let to = c.args.to in
    let first = c.skip_to.ensures in
    let t2
    = first.tells runs blocks f (stays_in runs blocks s from to from _ (omega arith) first.now st) t in
    c.pass.ensures.tells runs blocks f (stays_in runs blocks s from to _ to first.goes_on (omega arith) st) t2
