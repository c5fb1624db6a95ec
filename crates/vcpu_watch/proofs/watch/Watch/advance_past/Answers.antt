use Rattle.std.proofs.Common.{arith}
use Rattle.vcpu_watch.proofs.Telling.{stays_in}
use Rattle.vcpu_watch.proofs.watch.Watch.advance_past.Goals as goal

pub returns-clause-tells : goal.returns-clause-tells
returns-clause-tells c runs blocks f st t =
    let s = c.args.state in
    let from = c.args.self.now.now in
    let to = c.args.to in
    let first = c.pass.ensures in
    let second = c.close.ensures in
    let end = c.requires.goes_on in
    let t2
    = first.tells runs blocks f (stays_in runs blocks s from to from _ (omega arith) (omega (arith, end)) st) t in
    let t3
    = second.tells s runs blocks f
    (stays_in runs blocks s from to _ _ (omega (arith, first.now, end)) (omega (arith, first.now, end)) st) t2 in
    c.advance_new.ensures.tells runs blocks f
    (stays_in runs blocks s from to _ to (omega (arith, first.now, second.now, end)) (omega arith) st) t3
