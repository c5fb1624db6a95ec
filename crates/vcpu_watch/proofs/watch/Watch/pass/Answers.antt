use Rattle.vcpu_watch.proofs.Telling.{tells_passed}
use Rattle.vcpu_watch.proofs.watch.Watch.pass.Goals as goal

pub returns-clause-tells : goal.returns-clause-tells
returns-clause-tells c runs blocks f st t =
    tells_passed runs blocks c.args.limits.now f c.args.state c.args.self.now c.args.to _ _ c.requires.goes_on
    c.requires.in_period c.number_if.ensures c.was_blocked_by-was_blocked.ensures st t
