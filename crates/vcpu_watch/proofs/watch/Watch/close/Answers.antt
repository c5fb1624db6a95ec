use Rattle.std.proofs.Common.{◌∙◌, ap, not, Option}
use Rattle.vcpu_watch.specs.declared.watch.Breach.{Breach}
use Rattle.vcpu_watch.specs.Watch.{counted, first_broken}
use Rattle.vcpu_watch.proofs.Telling.{tells_closed}
use Rattle.vcpu_watch.proofs.watch.Watch.close.Goals as goal

pub returns-clause-tells : goal.returns-clause-tells
returns-clause-tells c state runs blocks f st t =
    let w = c.args.self.now in
    let breach = c.breach-breach.ensures in
    rw c.note.ensures (tells_closed runs blocks c.args.limits.now f w _ _ c.requires.at_end
    (c.count.ensures ∙ ap (counted w.tally 1 (not w.was_blocked) w.got) breach)
    (ap (λ (z : Option Breach). first_broken w.broken z w.from w.got) breach) t)
