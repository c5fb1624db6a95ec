use Rattle.std.proofs.Common.{◌∙◌, sym, ap, refl, arith, ℕ, not, Option}
use Rattle.vcpu_watch.specs.declared.watch.Breach.{Breach}
use Rattle.vcpu_watch.specs.Watch.{breach_of, counted, first_broken}
use Rattle.vcpu_watch.proofs.Telling.{tells_over, tells_same, over, got_each, breach_each}
use Rattle.vcpu_watch.proofs.watch.Watch.skip.Goals as goal

pub returns-clause-tells : goal.returns-clause-tells
returns-clause-tells c runs blocks f st t =
    let w = c.args.self.now in
    let s = c.args.state in
    let r = c.args.limits.now in
    let whole = c.args.whole in
    let told
    = tells_over runs blocks r f s w whole c.requires.in_range.some_period (omega (arith, c.requires.some))
    c.requires.at_begin st t in
    let got = c.number_if-got.ensures in
    let breach = c.breach-breach.ensures ∙ ap (breach_of r (not s.is_blocked)) got in
    rw c.note.ensures (tells_same runs blocks r f (over s w r whole) _ refl refl refl refl
    (sym (c.count.ensures
    ∙ (ap (λ (z : ℕ). counted w.tally whole (not s.is_blocked) z c.breach-breach.result) got
    ∙ ap (counted w.tally whole (not s.is_blocked) (got_each r s)) breach)))
    (sym (ap (λ (z : Option Breach). first_broken w.broken z w.from c.number_if-got.result) breach
    ∙ ap (first_broken w.broken (breach_each r s) w.from) got))
    told)
