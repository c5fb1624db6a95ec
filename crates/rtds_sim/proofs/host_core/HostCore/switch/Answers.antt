use Rattle.std.proofs.Common.{◌≡◌, ℕ, Bool, cond, List, [], ◌∷◌, ◌++◌, Option, ◌∙◌, ap, subst}
use Rattle.std.specs.Prelude.{OnOk}
use Rattle.trace_file.specs.declared.event.Event.{Event}
use Rattle.rtds_trace.specs.Printed.{on_at, stays, going_to}
use Rattle.rtds_sim.proofs.Switching.{told_switch}
use Rattle.rtds_sim.proofs.host_core.HostCore.switch.Goals as goal

pub returns-clause-told : goal.returns-clause-told
returns-clause-told c =
    let core = c.args.self.now in
    let next : Option ℕ = c.first_of-next.result in
    let told : List Event = c.args.told.now.items in
    subst (λ (es : List Event). OnOk c.tell_switch.result (c.tell_switch.new.told.items ≡ es))
    (ap (λ (q : Bool). cond q told (told ++ on_at c.args.core c.args.at (going_to c.part_of.result) ∷ []))
    c.stays-stays.ensures
    ∙ (ap (λ (o : Option ℕ). cond (stays core.holder next) told (told ++ on_at c.args.core c.args.at (going_to o) ∷ []))
    c.part_of.ensures
    ∙ told_switch core.vcpus c.requires.ready.in_turn core.holder next c.requires.ready.holder
    c.first_of-next.ensures.within c.args.core c.args.at told))
    c.tell_switch.ensures
