use Rattle.std.proofs.Common.{List, length, sym, ◌∙◌, ap, subst}
use Rattle.tree_model.specs.View.{PartView, SystemView}
use Rattle.tree_model.specs.Admission.{Admitted}
use Rattle.admission_session.proofs.OneBudget.{budget_left}
use Rattle.admission_session.proofs.TakenBack.{guest_off, guest_off_system}
use Rattle.admission_session.proofs.OnCores.{trial_system, trial_kept, put_on, put_nowhere}
use Rattle.admission_session.proofs.cores.try_cores.Goals as goal

pub first_core-requires-clause-systems : goal.first_core-requires-clause-systems
first_core-requires-clause-systems c =
    trial_system c.args.sys.now c.put_guest.new.sys c.args.guest.now (length c.parts.result.now)
    c.in_ok-put_guest.ensures.put (ap (λ (ps : List PartView). length ps) c.parts.ensures.parts)
    c.parts.ensures.system c.requires.new

pub first_core-requires-clause-kept : goal.first_core-requires-clause-kept
first_core-requires-clause-kept c =
    λ d h.
    trial_kept c.args.sys.now c.put_guest.new.sys c.args.guest.now (length c.parts.result.now)
    c.in_ok-put_guest.ensures.put (ap (λ (ps : List PartView). length ps) c.parts.ensures.parts) c.args.plan.now
    c.put_guest.new.plan c.in_ok-put_guest.ensures.more c.requires.admitted d

-- where it is put on some core, and where it is taken off again
pub pop_leaf-leaf-requires-clause-system : goal.pop_leaf-leaf-requires-clause-system
pop_leaf-leaf-requires-clause-system c =
    guest_off_system c.args.sys.now c.put_guest.new.sys c.first_core.new.sys c.args.guest.now c.parts.ensures.system
    c.in_ok-put_guest.ensures.put c.in-None.ensures.unchanged

pub returns-in-Some-clause-put : goal.returns-in-Some-clause-put
returns-in-Some-clause-put c =
    put_on c.args.sys.now c.put_guest.new.sys c.first_core.new.sys c.args.guest.now (length c.parts.result.now)
    c.in-Some.c c.first_core.new.plan c.in_ok-put_guest.ensures.put
    (ap (λ (ps : List PartView). length ps) c.parts.ensures.parts) c.in-Some.ensures.put c.in-Some.ensures.is_core
    c.in-Some.ensures.admitted c.in-Some.ensures.before

pub returns-in-None-clause-put : goal.returns-in-None-clause-put
returns-in-None-clause-put c = (
  guest_off c.args.sys.now c.put_guest.new.sys c.first_core.new.sys c.pop_leaf-leaf.new.sys c.args.guest.now
      c.in_ok-put_guest.ensures.put c.in-None.ensures.unchanged c.pop_leaf-leaf.ensures.taken,
  put_nowhere c.args.sys.now c.put_guest.new.sys c.args.guest.now (length c.parts.result.now)
      c.in_ok-put_guest.ensures.put (ap (λ (ps : List PartView). length ps) c.parts.ensures.parts)
      c.in-None.ensures.refused,
)

pub returns-in-None-clause-admitted : goal.returns-in-None-clause-admitted
returns-in-None-clause-admitted c =
    subst (λ (s : SystemView). Admitted s c.one_budget_less.new.plan)
    (sym (guest_off c.args.sys.now c.put_guest.new.sys c.first_core.new.sys c.pop_leaf-leaf.new.sys c.args.guest.now
    c.in_ok-put_guest.ensures.put c.in-None.ensures.unchanged c.pop_leaf-leaf.ensures.taken))
    (subst (Admitted c.args.sys.now)
    (sym (budget_left c.args.plan.now c.put_guest.new.plan c.first_core.new.plan c.one_budget_less.new.plan 1
    (length c.parts.result.now) c.in_ok-put_guest.ensures.more
    (ap (λ (ps : List PartView). length ps) c.parts.ensures.parts ∙ sym c.requires.admitted.assigned.one_each)
    c.in-None.ensures.long c.in-None.ensures.others c.one_budget_less.ensures)) c.requires.admitted)
