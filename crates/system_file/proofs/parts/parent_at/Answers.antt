use Rattle.std.proofs.Common.{sym, ap, unwrap_or}
use Rattle.std.proofs.lemmas.Result.{IfOk-weaker, IfErr-weaker}
use Rattle.tree_model.specs.declared.place.Parent.TheVariants.{Core}
use Rattle.slot_model.proofs.HandedOn.{handed_on}
use Rattle.system_file.specs.Faults.{parent_faults}
use Rattle.system_file.proofs.Places.{parent_kept}
use Rattle.system_file.proofs.parts.parent_at.Goals as goal

pub returns-in_err-text-clause-fault : goal.returns-in_err-text-clause-fault
returns-in_err-text-clause-fault c =
    let step = c.from_residual in
    handed_on step.result _ _ step.ensures.1 (λ cores before later so_far own is known.
    c.in_err-text.ensures.fault (parent_faults c.args.spot cores before))

pub returns-clause-ok : goal.returns-clause-ok
returns-clause-ok c =
    IfOk-weaker c.parent_of.result _ _ (λ parent ok cores before later so_far own is known.
    let found = ok cores before later so_far own is known in
    rw c.in_ok-text.ensures.ok (
      found.0,
      sym (ap (λ o. unwrap_or o (Core 0)) (parent_kept cores before later c.in_ok-text.text.now parent found.1)),
    )) c.parent_of.ensures.ok

pub returns-clause-fault : goal.returns-clause-fault
returns-clause-fault c =
    IfErr-weaker c.parent_of.result _ _ (λ fault wrong cores before later so_far own is known.
    rw c.in_ok-text.ensures.ok (wrong cores before later so_far own is known)) c.parent_of.ensures.fault
