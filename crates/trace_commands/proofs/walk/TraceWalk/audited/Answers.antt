use Rattle.std.proofs.Common.{subst, sym}
use Rattle.std.proofs.lemmas.Result.{IfOk-at_ok}
use Rattle.slot_model.proofs.HandedOn.{err_is}
use Rattle.trace_file.specs.Fed.{HasChecked}
use Rattle.trace_commands.specs.inner.Walk.{IsWaiting}
use Rattle.trace_commands.proofs.Walked.{checking, unspelled, waited}
use Rattle.trace_commands.proofs.walk.TraceWalk.audited.Goals as goal

pub finish-requires : goal.finish-requires
finish-requires c =
    let (counted, sys, bytes, h) = c.requires in (
      sys,
      bytes,
      subst (HasChecked sys bytes) (sym c.in-Checks.check-is)
          (checking counted sys bytes _ _ _ c.in-Checks.is h).0,
    )

pub returns-in_err-spelled-in-Checks-clause-refused : goal.returns-in_err-spelled-in-Checks-clause-refused
returns-in_err-spelled-in-Checks-clause-refused c counted sys bytes h =
    let taken = checking counted sys bytes _ _ _ c.in-Checks.is h in
    rw (err_is c.from_residual.result _ c.from_residual.ensures.1)
    (unspelled sys bytes c.finish.result
    (c.finish.ensures.fault sys bytes (subst (HasChecked sys bytes) (sym c.in-Checks.check-is) taken.0)) _
    c.in_err-spelled-in-Checks.ensures.refused)

pub returns-in_ok-spelled-in-Checks-clause-refused : goal.returns-in_ok-spelled-in-Checks-clause-refused
returns-in_ok-spelled-in-Checks-clause-refused c counted sys bytes h =
    let taken = checking counted sys bytes _ _ _ c.in-Checks.is h in
    let kept = IfOk-at_ok _ c.in_ok-spelled-in-Checks.ensures.value (c.finish.ensures.kept sys bytes
    (subst (HasChecked sys bytes) (sym c.in-Checks.check-is) taken.0)) in
    waited sys bytes (record { value = kept.0; gives = kept.1 }) _
    (subst (IsWaiting sys) (sym c.in-Checks.refused-is) taken.1)
