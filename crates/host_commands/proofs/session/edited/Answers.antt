use Rattle.std.proofs.Common.{◌≡◌, refl, subst}
use Rattle.std.proofs.lemmas.Result.{IfOk-at_ok}
use Rattle.slot_model.proofs.HandedOn.{err_is}
use Rattle.tree_model.specs.View.{SystemView}
use Rattle.script_file.specs.declared.fault.ScriptFault.TheVariants.{NoMemory}
use Rattle.rt_report.specs.declared.fault.FileFault.TheVariants.{Script}
use Rattle.command_frame.proofs.SecondFile.{fault_said, unless_memory}
use Rattle.host_commands.specs.Session.{EditsSystem}
use Rattle.host_commands.specs.inner.Editing.{IsToldSession}
use Rattle.host_commands.proofs.Edited.{edits_told}
use Rattle.host_commands.proofs.session.edited.Goals as goal

pub returns-in_err-text-clause-answer : goal.returns-in_err-text-clause-answer
returns-in_err-text-clause-answer c =
    rw (err_is c.from_residual.result _ c.from_residual.ensures.1)
    (fault_said Script _ _ c.edit_all.result
    (unless_memory (λ fault. fault ≡ NoMemory) _ c.edit_all.result c.edit_all.ensures.fault)
    (EditsSystem c.args.sys.now) c.in_err-text.field-0.0 c.in_err-text.ensures.refused)

pub returns-clause-answer : goal.returns-clause-answer
returns-clause-answer c =
    edits_told c.args.sys.now c.args.bytes.now c.in_ok-text.text.items _ c.requires.admitted
    (subst (λ (s : SystemView). IsToldSession s c.args.bytes.now c.in_ok-text.text.items) c.requires.same
    (IfOk-at_ok _ c.in_ok-text.ensures.value c.edit_all.ensures.told)) refl
