use Rattle.std.proofs.Common.{◌≡◌, inl, inr}
use Rattle.std.proofs.lemmas.Result.{IfOk-at_ok}
use Rattle.slot_model.proofs.HandedOn.{err_is}
use Rattle.script_file.specs.declared.fault.ScriptFault.TheVariants.{NoMemory}
use Rattle.rt_report.specs.declared.fault.FileFault.TheVariants.{Script}
use Rattle.command_frame.proofs.SecondFile.{fault_said, unless_memory}
use Rattle.host_commands.specs.Session.{EditsSystem}
use Rattle.host_commands.proofs.session.EditorJudgeTwo.judge.Goals as goal

pub returns-in_err-spelled-in-Err-clause-answer : goal.returns-in_err-spelled-in-Err-clause-answer
returns-in_err-spelled-in-Err-clause-answer c =
    rw (err_is c.from_residual-in_err-spelled-in-Err.result _ c.from_residual-in_err-spelled-in-Err.ensures.1)
    (fault_said Script _ _ c.read_edits.result
    (unless_memory (λ fault. fault ≡ NoMemory) _ c.read_edits.result c.read_edits.ensures.fault)
    (EditsSystem c.args.sys.now) c.in_err-spelled-in-Err.field-0.0 c.in_err-spelled-in-Err.ensures.refused)

pub returns : goal.returns
returns c = record {
  answer = inl (record {
    value = c.in_ok-spelled-in-Err.field-0.items;
    gives = IfOk-at_ok _ c.in_ok-spelled-in-Err.ensures.value c.read_edits.ensures.spelt;
    said = inr c.in_ok-refuse_system-in-Err.ensures.refused;
  });
  judged = c.in_ok-refuse_system-in-Err.ensures.judged;
}
