use Rattle.slot_model.proofs.HandedOn.{err_is}
use Rattle.rt_report.specs.declared.fault.FileFault.TheVariants.{Cert}
use Rattle.command_frame.proofs.SecondFile.{fault_said}
use Rattle.admit_commands.specs.Check.{ChecksNodes}
use Rattle.admit_commands.proofs.check.CheckJudgeTwo.judge.Goals as goal

pub returns-in_err-certificate-clause-answer : goal.returns-in_err-certificate-clause-answer
returns-in_err-certificate-clause-answer c =
    rw (err_is c.from_residual.result _ c.from_residual.ensures.1)
    (fault_said Cert _ _ c.read_certificate.result c.read_certificate.ensures.fault (ChecksNodes c.args.sys.now)
    c.in_err-certificate.field-0.0 c.in_err-certificate.ensures.refused)
