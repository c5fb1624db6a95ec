use Rattle.std.proofs.Common.{◌≡◌}
use Rattle.slot_model.proofs.HandedOn.{err_is}
use Rattle.release_file.specs.declared.fault.ReleaseFault.TheVariants.{NoMemory}
use Rattle.rt_report.specs.declared.fault.FileFault.TheVariants.{Release}
use Rattle.command_frame.proofs.SecondFile.{fault_said, unless_memory}
use Rattle.trace_commands.specs.Simulate.{SimulatesJobs}
use Rattle.trace_commands.proofs.simulate.SimulateJudgeTwo.judge.Goals as goal

pub returns-in_err-jobs-clause-answer : goal.returns-in_err-jobs-clause-answer
returns-in_err-jobs-clause-answer c =
    let self = c.args.self.now in
    rw (err_is c.from_residual.result _ c.from_residual.ensures.1)
    (fault_said Release _ _ c.read_releases.result
    (unless_memory (λ fault. fault ≡ NoMemory) _ c.read_releases.result c.read_releases.ensures.fault)
    (SimulatesJobs self.pattern self.slots.count c.args.sys.now) c.in_err-jobs.field-0.0
    c.in_err-jobs.ensures.refused)
