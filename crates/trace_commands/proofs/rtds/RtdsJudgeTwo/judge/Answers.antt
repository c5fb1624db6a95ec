use Rattle.std.proofs.Common.{◌≡◌, List, refl, subst, inl}
use Rattle.std.proofs.lemmas.Result.{IfOk-at_ok}
use Rattle.slot_model.proofs.HandedOn.{err_is}
use Rattle.release_file.specs.declared.fault.ReleaseFault.TheVariants.{NoMemory}
use Rattle.release_file.specs.declared.workload.Wake.{Wake}
use Rattle.rtds_trace.specs.RunText.{IsRunText}
use Rattle.rt_report.specs.declared.fault.FileFault.TheVariants.{Release}
use Rattle.command_frame.proofs.SecondFile.{fault_said, unless_memory}
use Rattle.trace_commands.specs.Rtds.{RunsWakes}
use Rattle.trace_commands.proofs.rtds.RtdsJudgeTwo.judge.Goals as goal

pub returns-in_err-wakes-clause-answer : goal.returns-in_err-wakes-clause-answer
returns-in_err-wakes-clause-answer c =
    rw (err_is c.from_residual.result _ c.from_residual.ensures.1)
    (fault_said Release _ _ c.read_workload.result
    (unless_memory (λ fault. fault ≡ NoMemory) _ c.read_workload.result c.read_workload.ensures.fault)
    (RunsWakes c.args.self.now.slots.count c.args.sys.now) c.in_err-wakes.field-0.0 c.in_err-wakes.ensures.refused)

pub returns-clause-answer : goal.returns-clause-answer
returns-clause-answer c =
    let plan = c.in_ok-plan.plan in
    let text = c.in_ok-text.text.items in
    let made : IsRunText c.args.sys.now plan c.in_ok-wakes.wakes.items c.args.self.now.slots.count text
    = subst (λ (ws : List Wake). IsRunText c.args.sys.now plan ws c.args.self.now.slots.count text)
    c.deref.ensures.value c.in_ok-text.ensures.text in
    inl (record {
      value = c.in_ok-wakes.wakes.items;
      gives = IfOk-at_ok _ c.in_ok-wakes.ensures.value c.read_workload.ensures.spelt;
      said = inl (record {
        value = plan;
        gives = c.in_ok-plan.ensures.assigned;
        said = inl (record {
          value = made.events;
          gives = record { all = c.in_ok-text.ensures.rtds; trace = made.run.trace };
          said = record { status_is = refl; told = made.told; reads_back = made.reads_back };
        });
      });
    })
