use Rattle.rtds_model.proofs.RunsGive.{runs_give}
use Rattle.rtds_sim.proofs.simulate.print_rtds.Goals as goal

pub returns-in-Some-clause-gives : goal.returns-in-Some-clause-gives
returns-in-Some-clause-gives c =
    runs_give c.args.sys.now c.args.plan.now c.requires.plan c.args.wakes.now c.requires.workload c.args.slots

pub returns-in-Err-clause-gives : goal.returns-in-Err-clause-gives
returns-in-Err-clause-gives c =
    runs_give c.args.sys.now c.args.plan.now c.requires.plan c.args.wakes.now c.requires.workload c.args.slots

pub returns-in-Ok-clause-gives : goal.returns-in-Ok-clause-gives
returns-in-Ok-clause-gives c =
    runs_give c.args.sys.now c.args.plan.now c.requires.plan c.args.wakes.now c.requires.workload c.args.slots
