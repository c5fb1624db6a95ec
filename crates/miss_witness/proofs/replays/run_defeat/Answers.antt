use Rattle.std.proofs.Common.{arith}
use Rattle.std.proofs.lemmas.Result.{IfOk-weaker}
use Rattle.slot_model.specs.Task.{sporadic_tasks}
use Rattle.miss_witness.proofs.ReplayLeaf.{run_is_replay, runs_over}
use Rattle.miss_witness.proofs.replays.run_defeat.Goals as goal

pub returns : goal.returns
returns c =
    let T = sporadic_tasks c.args.tasks.now in
    let defeat = c.args.defeat.now in
    let jobs = c.as_slice.result.now in
    IfOk-weaker c.first_miss_by.result _ _ (λ miss h. run_is_replay c.args.sched T c.args.period defeat
    (omega (arith, c.requires.end, c.requires.in_reach)) c.requires.misses jobs h.0
    (runs_over c.args.sched T c.args.period defeat c.args.slots c.requires.end c.in_ok-jobs.jobs.items jobs
    c.in_ok-windows.windows.items c.deref.result.now h.0 c.in_ok-jobs.ensures.exact c.as_slice.ensures.value
    c.deref.ensures.value c.in_ok-windows.ensures.follows h.1) miss h.2) c.first_miss_by.ensures
