use Rattle.std.proofs.Common.{List, [], ◌++◌, ◌∙◌, sym, ap, subst, append-nil}
use Rattle.trace_file.specs.declared.event.Event.{Event}
use Rattle.rtds_trace.specs.RunTrace.{IsRunTrace}
use Rattle.rtds_trace.proofs.RunTraces.{run_trace}
use Rattle.rtds_sim.proofs.simulate.simulated.Goals as goal

-- a list that was empty has taken what it has
pub returns : goal.returns
returns c =
    let (told, trace, took) = c.in_ok-tell_run.ensures.trace in
    let none = c.new-events.ensures.items in
    record {
      trace =
          subst (IsRunTrace c.args.sys.now c.args.plan.now c.args.wakes.now c.args.slots)
          (sym (took c.new-events.result [] (sym (append-nil c.new-events.result.items))
          ∙ ap (λ (es : List Event). es ++ told) none))
          (run_trace c.args.sys.now c.in_ok-tell_run.ensures.system c.args.plan.now c.requires.plan c.args.wakes.now
          c.requires.workload c.args.slots c.requires.short told trace);
    }
