use Rattle.std.proofs.Common.{◌≡◌, take}
use Rattle.guest_sched.specs.Spans.{AreSpans, run_of}
use Rattle.guest_sched.proofs.schedule.spans_of.Given as goal

-- the spans of the slots so far
abbrev pub invariant-loop-x : goal.invariant-loop-x
invariant-loop-x l = record {
  spans : AreSpans l.spans.items l.x;
  same : run_of l.spans.items ≡ take l.x l.run;
}
