use Rattle.std.proofs.Common.{◌≡◌, ℕ, length, take}
use Rattle.guest_sched.specs.Spans.{run_of, end_of}
use Rattle.guest_sched.proofs.follow.follow_spans.Given as goal

-- the run of the spans so far is followed
abbrev pub invariant-loop-span : goal.invariant-loop-span
invariant-loop-span g l = record {
  followed : g.F.Follow.follows l.follower (run_of (take l.span-index l.spans));
  long : length (run_of (take l.span-index l.spans)) ≡ end_of l.spans l.span-index;
  takes : (j : ℕ) → g.F.Follow.takes l.fn.follower j → g.F.Follow.takes l.follower j;
  same : g.F.Follow.numbers l.follower ≡ g.F.Follow.numbers l.fn.follower;
}
