use Rattle.miss_witness.proofs.ReplayList.{ReplaysTo}
use Rattle.miss_witness.proofs.replays.replay_leaves.Given as goal

abbrev pub invariant-loop-q : goal.invariant-loop-q
invariant-loop-q l = ReplaysTo l.sys l.plan l.q l.replays.items
