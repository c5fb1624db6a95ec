use Rattle.std.proofs.Common.{◌≤◌, length, map}
use Rattle.server_sched.specs.inner.SlotCounts.{ArePartCounts}
use Rattle.server_sched.proofs.slot_counts.part_counts.Given as goal

-- the counts of the parts so far
abbrev pub invariant-loop-q : goal.invariant-loop-q
invariant-loop-q l = record {
  room : 512 ≤ length l.room;
  counts : ArePartCounts l.sys l.budgets l.slots (map (λ j. j.items) l.jobs) l.run.cores l.run.parts l.q l.counts.items;
}
