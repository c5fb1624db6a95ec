use Rattle.std.proofs.Common.{◌≤◌, length, map}
use Rattle.server_sched.specs.inner.SlotCounts.{AreCoreCounts}
use Rattle.server_sched.proofs.slot_counts.core_counts.Given as goal

-- the counts of the cores so far
abbrev pub invariant-loop-c : goal.invariant-loop-c
invariant-loop-c l = record {
  room : 512 ≤ length l.room;
  counts : AreCoreCounts l.sys l.budgets l.slots (map (λ g. g.items) l.given) l.run.cores l.c l.counts.items;
}
