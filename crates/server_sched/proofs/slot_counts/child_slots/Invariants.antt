use Rattle.std.proofs.Common.{◌≡◌, take}
use Rattle.slot_model.specs.Run.{child_supply}
use Rattle.server_sched.proofs.slot_counts.child_slots.Given as goal

-- the slots so far
abbrev pub invariant-loop-entry : goal.invariant-loop-entry
invariant-loop-entry l = l.given.items ≡ child_supply l.jobs (take l.entry-index l.run) l.k
