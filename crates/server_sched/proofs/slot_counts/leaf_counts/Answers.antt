use Rattle.server_sched.proofs.slot_counts.leaf_counts.Goals as goal

pub count_slots-requires-clause-released : goal.count_slots-requires-clause-released
count_slots-requires-clause-released c = c.requires.holds.released
