use Rattle.std.proofs.Common.{◌≡◌, ℕ, Option, length}
use Rattle.trace_file.specs.declared.event.Event.{Event}
use Rattle.rtds_sim.specs.inner.Telling.{AreAtSlots, AreTold}
use Rattle.rtds_sim.proofs.Merging.{ToldSome, AreMoments}
use Rattle.rtds_sim.proofs.Lists.{left_of}
use Rattle.rtds_sim.proofs.switches.tell_all.Given as goal

-- the events so far are told
abbrev pub invariant-loop-core : goal.invariant-loop-core
invariant-loop-core g l = record {
  room : length l.told ≡ 64;
  room_too : length l.moments ≡ 64;
  moments : AreMoments l.lists l.told l.moments (length l.lists);
  so_far : (f : ℕ → ℕ → Option Event) (x m : ℕ) → AreAtSlots f → AreTold f x m (length l.lists) l.lists
      → ToldSome g.T.EventTaker.has_taken l.initial.events l.events f x m (length l.lists) l.told;
}

abbrev pub decreases-loop-core : goal.decreases-loop-core
decreases-loop-core g l = left_of l.lists l.told (length l.lists)
