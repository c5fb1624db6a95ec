use Rattle.std.proofs.Common.{◌≡◌, ℕ, ◌-◌, ◌≤◌, [], length}
use Rattle.trace_file.specs.Taker.{Took}
use Rattle.rtds_trace.specs.Printed.{printed_below}
use Rattle.rtds_sim.specs.inner.Accounts.{AreReady}
use Rattle.rtds_sim.specs.inner.Lists.{list_at}
use Rattle.rtds_model.proofs.Runs.{rtds_run}
use Rattle.rtds_sim.proofs.Standing.{Standing}
use Rattle.rtds_sim.proofs.simulate.tell_run.Given as goal

-- the state is that of the run so far
abbrev pub invariant-loop-host : goal.invariant-loop-host
invariant-loop-host g l = record {
  stands : Standing l.sys l.plan l.wakes (rtds_run l.sys l.plan l.wakes l.slots) l.host;
  told : Took g.T.EventTaker.has_taken l.initial.events l.events
      (printed_below l.sys l.wakes (rtds_run l.sys l.plan l.wakes l.slots) l.host.time);
  ready : AreReady l.host;
  in_slots : l.host.time ≤ l.slots;
  one_each : length l.switches.lists.items ≡ length l.sys.cores;
  empty : (c : ℕ) → list_at l.switches.lists.items c ≡ [];
}

abbrev pub decreases-loop-host : goal.decreases-loop-host
decreases-loop-host g l = l.slots - l.host.time
