use Rattle.std.proofs.Common.{◌≡◌, ℕ, ◌≤◌, length, take}
use Rattle.slot_model.specs.Task.{sporadic_tasks}
use Rattle.slot_model.specs.Bound.{dbf}
use Rattle.window_terms.specs.Asked.{asked_by}
use Rattle.edf_demand.proofs.terms.gather.Given as goal

abbrev pub invariant-loop-k : goal.invariant-loop-k
invariant-loop-k l = record {
  one_each : l.terms ≤ l.k;
  long : length l.into ≡ length l.initial.into;
  in_terms : l.terms ≤ length l.into;
  same : (t : ℕ) → asked_by (take l.terms l.into) t ≡ dbf (sporadic_tasks (take l.k l.tasks)) t;
}
