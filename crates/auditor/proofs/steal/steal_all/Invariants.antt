use Rattle.std.proofs.Common.{◌≡◌, ◌<◌, ℕ, List, length}
use Rattle.tree_model.specs.Plans.{IsPlan}
use Rattle.trace_file.specs.declared.event.Event.{Event}
use Rattle.auditor.specs.declared.counted.Counted.TheVariants.{Stolen}
use Rattle.auditor.specs.Steal.{IsStealTally, steal_tally_at}
use Rattle.auditor.specs.inner.Watches.{AreAtEnd}
use Rattle.auditor.proofs.SoFar.{IsSoFar}
use Rattle.auditor.proofs.steal.steal_all.Given as goal

-- the tallies of the parts so far, and what is found of them
abbrev pub invariant-loop-v : goal.invariant-loop-v
invariant-loop-v l = record {
  so_many : length l.vcpus.items ≡ l.v;
  each : (budgets : List ℕ) (events : List Event) → IsPlan l.sys budgets
      → AreAtEnd Stolen l.sys budgets events l.rows l.watches → (u : ℕ) → u < l.v
      → IsStealTally l.sys budgets events u (steal_tally_at l.vcpus.items u);
  so_far : IsSoFar Stolen l.sys l.rows l.watches l.v l.so_far;
}
