use Rattle.std.proofs.Common.{◌≡◌, ◌<◌, ℕ, List, length}
use Rattle.trace_file.specs.declared.event.Event.{Event}
use Rattle.auditor.specs.declared.counted.Counted.TheVariants.{Core}
use Rattle.auditor.specs.Tally.{IsTally, tally_at}
use Rattle.auditor.specs.inner.Watches.{AreAtEnd}
use Rattle.auditor.proofs.SoFar.{IsSoFar}
use Rattle.auditor.proofs.verdict.tally_all.Given as goal

-- the tallies of the parts so far, and what is found of them
abbrev pub invariant-loop-v : goal.invariant-loop-v
invariant-loop-v l = record {
  so_many : length l.vcpus.items ≡ l.v;
  each : (budgets : List ℕ) (events : List Event) → AreAtEnd Core l.sys budgets events l.rows l.watches
      → (u : ℕ) → u < l.v → IsTally l.sys budgets events u (tally_at l.vcpus.items u);
  so_far : IsSoFar Core l.sys l.rows l.watches l.v l.so_far;
}
