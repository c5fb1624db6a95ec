use Rattle.std.proofs.Common.{◌≡◌, ◌<◌, ℕ, length}
use Rattle.rtds_queues.specs.inner.Queues.{place_at}
use Rattle.rtds_queues.proofs.vcpus.numbers_below.Given as goal

-- the numbers so far stand in their places
abbrev pub invariant-loop-v : goal.invariant-loop-v
invariant-loop-v l = record {
  long : length l.list.items ≡ l.v;
  each : (i : ℕ) → i < l.v → place_at l.list.items i ≡ i;
}
