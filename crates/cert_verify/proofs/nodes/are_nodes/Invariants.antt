use Rattle.std.proofs.Common.{◌≡◌, ℕ, ◌<◌}
use Rattle.cert_verify.specs.Proves.{node_at, nth_place}
use Rattle.cert_verify.proofs.nodes.are_nodes.Given as goal

abbrev pub invariant-loop-k : goal.invariant-loop-k
invariant-loop-k l = (j : ℕ) → j < l.k → (node_at l.nodes j).place ≡ nth_place l.parts j
