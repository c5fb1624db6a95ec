use Rattle.std.proofs.Common.{ℕ, ◌<◌, ◌≤◌, length, get_or}
use Rattle.window_terms.specs.declared.term.Term.{Term}
use Rattle.window_terms.specs.Asked.{IsNear}
use Rattle.window_terms.proofs.sums.near.Given as goal

abbrev pub invariant-loop-term : goal.invariant-loop-term
invariant-loop-term l = record {
  near : (k : ℕ) (d : Term) → k < l.term-index → IsNear (get_or l.terms k d) l.near;
  within : l.near ≤ l.most;
  longest : (t : ℕ) → t ≤ l.most → ((k : ℕ) (d : Term) → k < length l.terms → IsNear (get_or l.terms k d) t)
      → t ≤ l.near;
}
