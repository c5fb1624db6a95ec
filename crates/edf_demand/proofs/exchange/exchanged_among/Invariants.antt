use Rattle.std.proofs.Common.{ℕ, ◌<◌, get_or}
use Rattle.window_terms.specs.declared.term.Term.{Term}
use Rattle.edf_demand.specs.inner.Exchanged.{CanExchange}
use Rattle.edf_demand.proofs.exchange.exchanged_among.Given as goal

abbrev pub invariant-loop-place : goal.invariant-loop-place
invariant-loop-place l = record {
  none : (k : ℕ) (d : Term) → k < l.place → CanExchange (get_or l.terms k d) l.before l.task → ⊥;
}
