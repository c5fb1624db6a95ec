use Rattle.cert_reader.proofs.Standing.{stands_then}
use Rattle.cert_reader.proofs.printed.NodeReadAt.read_at.Goals as goal

pub returns-clause-text : goal.returns-clause-text
returns-clause-text c =
    stands_then _ _ _ _ _ _ c.in_ok-to_budget.ensures (stands_then _ _ _ _ _ _ c.in_ok-budget.ensures.text
    (stands_then _ _ _ _ _ _ c.in_ok-to_computed.ensures (stands_then _ _ _ _ _ _ c.in_ok-computed.ensures
    (stands_then _ _ _ _ _ _ c.in_ok-to_falls.ensures (stands_then _ _ _ _ _ _ c.in_ok-falls.ensures.text
    (stands_then _ _ _ _ _ _ c.in_ok-to_hits.ensures (stands_then _ _ _ _ _ _ c.in_ok-hits.ensures.text
    (stands_then _ _ _ _ _ _ c.in_ok-to_kind.ensures (stands_then _ _ _ _ _ _ c.in_ok-place.ensures.text
    (stands_then _ _ _ _ _ _ c.in_ok-to_points.ensures (stands_then _ _ _ _ _ _ c.in_ok-points.ensures.text
    (stands_then _ _ _ _ _ _ c.in_ok-to_witness.ensures
    (stands_then _ _ _ _ _ _ c.in_ok-witness.ensures.text c.in_ok-end.ensures)))))))))))))

pub returns-clause-in_range : goal.returns-clause-in_range
returns-clause-in_range c =
    record {
      place = c.in_ok-place.ensures.in_range;
      period = c.in_ok-place.ensures.period;
      budget = c.in_ok-budget.ensures.in_range;
      points = λ k l. c.in_ok-points.ensures.in_range k 0 l;
      hits = λ k l. c.in_ok-hits.ensures.in_range k 0 l;
      witness = c.in_ok-witness.ensures.in_range;
      falls = λ k l. c.in_ok-falls.ensures.in_range k 0 l;
    }
