-- The runs of both schedulers are just those by their rules.
use Rattle.std.proofs.Common.{le-ltb}
use Rattle.std.proofs.lemmas.Bool.{ltb-false}
use Rattle.core_rules.specs.Rules.{RtdsByRule, CbsByRule, CbsFileByRule}

pub rtds_by_rule : RtdsByRule
rtds_by_rule sys budgets rows c n run = (
  λ r. record {
    long = r.long;
    each = λ x l. record { idle = (r.each x l).idle; named = (r.each x l).named; first = (r.each x l).first };
  },
  λ r. record {
    long = r.long;
    each = λ x l. record { idle = (r.each x l).idle; named = (r.each x l).named; first = (r.each x l).first };
  },
)

pub cbs_file_by_rule : CbsFileByRule
cbs_file_by_rule s n run = (
  λ r. record {
    long = r.long;
    each = λ x l. record { idle = (r.each x l).idle; named = (r.each x l).named; first = (r.each x l).first };
  },
  λ r. record {
    long = r.long;
    each = λ x l. record { idle = (r.each x l).idle; named = (r.each x l).named; first = (r.each x l).first };
  },
)

-- no deadline is earlier where this one is the earliest
pub cbs_by_rule : CbsByRule
cbs_by_rule s n run = (
  λ r. record {
    long = r.long;
    each = λ x l. record {
      idle = (r.each x l).idle;
      named = (r.each x l).named;
      first = λ u v e h. le-ltb _ _ ((r.each x l).first u v e h);
    };
  },
  λ r. record {
    long = r.long;
    each = λ x l. record {
      idle = (r.each x l).idle;
      named = (r.each x l).named;
      first = λ u v e h. ltb-false _ _ ((r.each x l).first u v e h);
    };
  },
)
