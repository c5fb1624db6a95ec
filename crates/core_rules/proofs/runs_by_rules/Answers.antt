use Rattle.core_rules.proofs.Both.{rtds_by_rule, cbs_by_rule, cbs_file_by_rule}
use Rattle.core_rules.proofs.runs_by_rules.Goals as goal

pub returns : goal.returns
returns c = record { rtds = rtds_by_rule; cbs = cbs_by_rule; cbs_file = cbs_file_by_rule }
