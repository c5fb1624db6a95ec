use Rattle.csv_rows.proofs.Lowered.{without_first}
use Rattle.csv_rows.proofs.near.first_mark.Goals as goal

pub returns-clause-others : goal.returns-clause-others
returns-clause-others c = without_first c.args.marks _ c.lowest.ensures
