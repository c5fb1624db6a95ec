use Rattle.cbs_servers.proofs.NeverLate.{never_late}
use Rattle.cbs_servers.proofs.Gives.{never_short, gives_what_is_left}
use Rattle.cbs_servers.proofs.keeps_budgets.Goals as goal

pub returns : goal.returns
returns c = record { never_late = never_late; never_short = never_short; what_is_left = gives_what_is_left }
