use Rattle.cbs_servers.proofs.Gives.{gives_busy, gives_fresh}
use Rattle.cbs_servers.proofs.gives_supply.Goals as goal

pub returns : goal.returns
returns c = record { busy = gives_busy; fresh = gives_fresh }
