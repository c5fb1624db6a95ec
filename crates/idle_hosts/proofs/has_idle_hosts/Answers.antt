use Rattle.idle_hosts.proofs.Hosts.{idle_hosts_exist}
use Rattle.idle_hosts.proofs.has_idle_hosts.Goals as goal

pub returns : goal.returns
returns c = record { exist = idle_hosts_exist }
