use Rattle.cbs_servers.proofs.Runs.{has_file_run, file_run_is_only, file_order_is_open, has_run}
use Rattle.cbs_servers.proofs.makes_runs.Goals as goal

pub returns : goal.returns
returns c = record { exists = has_file_run; only = file_run_is_only; among = file_order_is_open; any = has_run }
