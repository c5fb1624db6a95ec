use Rattle.cbs_servers.proofs.LateByOthers.{late_by_others}
use Rattle.cbs_servers.proofs.NoOverrun.{none_over_is_cbs, grants_are_accounts}
use Rattle.cbs_servers.proofs.Parts.{grants_at_slots, grants_in_slots}
use Rattle.cbs_servers.proofs.carries_overruns.Goals as goal

pub returns : goal.returns
returns c = record {
  late = late_by_others;
  none_over = none_over_is_cbs;
  accounts = grants_are_accounts;
  at_slots = grants_at_slots;
  in_slots = grants_in_slots;
}
