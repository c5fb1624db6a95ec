-- Where the shares fit, no server that is awake is late with what is left of its budget: as none
-- runs over, it is late by nothing.
use Rattle.std.proofs.Common.{◌≡◌, ℕ, suc, ◌+◌, ◌<◌, ◌≤◌, Bool, true, false, List, Option, refl, arith}
use Rattle.slot_model.specs.Run.{held, holds}
use Rattle.slot_model.proofs.Runs.{holds-is}
use Rattle.slot_model.proofs.Sums.{sum_below-none}
use Rattle.cbs_servers.specs.Cbs.{Servers, IsServer, Account, after_slot, account, CbsRun}
use Rattle.cbs_servers.specs.Giving.{AreServers, SharesFit, NeverLate}
use Rattle.cbs_servers.specs.Overrun.{no_overrun}
use Rattle.cbs_servers.proofs.Windows.{comes, IsUp, now, eligible-is}
use Rattle.cbs_servers.proofs.LateByOthers.{late_at}
use Rattle.cbs_servers.proofs.NoOverrun.{grants_are_accounts, cbs_is_over}

-- what a slot leaves is used up no later than the deadline
slot_on_time : (x : ℕ) (runs : Bool) (a : Account) → (a.left ≡ 0 → x < a.due)
    → (runs ≡ true → (1 ≤ a.left) × (x + a.left ≤ a.due)) → (after_slot runs a).left ≡ 0
    → suc x ≤ (after_slot runs a).due
slot_on_time x false a c m z = c z
slot_on_time x true a c m z = let q = m refl in omega (arith, q.1, z)

module _ (s : Servers) (servers : AreServers s) (shares : SharesFit s) (n : ℕ) (run : List (Option ℕ))
    (r : CbsRun s n run) (v : ℕ) (is : IsServer s v) where
  -- at each moment at which it is up, it has room for what is left
  pub late_nowhere : (x : ℕ) → x ≤ n → 1 ≤ (account s run v x).left → IsUp s v x
      → x + (account s run v x).left ≤ (account s run v x).due
  late_nowhere x l some up =
      let tells = grants_are_accounts s n run v x servers r is l in
      omega (
        arith,
        late_at s servers shares no_overrun n run (cbs_is_over s n run servers r) v x l is
            (omega (arith, some, tells.left_is)) up,
        sum_below-none s.count,
        tells.left_is,
        tells.due_is,
      )

  -- where it has a slot, something was left, and there was room for it
  pub ran : (x : ℕ) → x < n → holds (held run x) v ≡ true
      → (1 ≤ (account s run v x).left) × (x + (account s run v x).left ≤ (account s run v x).due)
  ran x l h =
      let p = eligible-is s run v x ((r.each x l).named v (holds-is _ _ h)) in
      (p.2, late_nowhere x (omega (arith, l)) p.2 (now p.1))

  -- so what a slot leaves is used up no later than the deadline
  pub on_time : (x : ℕ) → x < n → (after_slot (holds (held run x) v) (account s run v x)).left ≡ 0
      → suc x ≤ (after_slot (holds (held run x) v) (account s run v x)).due
  on_time x l =
      slot_on_time x (holds (held run x) v) (account s run v x) (comes s servers run v is x) (ran x l)

-- the theorem
pub never_late : NeverLate
never_late s n run v servers shares r is x l h =
    let p = eligible-is s run v x h in
    late_nowhere s servers shares n run r v is x (omega arith) p.2 (now p.1)
