-- Runs that break ties in any way: the least level goes first, and of one level the least deadline.
use Rattle.std.specs.Prelude.{◌≡◌, ℕ, ◌<◌, ◌==◌, Bool, true, false, ◌&&◌, ◌||◌, nat_lt, List, length, Option, Some, None}
use Rattle.slot_model.specs.Run.{held}
use Rattle.tree_model.specs.View.{SystemView}
use Rattle.release_file.specs.declared.workload.Wake.{Wake}
use Rattle.rtds_model.specs.Rtds.{is_eligible, level_at, deadline_at}

-- whether the first goes before the second, whatever their places in the file
abbrev pub goes_sooner : ℕ → ℕ → ℕ → ℕ → ℕ → ℕ → Bool
goes_sooner level deadline place level' deadline' place' =
    nat_lt level level' || (level == level' && nat_lt deadline deadline')

-- what slot x of core c may hold: an eligible VCPU before which no eligible one goes, and none
-- where none is eligible
pub record OpenEntry (sys : SystemView) (budgets : List ℕ) (rows : List Wake) (c : ℕ)
    (run : List (Option ℕ)) (x : ℕ) (entry : Option ℕ) : Type 0 where
  pub idle : entry ≡ None → (v : ℕ) → is_eligible sys budgets rows c run v x ≡ false
  pub named : (v : ℕ) → entry ≡ Some v → is_eligible sys budgets rows c run v x ≡ true
  pub first : (u v : ℕ) → entry ≡ Some v → is_eligible sys budgets rows c run u x ≡ true →
      goes_sooner (level_at sys budgets rows run u x) (deadline_at sys rows u x) u
      (level_at sys budgets rows run v x) (deadline_at sys rows v x) v ≡ false

-- a run of core c over n slots
pub record OpenRun (sys : SystemView) (budgets : List ℕ) (rows : List Wake) (n c : ℕ)
    (run : List (Option ℕ)) : Type 0 where
  pub long : length run ≡ n
  pub each : (x : ℕ) → x < n → OpenEntry sys budgets rows c run x (held run x)
