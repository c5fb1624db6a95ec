-- Worked runs: two VCPUs, A and B, on one full core, with budgets of 3 and 4 slots in every 10.
use Rattle.std.proofs.Common.{◌≡◌, ℕ, true, false, Bool, Option, Some, None, List, [], ◌∷◌, refl}
use Rattle.csv_rows.specs.Last.{last_below}
use Rattle.slot_model.specs.Slots.{sum_below}
use Rattle.slot_model.specs.declared.sched.Sched.TheVariants.{Edf}
use Rattle.tree_model.specs.declared.pinned_core.Core.{Core as CoreView}
use Rattle.tree_model.specs.declared.place.Parent.TheVariants.{Core as on_core}
use Rattle.tree_model.specs.View.{PartView, SystemView}
use Rattle.release_file.specs.declared.workload.Wake.{Wake}
use Rattle.release_file.specs.declared.workload.WakeKind.{WakeKind}
use Rattle.release_file.specs.declared.workload.WakeKind.TheVariants.{Start, Wake as ToWake, Block}
use Rattle.rtds_model.specs.Rtds.{CoreRun, level_at}
use Rattle.rtds_model.proofs.Runs.{better, choice, chosen, is_run}

abbrev pub server : ℕ → ℕ → Bool → PartView
server letter budget extra =
    record {
      name = letter ∷ [];
      parent = on_core 0;
      sched = Edf;
      period = 10;
      budget = Some budget;
      extra = extra;
      tasks =
          record { name = 116 ∷ []; task = record { period = 100; deadline = 100; work = budget; jitter = 0 } } ∷ [];
    }

abbrev pub core : CoreView
core = record { name = 99 ∷ []; sched = Edf; supply = None }

-- whether A has extra time
abbrev pub host : Bool → SystemView
host extra = record { cores = core ∷ []; parts = server 65 3 extra ∷ server 66 4 false ∷ [] }

abbrev pub budgets : List ℕ
budgets = 3 ∷ 4 ∷ []

abbrev pub row : ℕ → ℕ → WakeKind → Wake
row at vcpu what = record { at = at; vcpu = vcpu; what = what }

abbrev pub A : Option ℕ
A = Some 0

abbrev pub B : Option ℕ
B = Some 1

-- both start at 0
abbrev pub both_start : List Wake
both_start = row 0 0 Start ∷ row 0 1 Start ∷ []

-- with extra time A has what B leaves
abbrev pub with_extra : List (Option ℕ)
with_extra = A ∷ A ∷ A ∷ B ∷ B ∷ B ∷ B ∷ A ∷ A ∷ A ∷ []

with_extra_chosen : chosen (host true) budgets both_start 0 with_extra ≡ with_extra
unfolding chosen choice better last_below sum_below
with_extra_chosen = refl

with_extra_is : CoreRun (host true) budgets both_start 10 0 with_extra
with_extra_is = is_run (host true) budgets both_start 0 with_extra with_extra_chosen

-- a second budget is of a higher level
extra_level : level_at (host true) budgets both_start with_extra 0 8 ≡ 1
unfolding last_below sum_below
extra_level = refl

-- without it the core is idle then
abbrev pub without_extra : List (Option ℕ)
without_extra = A ∷ A ∷ A ∷ B ∷ B ∷ B ∷ B ∷ None ∷ None ∷ None ∷ A ∷ A ∷ []

without_extra_chosen : chosen (host false) budgets both_start 0 without_extra ≡ without_extra
unfolding chosen choice better last_below sum_below
without_extra_chosen = refl

-- A starts at 1 and blocks at 2, so its core stops and B, which starts there, gets it. A wakes at 4
-- with two slots left and the earlier deadline.
abbrev pub one_blocks : List Wake
one_blocks = row 1 0 Start ∷ row 2 1 Start ∷ row 2 0 Block ∷ row 4 0 ToWake ∷ []

abbrev pub blocked_run : List (Option ℕ)
blocked_run = None ∷ A ∷ B ∷ B ∷ A ∷ A ∷ B ∷ B ∷ None ∷ None ∷ None ∷ A ∷ []

blocked_chosen : chosen (host false) budgets one_blocks 0 blocked_run ≡ blocked_run
unfolding chosen choice better last_below sum_below
blocked_chosen = refl
