-- Replays: what defeats the next smaller budget of a leaf, and what is seen when it is run.
use Rattle.std.specs.Prelude.{◌≡◌, ℕ, ◌+◌, ◌<◌, ◌≤◌, Bool, true, List, length, slice_get, slice_index, Option, Some, None}
use Rattle.slot_model.specs.declared.sched.Sched.{Sched}
use Rattle.slot_model.specs.declared.miss.Miss.{Miss}
use Rattle.slot_model.specs.Task.{SporadicTask}
use Rattle.slot_model.specs.Order.{before_of}
use Rattle.slot_model.specs.Release.{synchronous}
use Rattle.slot_model.specs.Run.{guest, FirstRun}
use Rattle.slot_model.specs.Miss.{IsFirstMiss}
use Rattle.miss_witness.specs.declared.defeat.Defeat.{Defeat}
use Rattle.miss_witness.specs.Defeat.{IsDefeat, IsDefeatSupply, Defeats}
use Rattle.tree_model.specs.View.{SystemView}
use Rattle.tree_model.specs.System.{part_at, own_tasks, is_computed_leaf, computed_leaves}
use Rattle.tree_model.specs.Tree.{budget_at}
use Rattle.miss_witness.specs.declared.replay.Replay.{Replay}

-- the first miss of the first run of the defeat's release over its supply
pub record ShowsMiss
    (sched : Sched) (tasks : List SporadicTask) (period : ℕ) (defeat : Defeat) (miss : Miss)
    : Type 0 where
  pub slots : List Bool
  pub run : List (Option ℕ)
  pub worst : IsDefeatSupply period defeat slots
  pub first_run : FirstRun guest (before_of sched tasks) tasks
      (synchronous tasks defeat.start defeat.span) slots run
  pub first_miss : IsFirstMiss tasks (synchronous tasks defeat.start defeat.span) run (Some miss)

-- a miss is there exactly where the window ends within 1,000,000 slots
abbrev pub IsReplayed : Sched → List SporadicTask → ℕ → Defeat → Option Miss → Type 0
IsReplayed sched tasks period defeat None = 1000000 < defeat.start + defeat.span
IsReplayed sched tasks period defeat (Some miss) =
    (defeat.start + defeat.span ≤ 1000000) × ShowsMiss sched tasks period defeat miss

-- the replay of part q, a leaf with a computed budget
pub record IsReplay (sys : SystemView) (budgets : List ℕ) (q : ℕ) (replay : Replay) : Type 0 where
  pub is_part : q < length sys.parts
  pub is_computed : is_computed_leaf (part_at sys q) ≡ true
  pub of_part : replay.part ≡ q
  pub defeat : IsDefeat (part_at sys q).sched (own_tasks (part_at sys q)) (part_at sys q).period
      (budget_at budgets q) replay.witness
  pub replayed : IsReplayed (part_at sys q).sched (own_tasks (part_at sys q))
      (part_at sys q).period replay.witness replay.miss

-- one replay a computed leaf, in file order
pub record AreReplays (sys : SystemView) (budgets : List ℕ) (replays : List Replay) : Type 0 where
  pub one_each : length replays ≡ length (computed_leaves sys)
  pub each : (k : ℕ) (replay : Replay) → slice_get replays k ≡ Some replay
      → IsReplay sys budgets (slice_index (computed_leaves sys) k) replay

-- what is replayed defeats its leaf with the budget that it names, and with each smaller one
abbrev pub DefeatsLeaf : SystemView → Replay → Type 0
DefeatsLeaf sys replay =
    let leaf = part_at sys replay.part in
    Defeats leaf.sched (own_tasks leaf) leaf.period replay.witness

abbrev pub AllDefeat : SystemView → List Replay → Type 0
AllDefeat sys replays =
    (k : ℕ) (replay : Replay) → slice_get replays k ≡ Some replay → DefeatsLeaf sys replay
