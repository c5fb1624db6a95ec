-- The level theorem over every lawful supply, for each way to choose.
use Rattle.std.proofs.Common.{ℕ, Bool, List}
use Rattle.slot_model.specs.declared.sched.Sched.{Sched}
use Rattle.slot_model.specs.declared.sched.Sched.TheVariants.{Edf, Rm, Dm, Listed}
use Rattle.slot_model.specs.declared.sched.Short.{Short}
use Rattle.slot_model.specs.declared.sched.Short.TheVariants.{At, Task}
use Rattle.slot_model.specs.Task.{SporadicTask, AreConstrained}
use Rattle.slot_model.specs.Supply.{SupplyLaws}
use Rattle.slot_model.specs.Order.{before_of, ranks_above}
use Rattle.slot_model.specs.Bound.{Passes, IsShortfall}
use Rattle.slot_model.specs.Miss.{NoJobLost, MustMiss}
use Rattle.edf_test.proofs.Level.{edf_keeps, edf_must_miss}
use Rattle.fp_request.specs.Ranks.{ranks_is_rank}
use Rattle.fp_test.proofs.InTime.{all_hit_no_loss}
use Rattle.fp_test.proofs.Witness.{short_must_miss}

-- where nothing is short, no job is lost
pub level_no_loss : (sched : Sched) (tasks : List SporadicTask) → AreConstrained tasks
    → {bound : ℕ → ℕ} {amount cycle : ℕ} {pattern : ℕ → Bool} {start : ℕ} {Conforms : List Bool → Type 0}
    → SupplyLaws bound amount cycle pattern start Conforms
    → Passes sched tasks bound → NoJobLost Conforms (before_of sched tasks) tasks
level_no_loss Edf tasks fits {bound} {amount} {cycle} {pattern} {start} {Conforms} laws passes =
    edf_keeps bound amount cycle pattern start Conforms laws tasks fits passes
level_no_loss Rm tasks fits laws passes =
    all_hit_no_loss (ranks_above Rm tasks) (ranks_is_rank Rm tasks) tasks fits laws passes
level_no_loss Dm tasks fits laws passes =
    all_hit_no_loss (ranks_above Dm tasks) (ranks_is_rank Dm tasks) tasks fits laws passes
level_no_loss Listed tasks fits laws passes =
    all_hit_no_loss (ranks_above Listed tasks) (ranks_is_rank Listed tasks) tasks fits laws passes

-- where something is short, some release must miss
pub short_misses : (sched : Sched) (tasks : List SporadicTask) → AreConstrained tasks
    → {bound : ℕ → ℕ} {amount cycle : ℕ} {pattern : ℕ → Bool} {start : ℕ} {Conforms : List Bool → Type 0}
    → SupplyLaws bound amount cycle pattern start Conforms
    → (short : Short) → IsShortfall sched tasks bound short → MustMiss Conforms (before_of sched tasks) tasks
short_misses Edf tasks fits {bound} {amount} {cycle} {pattern} {start} {Conforms} laws (At t) h =
    edf_must_miss bound amount cycle pattern start Conforms laws tasks fits t h.short
short_misses Edf tasks fits laws (Task i) h = absurd h
short_misses Rm tasks fits laws (At t) h = absurd h
short_misses Rm tasks fits laws (Task i) h =
    short_must_miss (ranks_above Rm tasks) (ranks_is_rank Rm tasks) tasks fits laws i h.is_task h.short
short_misses Dm tasks fits laws (At t) h = absurd h
short_misses Dm tasks fits laws (Task i) h =
    short_must_miss (ranks_above Dm tasks) (ranks_is_rank Dm tasks) tasks fits laws i h.is_task h.short
short_misses Listed tasks fits laws (At t) h = absurd h
short_misses Listed tasks fits laws (Task i) h =
    short_must_miss (ranks_above Listed tasks) (ranks_is_rank Listed tasks) tasks fits laws i h.is_task h.short
