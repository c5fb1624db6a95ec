-- Under a fixed priority the task without a hit is late: over the worst pattern the job of it that
-- is released with all others misses in every permitted run.
use Rattle.std.proofs.Common.{◌≡◌, ℕ, ◌+◌, ◌<◌, Bool, List, length, Some, refl, sym, ◌∙◌, ap, arith, subst, add-zero}
use Rattle.slot_model.specs.declared.job.Job.{Job}
use Rattle.slot_model.specs.declared.sched.Sched.{Sched}
use Rattle.slot_model.specs.declared.sched.Sched.TheVariants.{Edf, Rm, Dm, Listed}
use Rattle.slot_model.specs.Task.{SporadicTask, AreConstrained, room_of, task_at, job_at, deadline_of}
use Rattle.slot_model.specs.Supply.{SupplyLaws}
use Rattle.slot_model.specs.Order.{IsRank, before_of, fixed_before, ranks_above}
use Rattle.slot_model.specs.Release.{synchronous, release_of}
use Rattle.slot_model.specs.Run.{service}
use Rattle.slot_model.specs.Bound.{IsFirstShortTask}
use Rattle.slot_model.specs.Miss.{WorstList}
use Rattle.slot_model.proofs.HasRelease.{In, has_release}
use Rattle.fp_request.specs.Ranks.{ranks_is_rank}
use Rattle.fp_test.proofs.Late.{late_from_start}
use Rattle.miss_witness.specs.Defeat.{IsShortWindow, TaskMissesFromStart}

short_task_misses : (above : ℕ → ℕ → Bool) → IsRank above → (tasks : List SporadicTask) → AreConstrained tasks
    → {bound : ℕ → ℕ} {amount cycle : ℕ} {pattern : ℕ → Bool} {start : ℕ} {Conforms : List Bool → Type 0}
    → SupplyLaws bound amount cycle pattern start Conforms
    → (i : ℕ) → IsFirstShortTask above tasks bound i → (span : ℕ) → span ≡ room_of (task_at tasks i)
    → (slots : List Bool) → WorstList pattern start span slots
    → TaskMissesFromStart start span (fixed_before above) tasks slots i
short_task_misses above ranks tasks fits {bound} {amount} {cycle} {pattern} {start} {Conforms} laws i first span room
    slots worst run permitted =
    let inside : i < length tasks = first.is_task in
    let constrained = fits i inside in
    let job : In (synchronous tasks start span) (release_of tasks start 0 i)
    = has_release tasks start span 0 i inside (omega (arith, room, constrained.works, constrained.in_deadline)) refl in
    let mine : (job_at (synchronous tasks start span) job.place).task ≡ i = ap (λ (b : Job). b.task) job.is in
    let at_start : (job_at (synchronous tasks start span) job.place).release ≡ start
    = ap (λ (b : Job). b.release) job.is ∙ add-zero start in
    let due : deadline_of tasks (job_at (synchronous tasks start span) job.place) ≡ start + span
    = omega (
      arith,
      room,
      at_start,
      ap (λ (b : Job). b.early) job.is,
      ap (λ (z : ℕ). (task_at tasks z).deadline) mine,
      constrained.works,
      constrained.in_deadline,
    ) in (
      job.place,
      mine,
      at_start,
      record {
        is_job = job.within;
        in_run = omega (arith, due, permitted.same_length, worst.long);
        short =
            subst (λ (z : ℕ). service run job.place z < (job_at (synchronous tasks start span) job.place).work)
            (sym due) (late_from_start above ranks tasks fits laws i span span (omega arith)
            (λ u some in_span. first.short u some (omega (arith, in_span, room))) slots worst run permitted job.place
            job.within mine at_start);
      },
    )

-- so the task that a short window names is late in it
pub named_task_misses : (sched : Sched) (tasks : List SporadicTask) → AreConstrained tasks
    → {bound : ℕ → ℕ} {amount cycle : ℕ} {pattern : ℕ → Bool} {start : ℕ} {Conforms : List Bool → Type 0}
    → SupplyLaws bound amount cycle pattern start Conforms
    → (span i : ℕ) → IsShortWindow sched tasks bound span (Some i)
    → (slots : List Bool) → WorstList pattern start span slots
    → TaskMissesFromStart start span (before_of sched tasks) tasks slots i
named_task_misses Edf tasks fits laws span i window slots worst = absurd window
named_task_misses Rm tasks fits laws span i window slots worst =
    short_task_misses (ranks_above Rm tasks) (ranks_is_rank Rm tasks) tasks fits laws i window.0 span window.1 slots
    worst
named_task_misses Dm tasks fits laws span i window slots worst =
    short_task_misses (ranks_above Dm tasks) (ranks_is_rank Dm tasks) tasks fits laws i window.0 span window.1 slots
    worst
named_task_misses Listed tasks fits laws span i window slots worst =
    short_task_misses (ranks_above Listed tasks) (ranks_is_rank Listed tasks) tasks fits laws i window.0 span window.1
    slots worst
