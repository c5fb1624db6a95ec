-- Two tasks that want the same slot, in the order of the list: the second is late and the first is
-- not. A definition that takes another task for the late one breaks one of these.
use Rattle.std.proofs.Common.{◌≡◌, ℕ, zero, suc, ◌<◌, true, false, List, [], ◌∷◌, Option, Some, None, cond, refl, ap, arith, get_or}
use Rattle.slot_model.specs.declared.job.Job.{Job}
use Rattle.slot_model.specs.declared.sched.Sched.TheVariants.{Listed}
use Rattle.slot_model.specs.Slots.{sum_below}
use Rattle.slot_model.specs.Task.{SporadicTask, job_at, plain_task, plain_job}
use Rattle.slot_model.specs.Order.{before_of}
use Rattle.slot_model.specs.Release.{releases_at, synchronous}
use Rattle.slot_model.specs.Run.{holds, guest, Pending, PermittedRun}
use Rattle.slot_model.specs.Miss.{Missed}
use Rattle.miss_witness.specs.Defeat.{TaskMissesFromStart}

abbrev two_tasks : List SporadicTask
two_tasks = plain_task 2 1 1 ∷ plain_task 2 1 1 ∷ []

abbrev two_jobs : List Job
two_jobs = plain_job 0 0 1 ∷ plain_job 1 0 1 ∷ []

abbrev IsRun : List (Option ℕ) → Type 0
IsRun run = PermittedRun guest (before_of Listed two_tasks) two_tasks two_jobs (true ∷ []) run

both_pend : (run : List (Option ℕ)) (j : ℕ) → j < 2 → Pending guest two_tasks two_jobs run j 0
unfolding sum_below
both_pend run zero l =
    record { is_job = omega arith; released = omega arith; unfinished = omega arith; still_open = tt }
both_pend run (suc zero) l =
    record { is_job = omega arith; released = omega arith; unfinished = omega arith; still_open = tt }
both_pend run (suc (suc j)) l = absurd (omega arith)

-- the one slot is the first job's
the_slot_is_the_first : (run : List (Option ℕ)) → IsRun run → (o : Option ℕ) → get_or run 0 None ≡ o → o ≡ Some 0
the_slot_is_the_first run permitted None e =
    absurd (permitted.idle 0 0 (omega arith) refl e (both_pend run 0 (omega arith)))
the_slot_is_the_first run permitted (Some zero) e = refl
the_slot_is_the_first run permitted (Some (suc zero)) e =
    absurd (permitted.chosen 0 1 0 (omega arith) e (both_pend run 0 (omega arith)) refl)
the_slot_is_the_first run permitted (Some (suc (suc j))) e =
    absurd (omega (arith, (permitted.served 0 (suc (suc j)) (omega arith) e).is_job))

the_second_task_is_late : TaskMissesFromStart 0 1 (before_of Listed two_tasks) two_tasks (true ∷ []) 1
unfolding synchronous releases_at sum_below
the_second_task_is_late run permitted =
    let slot : get_or run 0 None ≡ Some 0 = the_slot_is_the_first run permitted (get_or run 0 None) refl in (
      1,
      refl,
      refl,
      record {
        is_job = omega arith;
        in_run = omega (arith, permitted.same_length);
        short = omega (arith, ap (λ (o : Option ℕ). cond {A = ℕ} (holds o 1) 1 0) slot);
      },
    )

first_alone : IsRun (Some 0 ∷ [])
first_alone = record { same_length = refl; no_slot = no_slot; idle = idle; served = served; chosen = chosen }
  where
    no_slot : (x : ℕ) → x < 1 → get_or (true ∷ []) x false ≡ false → get_or {A = Option ℕ} (Some 0 ∷ []) x None ≡ None
    no_slot zero l e = cc
    no_slot (suc x) l e = absurd (omega arith)

    idle : (x j : ℕ) → x < 1 → get_or (true ∷ []) x false ≡ true → get_or {A = Option ℕ} (Some 0 ∷ []) x None ≡ None
        → Pending guest two_tasks two_jobs (Some 0 ∷ []) j x → ⊥
    idle zero j l s e p = cc
    idle (suc x) j l s e p = omega arith

    served : (x j : ℕ) → x < 1 → get_or {A = Option ℕ} (Some 0 ∷ []) x None ≡ Some j
        → Pending guest two_tasks two_jobs (Some 0 ∷ []) j x
    served zero zero l e = both_pend (Some 0 ∷ []) 0 (omega arith)
    served zero (suc j) l e = absurd cc
    served (suc x) j l e = absurd (omega arith)

    chosen : (x j k : ℕ) → x < 1 → get_or {A = Option ℕ} (Some 0 ∷ []) x None ≡ Some j
        → Pending guest two_tasks two_jobs (Some 0 ∷ []) k x
        → before_of Listed two_tasks (job_at two_jobs k) (job_at two_jobs j) ≡ true → ⊥
    chosen zero zero zero l e p t = cc
    chosen zero zero (suc zero) l e p t = cc
    chosen zero zero (suc (suc k)) l e p t = omega (arith, p.is_job)
    chosen zero (suc j) k l e p t = cc
    chosen (suc x) j k l e p t = omega arith

the_first_task_is_not : TaskMissesFromStart 0 1 (before_of Listed two_tasks) two_tasks (true ∷ []) 0 → ⊥
unfolding synchronous releases_at sum_below
the_first_task_is_not late = let miss = late (Some 0 ∷ []) first_alone in go miss.0 miss.1 miss.3
  where
    go : (j : ℕ) → (job_at two_jobs j).task ≡ 0 → Missed two_tasks two_jobs (Some 0 ∷ []) j → ⊥
    go zero mine missed = let less : 1 < 1 = missed.short in omega arith
    go (suc zero) mine missed = omega arith
    go (suc (suc j)) mine missed = omega (arith, missed.is_job)
