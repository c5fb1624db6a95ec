-- Worked runs of a VCPU of 1 moment in every 2, whose guest has a task that needs 1 moment in every
-- 3. A definition that says otherwise breaks one of these.
use Rattle.std.proofs.Common.{◌≡◌, ℕ, zero, suc, min, ◌+◌, ◌==◌, ◌<◌, ◌≤◌, Bool, true, false, Option, Some, None, List, [], ◌∷◌, get_or, refl, arith, lit<, lit≤}
use Rattle.std.proofs.lemmas.Bool.{false≢true}
use Rattle.slot_model.specs.declared.job.Job.{Job}
use Rattle.slot_model.specs.Slots.{sum_below}
use Rattle.slot_model.specs.Task.{SporadicTask, plain_task, plain_job, task_at, job_at}
use Rattle.slot_model.specs.Order.{edf_before}
use Rattle.slot_model.specs.Release.{LegalRelease}
use Rattle.slot_model.specs.Run.{guest, Pending, PermittedRun}
use Rattle.slot_model.specs.Miss.{Lost}
use Rattle.trace_file.proofs.Counting.{between_none}
use Rattle.halting.specs.Stolen.{is_stolen, stolen_in, Spares, moments_from}
use Rattle.halting.specs.Halting.{HaltingRun}
use Rattle.trace_file.specs.Periods.{begins}

abbrev pub tasks : List SporadicTask
tasks = plain_task 3 3 1 ∷ []

abbrev pub jobs : List Job
jobs = plain_job 0 0 1 ∷ []

pub legal : LegalRelease tasks jobs
legal = record {
  named = λ j l. one (λ i. (job_at jobs i).task < 1) (lit< tt) j l;
  works = λ j l. one (λ i. 1 ≤ (job_at jobs i).work) (lit≤ tt) j l;
  in_work = λ j l. one (λ i. (job_at jobs i).work ≤ (task_at tasks (job_at jobs i).task).work) (lit≤ tt) j l;
  in_jitter = λ j l. one (λ i. (job_at jobs i).early ≤ (task_at tasks (job_at jobs i).task).jitter) (lit≤ tt) j l;
  apart = λ i j l h same. absurd (omega (arith, l, h));
}
  where
    one : (P : ℕ → Type 0) → P 0 → (j : ℕ) → j < 1 → P j
    one P p zero l = p
    one P p (suc j) l = absurd (omega (arith, l))

-- It starts at 4, has its core at 5 alone, and is blocked at 6. Its job, released at the start, is
-- done at 5.
abbrev blocked : ℕ → Bool
blocked x = x == 6

abbrev runs : ℕ → Bool
runs x = x == 5

abbrev pub own_slots : List Bool
own_slots = false ∷ true ∷ false ∷ []

abbrev pub own_run : List (Option ℕ)
own_run = None ∷ Some 0 ∷ None ∷ []

what_runs_and_is_blocked_is_not_stolen : (is_stolen blocked runs 4 ≡ true) × (is_stolen blocked runs 5 ≡ false)
    × (is_stolen blocked runs 6 ≡ false)
what_runs_and_is_blocked_is_not_stolen = (refl, refl, refl)

periods_count_from_the_start : (stolen_in blocked runs 2 4 7 0 ≡ 1) × (stolen_in blocked runs 2 4 7 1 ≡ 0)
unfolding sum_below
periods_count_from_the_start = (refl, refl)

-- a period that ends past the end counts up to there, and from one that begins there nothing is
-- stolen
an_end_cuts_the_last_period : (stolen_in blocked runs 3 4 8 1 ≡ 1) × (stolen_in blocked runs 3 4 8 2 ≡ 0)
unfolding sum_below
an_end_cuts_the_last_period = (refl, refl)

the_moments_from_the_start_on : moments_from runs 4 7 ≡ own_slots
the_moments_from_the_start_on = refl

-- no period has more than 2 - 1 of its moments stolen
it_is_spared : Spares blocked runs 2 1 4 7
unfolding sum_below
it_is_spared zero = lit≤ tt
it_is_spared (suc zero) = lit≤ tt
it_is_spared (suc (suc k)) =
    omega (
      arith,
      between_none (is_stolen blocked runs) (begins 2 4 (suc (suc k))) (min (begins 2 4 (suc (suc (suc k)))) 7)
          (omega arith),
    )

pending_at_1 : Pending guest tasks jobs own_run 0 1
unfolding sum_below
pending_at_1 = record { is_job = lit< tt; released = lit≤ tt; unfinished = lit< tt; still_open = tt }

pub none_pending_at_2 : (j : ℕ) → Pending guest tasks jobs own_run j 2 → ⊥
unfolding sum_below
none_pending_at_2 zero p = let less : 1 < 1 = p.unfinished in omega arith
none_pending_at_2 (suc j) p = omega (arith, p.is_job)

not_before_itself : edf_before tasks (job_at jobs 0) (job_at jobs 0) ≡ false
not_before_itself = refl

pub permitted : PermittedRun guest (edf_before tasks) tasks jobs own_slots own_run
permitted = record { same_length = refl; no_slot = no_slot; idle = idle; served = served; chosen = best }
  where
    no_slot : (x : ℕ) → x < 3 → get_or own_slots x false ≡ false → get_or own_run x None ≡ None
    no_slot zero l q = refl
    no_slot (suc zero) l q = cc
    no_slot (suc (suc zero)) l q = refl
    no_slot (suc (suc (suc x))) l q = absurd (omega (arith, l))

    idle : (x j : ℕ) → x < 3 → get_or own_slots x false ≡ true → get_or own_run x None ≡ None
        → Pending guest tasks jobs own_run j x → ⊥
    idle zero j l q e p = cc
    idle (suc zero) j l q e p = cc
    idle (suc (suc zero)) j l q e p = cc
    idle (suc (suc (suc x))) j l q e p = omega (arith, l)

    served : (x j : ℕ) → x < 3 → get_or own_run x None ≡ Some j → Pending guest tasks jobs own_run j x
    served zero j l e = absurd (let no : None ≡ Some j = e in cc)
    served (suc zero) zero l e = pending_at_1
    served (suc zero) (suc j) l e = absurd (let no : Some 0 ≡ Some (suc j) = e in cc)
    served (suc (suc zero)) j l e = absurd (let no : None ≡ Some j = e in cc)
    served (suc (suc (suc x))) j l e = absurd (omega (arith, l))

    best : (x j k : ℕ) → x < 3 → get_or own_run x None ≡ Some j → Pending guest tasks jobs own_run k x
        → edf_before tasks (job_at jobs k) (job_at jobs j) ≡ true → ⊥
    best x (suc j) k l e p b = no_other x j l e
      where
        no_other : (x j : ℕ) → x < 3 → get_or own_run x None ≡ Some (suc j) → ⊥
        no_other zero j l e = let no : None ≡ Some (suc j) = e in cc
        no_other (suc zero) j l e = let no : Some 0 ≡ Some (suc j) = e in cc
        no_other (suc (suc zero)) j l e = let no : None ≡ Some (suc j) = e in cc
        no_other (suc (suc (suc x))) j l e = omega (arith, l)
    best x zero (suc k) l e p b = omega (arith, p.is_job)
    best x zero zero l e p b = cc

it_halts_where_it_has_nothing_to_do : HaltingRun blocked runs 4 7 guest (edf_before tasks) tasks jobs own_run
it_halts_where_it_has_nothing_to_do = record { legal = legal; permitted = permitted; halts = halts }
  where
    halts : (x j : ℕ) → 4 + x < 7 → blocked (4 + x) ≡ true → Pending guest tasks jobs own_run j x → ⊥
    halts zero j l b p = cc
    halts (suc zero) j l b p = cc
    halts (suc (suc zero)) j l b p = none_pending_at_2 j p
    halts (suc (suc (suc x))) j l b p = omega (arith, l)

-- One that never has its core, and so its guest does nothing: its job is lost at 3.
abbrev never : ℕ → Bool
never x = false

abbrev idle_run : List (Option ℕ)
idle_run = None ∷ None ∷ None ∷ []

the_job_is_lost : Lost tasks jobs idle_run 0 3
unfolding sum_below
the_job_is_lost =
    record { is_job = lit< tt; released = lit≤ tt; in_time = lit≤ tt; in_run = lit≤ tt; lacks = lit< tt }

pending_at_0 : Pending guest tasks jobs idle_run 0 0
unfolding sum_below
pending_at_0 = record { is_job = lit< tt; released = lit≤ tt; unfinished = lit< tt; still_open = tt }

nothing_held : (x : ℕ) → x < 3 → get_or idle_run x None ≡ None
nothing_held zero l = refl
nothing_held (suc zero) l = refl
nothing_held (suc (suc zero)) l = refl
nothing_held (suc (suc (suc x))) l = absurd (omega (arith, l))

no_slot_given : (x : ℕ) → x < 3 → get_or (moments_from never 0 3) x false ≡ false
no_slot_given zero l = refl
no_slot_given (suc zero) l = refl
no_slot_given (suc (suc zero)) l = refl
no_slot_given (suc (suc (suc x))) l = absurd (omega (arith, l))

it_does_nothing : PermittedRun guest (edf_before tasks) tasks jobs (moments_from never 0 3) idle_run
it_does_nothing = record {
  same_length = refl;
  no_slot = λ x l q. nothing_held x l;
  idle = λ x j l q e p. let no : false ≡ true = cc (no_slot_given x l, q) in false≢true no;
  served = λ x j l e. absurd (let no : None ≡ Some j = cc (nothing_held x l, e) in cc);
  chosen = λ x j k l e p b. let no : None ≡ Some j = cc (nothing_held x l, e) in cc;
}

-- Awake throughout it halts nowhere, but one moment of its first period is stolen too many.
one_moment_too_many_is_stolen : stolen_in never never 2 0 3 0 ≡ 2
unfolding sum_below
one_moment_too_many_is_stolen = refl

and_it_halts_nowhere : HaltingRun never never 0 3 guest (edf_before tasks) tasks jobs idle_run
and_it_halts_nowhere = record {
  legal = legal;
  permitted = it_does_nothing;
  halts = λ x j l b p. let no : false ≡ true = b in cc;
}

-- Asleep throughout it is spared, but it halts while its job is pending.
abbrev always : ℕ → Bool
always x = true

asleep_nothing_is_stolen : (stolen_in always never 2 0 3 0 ≡ 0) × (stolen_in always never 2 0 3 1 ≡ 0)
unfolding sum_below
asleep_nothing_is_stolen = (refl, refl)

but_it_halts_with_work_to_do : HaltingRun always never 0 3 guest (edf_before tasks) tasks jobs idle_run → ⊥
but_it_halts_with_work_to_do h = h.halts 0 0 (lit< tt) refl pending_at_0
