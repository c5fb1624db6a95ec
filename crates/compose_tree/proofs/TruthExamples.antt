-- Worked examples of what a plan and a refusal say. A wrong end of a range, or a part left out,
-- breaks one of them.
use Rattle.std.proofs.Common.{◌≡◌, ℕ, zero, suc, ◌<◌, ◌≤◌, Bool, true, false, List, [], ◌∷◌, length, get_or, Option, Some, None, refl, arith, sym, subst}
use Rattle.std.proofs.lemmas.Bool.{false≢true}
use Rattle.std.proofs.lemmas.Option.{none-some}
use Rattle.slot_model.specs.Slots.{sum_below}
use Rattle.slot_model.specs.declared.job.Job.{Job}
use Rattle.slot_model.specs.declared.sched.Sched.TheVariants.{Edf}
use Rattle.slot_model.specs.declared.sched.Short.{Short}
use Rattle.slot_model.specs.Task.{AreConstrained, plain_task, plain_job, SporadicTask, job_at, deadline_of}
use Rattle.slot_model.specs.Release.{LegalRelease}
use Rattle.slot_model.proofs.Synchronous.{legal_synchronous}
use Rattle.slot_model.specs.Miss.{Lost}
use Rattle.slot_model.proofs.MissedJobs.{missed_is_lost}
use Rattle.tree_model.specs.declared.place.Parent.TheVariants.{Core as on_core}
use Rattle.tree_model.specs.declared.place.Place.TheVariants.{Core, Part}
use Rattle.tree_model.specs.declared.plan.Refusal.TheVariants.{Overfull}
use Rattle.tree_model.specs.View.{SystemView, NamedTask}
use Rattle.tree_model.specs.System.{core_at, part_at, is_leaf, is_leaf_at}
use Rattle.tree_model.specs.Tree.{budget_at, server_tasks, server_jobs, started_jobs, run_at, PermittedTree, NoLoss}
use Rattle.tree_model.proofs.StartedTrees.{jobs_at_zero, started_of_permitted}
use Rattle.slot_model.specs.Bound.{shows_by}
use Rattle.compose_tree.proofs.CoreFails.{any_inputs}
use Rattle.compose_tree.specs.Truth.{LeafMustMiss, IsTight, LeafIsOverfull, MissesBy, AnyInputs, CoreMustMiss, CoreIsOverfull, IsFlat, IsChosen, RefusalHolds}

-- an open budget of a period of 10 is a choice from 1 to 10, and a given one is no choice
one_slot_is_a_choice : IsChosen 10 None 1
one_slot_is_a_choice = (omega arith, omega arith)

the_whole_period_is_a_choice : IsChosen 10 None 10
the_whole_period_is_a_choice = (omega arith, omega arith)

no_slot_is_no_choice : IsChosen 10 None 0 → ⊥
no_slot_is_no_choice chosen = omega (arith, chosen.0)

more_than_the_period_is_no_choice : IsChosen 10 None 11 → ⊥
more_than_the_period_is_no_choice chosen = omega (arith, chosen.1)

a_given_budget_of_three_stands : IsChosen 10 (Some 3) 3
a_given_budget_of_three_stands = refl

less_than_a_given_budget_is_no_choice : IsChosen 10 (Some 3) 2 → ⊥
less_than_a_given_budget_is_no_choice chosen = omega (arith, chosen)

more_than_a_given_budget_is_no_choice : IsChosen 10 (Some 3) 4 → ⊥
more_than_a_given_budget_is_no_choice chosen = omega (arith, chosen)

-- a job of 3 slots, released at 0 and due at 5 with a period of 9
abbrev one_task : List SporadicTask
one_task = plain_task 9 5 3 ∷ []

abbrev one_job : List Job
one_job = plain_job 0 0 3 ∷ []

abbrev five_idle : List (Option ℕ)
five_idle = None ∷ None ∷ None ∷ None ∷ None ∷ []

it_misses_by_its_deadline_moment : MissesBy one_task one_job five_idle 5
unfolding sum_below
it_misses_by_its_deadline_moment =
    record
    { job = 0; missed = record { is_job = omega arith; in_run = omega arith; short = omega arith }; by = omega arith }

and_not_sooner : MissesBy one_task one_job five_idle 4 → ⊥
and_not_sooner misses = go misses.job misses.missed.is_job misses.by
  where
    go : (j : ℕ) → j < 1 → deadline_of one_task (job_at one_job j) ≤ 4 → ⊥
    go zero l by = omega (arith, by)
    go (suc j) l by = omega arith

-- a leaf on a core; the same core with a supply, and the same part with no tasks, are not flat
abbrev on_one_core : Option (ℕ × ℕ) → List NamedTask → SystemView
on_one_core supply tasks = record {
  cores = record { name = 99 ∷ []; sched = Edf; supply = supply } ∷ [];
  parts =
      record
      { name = 97 ∷ []; parent = on_core 0; sched = Edf; period = 5; budget = None; extra = false; tasks = tasks } ∷ [];
}

abbrev some_tasks : List NamedTask
some_tasks = record { name = 116 ∷ []; task = plain_task 10 10 2 } ∷ []

a_leaf_on_a_full_core_is_flat : IsFlat (on_one_core None some_tasks)
a_leaf_on_a_full_core_is_flat = record { cores = cores; parts = parts }
  where
    cores : (c : ℕ) → c < 1 → (core_at (on_one_core None some_tasks) c).supply ≡ None
    cores zero l = refl
    cores (suc c) l = absurd (omega arith)

    parts : (q : ℕ) → q < 1 → is_leaf (part_at (on_one_core None some_tasks) q).tasks ≡ true
    parts zero l = refl
    parts (suc q) l = absurd (omega arith)

on_a_core_with_a_supply_it_is_not : IsFlat (on_one_core (Some (10, 10)) some_tasks) → ⊥
on_a_core_with_a_supply_it_is_not flat = none-some (10, 10) (sym (flat.cores 0 (omega arith)))

a_part_with_no_tasks_is_not : IsFlat (on_one_core None []) → ⊥
a_part_with_no_tasks_is_not flat = false≢true (flat.parts 0 (omega arith))

-- a refused leaf must miss with its given budget, or with no slot and with its whole period
a_given_budget_must_miss : (sys : SystemView) (q given : ℕ) → LeafIsOverfull sys q (Some given)
    → LeafMustMiss sys q given
a_given_budget_must_miss sys q given overfull = overfull

an_open_one_must_miss_at_both_ends : (sys : SystemView) (q : ℕ) → LeafIsOverfull sys q None
    → LeafMustMiss sys q 0 × LeafMustMiss sys q (part_at sys q).period
an_open_one_must_miss_at_both_ends sys q overfull =
    (overfull 0 (omega arith), overfull (part_at sys q).period (omega arith))

-- a computed budget of b + 1 is tight at b and at 0
a_tight_budget_has_none_below : (sys : SystemView) (budgets : List ℕ) (q b : ℕ) → IsTight sys budgets
    → q < length sys.parts → is_leaf_at sys q ≡ true → (part_at sys q).budget ≡ None → budget_at budgets q ≡ suc b
    → LeafMustMiss sys q b × LeafMustMiss sys q 0
a_tight_budget_has_none_below sys budgets q b tight h leaf none e =
    (tight.below q h leaf none b (omega arith), tight.below q h leaf none 0 (omega arith))

-- a run that ends just where the shortfall shows is long enough
an_overfull_core_misses_in_the_shortest_run : (sys : SystemView) (c : ℕ) (short : Short)
    (o : CoreIsOverfull sys c short)
    → CoreMustMiss sys o.budgets c (shows_by (server_tasks sys o.budgets (Core c)) short)
    (shows_by (server_tasks sys o.budgets (Core c)) short)
an_overfull_core_misses_in_the_shortest_run sys c short o =
    o.misses (shows_by (server_tasks sys o.budgets (Core c)) short) (omega arith)

-- a core that must miss loses a job, so no budgets that lose none make it miss
a_core_that_must_miss_loses_a_job : (sys : SystemView) (budgets : List ℕ) (c t n : ℕ) → c < length sys.cores
    → AreConstrained (server_tasks sys budgets (Core c)) → CoreMustMiss sys budgets c t n → NoLoss sys budgets → ⊥
a_core_that_must_miss_loses_a_job sys budgets c t n h fits must none =
    let inputs = must.some_inputs in
    let any = any_inputs sys n inputs.0 inputs.1 inputs.2 in
    let run = must.some_run inputs.0 inputs.1 any in
    let miss : MissesBy (server_tasks sys budgets (Core c)) (server_jobs sys budgets (Core c) n) (run_at run.0 c) t
    = must.misses inputs.0 inputs.1 run.0 run.1 any run.2 in
    let legal : LegalRelease (server_tasks sys budgets (Core c)) (server_jobs sys budgets (Core c) n)
    = legal_synchronous (server_tasks sys budgets (Core c)) fits 0 n in
    let same : started_jobs sys budgets [] (Core c) n ≡ server_jobs sys budgets (Core c) n
    = jobs_at_zero sys budgets [] (Core c) n (λ q. refl) in
    (none.keeps [] n inputs.0 inputs.1 run.0 run.1 inputs.2
    (started_of_permitted sys budgets [] n inputs.0 inputs.1 run.0 run.1 (λ q. refl) run.2)).cores c h miss.job
    (deadline_of (server_tasks sys budgets (Core c)) (job_at (server_jobs sys budgets (Core c) n) miss.job))
    (subst (λ (jobs : List Job). Lost (server_tasks sys budgets (Core c)) jobs (run_at run.0 c) miss.job
    (deadline_of (server_tasks sys budgets (Core c)) (job_at (server_jobs sys budgets (Core c) n) miss.job)))
    (sym same) (missed_is_lost (server_tasks sys budgets (Core c)) (server_jobs sys budgets (Core c) n)
    (run_at run.0 c) miss.job (omega (
      arith,
      legal.in_jitter miss.job miss.missed.is_job,
      (fits _ (legal.named miss.job miss.missed.is_job)).in_deadline,
    )) miss.missed))

-- it misses also where the core gives no slot
it_misses_without_a_slot : (sys : SystemView) (budgets : List ℕ) (c t n : ℕ) → CoreMustMiss sys budgets c t n
    → (supplies : List (List Bool)) (jobs : List (List Job)) (core_runs part_runs : List (List (Option ℕ)))
    → AnyInputs sys n supplies jobs
    → ((x : ℕ) → get_or (get_or supplies c []) x false ≡ false)
    → PermittedTree sys budgets n supplies jobs core_runs part_runs
    → MissesBy (server_tasks sys budgets (Core c)) (server_jobs sys budgets (Core c) n) (run_at core_runs c) t
it_misses_without_a_slot sys budgets c t n must supplies jobs core_runs part_runs any none tree =
    must.misses supplies jobs core_runs part_runs any tree

-- a refusal speaks of the node that it names
the_second_core_is_overfull : (sys : SystemView) (short : Short) → RefusalHolds sys (Overfull (Core 1) short)
    → (core_at sys 1).supply ≡ None → CoreIsOverfull sys 1 short
the_second_core_is_overfull sys short holds full = holds.core full

the_second_part_is_overfull : (sys : SystemView) (short : Short) → RefusalHolds sys (Overfull (Part 1) short)
    → is_leaf_at sys 1 ≡ true → LeafIsOverfull sys 1 (part_at sys 1).budget
the_second_part_is_overfull sys short holds leaf = holds.leaf leaf
