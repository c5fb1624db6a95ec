-- Worked runs by hand: two starts on a core, and a start inside a parent. A wrong definition breaks
-- one of these.
use Rattle.std.proofs.Common.{◌≡◌, ℕ, zero, suc, ◌<◌, ◌≤◌, Bool, true, false, Option, Some, None, List, [], ◌∷◌, length, get_or, arith, refl, sym, ◌∙◌, subst, lit<, lit≤}
use Rattle.std.proofs.lemmas.Bool.{both_ways}
use Rattle.std.proofs.lemmas.Option.{none-some}
use Rattle.slot_model.specs.Order.{before_of}
use Rattle.slot_model.specs.declared.job.Job.{Job}
use Rattle.slot_model.specs.declared.sched.Sched.TheVariants.{Listed}
use Rattle.slot_model.specs.Slots.{sum_below}
use Rattle.slot_model.specs.Task.{plain_task, plain_job, SporadicTask, job_at}
use Rattle.slot_model.specs.Run.{Level, server, guest, Pending, PermittedRun}
use Rattle.tree_model.specs.declared.place.Parent.TheVariants.{Core as on_core, Part as on_part}
use Rattle.tree_model.specs.declared.place.Place.TheVariants.{Core, Part}
use Rattle.tree_model.specs.View.{PartView, SystemView}
use Rattle.slot_model.specs.Release.{staggered}
use Rattle.tree_model.proofs.FewPlaces.{only, both, each_of_three}
use Rattle.tree_model.specs.Tree.{run_at, started_jobs, started_supply, StartedServers, StartedTree}

abbrev leaf : ℕ → ℕ → PartView
leaf letter budget =
    record {
      name = letter ∷ [];
      parent = on_core 0;
      sched = Listed;
      period = 2;
      budget = Some budget;
      extra = false;
      tasks = record { name = 116 ∷ []; task = plain_task 2 2 1 } ∷ [];
    }

-- two leaves of one slot in two on a full core; the second starts at 1
abbrev two : SystemView
two =
    record { cores = record { name = 99 ∷ []; sched = Listed; supply = None } ∷ []; parts = leaf 97 1 ∷ leaf 98 1 ∷ [] }

abbrev ones : List ℕ
ones = 1 ∷ 1 ∷ []

-- each server's periods count from its own start, neither from moment 0 nor from one start for all
periods_count_from_each_start : started_jobs two ones (0 ∷ 1 ∷ []) (Core 0) 4
    ≡ plain_job 0 0 1 ∷ plain_job 1 1 1 ∷ plain_job 0 2 1 ∷ plain_job 1 3 1 ∷ []
unfolding staggered
periods_count_from_each_start = refl

-- a start past a period is no start at the remainder
no_job_before_the_start : started_jobs two ones (0 ∷ 3 ∷ []) (Core 0) 4
    ≡ plain_job 0 0 1 ∷ plain_job 0 2 1 ∷ plain_job 1 3 1 ∷ []
unfolding staggered
no_job_before_the_start = refl

-- the run of the core, and what each part gets of it, from its start on
abbrev core_runs : List (List (Option ℕ))
core_runs = (Some 0 ∷ Some 1 ∷ Some 2 ∷ Some 3 ∷ []) ∷ []

the_first_has_every_second_slot : started_supply two ones (0 ∷ 1 ∷ []) 4 core_runs [] 0
    ≡ true ∷ false ∷ true ∷ false ∷ []
unfolding sum_below staggered
the_first_has_every_second_slot = refl

the_second_begins_with_a_slot : started_supply two ones (0 ∷ 1 ∷ []) 4 core_runs [] 1 ≡ true ∷ false ∷ true ∷ []
unfolding sum_below staggered
the_second_begins_with_a_slot = refl

-- an inner part with its whole period that starts at 1, and a leaf that starts at 1 within it
abbrev nested : SystemView
nested = record {
  cores = record { name = 99 ∷ []; sched = Listed; supply = None } ∷ [];
  parts =
      record
      { name = 109 ∷ []; parent = on_core 0; sched = Listed; period = 2; budget = Some 2; extra = false; tasks = [] }
      ∷ record {
        name = 97 ∷ [];
        parent = on_part 0;
        sched = Listed;
        period = 2;
        budget = Some 1;
        extra = false;
        tasks = record { name = 116 ∷ []; task = plain_task 2 2 1 } ∷ [];
      } ∷ [];
}

abbrev budgets : List ℕ
budgets = 2 ∷ 1 ∷ []

abbrev later : List ℕ
later = 1 ∷ 1 ∷ []

abbrev one_job : List Job
one_job = plain_job 0 0 1 ∷ []

abbrev jobs : List (List Job)
jobs = [] ∷ one_job ∷ []

abbrev supplies : List (List Bool)
supplies = (true ∷ true ∷ true ∷ []) ∷ []

abbrev nested_cores : List (List (Option ℕ))
nested_cores = (None ∷ Some 0 ∷ Some 0 ∷ []) ∷ []

abbrev nested_parts : List (List (Option ℕ))
nested_parts = (None ∷ Some 0 ∷ []) ∷ (Some 0 ∷ []) ∷ []

the_core_serves_from_1_on : started_jobs nested budgets later (Core 0) 3 ≡ plain_job 0 1 2 ∷ []
unfolding staggered
the_core_serves_from_1_on = refl

the_inner_part_serves_from_its_own_1_on : started_jobs nested budgets later (Part 0) 3 ≡ plain_job 0 1 1 ∷ []
unfolding staggered
the_inner_part_serves_from_its_own_1_on = refl

the_inner_part_has_two_slots : started_supply nested budgets later 3 nested_cores nested_parts 0 ≡ true ∷ true ∷ []
unfolding sum_below staggered
the_inner_part_has_two_slots = refl

the_leaf_has_the_last_slot : started_supply nested budgets later 3 nested_cores nested_parts 1 ≡ true ∷ []
unfolding sum_below staggered
the_leaf_has_the_last_slot = refl

-- what is to be seen at a place of a run of one job over slots that are all given: none before its
-- release, and then the job while it lacks work
record Seen (level : Level) (tasks : List SporadicTask) (jobs : List Job) (run : List (Option ℕ)) (x : ℕ) : Type 0 where
  idle : get_or run x None ≡ None → Pending level tasks jobs run 0 x → ⊥
  served : (j : ℕ) → get_or run x None ≡ Some j → Pending level tasks jobs run j x

one_job_run : (level : Level) (before : Job → Job → Bool) (tasks : List SporadicTask) (jobs : List Job)
    (slots : List Bool) (run : List (Option ℕ)) → length jobs ≡ 1 → length run ≡ length slots
    → ((x : ℕ) → x < length slots → get_or slots x false ≡ true) → before (job_at jobs 0) (job_at jobs 0) ≡ false
    → ((x : ℕ) → x < length slots → Seen level tasks jobs run x) → PermittedRun level before tasks jobs slots run
one_job_run level before tasks jobs slots run one long full free seen = record {
  same_length = long;
  no_slot = λ x l e. absurd (both_values (get_or slots x false) (full x l) e);
  idle = λ x j l s e p. (seen x l).idle e (subst (λ (z : ℕ). Pending level tasks jobs run z x) (first j p) p);
  served = λ x j l e. (seen x l).served j e;
  chosen =
      λ x j k l e p t. both_values (before (job_at jobs 0) (job_at jobs 0))
      (subst (λ (z : ℕ). before (job_at jobs 0) (job_at jobs z) ≡ true) (first j ((seen x l).served j e))
      (subst (λ (z : ℕ). before (job_at jobs z) (job_at jobs j) ≡ true) (first k p) t)) free;
}
  where
    both_values : (b : Bool) → b ≡ true → b ≡ false → ⊥
    both_values true e f = cc
    both_values false e f = cc

    first : {x : ℕ} (j : ℕ) → Pending level tasks jobs run j x → j ≡ 0
    first j p = omega (arith, p.is_job, one)

held_by_first : (level : Level) (tasks : List SporadicTask) (jobs : List Job) (run : List (Option ℕ)) (x : ℕ)
    → get_or run x None ≡ Some 0 → Pending level tasks jobs run 0 x → Seen level tasks jobs run x
held_by_first level tasks jobs run x e p = record {
  idle = λ f q. none_of (get_or run x None) e f;
  served = λ j f. subst (λ (z : ℕ). Pending level tasks jobs run z x) (which j (get_or run x None) e f) p;
}
  where
    none_of : (o : Option ℕ) → o ≡ Some 0 → o ≡ None → ⊥
    none_of o a b = cc

    which : (j : ℕ) (o : Option ℕ) → o ≡ Some 0 → o ≡ Some j → 0 ≡ j
    which j o a b = cc

not_yet : (level : Level) (tasks : List SporadicTask) (jobs : List Job) (run : List (Option ℕ)) (x : ℕ)
    → get_or run x None ≡ None → x < (job_at jobs 0).release → Seen level tasks jobs run x
not_yet level tasks jobs run x e l = record {
  idle = λ f p. omega (arith, l, p.released);
  served = λ j f. absurd (some_of j (get_or run x None) e f);
}
  where
    some_of : (j : ℕ) (o : Option ℕ) → o ≡ None → o ≡ Some j → ⊥
    some_of j o a b = cc

-- so this is a permitted run of the tree: it has runs where the starts differ
a_start_inside_a_parent : StartedTree nested budgets later 3 supplies jobs nested_cores nested_parts
unfolding sum_below staggered
a_start_inside_a_parent = record {
  run_each_core = refl;
  run_each_part = refl;
  cores = only (λ c. StartedServers nested budgets later 3 (Core c) (get_or supplies c []) (run_at nested_cores c))
      (one_job_run server _ _ _ _ _ refl refl
      (each_of_three (λ x. get_or (true ∷ true ∷ true ∷ []) x false ≡ true) refl refl refl) refl
      (each_of_three _ (not_yet server _ _ _ 0 refl (lit< tt))
      (held_by_first server _ _ _ 1 refl
      (record { is_job = lit< tt; released = lit≤ tt; unfinished = lit< tt; still_open = lit< tt }))
      (held_by_first server _ _ _ 2 refl
      (record { is_job = lit< tt; released = lit≤ tt; unfinished = lit< tt; still_open = lit< tt }))));
  inner =
      both _ (λ e. one_job_run server _ _ _ _ _ refl refl
      (both (λ x. get_or (true ∷ true ∷ []) x false ≡ true) refl refl) refl
      (both _ (not_yet server _ _ _ 0 refl (lit< tt))
      (held_by_first server _ _ _ 1 refl
      (record { is_job = lit< tt; released = lit≤ tt; unfinished = lit< tt; still_open = lit< tt })))) (λ e. cc);
  leaves =
      both _ (λ e. cc)
      (λ e. one_job_run guest _ _ _ _ _ refl refl (only (λ x. get_or (true ∷ []) x false ≡ true) refl) refl
      (only _ (held_by_first guest _ _ _ 0 refl
      (record { is_job = lit< tt; released = lit≤ tt; unfinished = lit< tt; still_open = tt }))));
}

-- a run that serves the inner part from moment 0 on is not permitted: its server is not released
a_server_before_its_start_is_not_permitted : StartedTree nested budgets later 3 supplies jobs
    ((Some 0 ∷ Some 0 ∷ None ∷ []) ∷ []) nested_parts → ⊥
unfolding staggered
a_server_before_its_start_is_not_permitted tree =
    omega (arith, ((tree.cores 0 (lit< tt)).served 0 0 (lit< tt) refl).released)

-- nor is one whose inner part counts from the core's moment 0: it has two slots and not three
a_part_counts_from_its_own_start : StartedTree nested budgets later 3 supplies jobs nested_cores
    ((None ∷ None ∷ Some 0 ∷ []) ∷ (Some 0 ∷ []) ∷ []) → ⊥
unfolding staggered
a_part_counts_from_its_own_start tree =
    let long : 3 ≡ 2 = (tree.inner 0 (lit< tt) refl).same_length in omega (arith, long)

-- two starts on one core: each server has the first slot of its own period
abbrev two_jobs : List Job
two_jobs = plain_job 0 0 1 ∷ plain_job 1 1 1 ∷ []

abbrev two_run : List (Option ℕ)
two_run = Some 0 ∷ Some 1 ∷ []

abbrev even : List SporadicTask
even = plain_task 2 2 1 ∷ plain_task 2 2 1 ∷ []

pending_in_turn : (j : ℕ) → j < 2 → Pending server even two_jobs two_run j j
unfolding sum_below
pending_in_turn =
    both (λ j. Pending server even two_jobs two_run j j)
    (record { is_job = lit< tt; released = lit≤ tt; unfinished = lit< tt; still_open = lit< tt })
    (record { is_job = lit< tt; released = lit≤ tt; unfinished = lit< tt; still_open = lit< tt })

held_in_turn : (x j : ℕ) → x < 2 → get_or two_run x None ≡ Some j → x ≡ j
held_in_turn zero j l e = cc
held_in_turn (suc zero) j l e = cc
held_in_turn (suc (suc x)) j l e = absurd (omega arith)

alone_in_turn : (x k : ℕ) → x < 2 → Pending server even two_jobs two_run k x → k ≡ x
unfolding sum_below
alone_in_turn zero zero l p = refl
alone_in_turn zero (suc zero) l p = let late : 1 ≤ 0 = p.released in absurd (omega arith)
alone_in_turn (suc zero) zero l p = let done : 1 < 1 = p.unfinished in absurd (omega arith)
alone_in_turn (suc zero) (suc zero) l p = refl
alone_in_turn x (suc (suc k)) l p = let none : suc (suc k) < 2 = p.is_job in absurd (omega arith)
alone_in_turn (suc (suc x)) k l p = absurd (omega arith)

not_before_itself : (j : ℕ) → j < 2 → before_of Listed even (job_at two_jobs j) (job_at two_jobs j) ≡ false
not_before_itself = both (λ j. before_of Listed even (job_at two_jobs j) (job_at two_jobs j) ≡ false) refl refl

held_somewhere : (x : ℕ) → x < 2 → get_or two_run x None ≡ None → ⊥
held_somewhere zero l e = cc
held_somewhere (suc zero) l e = cc
held_somewhere (suc (suc x)) l e = omega arith

one_after_another : PermittedRun server (before_of Listed even) even two_jobs (true ∷ true ∷ []) two_run
one_after_another = record {
  same_length = refl;
  no_slot = λ x l e. absurd (true_nowhere x l e);
  idle = λ x j l s e p. held_somewhere x l e;
  served =
      λ x j l e. subst (λ (z : ℕ). Pending server even two_jobs two_run z x) (held_in_turn x j l e)
      (pending_in_turn x l);
  chosen =
      λ x j k l e p t. both_ways _ (subst
      (λ (z : ℕ). before_of Listed even (job_at two_jobs z) (job_at two_jobs z) ≡ false) (held_in_turn x j l e)
      (not_before_itself x l)) (subst
      (λ (z : ℕ). before_of Listed even (job_at two_jobs z) (job_at two_jobs j) ≡ true)
      (alone_in_turn x k l p ∙ held_in_turn x j l e) t);
}
  where
    true_nowhere : (x : ℕ) → x < 2 → get_or (true ∷ true ∷ []) x false ≡ false → ⊥
    true_nowhere zero l e = cc
    true_nowhere (suc zero) l e = cc
    true_nowhere (suc (suc x)) l e = omega arith

idle_run : (tasks : List SporadicTask) (before : Job → Job → Bool) (slots : List Bool) (run : List (Option ℕ))
    → length run ≡ length slots → ((x : ℕ) → x < length slots → get_or run x None ≡ None)
    → PermittedRun guest before tasks [] slots run
idle_run tasks before slots run long none = record {
  same_length = long;
  no_slot = λ x l e. none x l;
  idle = λ x j l s e p. omega (arith, p.is_job);
  served = λ x j l e. absurd (none-some j (sym (none x l) ∙ e));
  chosen = λ x j k l e p t. omega (arith, p.is_job);
}

abbrev nothing : List (Option ℕ)
nothing = None ∷ []

abbrev nothing_twice : List (Option ℕ)
nothing_twice = None ∷ None ∷ []

two_starts_on_a_core : StartedTree two ones (0 ∷ 1 ∷ []) 2 ((true ∷ true ∷ []) ∷ []) ([] ∷ [] ∷ []) (two_run ∷ [])
    ((None ∷ None ∷ []) ∷ (None ∷ []) ∷ [])
unfolding staggered
two_starts_on_a_core = record {
  run_each_core = refl;
  run_each_part = refl;
  cores =
      only (λ c. StartedServers two ones (0 ∷ 1 ∷ []) 2 (Core c) (get_or ((true ∷ true ∷ []) ∷ []) c [])
      (run_at (two_run ∷ []) c)) one_after_another;
  inner = both _ (λ e. cc) (λ e. cc);
  leaves =
      both _ (λ e. idle_run _ _ _ _ refl (both (λ x. get_or nothing_twice x None ≡ None) refl refl))
      (λ e. idle_run _ _ _ _ refl (only (λ x. get_or nothing x None ≡ None) refl));
}
