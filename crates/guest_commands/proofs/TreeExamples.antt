-- A run of a tree by hand, in which a job has its work as late as it may: two guests of one slot in
-- two share a core. A definition of what holds in the tree that says less, or counts otherwise,
-- breaks it.
use Rattle.std.proofs.Common.{◌≡◌, ℕ, zero, suc, ◌<◌, ◌≤◌, Bool, true, false, Option, Some, None, List, [], ◌∷◌, length, get_or, arith, refl, sym, ◌∙◌, subst, lit<, lit≤}
use Rattle.std.specs.Prelude.{nat_lt}
use Rattle.std.proofs.lemmas.Bool.{both_ways}
use Rattle.std.proofs.lemmas.Option.{none-some}
use Rattle.slot_model.specs.declared.job.Job.{Job}
use Rattle.slot_model.specs.declared.sched.Sched.TheVariants.{Edf, Rm}
use Rattle.slot_model.specs.Slots.{sum_below}
use Rattle.slot_model.specs.Supply.{IsFull}
use Rattle.slot_model.specs.Task.{plain_task, plain_job, SporadicTask, job_at, deadline_of}
use Rattle.slot_model.specs.Order.{before_of}
use Rattle.slot_model.specs.Release.{LegalRelease, staggered}
use Rattle.slot_model.specs.Run.{server, guest, Pending}
use Rattle.tree_model.specs.declared.place.Parent.TheVariants.{Core as on_core}
use Rattle.tree_model.specs.declared.place.Place.TheVariants.{Core}
use Rattle.tree_model.specs.View.{PartView, SystemView}
use Rattle.tree_model.specs.System.{own_tasks_at}
use Rattle.tree_model.specs.Tree.{run_at, started_jobs, started_supply, GuestRun, StartedServers, StartedTree, TreeInputs}
use Rattle.tree_model.proofs.FewPlaces.{only, both}
use Rattle.rt_report.specs.declared.responses.Response.{Response}
use Rattle.guest_commands.specs.Responses.{RespondsInRun, RespondsInTree}

abbrev leaf : ℕ → PartView
leaf letter =
    record {
      name = letter ∷ [];
      parent = on_core 0;
      sched = Rm;
      period = 2;
      budget = Some 1;
      extra = false;
      tasks = record { name = 116 ∷ []; task = plain_task 4 4 1 } ∷ [];
    }

abbrev shared : SystemView
shared =
    record { cores = record { name = 99 ∷ []; sched = Edf; supply = None } ∷ []; parts = leaf 97 ∷ leaf 98 ∷ [] }

abbrev ones : List ℕ
ones = 1 ∷ 1 ∷ []

-- the core begins both servers at 1. In their first period the first guest goes first, and in their
-- second one it goes last: the deadlines are equal.
abbrev slots : List Bool
slots = true ∷ true ∷ true ∷ true ∷ true ∷ []

abbrev core_run : List (Option ℕ)
core_run = None ∷ Some 0 ∷ Some 1 ∷ Some 3 ∷ Some 2 ∷ []

abbrev server_jobs : List Job
server_jobs = plain_job 0 1 1 ∷ plain_job 1 1 1 ∷ plain_job 0 3 1 ∷ plain_job 1 3 1 ∷ []

they_begin_at_1 : started_jobs shared ones ones (Core 0) 5 ≡ server_jobs
unfolding staggered
they_begin_at_1 = refl

the_first_has_the_outer_slots : started_supply shared ones ones 5 (core_run ∷ []) [] 0
    ≡ true ∷ false ∷ false ∷ true ∷ []
unfolding sum_below staggered
the_first_has_the_outer_slots = refl

-- its job comes just after its first slot, so it waits for the fourth
abbrev jobs : List Job
jobs = plain_job 0 1 1 ∷ []

abbrev run : List (Option ℕ)
run = None ∷ None ∷ None ∷ Some 0 ∷ []

it_responds_in_3 : RespondsInRun jobs run 0 3
unfolding sum_below
it_responds_in_3 zero is_job mine long = lit≤ tt
it_responds_in_3 (suc j) is_job mine long = absurd (omega (arith, is_job))

and_not_in_2 : RespondsInRun jobs run 0 2 → ⊥
unfolding sum_below
and_not_in_2 within = let served : 1 ≤ 0 = within 0 (lit< tt) refl (lit≤ tt) in omega (arith, served)

-- the core's run is permitted: each server's job is pending where it is held, and no pending one
-- is due earlier
abbrev servers : List SporadicTask
servers = plain_task 2 2 1 ∷ plain_task 2 2 1 ∷ []

abbrev Waits : ℕ → ℕ → Type 0
Waits x j = Pending server servers server_jobs core_run j x

abbrev is_due_before : ℕ → ℕ → Bool
is_due_before k j = before_of Edf servers (job_at server_jobs k) (job_at server_jobs j)

same : (i j : ℕ) → Some i ≡ Some j → i ≡ j
same i j e = cc

all_are_given : IsFull slots
all_are_given zero l = refl
all_are_given (suc zero) l = refl
all_are_given (suc (suc zero)) l = refl
all_are_given (suc (suc (suc zero))) l = refl
all_are_given (suc (suc (suc (suc zero)))) l = refl
all_are_given (suc (suc (suc (suc (suc x))))) l = absurd (omega arith)

none_waits_at_0 : (j : ℕ) → Waits 0 j → ⊥
none_waits_at_0 zero p = omega (arith, p.released)
none_waits_at_0 (suc zero) p = omega (arith, p.released)
none_waits_at_0 (suc (suc zero)) p = omega (arith, p.released)
none_waits_at_0 (suc (suc (suc zero))) p = omega (arith, p.released)
none_waits_at_0 (suc (suc (suc (suc j)))) p = omega (arith, p.is_job)

held_from_1_on : (x j : ℕ) → x < 5 → Waits x j → get_or core_run x None ≡ None → ⊥
held_from_1_on zero j l p e = none_waits_at_0 j p
held_from_1_on (suc zero) j l p e = cc
held_from_1_on (suc (suc zero)) j l p e = cc
held_from_1_on (suc (suc (suc zero))) j l p e = cc
held_from_1_on (suc (suc (suc (suc zero)))) j l p e = cc
held_from_1_on (suc (suc (suc (suc (suc x))))) j l p e = omega arith

waits_where_held : (x j : ℕ) → x < 5 → get_or core_run x None ≡ Some j → Waits x j
unfolding sum_below
waits_where_held zero j l e = cc
waits_where_held (suc zero) j l e =
    subst (Waits 1) (same 0 j e)
    (record { is_job = lit< tt; released = lit≤ tt; unfinished = lit< tt; still_open = lit< tt })
waits_where_held (suc (suc zero)) j l e =
    subst (Waits 2) (same 1 j e)
    (record { is_job = lit< tt; released = lit≤ tt; unfinished = lit< tt; still_open = lit< tt })
waits_where_held (suc (suc (suc zero))) j l e =
    subst (Waits 3) (same 3 j e)
    (record { is_job = lit< tt; released = lit≤ tt; unfinished = lit< tt; still_open = lit< tt })
waits_where_held (suc (suc (suc (suc zero)))) j l e =
    subst (Waits 4) (same 2 j e)
    (record { is_job = lit< tt; released = lit≤ tt; unfinished = lit< tt; still_open = lit< tt })
waits_where_held (suc (suc (suc (suc (suc x))))) j l e = absurd (omega arith)

-- the first two jobs are due at 3, and the others at 5
abbrev is_due_by : ℕ → ℕ → Bool
is_due_by k moment = nat_lt (deadline_of servers (job_at server_jobs k)) moment

none_is_due_before_3 : (k : ℕ) → k < 4 → is_due_by k 3 ≡ true → ⊥
none_is_due_before_3 zero l e = cc
none_is_due_before_3 (suc zero) l e = cc
none_is_due_before_3 (suc (suc zero)) l e = cc
none_is_due_before_3 (suc (suc (suc zero))) l e = cc
none_is_due_before_3 (suc (suc (suc (suc k)))) l e = omega arith

the_first_two_are_due_before_5 : (k : ℕ) → k < 4 → is_due_by k 5 ≡ true → k < 2
the_first_two_are_due_before_5 zero l e = lit< tt
the_first_two_are_due_before_5 (suc zero) l e = lit< tt
the_first_two_are_due_before_5 (suc (suc zero)) l e = cc
the_first_two_are_due_before_5 (suc (suc (suc zero))) l e = cc
the_first_two_are_due_before_5 (suc (suc (suc (suc k)))) l e = absurd (omega arith)

they_are_done_at_3 : (k : ℕ) → k < 2 → Waits 3 k → ⊥
unfolding sum_below
they_are_done_at_3 = both (λ k. Waits 3 k → ⊥) (λ p. omega (arith, p.unfinished)) (λ p. omega (arith, p.unfinished))

they_are_done_at_4 : (k : ℕ) → k < 2 → Waits 4 k → ⊥
unfolding sum_below
they_are_done_at_4 = both (λ k. Waits 4 k → ⊥) (λ p. omega (arith, p.unfinished)) (λ p. omega (arith, p.unfinished))

none_waits_before : (x j k : ℕ) → x < 5 → get_or core_run x None ≡ Some j → Waits x k → is_due_before k j ≡ true → ⊥
none_waits_before zero j k l e p t = cc
none_waits_before (suc zero) j k l e p t =
    none_is_due_before_3 k p.is_job (subst (λ z. is_due_before k z ≡ true) (sym (same 0 j e)) t)
none_waits_before (suc (suc zero)) j k l e p t =
    none_is_due_before_3 k p.is_job (subst (λ z. is_due_before k z ≡ true) (sym (same 1 j e)) t)
none_waits_before (suc (suc (suc zero))) j k l e p t =
    they_are_done_at_3 k
    (the_first_two_are_due_before_5 k p.is_job (subst (λ z. is_due_before k z ≡ true) (sym (same 3 j e)) t)) p
none_waits_before (suc (suc (suc (suc zero)))) j k l e p t =
    they_are_done_at_4 k
    (the_first_two_are_due_before_5 k p.is_job (subst (λ z. is_due_before k z ≡ true) (sym (same 2 j e)) t)) p
none_waits_before (suc (suc (suc (suc (suc x))))) j k l e p t = omega arith

the_core_serves : StartedServers shared ones ones 5 (Core 0) slots core_run
unfolding staggered
the_core_serves = record {
  same_length = refl;
  no_slot = λ x l e. absurd (both_ways _ e (all_are_given x l));
  idle = λ x j l s e p. held_from_1_on x j l p e;
  served = λ x j l e. waits_where_held x j l e;
  chosen = λ x j k l e p t. none_waits_before x j k l e p t;
}

abbrev nothing : List (Option ℕ)
nothing = None ∷ None ∷ None ∷ None ∷ []

-- and that of the first guest, whose one job waits for a slot; the second has no jobs
abbrev own : List Bool
own = true ∷ false ∷ false ∷ true ∷ []

no_slot_no_job : (x : ℕ) → x < 4 → get_or own x false ≡ false → get_or run x None ≡ None
no_slot_no_job zero l e = cc
no_slot_no_job (suc zero) l e = refl
no_slot_no_job (suc (suc zero)) l e = refl
no_slot_no_job (suc (suc (suc zero))) l e = cc
no_slot_no_job (suc (suc (suc (suc x)))) l e = absurd (omega arith)

abbrev tasks : List SporadicTask
tasks = plain_task 4 4 1 ∷ []

held_with_a_slot : (x j : ℕ) → x < 4 → get_or own x false ≡ true → get_or run x None ≡ None
    → Pending guest tasks jobs run j x → ⊥
held_with_a_slot zero zero l s e p = omega (arith, p.released)
held_with_a_slot zero (suc j) l s e p = omega (arith, p.is_job)
held_with_a_slot (suc zero) j l s e p = cc
held_with_a_slot (suc (suc zero)) j l s e p = cc
held_with_a_slot (suc (suc (suc zero))) j l s e p = cc
held_with_a_slot (suc (suc (suc (suc x)))) j l s e p = omega arith

its_job_waits : (x j : ℕ) → x < 4 → get_or run x None ≡ Some j → Pending guest tasks jobs run j x
unfolding sum_below
its_job_waits zero j l e = cc
its_job_waits (suc zero) j l e = cc
its_job_waits (suc (suc zero)) j l e = cc
its_job_waits (suc (suc (suc zero))) j l e =
    subst (λ z. Pending guest tasks jobs run z 3) (same 0 j e)
    (record { is_job = lit< tt; released = lit≤ tt; unfinished = lit< tt; still_open = tt })
its_job_waits (suc (suc (suc (suc x)))) j l e = absurd (omega arith)

not_before_itself : (j k : ℕ) → j < 1 → k < 1 → before_of Rm tasks (job_at jobs k) (job_at jobs j) ≡ true → ⊥
not_before_itself zero zero l m t = cc
not_before_itself zero (suc k) l m t = omega arith
not_before_itself (suc j) k l m t = omega arith

the_first_guest_runs : GuestRun shared 0 jobs own run
the_first_guest_runs = record {
  same_length = refl;
  no_slot = no_slot_no_job;
  idle = held_with_a_slot;
  served = its_job_waits;
  chosen = λ x j k l e p t. not_before_itself j k (its_job_waits x j l e).is_job p.is_job t;
}

none_is_held : (x : ℕ) → x < 4 → get_or nothing x None ≡ None
none_is_held zero l = refl
none_is_held (suc zero) l = refl
none_is_held (suc (suc zero)) l = refl
none_is_held (suc (suc (suc zero))) l = refl
none_is_held (suc (suc (suc (suc x)))) l = absurd (omega arith)

the_second_guest_rests : GuestRun shared 1 [] (false ∷ true ∷ true ∷ false ∷ []) nothing
the_second_guest_rests = record {
  same_length = refl;
  no_slot = λ x l e. none_is_held x l;
  idle = λ x j l s e p. omega (arith, p.is_job);
  served = λ x j l e. absurd (none-some j (sym (none_is_held x l) ∙ e));
  chosen = λ x j k l e p t. omega (arith, p.is_job);
}

it_is_permitted : StartedTree shared ones ones 5 (slots ∷ []) (jobs ∷ [] ∷ []) (core_run ∷ [])
    (run ∷ nothing ∷ [])
unfolding sum_below staggered
it_is_permitted = record {
  run_each_core = refl;
  run_each_part = refl;
  cores = only (λ c. StartedServers shared ones ones 5 (Core c) (get_or (slots ∷ []) c []) (run_at (core_run ∷ []) c))
      the_core_serves;
  inner = both _ (λ e. cc) (λ e. cc);
  leaves = both _ (λ e. the_first_guest_runs) (λ e. the_second_guest_rests);
}

one_job_is_legal : LegalRelease (own_tasks_at shared 0) jobs
one_job_is_legal = record {
  named = only (λ j. (job_at jobs j).task < 1) (lit< tt);
  works = only (λ j. 1 ≤ (job_at jobs j).work) (lit≤ tt);
  in_work = only _ (lit≤ tt);
  in_jitter = only _ (lit≤ tt);
  apart = λ i j before l. absurd (omega arith);
}

none_is_legal : LegalRelease (own_tasks_at shared 1) []
none_is_legal = record {
  named = λ j l. absurd (omega arith);
  works = λ j l. absurd (omega arith);
  in_work = λ j l. absurd (omega arith);
  in_jitter = λ j l. absurd (omega arith);
  apart = λ i j before l. absurd (omega arith);
}

it_has_inputs : TreeInputs shared 5 (slots ∷ []) (jobs ∷ [] ∷ [])
it_has_inputs = record {
  supply_each_core = refl;
  long = only (λ c. length (get_or (slots ∷ []) c []) ≡ 5) refl;
  conforms = only _ all_are_given;
  jobs_each_part = refl;
  releases = both _ (λ e. one_job_is_legal) (λ e. none_is_legal);
  none_inner = both _ (λ e. cc) (λ e. cc);
}

-- so of the first guest's task no less than 3 slots hold in the tree
abbrev answer : ℕ → Response
answer worst = record { part = 0; task = 0; worst = worst; limit = 4; replay = None }

less_than_3_is_too_few : RespondsInTree shared ones (answer 2) → ⊥
less_than_3_is_too_few within =
    and_not_in_2 (within ones 5 (slots ∷ []) (jobs ∷ [] ∷ []) (core_run ∷ [])
    (run ∷ nothing ∷ []) it_has_inputs it_is_permitted)
