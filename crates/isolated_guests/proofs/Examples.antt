-- A worked host: two VCPUs of 1 slot in every 2 on one core, of which the second starts at slot 4,
-- has a job there that needs 1 slot, and blocks at 6, when the job is done. So what is asked of a
-- host can be met, and a definition that says otherwise breaks one of these.
use Rattle.std.proofs.Common.{◌≡◌, ◌≢◌, ℕ, zero, suc, ◌+◌, ◌<◌, ◌≤◌, Bool, true, false, Option, Some, None, List, length, [], ◌∷◌, refl, sym, subst, arith, lit≤}
use Rattle.csv_rows.specs.Last.{last_below}
use Rattle.slot_model.specs.declared.task.TheConstants.{LIMIT}
use Rattle.slot_model.specs.declared.sched.Sched.TheVariants.{Edf}
use Rattle.slot_model.specs.Slots.{sum_below}
use Rattle.slot_model.specs.Task.{plain_task}
use Rattle.slot_model.specs.Order.{edf_before}
use Rattle.slot_model.specs.Run.{guest, held, Pending, PermittedRun}
use Rattle.tree_model.specs.declared.pinned_core.Core.{Core as CoreView}
use Rattle.tree_model.specs.declared.place.Parent.TheVariants.{Core as on_core}
use Rattle.tree_model.specs.View.{PartView, SystemView}
use Rattle.tree_model.specs.System.{is_leaf_at}
use Rattle.tree_model.specs.Tree.{run_at}
use Rattle.tree_model.specs.Releases.{jobs_at}
use Rattle.trace_file.specs.Rules.{is_vcpu}
use Rattle.release_file.specs.declared.workload.Wake.{Wake}
use Rattle.release_file.specs.declared.workload.WakeKind.{WakeKind}
use Rattle.release_file.specs.declared.workload.WakeKind.TheVariants.{Start, Block}
use Rattle.release_file.specs.Workload.{row_at, last_row, is_of, may_follow, start_of, is_blocked_at, IsWorkload}
use Rattle.rtds_model.specs.Rtds.{CoreRun}
use Rattle.rtds_model.specs.Giving.{IsStartedOn}
use Rattle.rtds_model.proofs.Runs.{better, choice, chosen, is_run}
use Rattle.isolation.specs.Demand.{no_tie, IsIsolatedBy}
use Rattle.isolation.specs.Open.{OpenRun}
use Rattle.isolation.specs.Answers.{own_core}
use Rattle.halting.specs.Stolen.{stolen_in, moments_from}
use Rattle.halting.proofs.Examples.{jobs, legal, own_slots, own_run, none_pending_at_2, permitted}
use Rattle.isolated_guests.specs.Spared.{has_slot}
use Rattle.isolation.specs.Short.{budgets_on}
use Rattle.isolated_guests.specs.Guests.{HaltingGuest, HaltingServers, HaltingHost}
use Rattle.isolated_guests.proofs.Spared.{file_order_is_open}

abbrev half : ℕ → PartView
half letter =
    record {
      name = letter ∷ [];
      parent = on_core 0;
      sched = Edf;
      period = 2;
      budget = Some 1;
      extra = false;
      tasks = record { name = 116 ∷ []; task = plain_task 3 3 1 } ∷ [];
    }

abbrev core : CoreView
core = record { name = 99 ∷ []; sched = Edf; supply = None }

abbrev host : SystemView
host = record { cores = core ∷ []; parts = half 65 ∷ half 66 ∷ [] }

abbrev budgets : List ℕ
budgets = 1 ∷ 1 ∷ []

-- their budgets come to the shortest period, and each is isolated by 2 slots
their_sum : budgets_on host budgets 0 ≡ 2
unfolding sum_below
their_sum = refl

second_is_isolated : IsIsolatedBy no_tie host budgets 0 1 2
unfolding sum_below
second_is_isolated = record { in_period = lit≤ tt; enough = lit≤ tt }

abbrev row : ℕ → ℕ → WakeKind → Wake
row at vcpu what = record { at = at; vcpu = vcpu; what = what }

abbrev rows : List Wake
rows = row 0 0 Start ∷ row 4 1 Start ∷ row 6 1 Block ∷ []

abbrev A : Option ℕ
A = Some 0

abbrev B : Option ℕ
B = Some 1

abbrev run : List (Option ℕ)
run = A ∷ None ∷ A ∷ None ∷ A ∷ B ∷ A ∷ []

run_chosen : chosen host budgets rows 0 run ≡ run
unfolding chosen choice better last_below sum_below
run_chosen = refl

run_is : CoreRun host budgets rows 7 0 run
run_is = is_run host budgets rows 0 run run_chosen

three : (P : ℕ → Type 0) → P 0 → P 1 → P 2 → (i : ℕ) → i < 3 → P i
three P a b c zero l = a
three P a b c (suc zero) l = b
three P a b c (suc (suc zero)) l = c
three P a b c (suc (suc (suc i))) l = absurd (omega (arith, l))

rows_are : IsWorkload host rows
unfolding last_below
rows_are = record {
  in_limit = three (λ i. (row_at rows i).at ≤ LIMIT) (lit≤ tt) (lit≤ tt) (lit≤ tt);
  in_order = in_order;
  known = three (λ i. is_vcpu host (row_at rows i).vcpu ≡ true) refl refl refl;
  one_a_slot = one_a_slot;
  in_turn =
      three (λ i. may_follow (last_row (is_of (row_at rows i).vcpu) rows i) (row_at rows i).what ≡ true) refl refl refl;
}
  where
    in_order : (i : ℕ) → i + 1 < 3 → (row_at rows i).at ≤ (row_at rows (i + 1)).at
    in_order zero h = lit≤ tt
    in_order (suc zero) h = lit≤ tt
    in_order (suc (suc i)) h = absurd (omega arith)

    one_a_slot : (i j : ℕ) → i < j → j < 3 → (row_at rows i).vcpu ≡ (row_at rows j).vcpu
        → (row_at rows i).at ≢ (row_at rows j).at
    one_a_slot zero (suc zero) l h same = λ e. omega (arith, e)
    one_a_slot zero (suc (suc zero)) l h same = λ e. omega (arith, e)
    one_a_slot (suc zero) (suc (suc zero)) l h same = λ e. omega (arith, e)
    one_a_slot i (suc (suc (suc j))) l h same = absurd (omega arith)
    one_a_slot i j l h same = absurd (omega arith)

starts_at_4 : start_of rows 1 ≡ 4
unfolding last_below
starts_at_4 = refl

one_slot_is_stolen : (stolen_in (is_blocked_at rows 1) (has_slot run 1) 2 (start_of rows 1) 7 0 ≡ 1)
    × (stolen_in (is_blocked_at rows 1) (has_slot run 1) 2 (start_of rows 1) 7 1 ≡ 0)
unfolding last_below sum_below
one_slot_is_stolen = (refl, refl)

its_slots : own_slots ≡ moments_from (has_slot run 1) (start_of rows 1) 7
unfolding last_below
its_slots = refl

blocked_at_6_alone : (is_blocked_at rows 1 4 ≡ false) × (is_blocked_at rows 1 5 ≡ false)
unfolding last_below
blocked_at_6_alone = (refl, refl)

second_halts : HaltingGuest host rows 7 run 1 jobs own_run
second_halts = record {
  legal = legal;
  permitted =
      subst (λ (slots : List Bool). PermittedRun guest (edf_before (plain_task 3 3 1 ∷ [])) (plain_task 3 3 1 ∷ [])
      jobs slots own_run) its_slots permitted;
  halts =
      λ x j l b p. halts x j (omega (arith, l, starts_at_4))
      (subst (λ (f : ℕ). is_blocked_at rows 1 (f + x) ≡ true) starts_at_4 b) p;
}
  where
    halts : (x j : ℕ) → 4 + x < 7 → is_blocked_at rows 1 (4 + x) ≡ true
        → Pending guest (plain_task 3 3 1 ∷ []) jobs own_run j x → ⊥
    halts zero j l b p = let no = blocked_at_6_alone.0 in cc
    halts (suc zero) j l b p = let no = blocked_at_6_alone.1 in cc
    halts (suc (suc zero)) j l b p = none_pending_at_2 j p
    halts (suc (suc (suc x))) j l b p = omega (arith, l)

-- the guest on the first has no jobs
abbrev idle_run : List (Option ℕ)
idle_run = None ∷ None ∷ None ∷ None ∷ None ∷ None ∷ None ∷ []

nothing_held : (x : ℕ) → held idle_run x ≡ None
nothing_held zero = refl
nothing_held (suc zero) = refl
nothing_held (suc (suc zero)) = refl
nothing_held (suc (suc (suc zero))) = refl
nothing_held (suc (suc (suc (suc zero)))) = refl
nothing_held (suc (suc (suc (suc (suc zero))))) = refl
nothing_held (suc (suc (suc (suc (suc (suc zero)))))) = refl
nothing_held (suc (suc (suc (suc (suc (suc (suc x))))))) = refl

as_long : length (moments_from (has_slot run 0) (start_of rows 0) 7) ≡ 7
unfolding last_below
as_long = refl

first_halts : HaltingGuest host rows 7 run 0 [] idle_run
first_halts = record {
  legal = record {
    named = λ j l. absurd (omega (arith, l));
    works = λ j l. absurd (omega (arith, l));
    in_work = λ j l. absurd (omega (arith, l));
    in_jitter = λ j l. absurd (omega (arith, l));
    apart = λ i j l h same. absurd (omega (arith, h));
  };
  permitted = record {
    same_length = sym as_long;
    no_slot = λ x l q. nothing_held x;
    idle = λ x j l q e p. omega (arith, p.is_job);
    served = λ x j l e. absurd (let no : None ≡ Some j = cc (nothing_held x, e) in cc);
    chosen = λ x j k l e p b. omega (arith, p.is_job);
  };
  halts = λ x j l b p. omega (arith, p.is_job);
}

a_host_that_halts : HaltingHost host budgets rows 7 (run ∷ []) (idle_run ∷ own_run ∷ []) ([] ∷ jobs ∷ [])
a_host_that_halts =
    record { is_workload = rows_are; cores = cores; guests = λ q s. guests q s.is_part; servers = servers }
  where
    cores : (c : ℕ) → c < 1 → OpenRun host budgets rows 7 c (run_at (run ∷ []) c)
    cores zero l = file_order_is_open host budgets rows 7 0 run run_is
    cores (suc c) l = absurd (omega (arith, l))

    guests : (q : ℕ) → q < 2 → is_leaf_at host q ≡ true
        → HaltingGuest host rows 7 (run_at (run ∷ []) (own_core host q)) q (jobs_at ([] ∷ jobs ∷ []) q)
        (run_at (idle_run ∷ own_run ∷ []) q)
    guests zero l leaf = first_halts
    guests (suc zero) l leaf = second_halts
    guests (suc (suc q)) l leaf = absurd (omega (arith, l))

    servers : (q : ℕ) → IsStartedOn host rows (own_core host q) q → is_leaf_at host q ≡ false
        → HaltingServers host budgets rows 7 (run_at (run ∷ []) (own_core host q)) q (jobs_at ([] ∷ jobs ∷ []) q)
        (run_at (idle_run ∷ own_run ∷ []) q)
    servers zero s inner = absurd (let no : true ≡ false = inner in cc)
    servers (suc zero) s inner = absurd (let no : true ≡ false = inner in cc)
    servers (suc (suc q)) s inner = absurd (omega (arith, s.is_part))
