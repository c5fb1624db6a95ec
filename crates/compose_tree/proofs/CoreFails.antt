-- Where the servers of a core fall short of every slot, every permitted run of the tree that is
-- long enough has an early miss there, whatever the cores give.
use Rattle.std.proofs.Common.{◌≡◌, ℕ, ◌-◌, ◌%◌, ◌<◌, ◌≤◌, ◌&&◌, leb, Bool, true, false, List, [], length, get_or, Option, Some, None, sym, ◌∙◌, ap, arith, subst, lt-ltb, le-leb, inl, inr}
use Rattle.std.proofs.lemmas.Bool.{cases_lt, or_left, or_right, and_from}
use Rattle.slot_model.specs.declared.job.Job.{Job}
use Rattle.slot_model.specs.declared.sched.Sched.{Sched}
use Rattle.slot_model.specs.declared.sched.Sched.TheVariants.{Edf}
use Rattle.slot_model.specs.declared.sched.Short.{Short}
use Rattle.slot_model.specs.declared.sched.Short.TheVariants.{At, Task}
use Rattle.slot_model.specs.Slots.{slots_between}
use Rattle.slot_model.specs.Supply.{IsFull, worst_slot}
use Rattle.slot_model.specs.Task.{SporadicTask, AreConstrained, room_of, task_at}
use Rattle.slot_model.specs.Order.{before_of, fixed_before, ranks_above}
use Rattle.slot_model.specs.Release.{LegalRelease, synchronous}
use Rattle.slot_model.specs.Run.{server, PermittedRun}
use Rattle.slot_model.proofs.Runs.{count_below-le}
use Rattle.slot_model.proofs.WorstPattern.{worst_conforms}
use Rattle.fp_request.specs.Ranks.{ranks_is_rank}
use Rattle.least_budget.proofs.Budgets.{gives_less}
use Rattle.tree_model.specs.declared.place.Place.TheVariants.{Core}
use Rattle.tree_model.specs.View.{SystemView}
use Rattle.tree_model.specs.System.{IsSystem, IsCoreSupply, core_at, own_tasks_at}
use Rattle.tree_model.specs.Tree.{CoreConforms, server_tasks, run_at, TreeInputs}
use Rattle.slot_model.specs.Bound.{shows_by}
use Rattle.compose_tree.specs.Truth.{MissesBy, AnyInputs, CoreMustMiss}
use Rattle.compose_tree.proofs.CoreMisses.{core_edf, core_fixed}
use Rattle.compose_tree.proofs.Heavier.{FallsShort, IsShortPlace}
use Rattle.tree_model.proofs.FirstTrees.{listed, listed_long, listed_at}
use Rattle.compose_tree.proofs.TreeExists.{tree_exists}

-- a list of slots that are all given conforms to every supply of a core
all_given : (n : ℕ) → IsFull (listed (λ x. true) n)
all_given n x l = listed_at (λ y. true) false n x (omega (arith, listed_long (λ y. true) n))

-- the worst pattern of a whole period has every slot
whole_slot : (period x : ℕ) → worst_slot period period x ≡ true
whole_slot period x = elim (cases_lt x period) [
  | inl l ↦ or_left _ _ (lt-ltb x period l)
  | inr m ↦ or_right _ _ (and_from _ _ (le-leb period x m) (le-leb (period - period) (x % period) (omega arith)))
]

given_conforms : (supply : Option (ℕ × ℕ)) → IsCoreSupply supply → (n : ℕ) → CoreConforms supply (listed (λ x. true) n)
given_conforms None range n = all_given n
given_conforms (Some supply) range n =
    gives_less supply.0 supply.0 supply.1 (listed (λ x. true) n) range.2
    (worst_conforms supply.0 supply.0 (listed (λ x. true) n) (omega arith)
    (λ x l. all_given n x l ∙ sym (whole_slot supply.0 x)))

no_jobs : (tasks : List SporadicTask) → LegalRelease tasks []
no_jobs tasks = record {
  named = λ j l. absurd (omega arith);
  works = λ j l. absurd (omega arith);
  in_work = λ j l. absurd (omega arith);
  in_jitter = λ j l. absurd (omega arith);
  apart = λ i j l m. absurd (omega arith);
}

-- inputs exist: every slot of every core, and no release
some_inputs : (sys : SystemView) → IsSystem sys → (n : ℕ)
    → (supplies : List (List Bool)) × (jobs : List (List Job)) × TreeInputs sys n supplies jobs
some_inputs sys is n =
    let slots : List Bool = listed (λ x. true) n in
    let given : (c : ℕ) → c < length sys.cores → get_or (listed (λ d. slots) (length sys.cores)) c [] ≡ slots
    = λ c h. listed_at (λ d. slots) [] (length sys.cores) c h in
    let none : (q : ℕ) → q < length sys.parts → get_or (listed {X = List Job} (λ r. []) (length sys.parts)) q [] ≡ []
    = λ q h. listed_at (λ r. []) [] (length sys.parts) q h in (
      listed (λ d. slots) (length sys.cores),
      listed (λ r. []) (length sys.parts),
      record {
        supply_each_core = listed_long (λ d. slots) (length sys.cores);
        long = λ c h. ap (λ (s : List Bool). length s) (given c h) ∙ listed_long (λ x. true) n;
        conforms =
            λ c h. subst (CoreConforms (core_at sys c).supply) (sym (given c h))
            (given_conforms (core_at sys c).supply (is.supplies c h) n);
        jobs_each_part = listed_long (λ r. []) (length sys.parts);
        releases =
            λ q h leaf. subst (LegalRelease (own_tasks_at sys q)) (sym (none q h)) (no_jobs (own_tasks_at sys q));
        none_inner = λ q h inner. none q h;
      },
    )

-- such inputs are some over any slots of the cores
pub any_inputs : (sys : SystemView) (n : ℕ) (supplies : List (List Bool)) (jobs : List (List Job))
    → TreeInputs sys n supplies jobs → AnyInputs sys n supplies jobs
any_inputs sys n supplies jobs h = record {
  supply_each_core = h.supply_each_core;
  long = h.long;
  releases = record { one_each = h.jobs_each_part; legal = h.releases; none = h.none_inner };
}

-- a list has at most as many slots as places
count_most : (slots : List Bool) (t : ℕ) → slots_between slots 0 t ≤ t
count_most slots t = count_below-le (λ x. leb 0 x && get_or slots x false) t

fixed_fails : (sched : Sched) (tasks : List SporadicTask) → AreConstrained tasks → (i n : ℕ)
    → IsShortPlace (ranks_above sched tasks) tasks (λ t. t) i → room_of (task_at tasks i) ≤ n
    → (slots : List Bool) (run : List (Option ℕ)) → length slots ≡ n
    → PermittedRun server (fixed_before (ranks_above sched tasks)) tasks (synchronous tasks 0 n) slots run
    → MissesBy tasks (synchronous tasks 0 n) run (room_of (task_at tasks i))
fixed_fails sched tasks fits i n short l slots run long permitted =
    core_fixed (ranks_above sched tasks) (ranks_is_rank sched tasks) tasks fits n slots run long permitted i
    short.is_task l
    (λ u some within. omega (arith, count_most slots u, short.short u some within))

-- over any list the servers that fall short of every slot miss by the moment at which they do
servers_fail : (sched : Sched) (tasks : List SporadicTask) → AreConstrained tasks → (short : Short) (n : ℕ)
    → FallsShort sched tasks (λ t. t) short → shows_by tasks short ≤ n → (slots : List Bool) (run : List (Option ℕ))
    → length slots ≡ n
    → PermittedRun server (before_of sched tasks) tasks (synchronous tasks 0 n) slots run
    → MissesBy tasks (synchronous tasks 0 n) run (shows_by tasks short)
servers_fail Edf tasks fits (At t) n short l slots run long permitted =
    core_edf (before_of Edf tasks) tasks fits t n slots run l long permitted (omega (arith, count_most slots t, short))
servers_fail Edf tasks fits (Task i) n short l slots run long permitted = absurd short
servers_fail rule tasks fits (At t) n short l slots run long permitted = absurd short
servers_fail rule tasks fits (Task i) n short l slots run long permitted =
    fixed_fails rule tasks fits i n short l slots run long permitted

-- a core whose servers fall short of every slot must miss, whatever it gives
pub core_fails : (sys : SystemView) → IsSystem sys → (budgets : List ℕ) (c : ℕ) → c < length sys.cores
    → AreConstrained (server_tasks sys budgets (Core c))
    → (short : Short) → FallsShort (core_at sys c).sched (server_tasks sys budgets (Core c)) (λ t. t) short → (n : ℕ)
    → shows_by (server_tasks sys budgets (Core c)) short ≤ n
    → CoreMustMiss sys budgets c (shows_by (server_tasks sys budgets (Core c)) short) n
core_fails sys is budgets c h fits short falls n l = record {
  some_inputs = some_inputs sys is n;
  some_run = λ supplies jobs inputs. tree_exists sys budgets n supplies jobs is;
  misses = λ supplies jobs core_runs part_runs inputs tree.
      servers_fail (core_at sys c).sched (server_tasks sys budgets (Core c)) fits short n falls l (get_or supplies c [])
      (run_at core_runs c) (inputs.long c h) (tree.cores c h);
}
