-- Where every node passes its test, no job is lost anywhere in any permitted run of the tree,
-- whenever each part starts.
use Rattle.std.proofs.Common.{◌≡◌, ℕ, zero, suc, ◌<◌, ◌≤◌, Bool, true, false, List, [], length, get_or, drop, Option, arith}
use Rattle.std.proofs.lemmas.List.{length-map, length-drop}
use Rattle.slot_model.specs.Task.{AreConstrained}
use Rattle.slot_model.specs.declared.job.Job.{Job}
use Rattle.slot_model.specs.Slots.{count_below}
use Rattle.slot_model.specs.Run.{guest, server, PermittedRun, holds_task, child_supply}
use Rattle.slot_model.specs.Miss.{Lost}
use Rattle.slot_model.specs.Supply.{GivesBudget}
use Rattle.slot_model.specs.Order.{before_of}
use Rattle.slot_model.specs.Release.{start_at}
use Rattle.slot_model.proofs.Staggered.{legal_staggered}
use Rattle.slot_model.proofs.ChildSupply.{gives_from_start}
use Rattle.tree_model.specs.declared.place.Parent.{Parent}
use Rattle.tree_model.specs.declared.place.Parent.TheVariants.{Core as on_core, Part as on_part}
use Rattle.tree_model.specs.declared.place.Place.{Place}
use Rattle.tree_model.specs.declared.place.Place.TheVariants.{Core, Part}
use Rattle.tree_model.specs.View.{SystemView}
use Rattle.tree_model.specs.System.{IsSystem, Stands, core_at, part_at, is_leaf_at}
use Rattle.tree_model.specs.Tree.{place_of, is_child, budget_at, server_tasks, run_at, run_of, child_starts, started_jobs, started_supply, StartedTree, TreeInputs, NothingLost}
use Rattle.tree_model.proofs.Children.{IsServer, server_at, start_of_child, same_itself}
use Rattle.tree_model.proofs.Parents.{servers_constrained}
use Rattle.compose_tree.specs.Keeping.{Keeping}

-- the slots of a part among its parent's
abbrev given_to : SystemView → List ℕ → List ℕ → ℕ → Place → List (Option ℕ) → ℕ → List Bool
given_to sys budgets starts n node run q =
    drop (start_at starts q)
    (child_supply (started_jobs sys budgets starts node n) run (count_below (is_child sys node) q))

-- what a child of a place gets, where the place's run loses no job
child_gets : (sys : SystemView) (budgets starts : List ℕ) (n : ℕ) (node : Place) (q : ℕ) → q < length sys.parts
    → is_child sys node q ≡ true → (before : Job → Job → Bool) (slots : List Bool) (run : List (Option ℕ))
    → length slots ≤ n
    → PermittedRun server before (server_tasks sys budgets node) (started_jobs sys budgets starts node n) slots run
    → ((j x : ℕ) → Lost (server_tasks sys budgets node) (started_jobs sys budgets starts node n) run j x → ⊥)
    → (length (given_to sys budgets starts n node run q) ≤ n)
    × GivesBudget (part_at sys q).period (budget_at budgets q) (given_to sys budgets starts n node run q)
child_gets sys budgets starts n node q l e before slots run len permitted fine =
    let rank : ℕ = count_below (is_child sys node) q in
    let h : IsServer sys budgets q (server_tasks sys budgets node) rank = server_at sys budgets node q l e in (
      omega (
        arith,
        length-drop (start_at starts q) (child_supply (started_jobs sys budgets starts node n) run rank),
        length-map run (λ o. holds_task (started_jobs sys budgets starts node n) o rank),
        permitted.same_length,
        len,
      ),
      gives_from_start before (server_tasks sys budgets node) (child_starts sys starts node) n slots run len permitted
          fine rank (part_at sys q).period (budget_at budgets q) (start_at starts q) h.within h.is
          (start_of_child sys starts node q l e),
    )

-- a system with its budgets, its starts, its inputs and a permitted run
pub record Running (sys : SystemView) (budgets starts : List ℕ) (n : ℕ) (supplies : List (List Bool))
    (jobs : List (List Job)) (core_runs part_runs : List (List (Option ℕ))) : Type 0 where
  pub fits : IsSystem sys
  pub pass : Keeping sys budgets
  pub inputs : TreeInputs sys n supplies jobs
  pub tree : StartedTree sys budgets starts n supplies jobs core_runs part_runs

core_fine : (sys : SystemView) (budgets starts : List ℕ) (n : ℕ) (supplies : List (List Bool)) (jobs : List (List Job))
    (core_runs part_runs : List (List (Option ℕ))) → Running sys budgets starts n supplies jobs core_runs part_runs
    → (c : ℕ) → c < length sys.cores → (j x : ℕ)
    → Lost (server_tasks sys budgets (Core c)) (started_jobs sys budgets starts (Core c) n) (run_at core_runs c) j x → ⊥
core_fine sys budgets starts n supplies jobs core_runs part_runs h c l =
    let f : AreConstrained (server_tasks sys budgets (Core c))
    = servers_constrained sys budgets (Core c) (λ q l child. h.pass.budgets_fit q l) in
    h.pass.cores c l server (started_jobs sys budgets starts (Core c) n) (get_or supplies c []) (run_at core_runs c)
    (h.inputs.conforms c l)
    (legal_staggered (server_tasks sys budgets (Core c)) f (child_starts sys starts (Core c)) n) (h.tree.cores c l)

inner_fine : (sys : SystemView) (budgets starts : List ℕ) (n : ℕ) (supplies : List (List Bool)) (jobs : List (List Job))
    (core_runs part_runs : List (List (Option ℕ))) → Running sys budgets starts n supplies jobs core_runs part_runs
    → (q : ℕ) → q < length sys.parts → is_leaf_at sys q ≡ false
    → GivesBudget (part_at sys q).period (budget_at budgets q)
    (started_supply sys budgets starts n core_runs part_runs q)
    → (j x : ℕ)
    → Lost (server_tasks sys budgets (Part q)) (started_jobs sys budgets starts (Part q) n) (run_at part_runs q) j x
    → ⊥
inner_fine sys budgets starts n supplies jobs core_runs part_runs h q l inner g =
    let f : AreConstrained (server_tasks sys budgets (Part q))
    = servers_constrained sys budgets (Part q) (λ r m child. h.pass.budgets_fit r m) in
    h.pass.inner q l inner server (started_jobs sys budgets starts (Part q) n)
    (started_supply sys budgets starts n core_runs part_runs q) (run_at part_runs q) g
    (legal_staggered (server_tasks sys budgets (Part q)) f (child_starts sys starts (Part q)) n)
    (h.tree.inner q l inner)

-- a part's slots are no more than those of the cores, and conform
abbrev Gets : SystemView → List ℕ → ℕ → ℕ → List Bool → Type 0
Gets sys budgets n q slots = (length slots ≤ n) × GivesBudget (part_at sys q).period (budget_at budgets q) slots

-- from the cores down, each part gets its budget
from_parent : (sys : SystemView) (budgets starts : List ℕ) (n : ℕ) (supplies : List (List Bool))
    (jobs : List (List Job)) (core_runs part_runs : List (List (Option ℕ)))
    → Running sys budgets starts n supplies jobs core_runs part_runs → (q : ℕ) → q < length sys.parts
    → ((r : ℕ) → r < q → Gets sys budgets n r (started_supply sys budgets starts n core_runs part_runs r))
    → (parent : Parent) → Stands sys q parent → is_child sys (place_of parent) q ≡ true
    → Gets sys budgets n q
    (given_to sys budgets starts n (place_of parent) (run_of core_runs part_runs (place_of parent)) q)
from_parent sys budgets starts n supplies jobs core_runs part_runs h q l below (on_core c) stands e =
    child_gets sys budgets starts n (Core c) q l e (before_of (core_at sys c).sched (server_tasks sys budgets (Core c)))
    (get_or supplies c []) (run_at core_runs c) (omega (arith, h.inputs.long c stands)) (h.tree.cores c stands)
    (core_fine sys budgets starts n supplies jobs core_runs part_runs h c stands)
from_parent sys budgets starts n supplies jobs core_runs part_runs h q l below (on_part r) stands e =
    let lr : r < length sys.parts = omega (arith, stands.0) in
    child_gets sys budgets starts n (Part r) q l e (before_of (part_at sys r).sched (server_tasks sys budgets (Part r)))
    (started_supply sys budgets starts n core_runs part_runs r) (run_at part_runs r) (below r stands.0).0
    (h.tree.inner r lr stands.1)
    (inner_fine sys budgets starts n supplies jobs core_runs part_runs h r lr stands.1 (below r stands.0).1)

part_gets : (sys : SystemView) (budgets starts : List ℕ) (n : ℕ) (supplies : List (List Bool)) (jobs : List (List Job))
    (core_runs part_runs : List (List (Option ℕ))) → Running sys budgets starts n supplies jobs core_runs part_runs
    → (m q : ℕ) → q < m → q < length sys.parts
    → Gets sys budgets n q (started_supply sys budgets starts n core_runs part_runs q)
part_gets sys budgets starts n supplies jobs core_runs part_runs h zero q lm l = absurd (omega arith)
part_gets sys budgets starts n supplies jobs core_runs part_runs h (suc m) q lm l =
    from_parent sys budgets starts n supplies jobs core_runs part_runs h q l
    (λ r lr. part_gets sys budgets starts n supplies jobs core_runs part_runs h m r (omega arith) (omega arith))
    (part_at sys q).parent (h.fits.parents q l) (same_itself (place_of (part_at sys q).parent))

pub part_has_budget : (sys : SystemView) (budgets starts : List ℕ) (n : ℕ) (supplies : List (List Bool))
    (jobs : List (List Job)) (core_runs part_runs : List (List (Option ℕ)))
    → Running sys budgets starts n supplies jobs core_runs part_runs → (q : ℕ) → q < length sys.parts
    → GivesBudget (part_at sys q).period (budget_at budgets q)
    (started_supply sys budgets starts n core_runs part_runs q)
part_has_budget sys budgets starts n supplies jobs core_runs part_runs h q l =
    (part_gets sys budgets starts n supplies jobs core_runs part_runs h (suc q) q (omega arith) l).1

-- nothing is lost anywhere
pub tree_no_loss : (sys : SystemView) (budgets starts : List ℕ) (n : ℕ) (supplies : List (List Bool))
    (jobs : List (List Job)) (core_runs part_runs : List (List (Option ℕ))) → IsSystem sys → Keeping sys budgets
    → TreeInputs sys n supplies jobs → StartedTree sys budgets starts n supplies jobs core_runs part_runs
    → NothingLost sys budgets starts n jobs core_runs part_runs
tree_no_loss sys budgets starts n supplies jobs core_runs part_runs fits pass inputs tree =
    let h : Running sys budgets starts n supplies jobs core_runs part_runs
    = record { fits = fits; pass = pass; inputs = inputs; tree = tree } in
    record {
      cores = core_fine sys budgets starts n supplies jobs core_runs part_runs h;
      inner =
          λ q l inner. inner_fine sys budgets starts n supplies jobs core_runs part_runs h q l inner
          (part_has_budget sys budgets starts n supplies jobs core_runs part_runs h q l);
      leaves =
          λ q l leaf. pass.leaves q l leaf guest (get_or jobs q [])
          (started_supply sys budgets starts n core_runs part_runs q) (run_at part_runs q)
          (part_has_budget sys budgets starts n supplies jobs core_runs part_runs h q l)
          (inputs.releases q l leaf) (tree.leaves q l leaf);
    }
