-- The generated host is admitted under its budgets.
use Rattle.std.proofs.Common.{◌≡◌, ℕ, ◌%◌, ◌<◌, ◌≤◌, cond, eqb, List, None, arith, sym, ◌∙◌, ap, subst}
use Rattle.std.proofs.lemmas.List.FromFn.{length-map-range_with_len}
use Rattle.slot_model.specs.declared.sched.Sched.{Sched}
use Rattle.slot_model.specs.declared.sched.Sched.TheVariants.{Edf, Rm}
use Rattle.slot_model.specs.Task.{SporadicTask}
use Rattle.slot_model.specs.Bound.{sbf, IsSmall, IsLeastBudget, TestPasses}
use Rattle.tree_model.specs.declared.pinned_core.Core.{Core as CoreView}
use Rattle.tree_model.specs.declared.place.Place.{Place}
use Rattle.tree_model.specs.declared.place.Place.TheVariants.{Core, Part}
use Rattle.tree_model.specs.View.{PartView}
use Rattle.tree_model.specs.System.{part_at, own_tasks, is_leaf}
use Rattle.tree_model.specs.Tree.{core_bound, core_cycle, server_tasks, budget_at, IsNode, node_tasks}
use Rattle.tree_model.specs.Admission.{NodePasses, IsGivenOrLeast, BudgetStands, Admitted}
use Rattle.tree_model.proofs.NodeTasks.{leaf_tasks}
use Rattle.bulk_host.specs.Host.{guest_period, guest_sched, guest_budget, cores_for, bulk_host, bulk_budgets}
use Rattle.bulk_host.proofs.LeafBudgets.{tasks_of, least_of_kind}
use Rattle.bulk_host.proofs.Systems.{core_here, guest_here, cores-many, guests-many}
use Rattle.bulk_host.proofs.Servers.{budget_here}
use Rattle.bulk_host.proofs.CoreLoad.{core_fits, core_is_small}

-- the tasks of a guest are its own
pub tasks_here : (n q : ℕ) (budgets : List ℕ) → q < n
    → node_tasks (bulk_host n) budgets (Part q) ≡ tasks_of (guest_period q)
tasks_here n q budgets l =
    leaf_tasks (bulk_host n) budgets q (ap (λ (p : PartView). is_leaf p.tasks) (guest_here n q l))
    ∙ ap own_tasks (guest_here n q l)

-- the scheduler of a guest by the rest of its place
same_sched : (q : ℕ) → cond {A = Sched} (eqb ((q % 4) % 2) 0) Edf Rm ≡ guest_sched q
same_sched q = ap (λ (z : ℕ). cond {A = Sched} (eqb z 0) Edf Rm) (let e : (q % 4) % 2 ≡ q % 2 = omega arith in e)

least_here : (q : ℕ)
    → IsSmall (guest_sched q) (tasks_of (guest_period q)) (guest_period q)
    × IsLeastBudget (guest_sched q) (tasks_of (guest_period q)) (guest_period q) (guest_budget q)
least_here q =
    subst (λ (s : Sched). IsSmall s (tasks_of (guest_period q)) (guest_period q)
    × IsLeastBudget s (tasks_of (guest_period q)) (guest_period q) (guest_budget q)) (same_sched q)
    (least_of_kind (q % 4) (omega arith))

stands : (n q : ℕ) → q < n → BudgetStands (bulk_host n) (bulk_budgets n) q (part_at (bulk_host n) q).budget
stands n q l =
    subst (λ (p : PartView). IsGivenOrLeast p.sched (node_tasks (bulk_host n) (bulk_budgets n) (Part q)) p.period
    p.budget (budget_at (bulk_budgets n) q)) (sym (guest_here n q l))
    (subst (λ (ts : List SporadicTask). IsGivenOrLeast (guest_sched q) ts (guest_period q) None
    (budget_at (bulk_budgets n) q)) (sym (tasks_here n q (bulk_budgets n) l))
    (subst (λ (b : ℕ). IsGivenOrLeast (guest_sched q) (tasks_of (guest_period q)) (guest_period q) None b)
    (sym (budget_here n q l)) (least_here q)))

guest_passes : (n q : ℕ) → q < n → NodePasses (bulk_host n) (bulk_budgets n) (Part q)
guest_passes n q l =
    let least = least_here q in
    subst (λ (p : PartView). TestPasses p.sched (node_tasks (bulk_host n) (bulk_budgets n) (Part q))
    (sbf p.period (budget_at (bulk_budgets n) q)) p.period) (sym (guest_here n q l))
    (subst (λ (ts : List SporadicTask). TestPasses (guest_sched q) ts
    (sbf (guest_period q) (budget_at (bulk_budgets n) q)) (guest_period q))
    (sym (tasks_here n q (bulk_budgets n) l))
    (subst
    (λ (b : ℕ). TestPasses (guest_sched q) (tasks_of (guest_period q)) (sbf (guest_period q) b) (guest_period q))
    (sym (budget_here n q l)) (least.0, least.1.passes)))

core_passes : (n c : ℕ) → c < cores_for n → NodePasses (bulk_host n) (bulk_budgets n) (Core c)
core_passes n c l =
    subst (λ (core : CoreView). TestPasses core.sched (server_tasks (bulk_host n) (bulk_budgets n) (Core c))
    (core_bound core.supply) (core_cycle core.supply)) (sym (core_here n c l))
    (core_is_small n c, core_fits n c)

pub host_is_admitted : (n : ℕ) → 1 ≤ n → n ≤ 256 → Admitted (bulk_host n) (bulk_budgets n)
host_is_admitted n some few = record {
  assigned =
      record {
        one_each = length-map-range_with_len guest_budget 0 n ∙ sym (guests-many n);
        stands = λ q l h. stands n q (omega (arith, guests-many n));
      };
  passes = passes;
}
  where
    passes : (node : Place) → IsNode (bulk_host n) node → NodePasses (bulk_host n) (bulk_budgets n) node
    passes (Core c) h = core_passes n c (omega (arith, cores-many n))
    passes (Part q) h = guest_passes n q (omega (arith, guests-many n))
