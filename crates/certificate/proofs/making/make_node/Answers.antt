use Rattle.std.proofs.Common.{◌≡◌, ℕ, ◌≤◌, ◌-◌, List, take, sym, ◌∙◌, ap, subst, refl, arith}
use Rattle.std.specs.Prelude.{is_none}
use Rattle.slot_model.specs.declared.sched.Sched.{Sched}
use Rattle.slot_model.specs.Task.{SporadicTask, sporadic_tasks}
use Rattle.slot_model.specs.Bound.{sbf, IsSmall, Passes, TestPasses}
use Rattle.supply_bound.specs.NodeSupplies.{bound_of, cycle_of}
use Rattle.tree_model.specs.Tree.{node_tasks, node_sched, node_bound, node_cycle, given_budget}
use Rattle.tree_model.specs.NodeSupply.{node_budget}
use Rattle.tree_model.proofs.InRange.{admitted_in_period, admitted_children}
use Rattle.tree_model.proofs.Levels.{of_level, cycle_range, budget_range, budget_fits}
use Rattle.certificate.specs.Made.{ListsPass, ListsLeast}
use Rattle.certificate.proofs.Nodes.{none_of, none_is, not_less, node_made}
use Rattle.certificate.proofs.making.make_node.Goals as goal
use Rattle.certificate.proofs.making.make_node.Goals.{After-write_tasks-count, After-budget-budget}

pub node_supply-supply-requires-clause-in_period : goal.node_supply-supply-requires-clause-in_period
node_supply-supply-requires-clause-in_period c =
    budget_fits c.args.sys.now c.args.budgets.now
    (admitted_in_period c.args.sys.now c.sched_of-sched.ensures.system c.args.budgets.now c.requires.admitted)
    c.args.place c.requires.is_node

pub write_tasks-count-requires-clause-in_period : goal.write_tasks-count-requires-clause-in_period
write_tasks-count-requires-clause-in_period c =
    admitted_children c.args.sys.now c.sched_of-sched.ensures.system c.args.budgets.now c.requires.admitted c.args.place

-- what is so of the node's level is so of it as it is read, and the other way round
as_read : (c : After-write_tasks-count) (P : Sched → List SporadicTask → (ℕ → ℕ) → ℕ → Type 0) →
    let sys = c.args.sys.now in let budgets = c.args.budgets.now in let place = c.args.place in
    P (node_sched sys place) (node_tasks sys budgets place) (node_bound sys budgets place) (node_cycle sys place)
    → P c.sched_of-sched.result (sporadic_tasks (take c.write_tasks-count.result c.write_tasks-count.new.room))
    (bound_of c.node_supply-supply.result) (cycle_of c.node_supply-supply.result)
as_read c P h =
    of_level P (sym c.sched_of-sched.ensures.sched) (sym c.write_tasks-count.ensures.tasks)
    (sym c.node_supply-supply.ensures.bound) (sym c.node_supply-supply.ensures.cycle) h

tested : (c : After-write_tasks-count)
    → TestPasses c.sched_of-sched.result (sporadic_tasks (take c.write_tasks-count.result c.write_tasks-count.new.room))
    (bound_of c.node_supply-supply.result) (cycle_of c.node_supply-supply.result)
tested c = as_read c TestPasses (c.requires.admitted.passes c.args.place c.requires.is_node)

pub pass_lists-requires-clause-small : goal.pass_lists-requires-clause-small
pass_lists-requires-clause-small c = (tested (goal.at.pass_lists-requires-clause-small c).After-write_tasks-count).0

pub pass_lists-requires-clause-passes : goal.pass_lists-requires-clause-passes
pass_lists-requires-clause-passes c = (tested (goal.at.pass_lists-requires-clause-passes c).After-write_tasks-count).1

-- the numbers of the supply
period_is : (c : After-budget-budget) → c.cycle-period.result ≡ node_cycle c.args.sys.now c.args.place
period_is c = c.cycle-period.ensures ∙ c.node_supply-supply.ensures.cycle

budget_is : (c : After-budget-budget)
    → c.budget-budget.result ≡ node_budget c.args.sys.now c.args.budgets.now c.args.place
budget_is c = c.budget-budget.ensures ∙ c.node_supply-supply.ensures.budget

in_period : (c : After-budget-budget) → (1 ≤ c.budget-budget.result) × (c.budget-budget.result ≤ c.cycle-period.result)
in_period c =
    let range
    = budget_range c.args.sys.now c.sched_of-sched.ensures.system c.args.budgets.now
    (admitted_in_period c.args.sys.now c.sched_of-sched.ensures.system c.args.budgets.now c.requires.admitted)
    c.args.place c.requires.is_node in
    (omega (arith, range, budget_is c), omega (arith, range, budget_is c, period_is c))

computed_is : (c : After-budget-budget) → c.is_none-computed.result ≡ is_none (given_budget c.args.sys.now c.args.place)
computed_is c = none_of c.budget_of.result _ c.is_none-computed.result c.is_none-computed.ensures c.budget_of.ensures

pub least_lists-requires-clause-some_budget : goal.least_lists-requires-clause-some_budget
least_lists-requires-clause-some_budget c =
    (in_period (goal.at.least_lists-requires-clause-some_budget c).After-budget-budget).0

pub least_lists-requires-clause-in_period : goal.least_lists-requires-clause-in_period
least_lists-requires-clause-in_period c =
    (in_period (goal.at.least_lists-requires-clause-in_period c).After-budget-budget).1

pub least_lists-requires-clause-in_limit : goal.least_lists-requires-clause-in_limit
least_lists-requires-clause-in_limit c =
    omega (
      arith,
      period_is (goal.at.least_lists-requires-clause-in_limit c).After-budget-budget,
      (cycle_range c.args.sys.now c.sched_of-sched.ensures.system c.args.place c.requires.is_node).1,
    )

pub least_lists-requires-clause-small : goal.least_lists-requires-clause-small
least_lists-requires-clause-small c =
    subst (λ (m : ℕ). IsSmall c.sched_of-sched.result
    (sporadic_tasks (take c.write_tasks-count.result c.write_tasks-count.new.room)) m)
    (sym c.cycle-period.ensures)
    (tested (goal.at.least_lists-requires-clause-small c).After-write_tasks-count).0

pub least_lists-requires-clause-least : goal.least_lists-requires-clause-least
least_lists-requires-clause-least c =
    let sys = c.args.sys.now in let budgets = c.args.budgets.now in let place = c.args.place in
    let here = (goal.at.least_lists-requires-clause-least c).After-budget-budget in
    λ t passes.
    not_less sys c.sched_of-sched.ensures.system budgets c.requires.admitted place c.requires.is_node
    (none_is (given_budget sys place) (sym (computed_is here) ∙ t))
    (of_level (λ s T f m. Passes s T f) c.sched_of-sched.ensures.sched c.write_tasks-count.ensures.tasks
    (ap (λ (p : ℕ). sbf p (c.budget-budget.result - 1)) (period_is here)
    ∙ ap (λ (b : ℕ). sbf (node_cycle sys place) (b - 1)) (budget_is here)) (period_is here) passes)

pub returns-clause-made : goal.returns-clause-made
returns-clause-made c =
    let here = (goal.at.returns-clause-made c).After-budget-budget in
    let computed = c.is_none-computed.result in
    let points = c.in_ok-points.points.items in let hits = c.in_ok-points.hits.items in
    let witness = c.in_ok-witness.witness in let falls = c.in_ok-witness.falls.items in
    node_made c.args.sys.now c.sched_of-sched.ensures.system c.args.budgets.now c.requires.admitted c.args.place
    c.requires.is_node
    (record {
      place = c.args.place;
      period = c.cycle-period.result;
      budget = c.budget-budget.result;
      computed = computed;
      points = points;
      hits = hits;
      witness = witness;
      falls = falls;
    })
    refl (period_is here) (budget_is here) (computed_is here)
    (of_level (λ s T f m. ListsPass s T f m points hits) c.sched_of-sched.ensures.sched
    c.write_tasks-count.ensures.tasks c.node_supply-supply.ensures.bound c.node_supply-supply.ensures.cycle
    c.in_ok-points.ensures)
    (of_level (λ s T f m. ListsLeast computed s T c.cycle-period.result c.budget-budget.result witness falls)
    c.sched_of-sched.ensures.sched c.write_tasks-count.ensures.tasks c.node_supply-supply.ensures.bound
    c.node_supply-supply.ensures.cycle c.in_ok-witness.ensures)
