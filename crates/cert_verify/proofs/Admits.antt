-- What a certificate proves is admitted under its budgets.
use Rattle.std.proofs.Common.{◌≡◌, ℕ, ◌+◌, ◌-◌, ◌<◌, ◌≤◌, Bool, true, List, length, map, take, Option, Some, None, sym, ◌∙◌, ap, subst, arith, length-take}
use Rattle.std.specs.Prelude.{nat_lt}
use Rattle.std.proofs.lemmas.Bool.{cond-true, cond-false, lt-ltb, le-ltb}
use Rattle.std.proofs.lemmas.List.{length-map, get_or-map, get_or-take}
use Rattle.slot_model.specs.declared.sched.Sched.{Sched}
use Rattle.slot_model.specs.Task.{SporadicTask, AreConstrained}
use Rattle.slot_model.specs.Bound.{sbf, Passes, IsLeastBudget}
use Rattle.slot_model.proofs.FullSupply.{full_laws}
use Rattle.slot_model.proofs.WorstPattern.{periodic_laws}
use Rattle.tree_model.specs.declared.place.Place.{Place}
use Rattle.tree_model.specs.declared.place.Place.TheVariants.{Core, Part}
use Rattle.tree_model.specs.CertificateView.{NodeView}
use Rattle.tree_model.specs.View.{PartView, SystemView}
use Rattle.tree_model.specs.System.{IsSystem, core_at, part_at, IsGivenBudget, IsCoreSupply}
use Rattle.tree_model.specs.Tree.{core_bound, core_cycle, budget_at, node_tasks, node_sched, IsNode, given_budget, node_cycle, node_bound}
use Rattle.tree_model.specs.Admission.{NodePasses, Admitted, BudgetStands}
use Rattle.tree_model.proofs.Parents.{node_constrained}
use Rattle.cert_verify.specs.Proves.{no_node, node_at, AreNodes, IsBudget, HasBudget, budgets_of, ShowsPass, ShowsShort, ShowsLeast, IsShown, NodeProves, Proves}
use Rattle.cert_verify.specs.inner.Steps.{BudgetsFit, HaveBudgets}
use Rattle.cert_verify.proofs.Shown.{shown_small, shown_passes, shown_least}

-- where parts and cores stand among the nodes
pub part_place : (sys : SystemView) (nodes : List NodeView) → AreNodes sys nodes → (q : ℕ) → q < length sys.parts
    → (node_at nodes q).place ≡ Part q
part_place sys nodes are q h =
    are.in_order q (omega (arith, are.all))
    ∙ cond-true {A = Place} (nat_lt q (length sys.parts)) (Part q) (Core (q - length sys.parts))
    (lt-ltb q (length sys.parts) h)

pub core_place : (sys : SystemView) (nodes : List NodeView) → AreNodes sys nodes → (c : ℕ) → c < length sys.cores
    → (node_at nodes (length sys.parts + c)).place ≡ Core c
core_place sys nodes are c h =
    are.in_order (length sys.parts + c) (omega (arith, are.all))
    ∙ (cond-false {A = Place} (nat_lt (length sys.parts + c) (length sys.parts)) (Part (length sys.parts + c))
    (Core ((length sys.parts + c) - length sys.parts))
    (le-ltb (length sys.parts + c) (length sys.parts) (omega arith))
    ∙ ap Core (let e : (length sys.parts + c) - length sys.parts ≡ c = omega arith in e))

-- one budget a part
pub one_budget_each : (sys : SystemView) (nodes : List NodeView) → AreNodes sys nodes
    → length (budgets_of sys nodes) ≡ length sys.parts
one_budget_each sys nodes are =
    length-map (take (length sys.parts) nodes) (λ (node : NodeView). node.budget)
    ∙ omega (arith, length-take (length sys.parts) nodes, are.all)

pub budget_here : (sys : SystemView) (nodes : List NodeView) → AreNodes sys nodes → (q : ℕ) → q < length sys.parts
    → budget_at (budgets_of sys nodes) q ≡ (node_at nodes q).budget
budget_here sys nodes are q h =
    get_or-map (λ (node : NodeView). node.budget) (take (length sys.parts) nodes) q no_node 0
    (omega (arith, length-take (length sys.parts) nodes, are.all))
    ∙ ap (λ (node : NodeView). node.budget) (get_or-take (length sys.parts) nodes q no_node h)

-- budgets are 1 to their periods
fits : (given : Option ℕ) (period : ℕ) (node : NodeView) → IsGivenBudget period given → node.period ≡ period
    → IsBudget given node → (1 ≤ node.budget) × (node.budget ≤ period)
fits (Some given) period node range same is = (omega (arith, range, is), omega (arith, range, is))
fits None period node range same is = (omega (arith, is), omega (arith, is, same))

pub record PartHas (sys : SystemView) (q : ℕ) (node : NodeView) : Type 0 where
  pub period : node.period ≡ (part_at sys q).period
  pub budget : IsBudget (part_at sys q).budget node
  pub some_slots : 1 ≤ node.budget
  pub in_period : node.budget ≤ (part_at sys q).period

pub part_has : (sys : SystemView) → IsSystem sys → (q : ℕ) → q < length sys.parts → (node : NodeView)
    → node.place ≡ Part q → HasBudget sys node → PartHas sys q node
part_has sys is q h node place has =
    let period : node.period ≡ (part_at sys q).period = has.period ∙ ap (node_cycle sys) place in
    let budget : IsBudget (part_at sys q).budget node
    = subst (λ (p : Place). IsBudget (given_budget sys p) node) place has.budget in
    let range : (1 ≤ node.budget) × (node.budget ≤ (part_at sys q).period)
    = fits (part_at sys q).budget (part_at sys q).period node (is.parts q h).budget period budget in
    record { period = period; budget = budget; some_slots = range.0; in_period = range.1 }

pub budgets_fit : (sys : SystemView) → IsSystem sys → (nodes : List NodeView) → AreNodes sys nodes
    → HaveBudgets sys nodes (length nodes) → BudgetsFit sys (budgets_of sys nodes)
budgets_fit sys is nodes are has = λ q h.
    let part : PartHas sys q (node_at nodes q)
    = part_has sys is q h (node_at nodes q) (part_place sys nodes are q h) (has q (omega (arith, are.all))) in (
      omega (arith, budget_here sys nodes are q h, part.some_slots),
      omega (arith, budget_here sys nodes are q h, part.in_period),
    )

-- what a part shows
stands : (sys : SystemView) (budgets : List ℕ) (q : ℕ) → AreConstrained (node_tasks sys budgets (Part q))
    → 1 ≤ (part_at sys q).period → (node : NodeView) → PartHas sys q node → budget_at budgets q ≡ node.budget
    → ShowsPass (part_at sys q).sched (node_tasks sys budgets (Part q))
    (sbf (part_at sys q).period (budget_at budgets q)) (part_at sys q).period node
    → ShowsLeast node.computed (part_at sys q).sched (node_tasks sys budgets (Part q)) node
    → Passes (part_at sys q).sched (node_tasks sys budgets (Part q)) (sbf (part_at sys q).period (budget_at budgets q))
    → (given : Option ℕ) → IsBudget given node → BudgetStands sys budgets q given
stands sys budgets q fit lp node has here shows least passes (Some given) is = here ∙ is.1
stands sys budgets q fit lp node has here shows least passes None is =
    let computed : ShowsLeast true (part_at sys q).sched (node_tasks sys budgets (Part q)) node
    = subst (λ (b : Bool). ShowsLeast b (part_at sys q).sched (node_tasks sys budgets (Part q)) node) is.0 least in (
      shown_small (part_at sys q).sched (node_tasks sys budgets (Part q))
          (sbf (part_at sys q).period (budget_at budgets q)) (part_at sys q).period node shows,
      subst (λ (b : ℕ). IsLeastBudget (part_at sys q).sched (node_tasks sys budgets (Part q)) (part_at sys q).period b)
          (sym here)
          (shown_least (part_at sys q).sched (node_tasks sys budgets (Part q)) fit (part_at sys q).period node.budget lp
          has.some_slots has.in_period
          (subst
          (λ (b : ℕ). Passes (part_at sys q).sched (node_tasks sys budgets (Part q)) (sbf (part_at sys q).period b))
          here passes) node
          (subst (λ (p : ℕ). ShowsShort (part_at sys q).sched (node_tasks sys budgets (Part q))
          (sbf p (node.budget - 1)) node) has.period computed)),
    )

-- a core's supply keeps the laws
core_passes : (sched : Sched) (tasks : List SporadicTask) → AreConstrained tasks → (supply : Option (ℕ × ℕ))
    → IsCoreSupply supply → (node : NodeView) → ShowsPass sched tasks (core_bound supply) (core_cycle supply) node
    → Passes sched tasks (core_bound supply)
core_passes sched tasks fit None is node shows = shown_passes sched tasks fit full_laws node shows
core_passes sched tasks fit (Some supply) is node shows =
    shown_passes sched tasks fit (periodic_laws supply.0 supply.1 is.0.0 is.2) node shows

-- what a node at a place proves
proves_at : (sys : SystemView) (budgets : List ℕ) (node : NodeView) (place : Place) → node.place ≡ place
    → NodeProves sys budgets node
    → IsShown (node_sched sys place) (node_tasks sys budgets place) (node_bound sys budgets place)
    (node_cycle sys place) node
proves_at sys budgets node place same shown =
    subst (λ (p : Place). IsShown (node_sched sys p) (node_tasks sys budgets p) (node_bound sys budgets p)
    (node_cycle sys p) node) same shown

-- a part, and a core, pass
part_passes : (sys : SystemView) → IsSystem sys → (nodes : List NodeView) → Proves sys nodes → (q : ℕ)
    → q < length sys.parts → NodePasses sys (budgets_of sys nodes) (Part q)
part_passes sys is nodes proves q h =
    let are : AreNodes sys nodes = proves.are_nodes in
    let budgets : List ℕ = budgets_of sys nodes in
    let fit : AreConstrained (node_tasks sys budgets (Part q))
    = node_constrained sys is budgets (Part q) h (λ r i child. budgets_fit sys is nodes are proves.budgets r i) in
    let shown
    = proves_at sys budgets (node_at nodes q) (Part q) (part_place sys nodes are q h)
    (proves.each q (omega (arith, are.all))) in
    let has : PartHas sys q (node_at nodes q)
    = part_has sys is q h (node_at nodes q) (part_place sys nodes are q h)
    (proves.budgets q (omega (arith, are.all))) in (
      shown_small (part_at sys q).sched (node_tasks sys budgets (Part q))
          (sbf (part_at sys q).period (budget_at budgets q)) (part_at sys q).period (node_at nodes q) shown.passes,
      shown_passes (part_at sys q).sched (node_tasks sys budgets (Part q)) fit
          (periodic_laws (part_at sys q).period (budget_at budgets q) (is.parts q h).period.0
          (omega (arith, budget_here sys nodes are q h, has.in_period))) (node_at nodes q) shown.passes,
    )

core_node_passes : (sys : SystemView) → IsSystem sys → (nodes : List NodeView) → Proves sys nodes → (c : ℕ)
    → c < length sys.cores → NodePasses sys (budgets_of sys nodes) (Core c)
core_node_passes sys is nodes proves c h =
    let are : AreNodes sys nodes = proves.are_nodes in
    let budgets : List ℕ = budgets_of sys nodes in
    let fit : AreConstrained (node_tasks sys budgets (Core c))
    = node_constrained sys is budgets (Core c) h (λ r i child. budgets_fit sys is nodes are proves.budgets r i) in
    let node : NodeView = node_at nodes (length sys.parts + c) in
    let shown
    = proves_at sys budgets node (Core c) (core_place sys nodes are c h)
    (proves.each (length sys.parts + c) (omega (arith, are.all))) in (
      shown_small (core_at sys c).sched (node_tasks sys budgets (Core c)) (core_bound (core_at sys c).supply)
          (core_cycle (core_at sys c).supply) node shown.passes,
      core_passes (core_at sys c).sched (node_tasks sys budgets (Core c)) fit (core_at sys c).supply (is.supplies c h)
          node shown.passes,
    )

all_pass : (sys : SystemView) → IsSystem sys → (nodes : List NodeView) → Proves sys nodes → (node : Place)
    → IsNode sys node → NodePasses sys (budgets_of sys nodes) node
all_pass sys is nodes proves (Part q) h = part_passes sys is nodes proves q h
all_pass sys is nodes proves (Core c) h = core_node_passes sys is nodes proves c h

pub proves_admits : (sys : SystemView) → IsSystem sys → (nodes : List NodeView) → Proves sys nodes
    → Admitted sys (budgets_of sys nodes)
proves_admits sys is nodes proves =
    let are : AreNodes sys nodes = proves.are_nodes in
    let budgets : List ℕ = budgets_of sys nodes in
    record {
      assigned = record {
        one_each = one_budget_each sys nodes are;
        stands = λ q start h.
            let fit : AreConstrained (node_tasks sys budgets (Part q))
            = node_constrained sys is budgets (Part q) h
            (λ r i child. budgets_fit sys is nodes are proves.budgets r i) in
            let shown
            = proves_at sys budgets (node_at nodes q) (Part q) (part_place sys nodes are q h)
            (proves.each q (omega (arith, are.all))) in
            let has : PartHas sys q (node_at nodes q)
            = part_has sys is q h (node_at nodes q) (part_place sys nodes are q h)
            (proves.budgets q (omega (arith, are.all))) in
            stands sys budgets q fit (is.parts q h).period.0 (node_at nodes q) has (budget_here sys nodes are q h)
            shown.passes shown.least (part_passes sys is nodes proves q h).1 (part_at sys q).budget has.budget;
      };
      passes = all_pass sys is nodes proves;
    }

-- the budgets as they are written to a buffer
pub written_budgets : (sys : SystemView) (nodes : List NodeView) → AreNodes sys nodes → (parts : List PartView)
    → parts ≡ sys.parts → (into : List ℕ)
    → take (length (take (length parts) nodes)) into
    ≡ map (λ (node : NodeView). node.budget) (take (length parts) nodes)
    → take (length parts) into ≡ budgets_of sys nodes
written_budgets sys nodes are parts same into h =
    subst (λ (ps : List PartView). take (length parts) into
    ≡ map (λ (node : NodeView). node.budget) (take (length ps) nodes)) same
    (subst (λ (k : ℕ). take k into ≡ map (λ (node : NodeView). node.budget) (take (length parts) nodes))
    (omega (arith, length-take (length parts) nodes, are.all, ap (λ (ps : List PartView). length ps) same)) h)
