-- A leaf that gets by with no more than it had leaves every node above it to pass: a system that
-- differs at one leaf from one that is admitted is admitted too, where the leaf passes under a
-- budget that is no greater.
use Rattle.std.proofs.Common.{◌≡◌, ◌⊎◌, ℕ, zero, suc, ◌+◌, ◌<◌, ◌≤◌, Bool, true, List, length, set, Option, Some, None, refl, sym, ◌∙◌, ap, subst, arith, inl, inr, get_or, get_or-set_other, get_or-set_same}
use Rattle.std.proofs.lemmas.Bool.{cases_Bool, cases_eq, cases_lt}
use Rattle.slot_model.specs.declared.sched.Sched.{Sched}
use Rattle.slot_model.specs.Slots.{push_if}
use Rattle.slot_model.specs.Task.{SporadicTask, AreConstrained, plain_task}
use Rattle.slot_model.specs.Bound.{sbf, Passes, TestPasses, IsLeastBudget}
use Rattle.slot_model.proofs.FirstRuns.{first_below}
use Rattle.slot_model.proofs.Budgets.{short_not_passes}
use Rattle.slot_model.proofs.WorstPattern.{periodic_laws}
use Rattle.least_budget.proofs.Decide.{passes_or_short}
use Rattle.tree_model.specs.declared.pinned_core.Core.{Core as CoreView}
use Rattle.tree_model.specs.declared.place.Place.{Place}
use Rattle.tree_model.specs.declared.place.Place.TheVariants.{Core, Part}
use Rattle.tree_model.specs.View.{PartView, SystemView}
use Rattle.tree_model.specs.System.{IsSystem, core_at, no_core, part_at, own_tasks, is_leaf, is_leaf_at}
use Rattle.tree_model.specs.Tree.{place_of, same_place, is_child, budget_at, core_bound, core_cycle, child_tasks, server_tasks, node_tasks}
use Rattle.tree_model.specs.Admission.{NodePasses, IsGivenOrLeast, AssignedFrom, Admitted}
use Rattle.tree_model.proofs.NodeTasks.{leaf_tasks, inner_tasks, child_tasks-zero, child_tasks-suc}
use Rattle.tree_model.proofs.Parents.{part_constrained}
use Rattle.tree_model.proofs.InRange.{admitted_in_period, children_fit}
use Rattle.compose_tree.specs.Steps.{PartsPassFrom}
use Rattle.compose_tree.proofs.Heavier.{Heavier, heavier_same, heavier_push_if, lighter_test}
use Rattle.compose_tree.proofs.Settling.{assign_one, pass_one, settled_admits}
use Rattle.slack.specs.inner.Steps.{IsOpenTo}

-- a budget of a period passes or not
passes_not : (sched : Sched) (tasks : List SporadicTask) → AreConstrained tasks → (period b : ℕ) → 1 ≤ period
    → (b ≤ period) × Passes sched tasks (sbf period b) ⊎ ((b ≤ period) × Passes sched tasks (sbf period b) → ⊥)
passes_not sched tasks fits period b l = elim (cases_lt period b) [
  | inl past ↦ inr (λ p. omega (arith, p.0))
  | inr m ↦ elim (passes_or_short sched tasks fits (periodic_laws period b l m)) [
    | inl passes ↦ inl (m, passes)
    | inr r ↦ inr (λ p. short_not_passes sched tasks (sbf period b) r.0 r.1 p.1)
  ]
]

-- where a budget passes, there is a least one
pub least_exists : (sched : Sched) (tasks : List SporadicTask) → AreConstrained tasks → (period b : ℕ) → 1 ≤ period
    → b ≤ period → Passes sched tasks (sbf period b) → (c : ℕ) × (c ≤ b) × IsLeastBudget sched tasks period c
least_exists sched tasks fits period b l m passes =
    elim (first_below (λ c. (c ≤ period) × Passes sched tasks (sbf period c))
    (λ c. passes_not sched tasks fits period c l) (suc b)) [
      | inl r ↦ (
        r.0,
        omega (arith, r.1),
        record { in_range = r.2.0; passes = r.2.1; least = λ c less p. r.3 c less (omega (arith, r.2.0), p) },
      )
      | inr none ↦ absurd (none b (omega arith) (m, passes))
    ]

-- with tasks that ask for no more, a budget that is no greater stands and passes
pub record Stands (sched : Sched) (tasks : List SporadicTask) (period : ℕ) (given : Option ℕ) (most : ℕ) : Type 0 where
  pub budget : ℕ
  pub low : budget ≤ most
  pub stands : IsGivenOrLeast sched tasks period given budget
  pub passes : TestPasses sched tasks (sbf period budget) period

pub open_stands : (sched : Sched) (tasks : List SporadicTask) → AreConstrained tasks → (period : ℕ) (given : Option ℕ)
    (b : ℕ) → 1 ≤ period → b ≤ period → IsOpenTo given period b → TestPasses sched tasks (sbf period b) period
    → Stands sched tasks period given b
open_stands sched tasks fits period (Some given) b l m able test =
    record { budget = b; low = omega arith; stands = able; passes = test }
open_stands sched tasks fits period None b l m able test =
    let r = least_exists sched tasks fits period b l m test.1 in
    record { budget = r.0; low = r.1; stands = (test.0, r.2); passes = (test.0, r.2.passes) }

-- a budget that stands is one of those that could
pub standing_open : (sched : Sched) (tasks : List SporadicTask) (period : ℕ) (given : Option ℕ) (b : ℕ)
    → IsGivenOrLeast sched tasks period given b → IsOpenTo given period b
standing_open sched tasks period (Some given) b stands = stands
standing_open sched tasks period None b stands = stands.1.in_range

lighter_stands : (sched : Sched) (light heavy : List SporadicTask) → AreConstrained light → Heavier light heavy
    → (period : ℕ) (given : Option ℕ) (b : ℕ) → 1 ≤ period → b ≤ period → IsGivenOrLeast sched heavy period given b
    → TestPasses sched heavy (sbf period b) period → Stands sched light period given b
lighter_stands sched light heavy fits h period given b l m stands passes =
    open_stands sched light fits period given b l m (standing_open sched heavy period given b stands)
    (lighter_test sched light heavy h (sbf period b) period passes)

-- two systems that differ at one leaf, whose parent and period stay
pub record DiffersAt (was now : SystemView) (q : ℕ) : Type 0 where
  pub cores : was.cores ≡ now.cores
  pub one_each : length was.parts ≡ length now.parts
  pub others : (r : ℕ) → (r ≡ q → ⊥) → part_at was r ≡ part_at now r
  pub parent : (part_at was q).parent ≡ (part_at now q).parent
  pub period : (part_at was q).period ≡ (part_at now q).period

same_child : (was now : SystemView) (q : ℕ) → DiffersAt was now q → (node : Place) (n : ℕ)
    → is_child was node n ≡ is_child now node n
same_child was now q d node n = elim (cases_eq n q) [
  | inl e ↦
      ap (is_child was node) e
      ∙ (ap (λ p. same_place (place_of p) node) d.parent ∙ sym (ap (is_child now node) e))
  | inr ne ↦ ap (λ (p : PartView). same_place (place_of p.parent) node) (d.others n ne)
]

same_period : (was now : SystemView) (q : ℕ) → DiffersAt was now q → (n : ℕ)
    → (part_at was n).period ≡ (part_at now n).period
same_period was now q d n = elim (cases_eq n q) [
  | inl e ↦
      ap (λ (k : ℕ). (part_at was k).period) e ∙ (d.period ∙ sym (ap (λ (k : ℕ). (part_at now k).period) e))
  | inr ne ↦ ap (λ (p : PartView). p.period) (d.others n ne)
]

-- under budgets that are no greater, the servers of a node ask for no more
lighter_children : (was now : SystemView) (q : ℕ) → DiffersAt was now q → (less more : List ℕ)
    → ((r : ℕ) → r < length now.parts → budget_at less r ≤ budget_at more r) → (node : Place) (n : ℕ)
    → n ≤ length now.parts → Heavier (child_tasks now less node n) (child_tasks was more node n)
lighter_children was now q d less more each node zero l =
    rw (child_tasks-zero now less node, child_tasks-zero was more node) (heavier_same _)
lighter_children was now q d less more each node (suc n) l =
    let light : List SporadicTask = child_tasks now less node n in
    let heavy : List SporadicTask = child_tasks was more node n in
    let is : Bool = is_child now node n in
    let period : ℕ = (part_at now n).period in
    let one : Heavier (push_if light is (plain_task period period (budget_at less n)))
    (push_if heavy is (plain_task period period (budget_at more n)))
    = heavier_push_if light heavy is period period (budget_at less n) (budget_at more n)
    (λ e. each n (omega arith)) (lighter_children was now q d less more each node n (omega arith)) in
    rw (child_tasks-suc now less node n, child_tasks-suc was more node n)
    (subst (λ (b : Bool). Heavier (push_if light is (plain_task period period (budget_at less n)))
    (push_if heavy b (plain_task (part_at was n).period (part_at was n).period (budget_at more n))))
    (sym (same_child was now q d node n))
    (subst (λ (p : ℕ). Heavier (push_if light is (plain_task period period (budget_at less n)))
    (push_if heavy is (plain_task p p (budget_at more n)))) (sym (same_period was now q d n)) one))

lighter_servers : (was now : SystemView) (q : ℕ) → DiffersAt was now q → (less more : List ℕ)
    → ((r : ℕ) → r < length now.parts → budget_at less r ≤ budget_at more r) → (node : Place)
    → Heavier (server_tasks now less node) (server_tasks was more node)
lighter_servers was now q d less more each node =
    subst (λ (n : ℕ). Heavier (server_tasks now less node) (child_tasks was more node n)) (sym d.one_each)
    (lighter_children was now q d less more each node (length now.parts) (omega arith))

-- and so do the tasks of every other part
lighter_part : (was now : SystemView) (q : ℕ) → DiffersAt was now q → (less more : List ℕ)
    → ((r : ℕ) → r < length now.parts → budget_at less r ≤ budget_at more r) → (r : ℕ) → (r ≡ q → ⊥)
    → Heavier (node_tasks now less (Part r)) (node_tasks was more (Part r))
lighter_part was now q d less more each r ne =
    let same : part_at was r ≡ part_at now r = d.others r ne in
    let leaves : is_leaf_at was r ≡ is_leaf_at now r = ap (λ (p : PartView). is_leaf p.tasks) same in
    elim (cases_Bool (is_leaf_at now r)) [
      | inl leaf ↦
          subst (λ (ts : List SporadicTask). Heavier (node_tasks now less (Part r)) ts)
          (leaf_tasks now less r leaf ∙ (sym (ap own_tasks same) ∙ sym (leaf_tasks was more r (leaves ∙ leaf))))
          (heavier_same (node_tasks now less (Part r)))
      | inr inner ↦
          rw (inner_tasks now less r inner, inner_tasks was more r (leaves ∙ inner))
          (lighter_servers was now q d less more each (Part r))
    ]

-- what the budgets are that are found for the parts from k on, each no greater than it was
record Lowered (now : SystemView) (b : List ℕ) (k : ℕ) : Type 0 where
  pub budgets : List ℕ
  pub assigned : AssignedFrom now budgets k
  pub pass : PartsPassFrom now budgets k
  pub low : (r : ℕ) → r < length now.parts → budget_at budgets r ≤ budget_at b r

abbrev StandsAt : SystemView → List ℕ → ℕ → ℕ → Type 0
StandsAt now budgets k most =
    let part = part_at now k in
    Stands part.sched (node_tasks now budgets (Part k)) part.period part.budget most

one_lower : (now : SystemView) → IsSystem now → (b : List ℕ) (k : ℕ) → k < length now.parts
    → (low : Lowered now b (suc k)) → StandsAt now low.budgets k (budget_at b k) → Lowered now b k
one_lower now is b k h low here = record {
  budgets = set low.budgets k here.budget;
  assigned =
      assign_one now is low.budgets k here.budget h low.assigned (node_tasks now low.budgets (Part k)) refl here.stands;
  pass =
      pass_one now is low.budgets k here.budget (omega (arith, h, low.assigned.one_each)) low.pass
      (node_tasks now low.budgets (Part k)) refl here.passes;
  low = λ r l. elim (cases_eq r k) [
    | inl e ↦
        omega (
          arith,
          ap (budget_at (set low.budgets k here.budget)) e,
          ap (budget_at b) e,
          get_or-set_same low.budgets k here.budget 0 (omega (arith, h, low.assigned.one_each)),
          here.low,
        )
    | inr ne ↦ omega (arith, get_or-set_other low.budgets k r here.budget 0 ne, low.low r l)
  ];
}

-- another part, whose tasks ask for no more
other_stands : (was now : SystemView) (q : ℕ) → DiffersAt was now q → IsSystem was → IsSystem now → (b : List ℕ)
    → Admitted was b → (k : ℕ) → k < length now.parts → (k ≡ q → ⊥) → (low : Lowered now b (suc k))
    → StandsAt now low.budgets k (budget_at b k)
other_stands was now q d then is b admitted k h ne low =
    let heavy : List SporadicTask = node_tasks was b (Part k) in
    let inside : k < length was.parts = omega (arith, h, d.one_each) in
    let same : part_at was k ≡ part_at now k = d.others k ne in
    lighter_stands (part_at now k).sched (node_tasks now low.budgets (Part k)) heavy
    (part_constrained now is low.budgets k h (children_fit now is low.budgets (Part k) low.assigned))
    (lighter_part was now q d low.budgets b low.low k ne) (part_at now k).period (part_at now k).budget
    (budget_at b k) (is.parts k h).period.0
    (subst (λ (p : PartView). budget_at b k ≤ p.period) same (admitted_in_period was then b admitted k inside).1)
    (subst (λ (p : PartView). IsGivenOrLeast p.sched heavy p.period p.budget (budget_at b k)) same
    (admitted.assigned.stands k (omega arith) inside))
    (subst (λ (p : PartView). TestPasses p.sched heavy (sbf p.period (budget_at b k)) p.period) same
    (admitted.passes (Part k) inside))

-- the leaf passes under a budget that stands and is no greater
abbrev pub PartStands : PartView → ℕ → Type 0
PartStands part most = Stands part.sched (own_tasks part) part.period part.budget most

leaf_stands : (now : SystemView) (q most : ℕ) → is_leaf_at now q ≡ true → PartStands (part_at now q) most
    → (budgets : List ℕ) → StandsAt now budgets q most
leaf_stands now q most leaf s budgets =
    subst (λ (ts : List SporadicTask). Stands (part_at now q).sched ts (part_at now q).period (part_at now q).budget
    most)
    (sym (leaf_tasks now budgets q leaf)) s

lower_down : (was now : SystemView) (q : ℕ) → DiffersAt was now q → IsSystem was → IsSystem now → (b : List ℕ)
    → Admitted was b → is_leaf_at now q ≡ true → PartStands (part_at now q) (budget_at b q) → (n k : ℕ)
    → length now.parts ≡ k + n → Lowered now b k
lower_down was now q d then is b admitted leaf s zero k e = record {
  budgets = b;
  assigned =
      record { one_each = admitted.assigned.one_each ∙ d.one_each; stands = λ r g h. absurd (omega arith) };
  pass = λ r g h. absurd (omega arith);
  low = λ r h. omega arith;
}
lower_down was now q d then is b admitted leaf s (suc n) k e =
    let later : Lowered now b (suc k)
    = lower_down was now q d then is b admitted leaf s n (suc k) (omega arith) in
    let h : k < length now.parts = omega arith in
    one_lower now is b k h later (elim (cases_eq k q) [
      | inl same ↦
          subst (λ (r : ℕ). StandsAt now later.budgets r (budget_at b r)) (sym same)
          (leaf_stands now q (budget_at b q) leaf s later.budgets)
      | inr ne ↦ other_stands was now q d then is b admitted k h ne later
    ])

-- a core passes as it did, with servers that ask for no more
lower_core : (was now : SystemView) (q : ℕ) → DiffersAt was now q → (b : List ℕ) → Admitted was b
    → (low : Lowered now b 0) → (c : ℕ) → c < length now.cores → NodePasses now low.budgets (Core c)
lower_core was now q d b admitted low c h =
    let light : List SporadicTask = server_tasks now low.budgets (Core c) in
    subst (λ (cs : List CoreView). TestPasses (get_or cs c no_core).sched light
    (core_bound (get_or cs c no_core).supply) (core_cycle (get_or cs c no_core).supply)) d.cores
    (lighter_test (core_at was c).sched light (server_tasks was b (Core c))
    (lighter_servers was now q d low.budgets b low.low (Core c)) (core_bound (core_at was c).supply)
    (core_cycle (core_at was c).supply)
    (admitted.passes (Core c) (omega (arith, h, ap (λ (cs : List CoreView). length cs) d.cores))))

pub lowered_admitted : (was now : SystemView) (q : ℕ) → DiffersAt was now q → IsSystem was → IsSystem now
    → (b : List ℕ) → Admitted was b → is_leaf_at now q ≡ true → PartStands (part_at now q) (budget_at b q)
    → (budgets : List ℕ) × Admitted now budgets
lowered_admitted was now q d then is b admitted leaf s =
    let low : Lowered now b 0
    = lower_down was now q d then is b admitted leaf s (length now.parts) 0 (omega arith) in (
      low.budgets,
      settled_admits now low.budgets low.assigned low.pass (λ c h. lower_core was now q d b admitted low c h),
    )
