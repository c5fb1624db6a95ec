-- A certificate has one first flaw.
use Rattle.std.proofs.Common.{◌≡◌, ℕ, Bool, List, Result, Ok, Err, IfOk, IfErr, sym, ◌∙◌, ap, subst, refl, inl, inr}
use Rattle.std.specs.Prelude.{◌⊎◌}
use Rattle.std.proofs.lemmas.Bool.{cases_order}
use Rattle.slot_model.specs.declared.sched.Sched.{Sched}
use Rattle.slot_model.specs.declared.sched.Sched.TheVariants.{Edf}
use Rattle.slot_model.specs.Task.{SporadicTask}
use Rattle.slot_model.specs.Order.{ranks_above}
use Rattle.slot_model.specs.Bound.{IsSmall}
use Rattle.slot_model.proofs.Budgets.{fixed_small}
use Rattle.tree_model.specs.declared.place.Place.{Place}
use Rattle.tree_model.specs.CertificateView.{NodeView}
use Rattle.tree_model.specs.View.{SystemView}
use Rattle.tree_model.specs.Tree.{node_tasks, node_sched, node_bound, node_cycle}
use Rattle.cert_verify.specs.declared.flaw.Flaw.{Flaw}
use Rattle.cert_verify.specs.declared.flaw.Flaw.TheVariants.{Nodes, Budget, Cover, Hit, Least, Wide}
use Rattle.cert_verify.specs.Proves.{node_at, AreNodes, HasBudget, budgets_of, ShowsPass, NodeProves, Proves}
use Rattle.cert_verify.specs.Flaws.{FirstNode, HitFails, NodeFlaw, NodeFails, FirstFalseBudget, FirstFalseClaim, FirstFlaw}
use Rattle.cert_verify.proofs.Shown.{shown_small}
use Rattle.cert_verify.proofs.Failing.{hits_of, no_bad_hit, no_flaw, flaw_not_proves}

-- what is bad at the first node that is not good stands at one node
same_node : (nodes : List NodeView) (Good A B : NodeView → Type 0) → ((n : NodeView) → A n → Good n → ⊥)
    → ((n : NodeView) → B n → Good n → ⊥) → (a : FirstNode nodes Good A) (b : FirstNode nodes Good B) → a.k ≡ b.k
same_node nodes Good A B not_a not_b a b = elim (cases_order a.k b.k) [
  | inl same ↦ same
  | inr w ↦
      elim w [
        | inl l ↦
            absurd (not_a (node_at nodes a.k) a.bad (b.before a.k l))
        | inr l ↦
            absurd (not_b (node_at nodes b.k) b.bad (a.before b.k l))
      ]
]

one_hit : (above : ℕ → ℕ → Bool) (tasks : List SporadicTask) (bound : ℕ → ℕ) (node : NodeView) (i j : ℕ)
    → HitFails above tasks bound node i → HitFails above tasks bound node j → i ≡ j
one_hit above tasks bound node i j a b = elim a [
  | inl none ↦ elim b [ inl other ↦ none.0 ∙ sym other.0 | inr first ↦ absurd (none.1 first.lists) ]
  | inr first ↦ elim b [
    | inl none ↦ absurd (none.1 first.lists)
    | inr other ↦ elim (cases_order i j) [
      | inl same ↦ same
      | inr w ↦ elim w [ inl l ↦ absurd (first.bad (other.before i l)) | inr l ↦ absurd (other.bad (first.before j l)) ]
    ]
  ]
]

-- a node has one first flaw
one_node_flaw : (sched : Sched) (tasks : List SporadicTask) (bound : ℕ → ℕ) (cycle : ℕ) (node : NodeView) (f g : Flaw)
    → NodeFlaw sched tasks bound cycle node f → NodeFlaw sched tasks bound cycle node g → f ≡ g
one_node_flaw sched tasks bound cycle node (Wide p) (Wide q) a b = ap Wide (a.0 ∙ sym b.0)
one_node_flaw sched tasks bound cycle node (Wide p) (Cover q) a b =
    absurd (a.1 (subst (λ (s : Sched). IsSmall s tasks cycle) (sym b.1) b.2))
one_node_flaw sched tasks bound cycle node (Wide p) (Hit q j) a b = absurd (a.1 (fixed_small sched b.1 tasks cycle))
one_node_flaw sched tasks bound cycle node (Wide p) (Least q) a b =
    absurd (a.1 (shown_small sched tasks bound cycle node b.1))
one_node_flaw sched tasks bound cycle node (Cover p) (Wide q) a b =
    absurd (b.1 (subst (λ (s : Sched). IsSmall s tasks cycle) (sym a.1) a.2))
one_node_flaw sched tasks bound cycle node (Cover p) (Cover q) a b = ap Cover (a.0 ∙ sym b.0)
one_node_flaw sched tasks bound cycle node (Cover p) (Hit q j) a b = absurd (b.1 a.1)
one_node_flaw sched tasks bound cycle node (Cover p) (Least q) a b =
    absurd (
    let shows : ShowsPass Edf tasks bound cycle node
    = subst (λ (s : Sched). ShowsPass s tasks bound cycle node) a.1 b.1 in
    a.3 shows.1)
one_node_flaw sched tasks bound cycle node (Hit p i) (Wide q) a b = absurd (b.1 (fixed_small sched a.1 tasks cycle))
one_node_flaw sched tasks bound cycle node (Hit p i) (Cover q) a b = absurd (a.1 b.1)
one_node_flaw sched tasks bound cycle node (Hit p i) (Hit q j) a b =
    ap (λ (z : Place). Hit z i) (a.0 ∙ sym b.0)
    ∙ ap (λ (z : ℕ). Hit q z) (one_hit (ranks_above sched tasks) tasks bound node i j a.2 b.2)
one_node_flaw sched tasks bound cycle node (Hit p i) (Least q) a b =
    absurd (no_bad_hit (ranks_above sched tasks) tasks bound node i a.2 (hits_of sched a.1 tasks bound cycle node b.1))
one_node_flaw sched tasks bound cycle node (Least p) (Wide q) a b =
    absurd (b.1 (shown_small sched tasks bound cycle node a.1))
one_node_flaw sched tasks bound cycle node (Least p) (Cover q) a b =
    absurd (
    let shows : ShowsPass Edf tasks bound cycle node
    = subst (λ (s : Sched). ShowsPass s tasks bound cycle node) b.1 a.1 in
    b.3 shows.1)
one_node_flaw sched tasks bound cycle node (Least p) (Hit q j) a b =
    absurd (no_bad_hit (ranks_above sched tasks) tasks bound node j b.2 (hits_of sched b.1 tasks bound cycle node a.1))
one_node_flaw sched tasks bound cycle node (Least p) (Least q) a b = ap Least (a.0 ∙ sym b.0)
one_node_flaw sched tasks bound cycle node Nodes g a b = absurd a
one_node_flaw sched tasks bound cycle node (Budget p) g a b = absurd a
one_node_flaw sched tasks bound cycle node (Wide p) Nodes a b = absurd b
one_node_flaw sched tasks bound cycle node (Wide p) (Budget q) a b = absurd b
one_node_flaw sched tasks bound cycle node (Cover p) Nodes a b = absurd b
one_node_flaw sched tasks bound cycle node (Cover p) (Budget q) a b = absurd b
one_node_flaw sched tasks bound cycle node (Hit p i) Nodes a b = absurd b
one_node_flaw sched tasks bound cycle node (Hit p i) (Budget q) a b = absurd b
one_node_flaw sched tasks bound cycle node (Least p) Nodes a b = absurd b
one_node_flaw sched tasks bound cycle node (Least p) (Budget q) a b = absurd b

fails_not : (sys : SystemView) (budgets : List ℕ) (flaw : Flaw) (node : NodeView) → NodeFails sys budgets flaw node
    → NodeProves sys budgets node → ⊥
fails_not sys budgets flaw node fails proves =
    no_flaw (node_sched sys node.place) (node_tasks sys budgets node.place) (node_bound sys budgets node.place)
    (node_cycle sys node.place) node flaw fails proves

one_claim : (sys : SystemView) (nodes : List NodeView) (f g : Flaw) → FirstFalseClaim sys nodes f
    → FirstFalseClaim sys nodes g → f ≡ g
one_claim sys nodes f g a b =
    let budgets : List ℕ = budgets_of sys nodes in
    let same : a.node.k ≡ b.node.k
    = same_node nodes (NodeProves sys budgets) (NodeFails sys budgets f) (NodeFails sys budgets g)
    (fails_not sys budgets f) (fails_not sys budgets g) a.node b.node in
    let node : NodeView = node_at nodes b.node.k in
    one_node_flaw (node_sched sys node.place) (node_tasks sys budgets node.place) (node_bound sys budgets node.place)
    (node_cycle sys node.place) node f g
    (subst (λ (k : ℕ). NodeFails sys budgets f (node_at nodes k)) same a.node.bad) b.node.bad

one_budget : (sys : SystemView) (nodes : List NodeView) (p q : Place) → FirstFalseBudget sys nodes p
    → FirstFalseBudget sys nodes q → p ≡ q
one_budget sys nodes p q a b =
    let same : a.node.k ≡ b.node.k
    = same_node nodes (HasBudget sys) (λ node. (p ≡ node.place) × (HasBudget sys node → ⊥))
    (λ node. (q ≡ node.place) × (HasBudget sys node → ⊥)) (λ n bad good. bad.1 good) (λ n bad good. bad.1 good)
    a.node b.node in
    a.node.bad.0 ∙ (ap (λ (k : ℕ). (node_at nodes k).place) same ∙ sym b.node.bad.0)

-- the three stages of a check
Stage : SystemView → List NodeView → Flaw → Type 0
Stage sys nodes flaw =
    ((flaw ≡ Nodes) × (AreNodes sys nodes → ⊥))
    ⊎ (((p : Place) × (flaw ≡ Budget p) × FirstFalseBudget sys nodes p) ⊎ FirstFalseClaim sys nodes flaw)

stage : (sys : SystemView) (nodes : List NodeView) (flaw : Flaw) → FirstFlaw sys nodes flaw → Stage sys nodes flaw
unfolding Stage
stage sys nodes Nodes h = inl (refl, h)
stage sys nodes (Budget p) h = inr (inl (p, refl, h))
stage sys nodes (Cover p) h = inr (inr h)
stage sys nodes (Hit p i) h = inr (inr h)
stage sys nodes (Least p) h = inr (inr h)
stage sys nodes (Wide p) h = inr (inr h)

pub one_flaw : (sys : SystemView) (nodes : List NodeView) (f g : Flaw) → FirstFlaw sys nodes f → FirstFlaw sys nodes g
    → f ≡ g
unfolding Stage
one_flaw sys nodes f g a b = elim (stage sys nodes f a) [
  | inl no_nodes ↦ elim (stage sys nodes g b) [
    | inl same ↦ no_nodes.0 ∙ sym same.0
    | inr w ↦
        elim w
        [ inl budget ↦ absurd (no_nodes.1 budget.2.are_nodes) | inr claim ↦ absurd (no_nodes.1 claim.are_nodes) ]
  ]
  | inr v ↦ elim v [
    | inl budget ↦ elim (stage sys nodes g b) [
      | inl no_nodes ↦ absurd (no_nodes.1 budget.2.are_nodes)
      | inr w ↦ elim w [
        | inl other ↦ budget.1 ∙ (ap Budget (one_budget sys nodes budget.0 other.0 budget.2 other.2) ∙ sym other.1)
        | inr claim ↦ absurd (budget.2.node.bad.1 (claim.budgets budget.2.node.k budget.2.node.is_node))
      ]
    ]
    | inr claim ↦ elim (stage sys nodes g b) [
      | inl no_nodes ↦ absurd (no_nodes.1 claim.are_nodes)
      | inr w ↦ elim w [
        | inl budget ↦ absurd (budget.2.node.bad.1 (claim.budgets budget.2.node.k budget.2.node.is_node))
        | inr other ↦ one_claim sys nodes f g claim other
      ]
    ]
  ]
]

-- so where there is a first flaw, it is the answer
pub flaw_answered : (sys : SystemView) (nodes : List NodeView) (answer : Result (Unit {0}) Flaw)
    → IfOk answer (λ _. Proves sys nodes) → IfErr answer (λ flaw. FirstFlaw sys nodes flaw) → (flaw : Flaw)
    → FirstFlaw sys nodes flaw → answer ≡ Err flaw
flaw_answered sys nodes (Ok u) proves first flaw h = absurd (flaw_not_proves sys nodes flaw h proves)
flaw_answered sys nodes (Err e) proves first flaw h = ap Err (one_flaw sys nodes e flaw first h)
