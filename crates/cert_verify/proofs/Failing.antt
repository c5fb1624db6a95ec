-- The flaw of a node under its own scheduler, tasks and supply; and a certificate with a flaw
-- proves nothing.
use Rattle.std.proofs.Common.{◌≡◌, ◌≢◌, ℕ, Bool, List, length, subst, refl, inl, inr, rules, ◌↔◌, Result, Ok, Err, IsOk, IfOk, IfErr}
use Rattle.slot_model.specs.declared.sched.Sched.{Sched}
use Rattle.slot_model.specs.declared.sched.Sched.TheVariants.{Edf, Rm, Dm, Listed}
use Rattle.slot_model.specs.Task.{SporadicTask}
use Rattle.slot_model.specs.Order.{ranks_above}
use Rattle.tree_model.specs.CertificateView.{NodeView}
use Rattle.tree_model.specs.View.{SystemView}
use Rattle.tree_model.specs.Tree.{node_tasks, node_sched, node_bound, node_cycle}
use Rattle.cert_verify.specs.declared.flaw.Flaw.{Flaw}
use Rattle.cert_verify.specs.declared.flaw.Flaw.TheVariants.{Nodes, Budget, Cover, Hit, Least, Wide}
use Rattle.cert_verify.specs.Proves.{node_at, AreNodes, AreHits, ShowsPass, IsShown, NodeProves, Proves, budgets_of}
use Rattle.cert_verify.specs.inner.Steps.{HaveBudgets, AreProved}
use Rattle.cert_verify.specs.Flaws.{FirstNode, NodeFlaw, NodeFails, HitFails, FirstFalseClaim, FirstFlaw}
use Rattle.cert_verify.proofs.Shown.{shown_small}

-- a node with a flaw does not show what it claims
pub hits_of : (sched : Sched) → sched ≢ Edf → (tasks : List SporadicTask) (bound : ℕ → ℕ) (cycle : ℕ) (node : NodeView)
    → ShowsPass sched tasks bound cycle node → AreHits (ranks_above sched tasks) tasks bound node
hits_of Edf fixed tasks bound cycle node shows = absurd (fixed refl)
hits_of Rm fixed tasks bound cycle node shows = shows
hits_of Dm fixed tasks bound cycle node shows = shows
hits_of Listed fixed tasks bound cycle node shows = shows

pub no_bad_hit : (above : ℕ → ℕ → Bool) (tasks : List SporadicTask) (bound : ℕ → ℕ) (node : NodeView) (i : ℕ)
    → HitFails above tasks bound node i → AreHits above tasks bound node → ⊥
no_bad_hit above tasks bound node i fails hits =
    elim fails [ inl lists ↦ lists.1 hits.lists | inr first ↦ first.bad (hits.each i first.is_task) ]

pub no_flaw : (sched : Sched) (tasks : List SporadicTask) (bound : ℕ → ℕ) (cycle : ℕ) (node : NodeView) (flaw : Flaw)
    → NodeFlaw sched tasks bound cycle node flaw → IsShown sched tasks bound cycle node → ⊥
no_flaw sched tasks bound cycle node (Wide place) h shown = h.1 (shown_small sched tasks bound cycle node shown.passes)
no_flaw sched tasks bound cycle node (Cover place) h shown =
    let shows : ShowsPass Edf tasks bound cycle node
    = subst (λ (s : Sched). ShowsPass s tasks bound cycle node) h.1 shown.passes in
    h.3 shows.1
no_flaw sched tasks bound cycle node (Hit place i) h shown =
    no_bad_hit (ranks_above sched tasks) tasks bound node i h.2 (hits_of sched h.1 tasks bound cycle node shown.passes)
no_flaw sched tasks bound cycle node (Least place) h shown = h.2 shown.least
no_flaw sched tasks bound cycle node Nodes h shown = h
no_flaw sched tasks bound cycle node (Budget place) h shown = h

-- so a certificate with a flaw does not prove the system
no_claim : (sys : SystemView) (nodes : List NodeView) (flaw : Flaw) → FirstFalseClaim sys nodes flaw → Proves sys nodes
    → ⊥
no_claim sys nodes flaw h proves =
    let node : NodeView = node_at nodes h.node.k in
    no_flaw (node_sched sys node.place) (node_tasks sys (budgets_of sys nodes) node.place)
    (node_bound sys (budgets_of sys nodes) node.place) (node_cycle sys node.place) node flaw h.node.bad
    (proves.each h.node.k h.node.is_node)

pub flaw_not_proves : (sys : SystemView) (nodes : List NodeView) (flaw : Flaw) → FirstFlaw sys nodes flaw
    → Proves sys nodes → ⊥
flaw_not_proves sys nodes Nodes h proves = h proves.are_nodes
flaw_not_proves sys nodes (Budget place) h proves = h.node.bad.1 (proves.budgets h.node.k h.node.is_node)
flaw_not_proves sys nodes (Cover place) h proves = no_claim sys nodes (Cover place) h proves
flaw_not_proves sys nodes (Hit place i) h proves = no_claim sys nodes (Hit place i) h proves
flaw_not_proves sys nodes (Least place) h proves = no_claim sys nodes (Least place) h proves
flaw_not_proves sys nodes (Wide place) h proves = no_claim sys nodes (Wide place) h proves

-- the flaw of a node's claims is the first flaw of the certificate
pub first_flaw : (sys : SystemView) (nodes : List NodeView) (flaw : Flaw) → FirstFalseClaim sys nodes flaw
    → FirstFlaw sys nodes flaw
first_flaw sys nodes Nodes h = absurd h.node.bad
first_flaw sys nodes (Budget place) h = absurd h.node.bad
first_flaw sys nodes (Cover place) h = h
first_flaw sys nodes (Hit place i) h = h
first_flaw sys nodes (Least place) h = h
first_flaw sys nodes (Wide place) h = h

-- what a check of all nodes answers, with the budgets as they were written
pub all_proved : (sys : SystemView) (nodes now : List NodeView) → nodes ≡ now → AreNodes sys nodes
    → HaveBudgets sys nodes (length nodes) → (budgets : List ℕ) → budgets ≡ budgets_of sys nodes
    → AreProved sys budgets nodes (length nodes) → Proves sys now
all_proved sys nodes now same are has budgets is each =
    subst (λ (ns : List NodeView). Proves sys ns) same (record {
      are_nodes = are;
      budgets = has;
      each = subst (λ (bs : List ℕ). AreProved sys bs nodes (length nodes)) is each;
    })

pub one_fails : (sys : SystemView) (nodes now : List NodeView) → nodes ≡ now → AreNodes sys nodes
    → HaveBudgets sys nodes (length nodes) → (budgets : List ℕ) → budgets ≡ budgets_of sys nodes
    → (flaw : Flaw) → FirstNode nodes (NodeProves sys budgets) (NodeFails sys budgets flaw) → FirstFlaw sys now flaw
one_fails sys nodes now same are has budgets is flaw h =
    subst (λ (ns : List NodeView). FirstFlaw sys ns flaw) same
    (first_flaw sys nodes flaw (record {
      are_nodes = are;
      budgets = has;
      node = subst (λ (bs : List ℕ). FirstNode nodes (NodeProves sys bs) (NodeFails sys bs flaw)) is h;
    }))

-- an answer is Ok exactly where the certificate proves the system
pub exactly : (sys : SystemView) (nodes : List NodeView) (answer : Result (Unit {0}) Flaw)
    → IfOk answer (λ _. Proves sys nodes) → IfErr answer (λ flaw. FirstFlaw sys nodes flaw)
    → IsOk answer ↔ Proves sys nodes
exactly sys nodes (Ok u) proves flaw = (λ ok. proves, λ h. search rules)
exactly sys nodes (Err e) proves flaw = (λ ok. absurd (search rules), λ h. absurd (flaw_not_proves sys nodes e flaw h))
