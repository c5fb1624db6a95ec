use Rattle.std.proofs.Common.{◌≡◌, ℕ, ◌≤◌, Bool, true, false, Option, Some, None, sym, ◌∙◌, ap, subst, arith}
use Rattle.std.specs.Prelude.{MatchResult}
use Rattle.std.proofs.lemmas.Result.{MatchResult-from_both}
use Rattle.tree_model.specs.CertificateView.{NodeView}
use Rattle.tree_model.specs.Tree.{IsNode, node_tasks, node_sched, node_bound, node_cycle, given_budget}
use Rattle.tree_model.proofs.Levels.{of_level, cycle_range, budget_fits}
use Rattle.cert_verify.specs.Proves.{IsBudget, IsShown}
use Rattle.cert_verify.specs.Flaws.{NodeFlaw}
use Rattle.cert_verify.proofs.nodes.check_node.Goals as goal

pub node_supply-supply-requires-clause-in_period : goal.node_supply-supply-requires-clause-in_period
node_supply-supply-requires-clause-in_period c =
    budget_fits c.args.sys.now c.args.budgets.now c.requires.fit _
    (subst (λ (node : NodeView). IsNode c.args.sys.now node.place) (sym c.node.view_is) c.requires.is_node)

-- a budget that is computed is 1 to its period
clash : (b : Bool) → b ≡ false → b ≡ true → ⊥
clash true f t = cc
clash false f t = cc

computed_range : (given : Option ℕ) (node : NodeView) → IsBudget given node → node.computed ≡ true
    → (1 ≤ node.budget) × (node.budget ≤ node.period)
computed_range (Some given) node is t = absurd (clash node.computed is.0 t)
computed_range None node is t = (is.1, is.2)

pub check_claims-requires-clause-in_limit : goal.check_claims-requires-clause-in_limit
check_claims-requires-clause-in_limit c =
    omega (
      arith,
      c.requires.has.period,
      (cycle_range c.args.sys.now c.sched_of-sched.ensures.system c.args.node.now.place c.requires.is_node).1,
    )

pub check_claims-requires-clause-some_slots : goal.check_claims-requires-clause-some_slots
check_claims-requires-clause-some_slots c =
    λ t. (computed_range (given_budget c.args.sys.now c.args.node.now.place) c.args.node.now c.requires.has.budget t).0

pub check_claims-requires-clause-in_period : goal.check_claims-requires-clause-in_period
check_claims-requires-clause-in_period c =
    λ t. (computed_range (given_budget c.args.sys.now c.args.node.now.place) c.args.node.now c.requires.has.budget t).1

-- what is so of the level as it is read is so of the node's
pub returns : goal.returns
returns c =
    let sys = c.args.sys.now in let budgets = c.args.budgets.now in
    of_level
    (λ sched tasks bound cycle. MatchResult c.check_claims.result
    (λ done. IsShown sched tasks bound cycle c.args.node.now)
    (λ flaw. NodeFlaw sched tasks bound cycle c.args.node.now flaw))
    (c.sched_of-sched.ensures.sched ∙ ap (λ (node : NodeView). node_sched sys node.place) c.node.view_is)
    (c.write_tasks-count.ensures.tasks ∙ ap (λ (node : NodeView). node_tasks sys budgets node.place) c.node.view_is)
    (c.node_supply-supply.ensures.bound ∙ ap (λ (node : NodeView). node_bound sys budgets node.place) c.node.view_is)
    (c.node_supply-supply.ensures.cycle ∙ ap (λ (node : NodeView). node_cycle sys node.place) c.node.view_is)
    (MatchResult-from_both c.check_claims.result _ _ c.check_claims.ensures.shown c.check_claims.ensures.flaw)
