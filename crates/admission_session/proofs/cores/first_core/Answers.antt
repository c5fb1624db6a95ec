use Rattle.std.proofs.Common.{rules, ◌≡◌, ℕ, List, set, sym, subst}
use Rattle.tree_model.specs.declared.place.Place.TheVariants.{Core, Part}
use Rattle.compose_tree.specs.Steps.{RefusesAt}
use Rattle.compose_tree.specs.Kept.{IsKept, IsSettledNode}
use Rattle.admission_session.specs.inner.Undone.{moved_to}
use Rattle.admission_session.proofs.OnCores.{kept_on_core, refused_on_core, leaf_place}
use Rattle.admission_session.proofs.cores.first_core.Goals as goal
use Rattle.admission_session.proofs.cores.first_core.Goals.{After-deref}

-- the budgets that are read are those of the plan
read : (c : After-deref) → c.deref.result.now ≡ c.args.plan.now
read c = search rules

pub seek_core-requires-clause-kept : goal.seek_core-requires-clause-kept
seek_core-requires-clause-kept c =
    let written : c.deref-in-Ok.result.now ≡ set c.args.plan.now c.args.q c.in-Ok.budget = search rules in
    λ d h.
    subst (λ (b : List ℕ). IsKept (moved_to c.args.sys.now c.args.q d) b (Core d)) (sym written)
    (kept_on_core c.args.sys.now c.args.q d c.in-Ok.budget c.args.plan.now
    (leaf_place c.args.sys.now c.args.q d c.args.plan.now (c.requires.kept d h)) c.requires.leaf
    (c.requires.systems d h) (c.requires.kept d h)
    (subst (λ (b : List ℕ). IsSettledNode c.args.sys.now (set b c.args.q c.in-Ok.budget) (Part c.args.q))
    (read (goal.at.seek_core-requires-clause-kept c).After-deref) c.in-Ok.ensures.settled))

pub returns-in-Err-clause-refused : goal.returns-in-Err-clause-refused
returns-in-Err-clause-refused c =
    λ d h.
    refused_on_core c.args.sys.now c.args.q d c.args.plan.now c.in-Err.field-0
    (leaf_place c.args.sys.now c.args.q d c.args.plan.now (c.requires.kept d h)) c.requires.leaf
    (c.requires.systems d h) (c.requires.kept d h)
    (subst (λ (b : List ℕ). RefusesAt c.args.sys.now b (Part c.args.q) c.in-Err.field-0)
    (read (goal.at.returns-in-Err-clause-refused c).After-deref) c.in-Err.ensures.refuses)
