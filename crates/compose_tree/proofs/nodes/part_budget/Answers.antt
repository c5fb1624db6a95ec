use Rattle.std.proofs.Common.{◌≡◌, ℕ, Option, Some, List, subst}
use Rattle.slot_model.specs.declared.sched.Sched.{Sched}
use Rattle.slot_model.specs.Task.{SporadicTask, sporadic_tasks}
use Rattle.slot_model.specs.Bound.{sbf}
use Rattle.slot_model.proofs.HandedOn.{handed_on}
use Rattle.tree_model.specs.declared.place.Place.{Place}
use Rattle.tree_model.specs.declared.plan.Refusal.{Refusal}
use Rattle.tree_model.specs.Admission.{largest_budget}
use Rattle.compose_tree.specs.Steps.{NodeRefuses}
use Rattle.compose_tree.proofs.nodes.part_budget.Goals as goal

-- a part with a given budget is refused with it
refuses_given : (sched s : Sched) (tasks : List SporadicTask) (period p : ℕ) (given : Option ℕ) (budget : ℕ)
    (node : Place) (r : Refusal) → s ≡ sched → p ≡ period → Some budget ≡ given
    → NodeRefuses s tasks (sbf p budget) p node r
    → NodeRefuses sched tasks (sbf period (largest_budget given period)) period node r
refuses_given sched s tasks period p given budget node r same_sched same_period is refuses =
    subst (λ (o : Option ℕ). NodeRefuses sched tasks (sbf period (largest_budget o period)) period node r) is
    (subst (λ (z : ℕ). NodeRefuses sched tasks (sbf z budget) z node r) same_period
    (subst (λ (z : Sched). NodeRefuses z tasks (sbf p budget) p node r) same_sched refuses))

pub returns-in_err-test_node-in-Some-clause-refuses : goal.returns-in_err-test_node-in-Some-clause-refuses
returns-in_err-test_node-in-Some-clause-refuses c =
    handed_on c.from_residual.result _ _ c.from_residual.ensures.1 (refuses_given c.args.part.now.sched c.sched.result
    (sporadic_tasks c.args.tasks.now) c.args.part.now.period c.period-period.result c.args.part.now.budget
    c.in-Some.budget c.args.node c.in_err-test_node-in-Some.field-0.0 c.sched.ensures c.period-period.ensures
    c.in-Some.ensures c.in_err-test_node-in-Some.ensures.refuses)
