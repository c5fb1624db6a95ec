use Rattle.std.proofs.Common.{◌≡◌, ◌≢◌, refl}
use Rattle.tree_model.specs.declared.plan.Refusal.{Refusal}
use Rattle.tree_model.specs.declared.plan.Refusal.TheVariants.{Overfull, Wide, NoMemory}
use Rattle.tree_model.specs.View.{SystemView}
use Rattle.tree_model.specs.Admission.{FirstRefusal}
use Rattle.tree_model.proofs.Unique.{one_admission}
use Rattle.compose_tree.specs.Truth.{RefusalHolds}
use Rattle.compose_tree.proofs.Sound.{admitted_keeping, admitted_no_loss, admitted_tight}
use Rattle.compose_tree.proofs.Refusals.{refusal_holds}
use Rattle.compose_tree.proofs.Settling.{not_refused}
use Rattle.compose_tree.proofs.budgets.compose.Goals as goal

-- a refusal but for want of memory is the first
known : (sys : SystemView) (P : Refusal → Type 0) → P NoMemory → ((r : Refusal) → FirstRefusal sys r → P r)
    → (r : Refusal) → (r ≢ NoMemory → FirstRefusal sys r) → P r
known sys P wanting first (Overfull node short) h = first (Overfull node short) (h (λ e. absurd (cc)))
known sys P wanting first (Wide node) h = first (Wide node) (h (λ e. absurd (cc)))
known sys P wanting first NoMemory h = wanting

pub returns-in-Ok-clause-complete : goal.returns-in-Ok-clause-complete
returns-in-Ok-clause-complete c =
    λ budgets admitted. one_admission c.args.sys.now c.compose_by.ensures.system _ budgets c.in-Ok.ensures.plan
    admitted

pub returns-in-Ok-clause-no_loss : goal.returns-in-Ok-clause-no_loss
returns-in-Ok-clause-no_loss c =
    admitted_no_loss c.args.sys.now c.compose_by.ensures.system _ c.in-Ok.ensures.plan

pub returns-in-Ok-clause-each_node : goal.returns-in-Ok-clause-each_node
returns-in-Ok-clause-each_node c =
    admitted_keeping c.args.sys.now c.compose_by.ensures.system _ c.in-Ok.ensures.plan

pub returns-in-Ok-clause-tight : goal.returns-in-Ok-clause-tight
returns-in-Ok-clause-tight c = admitted_tight c.args.sys.now c.compose_by.ensures.system _ c.in-Ok.ensures.plan

pub returns-in-Err-clause-complete : goal.returns-in-Err-clause-complete
returns-in-Err-clause-complete c =
    λ budgets admitted. known c.args.sys.now (λ (r : Refusal). r ≡ NoMemory) refl (λ r first. not_refused
    c.args.sys.now c.compose_by.ensures.system r first budgets admitted) c.in-Err.refusal c.in-Err.ensures.refusal

pub returns-in-Err-clause-holds : goal.returns-in-Err-clause-holds
returns-in-Err-clause-holds c =
    known c.args.sys.now (RefusalHolds c.args.sys.now) tt (λ r first. refusal_holds c.args.sys.now
    c.compose_by.ensures.system r first) c.in-Err.refusal c.in-Err.ensures.refusal
