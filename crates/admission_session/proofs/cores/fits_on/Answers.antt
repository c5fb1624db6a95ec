use Rattle.std.proofs.Common.{◌≡◌, ℕ, ◌^◌, ◌<◌, List, length, arith, sym, ◌∙◌, ap, subst}
use Rattle.tree_model.specs.declared.pinned_core.Core.{Core as CoreView}
use Rattle.tree_model.specs.View.{SystemView}
use Rattle.tree_model.specs.System.{core_at}
use Rattle.tree_model.proofs.NodeTasks.{core_here}
use Rattle.admission_session.specs.inner.Undone.{moved_to}
use Rattle.admission_session.proofs.OnCores.{moved_again}
use Rattle.admission_session.proofs.PastAll.{past_all_refuses}
use Rattle.admission_session.proofs.cores.fits_on.Goals as goal

pub returns-then-is_past_all-clause-fits_not : goal.returns-then-is_past_all-clause-fits_not
returns-then-is_past_all-clause-fits_not c =
    let here : c.index-cores-c.result ≡ core_at c.args.sys.now c.args.c
    = core_here c.args.sys.now c.cores.result.now c.args.c c.index-cores-c.result c.cores.ensures.cores
    (omega (arith, c.requires.kept.is_node, ap (λ (cs : List CoreView). length cs) c.cores.ensures.cores))
    c.index-cores-c.is in
    let past = c.is_past_all.ensures.0 c.if-is_past_all.true in
    λ e. past_all_refuses (moved_to c.args.sys.now c.args.q c.args.c) c.requires.system c.args.budgets.now c.args.c
    c.requires.kept (ap (λ (core : CoreView). core.sched) (sym here ∙ c.index-cores-c.is) ∙ past.0)
    (subst (λ (n : ℕ). 2 ^ 32 < n) c.requires.asked past.1)

pub returns-clause-same : goal.returns-clause-same
returns-clause-same c = λ d.
    ap (λ (s : SystemView). moved_to s c.args.q d) c.move_to.ensures
    ∙ moved_again c.args.sys.now c.args.q c.args.c d c.requires.is_part
