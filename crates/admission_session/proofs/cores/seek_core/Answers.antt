use Rattle.std.proofs.Common.{List, length, arith, ◌∙◌, ap}
use Rattle.tree_model.specs.declared.pinned_core.Core.{Core as CoreView}
use Rattle.admission_session.specs.inner.Undone.{moved_to}
use Rattle.admission_session.proofs.OnCores.{asked_with, refused_more, trial_plan, tried_budget, tried_share}
use Rattle.admission_session.proofs.cores.seek_core.Goals as goal

pub asked_of_cores-asked-requires-clause-plan : goal.asked_of_cores-asked-requires-clause-plan
asked_of_cores-asked-requires-clause-plan c =
    trial_plan c.args.sys.now c.args.q c.args.budgets.now c.requires.some_core c.requires.on_first c.requires.systems
    c.requires.kept

pub share_of-own-requires-clause-in_period : goal.share_of-own-requires-clause-in_period
share_of-own-requires-clause-in_period c =
    tried_budget c.args.sys.now c.parts.result.now c.args.q c.index-parts-q.result c.args.budgets.now
    c.parts.ensures.parts c.requires.last c.index-parts-q.is
    (trial_plan c.args.sys.now c.args.q c.args.budgets.now c.requires.some_core c.requires.on_first c.requires.systems
    c.requires.kept)

pub fits_on-requires-clause-asked : goal.fits_on-requires-clause-asked
fits_on-requires-clause-asked c =
    asked_with c.args.sys.now (moved_to c.loop-c.sys c.args.q c.loop-c.c) c.args.q c.loop-c.c c.args.budgets.now _ _
    c.requires.last (c.loop-c.invariant.same c.loop-c.c) (c.asked_of_cores-asked.ensures.asked c.loop-c.c
    (omega (
      arith,
      c.loop-c-test.true,
      c.parts.ensures.system.few_cores,
      ap (λ (cs : List CoreView). length cs) c.cores.ensures.cores,
    )))
    (tried_share c.args.sys.now c.parts.result.now c.args.q c.index-parts-q.result c.args.budgets.now
    c.share_of-own.result c.parts.ensures.parts c.requires.last c.index-parts-q.is c.share_of-own.ensures.share)

pub loop-c-preserved : goal.loop-c-preserved
loop-c-preserved c = record {
  same = λ d. c.fits_on.ensures.same d ∙ c.loop-c.invariant.same d;
  before =
      refused_more c.args.sys.now (moved_to c.loop-c.sys c.args.q c.loop-c.c) c.args.q c.loop-c.c
      (c.loop-c.invariant.same c.loop-c.c) c.loop-c.invariant.before
      (c.fits_on.ensures.fits_not c.if-fits_on.false);
}
