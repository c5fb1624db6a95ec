use Rattle.std.proofs.Common.{refl}
use Rattle.admission_session.proofs.MadeSystems.{change_keeps}
use Rattle.admission_session.proofs.TakenBack.{back_system, back_is}
use Rattle.admission_session.proofs.trials.try_change.Goals as goal

pub recompose-requires-clause-kept : goal.recompose-requires-clause-kept
recompose-requires-clause-kept c =
    change_keeps c.args.sys.now c.replace_leaf-was.new.sys c.args.q c.args.leaf c.args.plan.now c.args.plan.now
    c.replace_leaf-was.ensures.changed refl c.requires.is_part c.requires.parent c.requires.admitted

pub replace_leaf-requires-clause-system : goal.replace_leaf-requires-clause-system
replace_leaf-requires-clause-system c =
    back_system c.args.sys.now c.replace_leaf-was.new.sys c.args.q c.args.leaf c.replace_leaf-was.result
    c.replace_leaf-was.ensures.known c.replace_leaf-was.ensures.changed c.replace_leaf-was.ensures.was

pub returns-in-Err-clause-unchanged : goal.returns-in-Err-clause-unchanged
returns-in-Err-clause-unchanged c = (
  back_is c.args.sys.now c.replace_leaf-was.new.sys c.replace_leaf.new.sys c.args.q c.args.leaf
      c.replace_leaf-was.result c.replace_leaf-was.ensures.changed c.replace_leaf-was.ensures.was
      c.replace_leaf.ensures.changed,
  c.in-Err.ensures.unchanged,
)
