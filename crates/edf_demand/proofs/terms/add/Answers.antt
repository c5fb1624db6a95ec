use Rattle.std.proofs.Common.{◌∙◌, arith, length-set}
use Rattle.window_terms.specs.declared.term.Term.{Term}
use Rattle.edf_demand.proofs.Gathering.{longer_by, alone_behind}
use Rattle.edf_demand.proofs.terms.add.Goals as goal

pub returns-in-Some-clause-more : goal.returns-in-Some-clause-more
returns-in-Some-clause-more c = (
  omega arith,
  omega (arith, length-set {A = Term}),
  λ t. longer_by c.args.into.now c.args.terms c.index-into-terms.result c.in-Some.longer c.args.task.now t
      (omega arith) (omega arith) c.index-into-terms.is c.in-Some.ensures,
)

pub returns-clause-more : goal.returns-clause-more
returns-clause-more c = (
  omega arith,
  omega (arith, length-set {A = Term}),
  λ t. alone_behind c.args.into.now c.args.terms c.new.result c.args.task.now t (omega arith) c.new.ensures.0
      (c.new.ensures.1 ∙ c.slack_of.ensures.exact) c.new.ensures.2,
)
