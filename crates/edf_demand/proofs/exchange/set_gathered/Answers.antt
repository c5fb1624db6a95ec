use Rattle.std.proofs.Common.{arith}
use Rattle.std.proofs.lemmas.List.{length-take-le}
use Rattle.edf_demand.proofs.InPlace.{exchanged_stands}
use Rattle.edf_demand.proofs.exchange.set_gathered.Goals as goal

pub returns-clause-stand : goal.returns-clause-stand
returns-clause-stand c =
    exchanged_stands c.args.gathered c.args.terms.now c.args.tasks.now c.args.i c.in-Some.place c.in-Some.term
    c.index-tasks-i.result c.args.task c.requires.stand (omega arith)
    (omega (
      arith,
      c.in-Some.ensures.0,
      length-take-le c.args.gathered.terms c.args.terms.now c.requires.stand.in_terms,
    )) c.index-tasks-i.is
    c.in-Some.ensures.1
