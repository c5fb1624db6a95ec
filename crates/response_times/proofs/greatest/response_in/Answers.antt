use Rattle.response_times.proofs.Responses.{answer_greatest, answer_must_miss}
use Rattle.response_times.proofs.greatest.response_in.Goals as goal

pub returns-clause-greatest : goal.returns-clause-greatest
returns-clause-greatest g c =
    answer_greatest c.args.level.now.sched c.args.level.now.fixed c.args.level.now.tasks.now
    (g.met.S.Supply.laws c.args.s.now) c.args.i c.requires c.hit_in.result c.hit_in.ensures

pub returns-clause-must_miss : goal.returns-clause-must_miss
returns-clause-must_miss g c =
    answer_must_miss c.args.level.now.sched c.args.level.now.fixed c.args.level.now.tasks.now
    (g.met.S.Supply.laws c.args.s.now) c.args.i c.requires c.hit_in.result c.hit_in.ensures
