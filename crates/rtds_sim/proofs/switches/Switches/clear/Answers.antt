use Rattle.std.proofs.Common.{◌∙◌, arith}
use Rattle.std.proofs.lemmas.List.{length-set}
use Rattle.rtds_sim.proofs.Lists.{empty_more}
use Rattle.rtds_sim.proofs.switches.Switches.clear.Goals as goal

pub loop-c-preserved : goal.loop-c-preserved
loop-c-preserved c =
    let lists = c.loop-c.self.lists.items in
    record {
      one_each = length-set lists c.loop-c.c c.clear.new.self ∙ c.loop-c.invariant.one_each;
      empty =
          empty_more lists c.loop-c.c c.clear.new.self (omega
          (arith, c.loop-c-test.true, c.len-c-end.ensures, c.args.self.now.lists.ok.0, c.loop-c.invariant.one_each))
          c.clear.ensures.items c.loop-c.invariant.empty;
    }
