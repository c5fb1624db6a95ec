use Rattle.std.proofs.Common.{rules, ◌∙◌}
use Rattle.outside.proofs.Growing.{appends_at}
use Rattle.outside.proofs.write.write_all.Goals as goal

pub loop-written-preserved : goal.loop-written-preserved
loop-written-preserved g c = record {
  within = search rules;
  told = c.in-Ok.ensures.told ∙ c.loop-written.invariant.told;
  grows =
      appends_at _ _ _ c.args.bytes.now c.loop-written.written c.in-Ok.count c.loop-written.invariant.grows
      c.in-Ok.ensures.front;
  quiet = c.in-Ok.ensures.quiet ∙ c.loop-written.invariant.quiet;
}
