use Rattle.std.proofs.Common.{subst, arith}
use Rattle.std.proofs.lemmas.Grind.{common_steps}
use Rattle.std.proofs.lemmas.List.Elements.{All-more}
use Rattle.system_file.specs.inner.Named.{IsPartNamed}
use Rattle.system_file.proofs.print.part_tables.Goals as goal

pub loop-part-preserved : goal.loop-part-preserved
loop-part-preserved c = (
  grind (arith, common_steps),
  All-more IsPartNamed c.parts-parts.result.now c.loop-part.part-index c.part-item.result (omega arith)
      c.loop-part.invariant.1 (subst IsPartNamed c.part-item.is c.in_ok-part_table.ensures.named),
)
