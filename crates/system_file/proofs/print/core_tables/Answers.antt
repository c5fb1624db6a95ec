use Rattle.std.proofs.Common.{◌≡◌, true, subst, sym, arith}
use Rattle.std.proofs.lemmas.Grind.{common_steps}
use Rattle.std.proofs.lemmas.List.{get_or_read}
use Rattle.std.proofs.lemmas.List.Elements.{All-more}
use Rattle.slot_model.specs.Name.{is_name}
use Rattle.tree_model.specs.declared.pinned_core.Core.{Core}
use Rattle.tree_model.specs.System.{IsCoreSupply, no_core}
use Rattle.system_file.proofs.print.core_tables.Goals as goal

pub core_table-requires : goal.core_table-requires
core_table-requires c = record {
  supply =
      subst (λ (core : Core). IsCoreSupply core.supply)
      (sym (get_or_read c.args.cores.now c.loop-core.core-index c.core-item.result (omega arith) c.core-item.is
      no_core))
      (c.requires.supplies c.loop-core.core-index (omega arith));
}

pub loop-core-preserved : goal.loop-core-preserved
loop-core-preserved c = (
  grind (arith, common_steps),
  All-more (λ (x : Core). is_name x.name ≡ true) c.args.cores.now c.loop-core.core-index c.core-item.result
      (omega arith) c.loop-core.invariant.1
      (subst (λ (x : Core). is_name x.name ≡ true) c.core-item.is c.in_ok-core_table.ensures.named),
)
