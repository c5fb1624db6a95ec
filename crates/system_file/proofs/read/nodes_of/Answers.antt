use Rattle.std.proofs.Common.{map, ◌∙◌}
use Rattle.toml_items.specs.Item.{item_view}
use Rattle.tree_model.proofs.Lists.{first_here, first_later, length_map}
use Rattle.slot_model.proofs.HandedOn.{handed_on}
use Rattle.system_file.proofs.ManyNames.{as_many_names}
use Rattle.system_file.proofs.read.nodes_of.Goals as goal

pub read_parts-requires-clause-names : goal.read_parts-requires-clause-names
read_parts-requires-clause-names c =
    as_many_names (map item_view c.in_ok-top.top.cores.now) c.read_cores.new.names c.in_ok-cores.ensures.ok.2
    ∙ length_map item_view c.in_ok-top.top.cores.now

pub returns-in_err-top-clause-fault : goal.returns-in_err-top-clause-fault
returns-in_err-top-clause-fault c =
    let step = c.from_residual in
    handed_on step.result _ _ step.ensures.1 (λ memory.
    first_here _ _ _ c.in_err-top.ensures.fault)

pub returns-in_err-cores-clause-fault : goal.returns-in_err-cores-clause-fault
returns-in_err-cores-clause-fault c =
    let step = c.from_residual-in_err-cores in
    handed_on step.result _ _ step.ensures.1 (λ memory.
    let (none, _, cores_are, _) = c.in_ok-top.ensures.ok in
    first_later _ _ _ none (first_here _ _ _ (rw cores_are at (c.in_err-cores.ensures.fault memory))))

pub returns-in_err-parts-clause-fault : goal.returns-in_err-parts-clause-fault
returns-in_err-parts-clause-fault c =
    let step = c.from_residual-in_err-parts in
    handed_on step.result _ _ step.ensures.1 (λ memory.
    let (none, format_is, cores_are, parts_are) = c.in_ok-top.ensures.ok in
    let wrong
    = c.in_err-parts.ensures.fault memory _ (length_map item_view c.in_ok-top.top.cores.now) c.in_ok-cores.ensures.ok.2
    in
    first_later _ _ _ none (first_later _ _ _ (rw cores_are at c.in_ok-cores.ensures.ok.0)
    (first_here _ _ _ (rw (format_is, cores_are, parts_are) at wrong))))

pub returns-clause-ok : goal.returns-clause-ok
returns-clause-ok c =
    let (none, format_is, cores_are, parts_are) = c.in_ok-top.ensures.ok in
    let read
    = c.in_ok-parts.ensures.ok _ (length_map item_view c.in_ok-top.top.cores.now) c.in_ok-cores.ensures.ok.2 in
    record {
      no_top = none;
      no_core = rw cores_are at c.in_ok-cores.ensures.ok.0;
      no_part = rw (format_is, cores_are, parts_are) at read.0;
      cores_are = rw cores_are at c.in_ok-cores.ensures.ok.1;
      parts_are = rw (cores_are, parts_are) at read.1;
    }
