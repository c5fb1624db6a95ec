use Rattle.std.proofs.Common.{◌+◌, Some, cond, drop, sym, ap, ◌∙◌, arith}
use Rattle.toml.specs.Data.{get_member}
use Rattle.toml_items.specs.Item.{item_view, entries_view}
use Rattle.system_file.proofs.Elements.{looked_at}
use Rattle.system_file.proofs.keys.find.Goals as goal

pub returns-then-eq : goal.returns-then-eq
returns-then-eq c =
    let k = c.args.key.now in
    let rest = get_member k (entries_view (drop (c.loop-name.name-index + 1) c.args.table.now)) in
    sym (c.loop-name.invariant
    ∙ looked_at k c.args.table.now c.loop-name.name-index c.loop-name-item.result
    (omega arith) c.loop-name-item.is
    ∙ ap (λ b. cond b (Some (item_view c.loop-name-item.result.1)) rest) (sym c.eq.ensures ∙ c.if-eq.true))

pub loop-name-preserved : goal.loop-name-preserved
loop-name-preserved c =
    let k = c.args.key.now in
    let rest = get_member k (entries_view (drop (c.loop-name.name-index + 1) c.args.table.now)) in
    c.loop-name.invariant
    ∙ looked_at k c.args.table.now c.loop-name.name-index c.loop-name-item.result
    (omega arith) c.loop-name-item.is
    ∙ ap (λ b. cond b (Some (item_view c.loop-name-item.result.1)) rest) (sym c.eq.ensures ∙ c.if-eq.false)
