use Rattle.std.proofs.Common.{◌≡◌, ◌+◌, ◌-◌, ◌<◌, length, sym, ◌∙◌, arith}
use Rattle.toml_items.proofs.Entries.{IsPlaceFrom-behind}
use Rattle.toml_items.proofs.entry.place_of.Goals as goal

pub entries-preserved : goal.entries-preserved
entries-preserved c =
    let key = c.args.key.now in
    let entries = c.args.entries.now in
    let (within, later) = c.entries.invariant in
    let back : c.entries.at - 1 + 1 ≡ c.entries.at = omega (arith, c.entries-test.true) in
    let here : c.entries.at - 1 < length entries = omega (arith, c.entries-test.true, within) in
    let behind = sym c.key_order.ensures ∙ c.in-Greater.is in (
      omega (arith, within),
      IsPlaceFrom-behind key entries (c.entries.at - 1) c.entries.place c.index-entries-at.result here behind
          (rw back later),
    )
