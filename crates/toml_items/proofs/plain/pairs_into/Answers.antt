use Rattle.std.proofs.Common.{[], Ok, ap, le_refl, rules, arith}
use Rattle.toml.specs.Tables.{key_value}
use Rattle.toml_items.specs.Item.{item_view, entries_view}
use Rattle.toml_items.specs.Plain.{IsLine}
use Rattle.toml_items.proofs.Going.{no_pairs, one_more_pair, table_of_pairs}
use Rattle.toml_items.proofs.plain.pairs_into.Goals as goal

pub pairs-init : goal.pairs-init
pairs-init c = record {
  is_text = search rules;
  within = le_refl _;
  reads = rw c.clear.ensures.items (no_pairs c.args.text.now);
}

pub returns-then-is_empty-clause-reads : goal.returns-then-is_empty-clause-reads
returns-then-is_empty-clause-reads c path =
    let l = c.pairs in
    rw c.after_blank-start.ensures.rest
    (table_of_pairs path c.args.text.now (entries_view l.entries.items) l.rest.now
    l.invariant.reads)

pub pairs-preserved : goal.pairs-preserved
pairs-preserved c =
    let l = c.pairs in
    let pair = c.in-Some.pair in
    let line_is = rw c.after_blank-start.ensures.rest at c.in-Some.ensures.line in
    let shorter = rw c.after_blank-start.ensures.rest at c.in-Some.ensures.shorter in
    let read : IsLine l.rest.now (([], pair.key.now), key_value (item_view pair.item)) pair.rest.now =
    record { is = line_is; shorter = shorter } in
    let was_new = ap Ok c.if-not-branch.false in
    record {
      is_text = search rules;
      within = omega (
        arith,
        l.invariant.within,
        c.after_blank-start.ensures.within,
        c.in-Some.ensures.shorter,
      );
      reads = rw (c.in_ok-put_entry.ensures.put was_new) (one_more_pair c.args.text.now l.rest.now
          pair.rest.now pair.key.now _ _ l.invariant.reads read
          (c.in_ok-put_entry.ensures.new was_new));
    }
