use Rattle.std.proofs.Common.{ℕ, Ok, ap, le_refl, rules, arith}
use Rattle.toml_items.specs.Item.{list_view, entries_view}
use Rattle.toml_items.specs.Plain.{path_of, ReadsArray}
use Rattle.toml_items.proofs.Items.{item_view-List, item_view-Table, list_view-push}
use Rattle.toml_items.proofs.Going.{no_elements, next_element, last_element, one_more_array}
use Rattle.toml_items.proofs.plain.+table.Goals as goal
use Rattle.toml_items.proofs.plain.+table.Goals.{array-In_ok-push}

pub array-elements-init : goal.array-elements-init
array-elements-init t c = record {
  is_text = search rules;
  within = le_refl _;
  reads = rw c.new-items.ensures.items
      (no_elements (path_of c.args.header.parent) c.args.header.key.now c.args.header.rest.now);
}

-- the array so far, with the element that was found
array_read : (t : ℕ) (c : array-In_ok-push t) → ReadsArray (path_of c.args.header.parent) c.args.header.key.now
    c.args.header.rest.now (list_view c.push.new.self.items) c.in-Some.found.rest.now
array_read t c =
    let l = c.elements in
    let header = c.args.header in
    let found = c.in-Some.found in
    let reads = rw c.in-Some.is at c.in_ok-found.ensures.reads in
    rw (c.in_ok-push.ensures.items, list_view-push l.items.items, item_view-Table found.entries)
    (last_element (path_of header.parent) header.key.now header.rest.now l.rest.now found.rest.now
    (list_view l.items.items) (entries_view found.entries.items) l.invariant.reads reads)

pub array-elements-preserved : goal.array-elements-preserved
array-elements-preserved t c =
    let within = rw c.in-Some.is at c.in_ok-found.ensures.within in
    record {
      is_text = search rules;
      within = omega (arith, c.elements.invariant.within, within, c.in-Some-header_again.ensures.shorter);
      reads = next_element _ _ _ c.in-Some.found.rest.now c.in-Some-header_again.after.now _
          (array_read t (goal.at.array-elements-preserved t c).In_ok-push) c.in-Some-header_again.ensures.line;
    }

pub array-returns-in-None-clause-reads : goal.array-returns-in-None-clause-reads
array-returns-in-None-clause-reads t c =
    array_read t (goal.at.array-returns-in-None-clause-reads t c).In_ok-push

pub element-returns-in-None-clause-reads : goal.element-returns-in-None-clause-reads
element-returns-in-None-clause-reads t c = rw c.in-None.is c.table.ensures.reads

pub table-arrays-preserved : goal.table-arrays-preserved
table-arrays-preserved t c =
    let l = c.arrays in
    let path = path_of c.args.key in
    let header = c.in-Some-header_in.header in
    let elements = c.in-Some-2.elements in
    let was_new = ap Ok c.if-not-branch.false in
    let same_path = c.in-Some-header_in.ensures.path in
    let reads = rw (c.in-Some-2.is, same_path) at c.in_ok-elements.ensures.reads in
    let within = rw c.in-Some-2.is at c.in_ok-elements.ensures.within in
    record {
      is_text = search rules;
      within = omega (arith, l.invariant.within, within, c.in-Some-header_in.ensures.shorter);
      reads = rw (c.in_ok-put_entry.ensures.put was_new, item_view-List elements.items)
          (one_more_array path c.args.text.now l.found.rest.now header.rest.now elements.rest.now
          header.key.now (entries_view l.found.entries.items) (list_view elements.items.items)
          l.invariant.reads c.in-Some-header_in.ensures.line reads
          (c.in_ok-put_entry.ensures.new was_new));
    }
