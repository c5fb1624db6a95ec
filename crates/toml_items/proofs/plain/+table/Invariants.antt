use Rattle.std.proofs.Common.{◌-◌, ◌+◌, ◌*◌, ◌≤◌, length}
use denote.Text.{Utf8}
use denote.Shadow.{shadow}
use Rattle.toml_items.specs.Item.{list_view, entries_view}
use Rattle.toml_items.specs.Plain.{path_of, ReadsTable}
use Rattle.toml_items.proofs.Going.{ReadsElements}
use Rattle.toml_items.proofs.plain.+table.Given as goal

-- a table calls the array in it, that its elements, and those of the top one the tables below
abbrev pub decreases-table : goal.decreases-table
decreases-table l = 3 * (2 - length (path_of l.key))

abbrev pub decreases-array : goal.decreases-array
decreases-array l = 3 * (1 - length (path_of l.header.parent)) + 2

abbrev pub decreases-element : goal.decreases-element
decreases-element l = 3 * (1 - length (path_of l.header.parent)) + 1

abbrev pub invariant-array-elements : goal.invariant-array-elements
invariant-array-elements l = record {
  is_text : shadow (Utf8 l.rest);
  within : length l.rest ≤ length l.header.rest.now;
  reads : ReadsElements (path_of l.header.parent) l.header.key.now l.header.rest.now
      (list_view l.items.items) l.rest;
}

abbrev pub decreases-array-elements : goal.decreases-array-elements
decreases-array-elements l = length l.rest

abbrev pub invariant-table-arrays : goal.invariant-table-arrays
invariant-table-arrays l = record {
  is_text : shadow (Utf8 l.found.rest.now);
  within : length l.found.rest.now ≤ length l.fn.text;
  reads : ReadsTable (path_of l.key) l.fn.text (entries_view l.found.entries.items)
      l.found.rest.now;
}

abbrev pub decreases-table-arrays : goal.decreases-table-arrays
decreases-table-arrays l = length l.found.rest.now
