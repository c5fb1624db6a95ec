use Rattle.std.proofs.Common.{◌≤◌, length}
use denote.Text.{Utf8}
use denote.Shadow.{shadow}
use Rattle.toml_items.specs.Item.{entries_view}
use Rattle.toml_items.proofs.Going.{ReadsPairs}
use Rattle.toml_items.proofs.plain.pairs_into.Given as goal

abbrev pub invariant-pairs : goal.invariant-pairs
invariant-pairs l = record {
  is_text : shadow (Utf8 l.rest);
  within : length l.rest ≤ length l.fn.text;
  reads : ReadsPairs l.fn.text (entries_view l.entries.items) l.rest;
}

abbrev pub decreases-pairs : goal.decreases-pairs
decreases-pairs l = length l.rest
