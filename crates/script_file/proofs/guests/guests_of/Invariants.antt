use Rattle.std.proofs.Common.{◌≡◌, ◌+◌, ◌++◌, length}
use Rattle.std.specs.Vec.Iter.{into_iter_items}
use Rattle.script_file.specs.inner.Guests.{AddGuests}
use Rattle.script_file.proofs.guests.guests_of.Given as goal

-- the guests so far, and the edits to come
abbrev pub invariant-loop-edit : goal.invariant-loop-edit
invariant-loop-edit l = record {
  so_far : AddGuests l.yielded l.guests.items;
  row : l.row ≡ length l.yielded + 2;
  edits : l.fn.edits.items ≡ l.yielded ++ into_iter_items l.edit-iterator;
}
