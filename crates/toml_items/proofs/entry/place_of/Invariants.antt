use Rattle.std.proofs.Common.{◌≤◌, length}
use Rattle.toml_items.proofs.Entries.{IsPlaceFrom}
use Rattle.toml_items.proofs.entry.place_of.Given as goal

abbrev pub invariant-entries : goal.invariant-entries
invariant-entries l = (l.at ≤ length l.entries) × IsPlaceFrom l.at l.key l.entries l.place

abbrev pub decreases-entries : goal.decreases-entries
decreases-entries l = l.at
