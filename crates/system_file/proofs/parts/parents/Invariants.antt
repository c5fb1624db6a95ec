use Rattle.std.proofs.Common.{◌≡◌, ℕ, ◌<◌, false, get_or, take, length}
use Rattle.system_file.specs.inner.Reading.{has_child}
use Rattle.system_file.proofs.parts.parents.Given as goal

abbrev pub invariant-loop-part : goal.invariant-loop-part
invariant-loop-part l =
    (length l.marks.items ≡ length l.parts)
    × ((q : ℕ) → q < length l.parts → get_or l.marks.items q false ≡ has_child (take l.part-index l.parts) q)
