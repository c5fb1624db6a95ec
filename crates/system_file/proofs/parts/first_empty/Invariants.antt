use Rattle.std.proofs.Common.{◌≡◌, ℕ, ◌<◌, false}
use Rattle.system_file.specs.inner.Reading.{is_empty_part, part_in}
use Rattle.system_file.proofs.parts.first_empty.Given as goal

abbrev pub invariant-loop-place : goal.invariant-loop-place
invariant-loop-place l = (q : ℕ) → q < l.place → is_empty_part l.parts q (part_in l.parts q) ≡ false
