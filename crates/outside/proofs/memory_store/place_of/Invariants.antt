use Rattle.std.proofs.Common.{◌≡◌, drop}
use Rattle.outside.specs.Files.{file_named}
use Rattle.outside.specs.Memory.{named_files}
use Rattle.outside.proofs.memory_store.place_of.Given as goal

abbrev pub invariant-loop-i : goal.invariant-loop-i
invariant-loop-i l = file_named l.name (named_files (drop l.i l.files)) ≡ file_named l.name (named_files l.files)
