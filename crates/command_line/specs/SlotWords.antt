-- The words of a pattern and of a number of slots.
use Rattle.std.specs.Prelude.{ℕ, List, Option, Some, None, codes, bytes_eq, if◌then◌else◌}
use Rattle.server_sched.specs.declared.supplies.Pattern.{Pattern}
use Rattle.server_sched.specs.declared.supplies.Pattern.TheVariants.{Early, Late, Worst}
use Rattle.command_line.specs.Numbers.{number_from_one}

-- `early`, `late` or `worst`
abbrev pub pattern_of : List ℕ → Option Pattern
pattern_of word =
    if bytes_eq word (codes "early") then Some Early
    else if bytes_eq word (codes "late") then Some Late
    else if bytes_eq word (codes "worst") then Some Worst
    else None

-- a plain decimal number from 1 to the most slots of a run
abbrev pub most_slots : ℕ
most_slots = 1000000

abbrev pub slot_count : List ℕ → Option ℕ
slot_count = number_from_one most_slots
