use Rattle.std.proofs.Common.{◌≡◌, ◌++◌, drop}
use Rattle.std.specs.Prelude.{string_bytes}
use Rattle.tree_model.specs.declared.place.Place.TheVariants.{Core}
use Rattle.rt_report.specs.Simulate.{counts_lines}
use Rattle.rt_report.proofs.simulate.push_cores.Given as goal

-- what is written, and then the lines that are left
abbrev pub invariant-loop-c : goal.invariant-loop-c
invariant-loop-c l =
    string_bytes l.text ++ counts_lines l.sys Core l.c (drop l.c l.counts)
    ≡ string_bytes l.initial.text ++ counts_lines l.sys Core 0 l.counts
