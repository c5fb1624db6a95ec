use Rattle.std.proofs.Common.{◌≡◌, ◌++◌, drop}
use Rattle.std.specs.Prelude.{string_bytes}
use Rattle.tree_model.specs.declared.place.Place.TheVariants.{Part}
use Rattle.rt_report.specs.Simulate.{counts_lines}
use Rattle.rt_report.proofs.simulate.push_parts.Given as goal

-- what is written, and then the lines that are left
abbrev pub invariant-loop-q : goal.invariant-loop-q
invariant-loop-q l =
    string_bytes l.text ++ counts_lines l.sys Part l.q (drop l.q l.counts)
    ≡ string_bytes l.initial.text ++ counts_lines l.sys Part 0 l.counts
