use Rattle.std.proofs.Common.{◌≡◌, ◌++◌, drop}
use Rattle.std.specs.Prelude.{string_bytes}
use Rattle.rt_report.specs.Isolation.{budgets_lines}
use Rattle.rt_report.proofs.isolations.push_cores.Given as goal

-- what is written, and then the lines that are left
abbrev pub invariant-loop-row : goal.invariant-loop-row
invariant-loop-row l =
    string_bytes l.text ++ budgets_lines l.sys (drop l.row-index l.cores)
    ≡ string_bytes l.initial.text ++ budgets_lines l.sys l.cores
