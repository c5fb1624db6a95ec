use Rattle.std.proofs.Common.{◌≡◌, ◌++◌, drop}
use Rattle.std.specs.Prelude.{string_bytes}
use Rattle.rt_report.specs.Isolation.{isolation_lines}
use Rattle.rt_report.proofs.isolations.push_isolations.Given as goal

-- what is written, and then the lines that are left
abbrev pub invariant-loop-row : goal.invariant-loop-row
invariant-loop-row l =
    string_bytes l.text ++ isolation_lines l.sys (drop l.row-index l.rows)
    ≡ string_bytes l.initial.text ++ isolation_lines l.sys l.rows
