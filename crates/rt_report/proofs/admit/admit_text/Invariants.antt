use Rattle.std.proofs.Common.{◌≡◌, ◌++◌, drop}
use Rattle.std.specs.Prelude.{string_bytes}
use Rattle.rt_report.specs.Admit.{admit_text, part_lines}
use Rattle.rt_report.proofs.admit.admit_text.Given as goal

-- what is written, and then the lines of the parts that are left
abbrev pub invariant-loop-q : goal.invariant-loop-q
invariant-loop-q l =
    string_bytes l.text ++ part_lines (drop l.q l.sys.parts) (drop l.q l.budgets) l.left
    ≡ admit_text l.sys l.plan l.replays
