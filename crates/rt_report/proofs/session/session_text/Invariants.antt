use Rattle.std.proofs.Common.{◌≡◌, ◌++◌, drop}
use Rattle.std.specs.Prelude.{string_bytes}
use Rattle.rt_report.specs.Session.{plan_lines}
use Rattle.rt_report.proofs.session.session_text.Given as goal

-- what is written, and then the lines of the parts that are left
abbrev pub invariant-loop-q : goal.invariant-loop-q
invariant-loop-q l =
    string_bytes l.text ++ plan_lines (drop l.q l.sys.parts) (drop l.q l.budgets)
    ≡ string_bytes l.fn.told ++ plan_lines l.sys.parts l.plan
