use Rattle.std.proofs.Common.{◌≡◌, ◌++◌, drop}
use Rattle.std.specs.Prelude.{string_bytes}
use Rattle.rt_report.specs.Slack.{slack_lines, slack_text}
use Rattle.rt_report.proofs.slack.slack_text.Given as goal

-- what is written, and then the lines that are left
abbrev pub invariant-loop-i : goal.invariant-loop-i
invariant-loop-i l =
    string_bytes l.text ++ slack_lines l.part l.i (drop l.i l.works) ≡ slack_text l.part l.works
