use Rattle.std.proofs.Common.{◌≡◌, ◌++◌, drop}
use Rattle.std.specs.Prelude.{string_bytes}
use Rattle.rt_report.specs.VcpuLines.{vcpu_lines}
use Rattle.rt_report.proofs.vcpu_lines.push_lines.Given as goal

-- what is written, and then the lines that are left
abbrev pub invariant-loop-v : goal.invariant-loop-v
invariant-loop-v g l =
    string_bytes l.text ++ vcpu_lines g.C.VcpuCounts.words l.sys l.v (drop l.v l.counts)
    ≡ string_bytes l.initial.text ++ vcpu_lines g.C.VcpuCounts.words l.sys 0 l.counts
