-- The text of `steal`: yes and how many periods were kept, or the denied period that begins first;
-- and then a line for each VCPU, in the order of the file. Moments and times are told in
-- nanoseconds.
use Rattle.std.specs.Prelude.{ℕ, ◌-◌, ◌<◌, List, [], ◌∷◌, ◌++◌, length, codes, ⊤}
use Rattle.std.specs.Fmt.{decimal}
use Rattle.tree_model.specs.View.{SystemView}
use Rattle.trace_file.specs.Periods.{period_of, budget_of}
use Rattle.auditor.specs.declared.steal.StealFinding.{StealFinding}
use Rattle.auditor.specs.declared.steal.StealFinding.TheVariants.{Yes, Denied}
use Rattle.auditor.specs.declared.steal.StealTally.{StealTally}
use Rattle.rt_report.specs.Words.{joined}
use Rattle.rt_report.specs.Audit.{yes_text, period_line}
use Rattle.rt_report.specs.VcpuLines.{time_words, vcpu_lines}

-- a denied period, with what it has beyond the budget
abbrev pub steal_finding_text : SystemView → List ℕ → StealFinding → List ℕ
steal_finding_text sys budgets (Yes periods) = yes_text periods
steal_finding_text sys budgets (Denied v from stolen) =
    period_line (codes "verdict=no\nstolen") sys v from stolen
    (period_of sys v - budget_of budgets v)

-- a finding that tells no VCPU, or a part of the system
abbrev pub IsStealOfPart : SystemView → StealFinding → Type 0
IsStealOfPart sys (Yes periods) = ⊤
IsStealOfPart sys (Denied v from stolen) = v < length sys.parts

-- `vcpu NAME begun=N kept=N denied=N most_ns=X`
abbrev pub steal_words : List ℕ → StealTally → List ℕ
steal_words name tally = joined (
    codes "vcpu " ∷ name ∷ codes " begun=" ∷ decimal tally.begun
    ∷ codes " kept=" ∷ decimal tally.kept ∷ codes " denied=" ∷ decimal tally.denied
    ∷ codes " most_ns=" ∷ time_words tally.most ∷ codes "\n" ∷ [])

-- the lines of the parts from v on
abbrev pub steal_lines : SystemView → ℕ → List StealTally → List ℕ
steal_lines = vcpu_lines steal_words

abbrev pub steal_text : SystemView → List ℕ → StealFinding → List StealTally → List ℕ
steal_text sys budgets finding tallies =
    steal_finding_text sys budgets finding ++ steal_lines sys 0 tallies
