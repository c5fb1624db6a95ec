-- The text of a tally: that of the audit, and then a line for each VCPU, in the order of the file.
-- Times are told in nanoseconds.
use Rattle.std.specs.Prelude.{ℕ, List, [], ◌∷◌, ◌++◌, codes}
use Rattle.std.specs.Fmt.{decimal}
use Rattle.tree_model.specs.View.{SystemView}
use Rattle.auditor.specs.declared.finding.Finding.{Finding}
use Rattle.vcpu_watch.specs.declared.tally.Tally.{Tally}
use Rattle.rt_report.specs.Words.{joined}
use Rattle.rt_report.specs.Audit.{audit_text}
use Rattle.rt_report.specs.VcpuLines.{time_words, vcpu_lines}

-- `vcpu NAME begun=N judged=N short=N over=N least_ns=X most_ns=Y`
abbrev pub counts_words : Tally → List ℕ
counts_words tally = joined (
    codes " begun=" ∷ decimal tally.begun ∷ codes " judged=" ∷ decimal tally.judged
    ∷ codes " short=" ∷ decimal tally.short ∷ codes " over=" ∷ decimal tally.over ∷ [])

abbrev pub tally_words : List ℕ → Tally → List ℕ
tally_words name tally = joined (
    codes "vcpu " ∷ name ∷ counts_words tally
    ∷ codes " least_ns=" ∷ time_words tally.least
    ∷ codes " most_ns=" ∷ time_words tally.most ∷ codes "\n" ∷ [])

-- the lines of the parts from v on
abbrev pub tally_lines : SystemView → ℕ → List Tally → List ℕ
tally_lines = vcpu_lines tally_words

abbrev pub tally_text : SystemView → List ℕ → Finding → List Tally → List ℕ
tally_text sys budgets finding tallies =
    audit_text sys budgets finding ++ tally_lines sys 0 tallies
