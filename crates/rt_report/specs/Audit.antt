-- The text of an audit: the verdict, and how many periods were judged, or the broken period that
-- begins first. Moments and budgets are told in nanoseconds.
use Rattle.std.specs.Prelude.{ℕ, ◌<◌, List, [], ◌∷◌, length, codes, ⊤}
use Rattle.std.specs.Fmt.{decimal}
use Rattle.tree_model.specs.View.{SystemView}
use Rattle.tree_model.specs.System.{part_at}
use Rattle.trace_file.specs.Periods.{budget_of}
use Rattle.auditor.specs.declared.finding.Finding.{Finding}
use Rattle.auditor.specs.declared.finding.Finding.TheVariants.{Yes, Short, Over}
use Rattle.rt_report.specs.Words.{joined}

-- yes, and how many periods were judged
abbrev pub yes_text : ℕ → List ℕ
yes_text periods = joined (codes "verdict=yes\nperiods=" ∷ decimal periods ∷ codes "\n" ∷ [])

-- `WORD NAME from_ns=X got_ns=G of_ns=B`
abbrev pub period_line : List ℕ → SystemView → (v from got of : ℕ) → List ℕ
period_line word sys v from got of = joined (
    word ∷ codes " " ∷ (part_at sys v).name
    ∷ codes " from_ns=" ∷ decimal from
    ∷ codes " got_ns=" ∷ decimal got
    ∷ codes " of_ns=" ∷ decimal of ∷ codes "\n" ∷ [])

abbrev pub audit_text : SystemView → List ℕ → Finding → List ℕ
audit_text sys budgets (Yes periods) = yes_text periods
audit_text sys budgets (Short v from got) =
    period_line (codes "verdict=no\nshort") sys v from got (budget_of budgets v)
audit_text sys budgets (Over v from got) =
    period_line (codes "verdict=no\nover") sys v from got (budget_of budgets v)

-- a finding that tells no VCPU, or a part of the system
abbrev pub IsFindingOf : SystemView → Finding → Type 0
IsFindingOf sys (Yes periods) = ⊤
IsFindingOf sys (Short v from got) = v < length sys.parts
IsFindingOf sys (Over v from got) = v < length sys.parts
