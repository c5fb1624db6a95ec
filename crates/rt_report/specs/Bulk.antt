-- The text of a generated host: the verdict, and what is counted of it and of its run.
use Rattle.std.specs.Prelude.{ℕ, List, [], ◌∷◌, codes}
use Rattle.std.specs.Fmt.{decimal}
use Rattle.bulk_run.specs.declared.counts.BulkCounts.{BulkCounts}
use Rattle.rt_report.specs.Words.{joined}

-- `guests=N cores=C budgets=S`
abbrev pub host_words : BulkCounts → List ℕ
host_words counts = joined (
    codes "guests=" ∷ decimal counts.guests
    ∷ codes " cores=" ∷ decimal counts.cores
    ∷ codes " budgets=" ∷ decimal counts.budgets ∷ [])

-- ` jobs=J missed=M pending=W`
abbrev pub run_words : BulkCounts → List ℕ
run_words counts = joined (
    codes " jobs=" ∷ decimal counts.jobs
    ∷ codes " missed=" ∷ decimal counts.missed
    ∷ codes " pending=" ∷ decimal counts.pending ∷ codes "\n" ∷ [])

abbrev pub bulk_text : BulkCounts → List ℕ
bulk_text counts = joined (
    codes "verdict=yes\n" ∷ host_words counts ∷ run_words counts ∷ [])
