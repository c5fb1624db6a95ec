-- The words of a miss, behind the name of what misses.
use Rattle.std.specs.Prelude.{ℕ, List, [], ◌∷◌, codes}
use Rattle.std.specs.Fmt.{decimal}
use Rattle.slot_model.specs.declared.miss.Miss.{Miss}
use Rattle.rt_report.specs.Words.{joined}

-- `NAME release=R deadline=D got=G of=W`
abbrev pub missed_words : List ℕ → Miss → List ℕ
missed_words name miss = joined (
    name ∷ codes " release=" ∷ decimal miss.release
    ∷ codes " deadline=" ∷ decimal miss.deadline
    ∷ codes " got=" ∷ decimal miss.got
    ∷ codes " of=" ∷ decimal miss.work ∷ codes "\n" ∷ [])
