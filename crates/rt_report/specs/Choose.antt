-- The texts of a choice of a period for a leaf.
use Rattle.std.specs.Prelude.{ℕ, List, [], ◌∷◌, codes}
use Rattle.std.specs.Fmt.{decimal}
use Rattle.tree_model.specs.View.{PartView}
use Rattle.rt_report.specs.Words.{joined}

-- the verdict, and `choose PART period=P budget=B`
abbrev pub best_text : PartView → ℕ → ℕ → List ℕ
best_text part period budget = joined (
    codes "verdict=yes\nchoose " ∷ part.name
    ∷ codes " period=" ∷ decimal period
    ∷ codes " budget=" ∷ decimal budget ∷ codes "\n" ∷ [])

-- the verdict, and `nothing over=N wide=M`
abbrev pub nothing_text : ℕ → ℕ → List ℕ
nothing_text over wide = joined (
    codes "verdict=no\nnothing over=" ∷ decimal over
    ∷ codes " wide=" ∷ decimal wide ∷ codes "\n" ∷ [])
