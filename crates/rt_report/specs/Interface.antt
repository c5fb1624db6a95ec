-- The text of the interface of a leaf.
use Rattle.std.specs.Prelude.{ℕ, List, [], ◌∷◌, codes}
use Rattle.std.specs.Fmt.{decimal}
use Rattle.tree_model.specs.View.{PartView}
use Rattle.rt_report.specs.Words.{joined}

-- the verdict, and `interface PART period=P deadline=D budget=B`
abbrev pub interface_text : PartView → ℕ → ℕ → List ℕ
interface_text part deadline budget = joined (
    codes "verdict=yes\ninterface " ∷ part.name
    ∷ codes " period=" ∷ decimal part.period
    ∷ codes " deadline=" ∷ decimal deadline
    ∷ codes " budget=" ∷ decimal budget ∷ codes "\n" ∷ [])
