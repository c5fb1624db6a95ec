-- The texts of a file that is not there, and of one that is too long. File words count from 1.
use Rattle.std.specs.Prelude.{ℕ, List, [], ◌∷◌, codes}
use Rattle.std.specs.Fmt.{decimal}
use Rattle.rt_report.specs.Words.{joined}

-- `absent file=K`
abbrev pub absent_text : ℕ → List ℕ
absent_text file = joined (codes "absent file=" ∷ decimal file ∷ codes "\n" ∷ [])

-- `toolong file=K`
abbrev pub too_long_text : ℕ → List ℕ
too_long_text file = joined (codes "toolong file=" ∷ decimal file ∷ codes "\n" ∷ [])
