-- The line of the version, which the sources have once, as a constant.
use Rattle.std.specs.Prelude.{ℕ, List, [], ◌∷◌, codes}
use Rattle.rt_report.specs.declared.version.TheConstants.{VERSION}
use Rattle.rt_report.specs.Words.{joined}

-- `rtadmit VERSION`
abbrev pub version_text : List ℕ
version_text = joined (codes "rtadmit " ∷ VERSION.now ∷ codes "\n" ∷ [])
