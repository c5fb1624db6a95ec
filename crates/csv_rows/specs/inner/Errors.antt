-- The errors of the kit's reader.
use Rattle.csv.specs.declared.error.ErrorKind.{ErrorKind}
use Rattle.csv.specs.declared.error.ErrorKind.TheVariants as kind

-- the errors of a reader that takes records of any length and any bytes: want of memory, or what
-- reads the bytes fails
abbrev pub IsOfAny : ErrorKind → Type 0
IsOfAny kind.OutOfMemory = Unit {0}
IsOfAny (kind.Io e) = Unit {0}
IsOfAny (kind.UnequalLengths pos expected len) = ⊥
IsOfAny (kind.Utf8 pos err) = ⊥
IsOfAny (kind.Serialize text) = ⊥
IsOfAny (kind.Deserialize pos err) = ⊥
