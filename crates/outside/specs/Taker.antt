-- What takes the bytes of a file piece by piece, and a file that was handed on to it.
use Rattle.std.specs.Prelude.{ℕ, List, ◌++◌, Option}
use Rattle.outside.specs.Counts.{Counts}
use Rattle.outside.specs.Files.{Files}
use Rattle.outside.specs.Reading.{IsWhole}

-- from one value to another it took these bytes, behind those that it had taken
abbrev pub Took : {A : Type 0} → (A → A → List ℕ → Type 0) → A → A → List ℕ → Type 0
Took {A} has_taken old new more =
    (start : A) (bytes : List ℕ) → has_taken start old bytes →
    has_taken start new (bytes ++ more)

-- from one value to another it took a whole file
pub record TookFile {A : Type 0} (has_taken : A → A → List ℕ → Type 0) (old new : A)
    (files : Option Files) (name : List ℕ) (limit : ℕ) (before after : Counts) : Type 0 where
  pub bytes : List ℕ
  pub took : has_taken old new bytes
  pub read : IsWhole files name limit before after bytes
