-- What only the private steps of a command promise each other.
use Rattle.std.specs.Prelude.{◌≡◌, ℕ, ◌≤◌, List, [], ◌∷◌, length, Option, Some, Result, Ok, Err}
use Rattle.outside.specs.Counts.{Counts, IsQuiet, RoseBy}
use Rattle.outside.specs.Files.{Files, Told, file_named}
use Rattle.tree_model.specs.View.{SystemView}
use Rattle.system_file.specs.SystemFile.{system_of}
use Rattle.command_frame.specs.declared.status.Status.{Status}
use Rattle.command_frame.specs.declared.answer.Ending.{Ending}
use Rattle.command_frame.specs.Answer.{Saying, AtContent, file_limit}
use Rattle.command_frame.specs.TwoFiles.{OnTwoFiles}
use Rattle.command_frame.specs.Reading.{read_of}
use Rattle.command_frame.specs.Steps.{Explains, EndTakes, HasTaken}

-- how the counts explain a step that gave its value, or ended the command
abbrev pub ExplainsStep : {Value : Type 0} → Result Value Ending → Counts → Counts → Type 0
ExplainsStep (Ok value) before after = IsQuiet before after
ExplainsStep (Err stop) before after = Explains stop before after

-- what a step took that gave its value, or ended the command
abbrev pub StepTakes : {Value : Type 0} → Result Value Ending → ℕ → ℕ → ℕ → Type 0
StepTakes (Ok value) bytes before after = RoseBy bytes before after
StepTakes (Err stop) bytes before after = EndTakes stop bytes before after

-- where the files are told, what a step over the file of that name took
abbrev pub FileTakes : {Value : Type 0} → Result Value Ending → Option Files → List ℕ → ℕ → ℕ
    → Type 0
FileTakes result files name before after =
    (all : Files) → files ≡ Some all
    → StepTakes result (read_of (file_named name all)) before after

-- the system that the file of that name spells
pub record IsSpelled (files : Option Files) (name : List ℕ) (sys : SystemView) : Type 0 where
  pub bytes : List ℕ
  pub held : Told files name (λ file. file ≡ Some bytes)
  pub short : length bytes ≤ file_limit
  pub spelled : system_of bytes ≡ Ok sys

-- the answer to file k that is absent or too long, or else of which this is said
pub record StopsAt (k : ℕ) (files : Option Files) (name : List ℕ) (Says : Saying)
    (status : Status) (text : List ℕ) : Type 0 where
  pub content : Option (List ℕ)
  pub held : Told files name (λ told. told ≡ content)
  pub answers : AtContent k content Says status text

-- the bytes of the file of that name, which is short enough
pub record IsHeld (files : Option Files) (name bytes : List ℕ) : Type 0 where
  pub held : Told files name (λ file. file ≡ Some bytes)
  pub short : length bytes ≤ file_limit

-- from one value to another a taker took the bytes of the file of that name, which is short enough
pub record TookHeld {A : Type 0} (has_taken : A → A → List ℕ → Type 0) (old new : A)
    (files : Option Files) (name : List ℕ) : Type 0 where
  pub bytes : List ℕ
  pub took : has_taken old new bytes
  pub held : IsHeld files name bytes

-- what began so has taken the bytes of the file of that name, which is short enough
pub record HasTakenFile {A : Type 0} (Begins : A → Type 0) (has_taken : A → A → List ℕ → Type 0)
    (files : Option Files) (name : List ℕ) (now : A) : Type 0 where
  pub bytes : List ℕ
  pub taken : HasTaken Begins has_taken bytes now
  pub held : Told files name (λ file. file ≡ Some bytes)

-- the answer over the files of two names, where this is said of the system of the first and of the
-- bytes of the second
pub record AnswersTwo (files : Option Files) (first second : List ℕ) (Says : SystemView → Saying)
    (status : Status) (text : List ℕ) : Type 0 where
  pub one : Option (List ℕ)
  pub two : Option (List ℕ)
  pub held_first : Told files first (λ file. file ≡ one)
  pub held_second : Told files second (λ file. file ≡ two)
  pub answers : OnTwoFiles (one ∷ two ∷ []) Says status text
