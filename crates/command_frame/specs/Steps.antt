-- How a command ends, and what the counts say of it.
use Rattle.std.specs.Prelude.{◌≡◌, ℕ, ◌+◌, ◌≤◌, List, length, map, Option, Some, Result, Ok, Err, ⊤}
use Rattle.outside.specs.Counts.{Counts, IsQuiet, Rose, RoseBy, RoseBeyond}
use Rattle.outside.specs.Files.{Files, file_named}
use Rattle.command_frame.specs.declared.status.Status.{Status}
use Rattle.command_frame.specs.declared.status.Status.TheVariants.{Yes, No, BadFile, Wide, Absent, TooLong}
use Rattle.command_frame.specs.declared.answer.Answer.{Answer}
use Rattle.command_frame.specs.declared.answer.Ending.{Ending}
use Rattle.command_frame.specs.declared.answer.Ending.TheVariants.{Answered, Unread, NoMemory as NoRoom}
use Rattle.command_frame.specs.CommandSpec.{CommandSpec}
use Rattle.command_frame.specs.Answer.{Contents, AreContentsOf, file_limit}
use Rattle.command_frame.specs.Reading.{read_in}

-- over what the files of these names hold, this status and this text are the answer
pub record IsSaidOver (names : List (List ℕ)) (Answers : Contents → Status → List ℕ → Type 0)
    (files : Option Files) (status : Status) (text : List ℕ) : Type 0 where
  pub contents : Contents
  pub held : AreContentsOf names files contents
  pub answers : Answers contents status text

-- and so over those of a command
abbrev pub IsSaid : CommandSpec → Option Files → Status → List ℕ → Type 0
IsSaid spec files status text = IsSaidOver spec.files spec.Answers files status text

-- what is said of the answer, where a command ends with one
abbrev pub IfAnswered : Ending → (Answer → Type 0) → Type 0
IfAnswered (Answered answer) P = P answer
IfAnswered Unread P = ⊤
IfAnswered NoRoom P = ⊤

-- how a command ends that came to its answer, or ended before
abbrev pub ending_of : Result Answer Ending → Ending
ending_of (Ok answer) = Answered answer
ending_of (Err ending) = ending

-- how the counts explain an answer
abbrev pub ExplainsAnswer : Status → Counts → Counts → Type 0
ExplainsAnswer Absent before after =
    (after.faults ≡ before.faults) × Rose before.absences after.absences
ExplainsAnswer TooLong before after =
    IsQuiet before after × RoseBeyond file_limit before.taken after.taken
ExplainsAnswer _ before after = IsQuiet before after

-- how the counts explain that a command ended so
abbrev pub Explains : Ending → Counts → Counts → Type 0
Explains (Answered answer) before after = ExplainsAnswer answer.status before after
Explains Unread before after =
    Rose before.faults after.faults × (after.absences ≡ before.absences)
Explains NoRoom before after = after.faults ≡ before.faults

-- what a command that ends so took of the store: so many bytes, and no more where it has no answer
abbrev pub EndTakes : Ending → ℕ → ℕ → ℕ → Type 0
EndTakes (Answered answer) bytes before after = RoseBy bytes before after
EndTakes Unread bytes before after = after ≤ before + bytes
EndTakes NoRoom bytes before after = after ≤ before + bytes

-- where the files are told, what a command over those of these names took
abbrev pub NamesTake : List (List ℕ) → Option Files → Ending → ℕ → ℕ → Type 0
NamesTake names files end before after =
    (all : Files) → files ≡ Some all
    → EndTakes end (read_in (map (λ name. file_named name all) names)) before after

-- what began so has taken these bytes of a file that is short enough
pub record HasTaken {A : Type 0} (Begins : A → Type 0) (has_taken : A → A → List ℕ → Type 0)
    (bytes : List ℕ) (now : A) : Type 0 where
  pub start : A
  pub begun : Begins start
  pub took : has_taken start now bytes
  pub short : length bytes ≤ file_limit

-- an answer to files that were read: no other status is said of what they hold
abbrev pub IsJudged : Status → Type 0
IsJudged Yes = ⊤
IsJudged No = ⊤
IsJudged BadFile = ⊤
IsJudged Wide = ⊤
IsJudged _ = ⊥

-- how a command ends whose files were read
abbrev pub EndsJudged : Ending → Type 0
EndsJudged (Answered answer) = IsJudged answer.status
EndsJudged Unread = ⊥
EndsJudged NoRoom = ⊤
