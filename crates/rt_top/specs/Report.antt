-- What `run` reports: the answer to a command over what its files hold, what it means, and what of
-- its text is written.
use Rattle.std.specs.Prelude.{◌≡◌, ℕ, List, Option, Some, None, ⊤}
use Rattle.std.specs.Io.KnownBytes.{Appends}
use Rattle.outside.specs.Files.{Files}
use Rattle.outside.specs.Written.{AppendsProperPrefix}
use Rattle.command_frame.specs.declared.status.Status.{Status}
use Rattle.command_frame.specs.declared.status.Status.TheVariants.{Usage, ReadFault, WriteFault, NoMemory}
use Rattle.command_line.specs.Commands.{Command, spec_of, usage_line}
use Rattle.command_line.specs.Reading.{names_of}
use Rattle.command_frame.specs.Answer.{Contents, AreContentsOf, IsOne}

-- the answer to a command, whose files have these contents
abbrev pub JobAnswers : Command → Contents → Status → List ℕ → Type 0
JobAnswers command = (spec_of command).Answers

-- the answer to words: the usage line where they spell no command
abbrev pub Answers : Option Command → Contents → Status → List ℕ → Type 0
Answers None contents status text = (status ≡ Usage) × (text ≡ usage_line)
Answers (Some command) contents status text = JobAnswers command contents status text

-- what the answer means
abbrev pub Means : Option Command → Contents → Status → List ℕ → Type 0
Means None contents status text = ⊤
Means (Some command) contents status text = (spec_of command).Means contents status text

-- where the files are told, these are the contents of those that the command names
abbrev pub AreContents : Option Command → Option Files → Contents → Type 0
AreContents command = AreContentsOf (names_of command)

-- over what the files of the command hold, this status and this text are the answer, and they mean
-- this
pub record IsAnswer (command : Option Command) (files : Option Files) (status : Status)
    (text : List ℕ) : Type 0 where
  pub contents : Contents
  pub held : AreContents command files contents
  pub answers : Answers command contents status text
  pub means : Means command contents status text

-- an answer whose whole text is written
pub record IsWritten (command : Option Command) (files : Option Files) (status : Status)
    (old new : Option (List ℕ)) : Type 0 where
  pub text : List ℕ
  pub answer : IsAnswer command files status text
  pub written : Appends old new text

-- an answer, of whose text a proper front is written
pub record IsCut (command : Option Command) (files : Option Files) (old new : Option (List ℕ))
    : Type 0 where
  pub status : Status
  pub text : List ℕ
  pub answer : IsAnswer command files status text
  pub written : AppendsProperPrefix old new text

-- the answer is written whole; writing it failed; or, after a failed read or without memory,
-- nothing is written
abbrev pub Reported
    : Option Command → Option Files → Status → Option (List ℕ) → Option (List ℕ) → Type 0
Reported command files WriteFault old new = IsCut command files old new
Reported command files ReadFault old new = new ≡ old
Reported command files NoMemory old new = new ≡ old
Reported command files status old new = IsWritten command files status old new

-- to a command over told files there is one answer
abbrev pub HasOneAnswer : Option Command → Files → Type 0
HasOneAnswer command files = IsOne (IsAnswer command (Some files))
