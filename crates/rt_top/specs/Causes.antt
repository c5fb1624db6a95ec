-- Why a command stops, as a store counts it, and when a verdict comes.
use Rattle.std.specs.Prelude.{◌≡◌, ℕ, ◌-◌, ◌^◌, ◌<◌, Option, Some, ⊤}
use Rattle.outside.specs.Files.{Files}
use Rattle.command_frame.specs.declared.status.Status.{Status}
use Rattle.command_frame.specs.declared.status.Status.TheVariants.{Absent, WriteFault, NoMemory}
use Rattle.command_line.specs.Commands.{Command, spec_of}
use Rattle.command_line.specs.Reading.{contents_of}
use Rattle.command_frame.specs.Answer.{Contents}

-- a status before which each name was there: behind the others a missing file may stand, since its
-- answer may fail to be written, or to be made for want of memory
abbrev pub HasNoAbsence : Status → Type 0
HasNoAbsence Absent = ⊥
HasNoAbsence WriteFault = ⊥
HasNoAbsence NoMemory = ⊥
HasNoAbsence _ = ⊤

-- a command that can be judged by what its files hold: they are there, short enough and well formed
abbrev pub CanJudge : Command → Contents → Type 0
CanJudge command = (spec_of command).CanJudge

-- the words spell a command, and the files are told and let it be judged
pub record IsJudgeable (command : Option Command) (files : Option Files) : Type 0 where
  pub spelled : Command
  pub spells : command ≡ Some spelled
  pub all : Files
  pub told : files ≡ Some all
  pub judged : CanJudge spelled (contents_of spelled all)

-- a count that did not rise, and does not stand at its last value
abbrev pub Stays : ℕ → ℕ → Type 0
Stays before after = (before < 2 ^ 64 - 1) × (after ≡ before)

-- how a command ends that can be judged by what its files hold
abbrev pub EndsAs : Command → Contents → Status → Type 0
EndsAs command = (spec_of command).EndsAs

abbrev pub IsVerdictOf
    : {command : Option Command} {files : Option Files} → IsJudgeable command files
    → Status → Type 0
IsVerdictOf can status = EndsAs can.spelled (contents_of can.spelled can.all) status
