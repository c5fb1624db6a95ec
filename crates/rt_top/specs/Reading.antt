-- How much a run takes of its files, and how words end that name none.
use Rattle.std.specs.Prelude.{◌≡◌, ◌⊎◌, ℕ, ◌+◌, ◌≤◌, [], Option, Some, None}
use Rattle.outside.specs.Counts.{RoseBy}
use Rattle.command_frame.specs.declared.status.Status.{Status}
use Rattle.command_frame.specs.declared.status.Status.TheVariants.{Yes, Usage, ReadFault, WriteFault, NoMemory}
use Rattle.command_line.specs.Commands.{Command, file_names}

-- so many bytes were taken of the store; and no more, where a read failed or memory ran out
abbrev pub Takes : Status → ℕ → ℕ → ℕ → Type 0
Takes ReadFault bytes before after = after ≤ before + bytes
Takes NoMemory bytes before after = after ≤ before + bytes
Takes _ bytes before after = RoseBy bytes before after

-- with this status, or writing failed, or memory ran out
abbrev pub EndsWith : Status → Status → Type 0
EndsWith answered status = (status ≡ answered) ⊎ (status ≡ WriteFault) ⊎ (status ≡ NoMemory)

-- how words end that name no file: with the usage line, or, where they spell a command, with yes
abbrev pub EndsWithoutFile : Option Command → Status → Type 0
EndsWithoutFile None status = EndsWith Usage status
EndsWithoutFile (Some command) status = file_names command ≡ [] → EndsWith Yes status
