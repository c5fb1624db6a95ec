-- What the private steps of `run` promise each other.
use Rattle.std.specs.Prelude.{◌≡◌, ℕ, List, Option, Some, None}
use Rattle.outside.specs.Files.{Files}
use Rattle.command_frame.specs.declared.status.Status.{Status}
use Rattle.command_frame.specs.declared.status.Status.TheVariants.{Usage}
use Rattle.command_frame.specs.declared.answer.Ending.{Ending}
use Rattle.command_frame.specs.Steps.{IsSaid, EndTakes}
use Rattle.command_line.specs.Commands.{Command, spec_of, usage_line}
use Rattle.command_line.specs.Reading.{bytes_to_read}

-- over what the files of the command hold, this status and this text are the answer; or this is the
-- usage line
abbrev pub IsSaidTo : Option Command → Option Files → Status → List ℕ → Type 0
IsSaidTo None files status text = (status ≡ Usage) × (text ≡ usage_line)
IsSaidTo (Some command) files status text = IsSaid (spec_of command) files status text

-- where the files are told, what a command over them took
abbrev pub CommandTakes : Option Command → Option Files → Ending → ℕ → ℕ → Type 0
CommandTakes command files end before after =
    (all : Files) → files ≡ Some all → EndTakes end (bytes_to_read command all) before after
