-- The files that words name, and how much of them their command reads.
use Rattle.std.specs.Prelude.{◌≡◌, ℕ, List, [], map, Option, Some, None}
use Rattle.outside.specs.Files.{Files, file_named}
use Rattle.command_frame.specs.Answer.{Contents}
use Rattle.command_frame.specs.Reading.{read_in}
use Rattle.command_line.specs.Commands.{Command, file_names}

-- the names of the files that words name
abbrev pub names_of : Option Command → List (List ℕ)
names_of None = []
names_of (Some command) = file_names command

-- what stands under the names that a command gives
abbrev pub contents_of : Command → Files → Contents
contents_of command files = map (λ name. file_named name files) (file_names command)

-- the bytes that a command reads of its files, and words that spell none
abbrev pub bytes_to_read : Option Command → Files → ℕ
bytes_to_read None files = 0
bytes_to_read (Some command) files = read_in (contents_of command files)

-- words that name no file: they spell no command, or one without files
abbrev pub NamesNoFile : Option Command → Type 0
NamesNoFile command = names_of command ≡ []
