-- How many bytes the words take of told files, and how words end that name none.
use Rattle.std.proofs.Common.{◌≡◌, ◌≢◌, ◌⊎◌, ℕ, ◌+◌, ◌≤◌, List, Option, Some, None, refl, ◌∙◌, subst, inl, inr}
use Rattle.std.specs.Prelude.{option_map}
use Rattle.outside.specs.Counts.{RoseBy}
use Rattle.outside.specs.Files.{Files}
use Rattle.command_frame.specs.declared.status.Status.{Status}
use Rattle.command_frame.specs.declared.status.Status.TheVariants.{Yes, No, Usage, BadFile, Wide, Absent, TooLong, ReadFault, WriteFault, NoMemory}
use Rattle.command_frame.specs.declared.answer.Answer.{Answer}
use Rattle.command_frame.specs.declared.answer.Ending.TheVariants.{Answered, Unread}
use Rattle.command_line.specs.Commands.{Command, command_told}
use Rattle.rt_top.specs.Report.{IsAnswer}
use Rattle.command_line.specs.Reading.{bytes_to_read, NamesNoFile}
use Rattle.rt_top.specs.Reading.{Takes, EndsWithoutFile}
use Rattle.command_line.specs.declared.commands.Command.{Command as Parsed}
use Rattle.command_line.specs.Steps.{CommandTakes}
use Rattle.command_line.proofs.Laws.{AreLawful}

status_takes : (status : Status) (bytes before after : ℕ) → RoseBy bytes before after → Takes status bytes before after
status_takes Yes bytes before after rose = rose
status_takes No bytes before after rose = rose
status_takes Usage bytes before after rose = rose
status_takes BadFile bytes before after rose = rose
status_takes Wide bytes before after rose = rose
status_takes Absent bytes before after rose = rose
status_takes TooLong bytes before after rose = rose
status_takes ReadFault bytes before after rose = rose.1
status_takes WriteFault bytes before after rose = rose
status_takes NoMemory bytes before after rose = rose.1

-- how words end that name no file: as they are answered, or where writing that failed
with_it : (answered status result : Status) → status ≡ answered → (result ≡ status) ⊎ (result ≡ WriteFault)
    → (result ≡ answered) ⊎ (result ≡ WriteFault) ⊎ (result ≡ NoMemory)
with_it answered status result is which = elim which [ inl e ↦ inl (e ∙ is) | inr w ↦ inr (inl w) ]

pub ends_without_file : (command : Option Command) → AreLawful command
    → (files : Option Files) (status result : Status) (text : List ℕ) → IsAnswer command files status text
    → (result ≡ status) ⊎ (result ≡ WriteFault) → EndsWithoutFile command result
ends_without_file None laws files status result text answer which = with_it Usage status result answer.answers.0 which
ends_without_file (Some command) laws files status result text answer which =
    λ none. with_it Yes status result (laws.without_file none answer.contents status text answer.answers) which

pub no_memory_without_file : (command : Option Command) → EndsWithoutFile command NoMemory
no_memory_without_file None = inr (inr refl)
no_memory_without_file (Some command) = λ none. inr (inr refl)

-- only a command that names a file ends where reading one failed
unread_with_file : (command : Option Command) → (NamesNoFile command → Unread ≢ Unread)
    → EndsWithoutFile command ReadFault
unread_with_file None never = absurd (never refl refl)
unread_with_file (Some command) never = λ none. absurd (never none refl)

-- what the words took, where what was parsed took that
pub finished_takes : (parsed : Option Parsed) (command : Option Command) (told : Option Files) (answer : Answer)
    (result : Status) (before after : ℕ) → option_map command_told parsed ≡ command
    → CommandTakes (option_map command_told parsed) told (Answered answer) before after →
    (files : Files) → told ≡ Some files → Takes result (bytes_to_read command files) before after
finished_takes parsed command told answer result before after spells took files is =
    status_takes result (bytes_to_read command files) before after
    (subst (λ (x : Option Command). RoseBy (bytes_to_read x files) before after) spells (took files is))

pub unanswered_takes : (parsed : Option Parsed) (command : Option Command) (told : Option Files) (before after : ℕ)
    → option_map command_told parsed ≡ command
    → ((files : Files) → told ≡ Some files → after ≤ before + bytes_to_read (option_map command_told parsed) files) →
    (files : Files) → told ≡ Some files → after ≤ before + bytes_to_read command files
unanswered_takes parsed command told before after spells took files is =
    subst (λ (x : Option Command). after ≤ before + bytes_to_read x files) spells (took files is)

pub unread_of_parsed : (parsed : Option Parsed) (command : Option Command) → option_map command_told parsed ≡ command
    → (NamesNoFile (option_map command_told parsed) → Unread ≢ Unread) → EndsWithoutFile command ReadFault
unread_of_parsed parsed command spells never =
    unread_with_file command (subst (λ (x : Option Command). NamesNoFile x → Unread ≢ Unread) spells never)
