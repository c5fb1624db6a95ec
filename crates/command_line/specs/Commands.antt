-- The commands: the words that spell them, and the record of each.
use Rattle.std.specs.Prelude.{ℕ, List, [], ◌∷◌, ◌++◌, Option, None, option_map, option_and_then, codes, bytes_eq, if◌then◌else◌}
use Rattle.server_sched.specs.declared.supplies.Pattern.{Pattern}
use Rattle.command_line.specs.declared.commands.Command.{Command as Parsed}
use Rattle.command_line.specs.declared.commands.Command.TheVariants.{Admit as ToAdmit, Certify as ToCertify, Check as ToCheck, Rtds as ToRtds, Audit as ToAudit, Simulate as ToSimulate, Bulk as ToBulk, Responses as ToResponses, Interface as ToInterface, Choose as ToChoose, Session as ToSession, Place as ToPlace, Isolate as ToIsolate, Slack as ToSlack, Tally as ToTally, Version as ToVersion, Steal as ToSteal}
use Rattle.command_line.specs.PeriodWords.{range_of}
use Rattle.command_line.specs.Forms.{Form, form, alone, with_one, with_two, with_three, with_four, any_word, file_word, part_word, trace_word, pattern_word, slots_word, guests_word, deadline_word, four_words}
use Rattle.command_frame.specs.CommandSpec.{CommandSpec}
use Rattle.admit_commands.specs.Admit.{the_admit}
use Rattle.admit_commands.specs.Certify.{the_certify}
use Rattle.admit_commands.specs.Check.{the_check}
use Rattle.trace_commands.specs.Rtds.{the_rtds}
use Rattle.trace_commands.specs.Audit.{the_audit}
use Rattle.trace_commands.specs.Simulate.{the_simulate}
use Rattle.host_commands.specs.Bulk.{the_bulk}
use Rattle.guest_commands.specs.Responses.{the_responses}
use Rattle.guest_commands.specs.Interface.{the_interface}
use Rattle.guest_commands.specs.Choose.{the_choose}
use Rattle.host_commands.specs.Session.{the_session}
use Rattle.host_commands.specs.Place.{the_place}
use Rattle.trace_commands.specs.Isolate.{the_isolate}
use Rattle.guest_commands.specs.Slack.{the_slack}
use Rattle.trace_commands.specs.Tally.{the_tally}
use Rattle.command_line.specs.Version.{the_version}
use Rattle.trace_commands.specs.Steal.{the_steal}

-- one form of words each: the names of its files, in the order of the words, that of a leaf, and
-- its numbers
pub data Command : Type 0 where
  admit : (file : List ℕ) → Command
  certify : (file : List ℕ) → Command
  check : (file cert : List ℕ) → Command
  rtds : (file workload : List ℕ) (slots : ℕ) → Command
  audit : (file trace : List ℕ) → Command
  simulate : (file releases : List ℕ) → (pattern : Pattern) → (slots : ℕ) → Command
  bulk : (guests : ℕ) → Command
  responses : (file : List ℕ) → Command
  interface : (file part : List ℕ) (deadline : ℕ) → Command
  choose : (file part : List ℕ) (low high : ℕ) → Command
  session : (file script : List ℕ) → Command
  place : (file guests : List ℕ) → Command
  isolate : (file : List ℕ) → Command
  slack : (file part : List ℕ) → Command
  tally : (file trace : List ℕ) → Command
  version : Command
  steal : (file trace : List ℕ) → Command

-- what there is to say of each
abbrev pub spec_of : Command → CommandSpec
spec_of (admit file) = the_admit file
spec_of (certify file) = the_certify file
spec_of (check file cert) = the_check file cert
spec_of (rtds file workload slots) = the_rtds file workload slots
spec_of (audit file trace) = the_audit file trace
spec_of (simulate file releases pattern slots) = the_simulate file releases pattern slots
spec_of (bulk guests) = the_bulk guests
spec_of (responses file) = the_responses file
spec_of (interface file part deadline) = the_interface file part deadline
spec_of (choose file part low high) = the_choose file part low high
spec_of (session file script) = the_session file script
spec_of (place file guests) = the_place file guests
spec_of (isolate file) = the_isolate file
spec_of (slack file part) = the_slack file part
spec_of (tally file trace) = the_tally file trace
spec_of version = the_version
spec_of (steal file trace) = the_steal file trace

-- the command that was parsed
abbrev pub command_told : Parsed → Command
command_told (ToAdmit file) = admit file.now
command_told (ToCertify file) = certify file.now
command_told (ToCheck file cert) = check file.now cert.now
command_told (ToRtds file workload slots) = rtds file.now workload.now slots.count
command_told (ToAudit file trace) = audit file.now trace.now
command_told (ToSimulate file releases pattern slots) =
    simulate file.now releases.now pattern slots.count
command_told (ToBulk guests) = bulk guests.number
command_told (ToResponses file) = responses file.now
command_told (ToInterface file part deadline) = interface file.now part.now deadline.slots
command_told (ToChoose file part periods) = choose file.now part.now periods.low periods.high
command_told (ToSession file script) = session file.now script.now
command_told (ToPlace file guests) = place file.now guests.now
command_told (ToIsolate file) = isolate file.now
command_told (ToSlack file part) = slack file.now part.now
command_told (ToTally file trace) = tally file.now trace.now
command_told ToVersion = version
command_told (ToSteal file trace) = steal file.now trace.now

-- the names of a command's files, in the order of its words
abbrev pub file_names : Command → List (List ℕ)
file_names command = (spec_of command).files

-- a file and a leaf, two numbers that are a range of periods, and what they are to `choose`
abbrev pub choose_of : List (List ℕ) → Option Command
choose_of words = option_and_then
    (λ found. option_map (λ range. choose found.0 found.1 range.0 range.1)
    (range_of found.2 found.3))
    (four_words words)

-- the forms of words, in the order of the usage line
abbrev pub forms : List (Form Command)
forms =
    with_one (codes "admit") file_word admit
    ∷ with_one (codes "certify") file_word certify
    ∷ with_two (codes "check") file_word (any_word (codes " CERT")) check
    ∷ with_four (codes "simulate") file_word (any_word (codes " RELEASES")) pattern_word slots_word
    simulate
    ∷ with_three (codes "rtds") file_word (any_word (codes " WORKLOAD")) slots_word rtds
    ∷ with_two (codes "audit") file_word trace_word audit
    ∷ with_one (codes "bulk") guests_word bulk
    ∷ with_three (codes "interface") file_word part_word deadline_word interface
    ∷ with_one (codes "responses") file_word responses
    ∷ form (codes "choose") (codes " FILE PART LOW HIGH") choose_of
    ∷ with_two (codes "session") file_word (any_word (codes " SCRIPT")) session
    ∷ with_two (codes "place") file_word (any_word (codes " GUESTS")) place
    ∷ with_one (codes "isolate") file_word isolate
    ∷ with_two (codes "slack") file_word part_word slack
    ∷ with_two (codes "tally") file_word trace_word tally
    ∷ alone (codes "version") version
    ∷ with_two (codes "steal") file_word trace_word steal
    ∷ []

-- the command that the words spell: its own word, and then its files and numbers
abbrev pub spelled_by : List (Form Command) → List ℕ → List (List ℕ) → Option Command
spelled_by [] word rest = None
spelled_by (first ∷ more) word rest =
    if bytes_eq word first.word then first.spells rest else spelled_by more word rest

abbrev pub command_of : List (List ℕ) → Option Command
command_of [] = None
command_of (word ∷ rest) = spelled_by forms word rest

-- the answer to words that spell none: every form
abbrev pub shown_forms : List (Form Command) → List ℕ
shown_forms [] = []
shown_forms (last ∷ []) = last.word ++ last.shown
shown_forms (first ∷ more) = first.word ++ (first.shown ++ (codes " | " ++ shown_forms more))

abbrev pub usage_line : List ℕ
usage_line = codes "usage: rtadmit " ++ (shown_forms forms ++ codes "\n")
