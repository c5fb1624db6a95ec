-- What is so of each command.
pub mod Version
use Rattle.std.specs.Prelude.{⊤, Option, Some, None}
use Rattle.command_line.specs.declared.commands.Command.{Command as Parsed}
use Rattle.command_line.specs.declared.commands.Command.TheVariants.{Admit as ToAdmit, Certify as ToCertify, Check as ToCheck, Rtds as ToRtds, Audit as ToAudit, Simulate as ToSimulate, Bulk as ToBulk, Responses as ToResponses, Interface as ToInterface, Choose as ToChoose, Session as ToSession, Place as ToPlace, Isolate as ToIsolate, Slack as ToSlack, Tally as ToTally, Version as ToVersion, Steal as ToSteal}
use Rattle.command_line.specs.Commands.{Command, spec_of, command_told}
use Rattle.command_frame.proofs.CommandLaws.{CommandLaws}
use Rattle.admit_commands.proofs.Laws.Admit.{admit_laws}
use Rattle.admit_commands.proofs.Laws.Certify.{certify_laws}
use Rattle.admit_commands.proofs.Laws.Check.{check_laws}
use Rattle.trace_commands.proofs.Laws.Rtds.{rtds_laws}
use Rattle.trace_commands.proofs.Laws.Audit.{audit_laws}
use Rattle.trace_commands.proofs.Laws.Simulate.{simulate_laws}
use Rattle.host_commands.proofs.Laws.Bulk.{bulk_laws}
use Rattle.guest_commands.proofs.Laws.Responses.{responses_laws}
use Rattle.guest_commands.proofs.Laws.Interface.{interface_laws}
use Rattle.guest_commands.proofs.Laws.Choose.{choose_laws}
use Rattle.host_commands.proofs.Laws.Session.{session_laws}
use Rattle.host_commands.proofs.Laws.Place.{place_laws}
use Rattle.trace_commands.proofs.Laws.Isolate.{isolate_laws}
use Rattle.guest_commands.proofs.Laws.Slack.{slack_laws}
use Rattle.trace_commands.proofs.Laws.Tally.{tally_laws}
use Rattle.command_line.proofs.Laws.Version.{version_laws}
use Rattle.trace_commands.proofs.Laws.Steal.{steal_laws}

pub laws_of : (command : Parsed) → CommandLaws (spec_of (command_told command))
laws_of (ToAdmit file) = admit_laws file.now
laws_of (ToCertify file) = certify_laws file.now
laws_of (ToCheck file cert) = check_laws file.now cert.now
laws_of (ToRtds file workload slots) = rtds_laws file.now workload.now slots.count slots.in_reach
laws_of (ToAudit file trace) = audit_laws file.now trace.now
laws_of (ToSimulate file releases pattern slots) = simulate_laws file.now releases.now pattern slots.count
laws_of (ToBulk guests) = bulk_laws guests.number
laws_of (ToResponses file) = responses_laws file.now
laws_of (ToInterface file part deadline) = interface_laws file.now part.now deadline.slots deadline.some
laws_of (ToChoose file part periods) = choose_laws file.now part.now periods.low periods.high periods.some
laws_of (ToSession file script) = session_laws file.now script.now
laws_of (ToPlace file guests) = place_laws file.now guests.now
laws_of (ToIsolate file) = isolate_laws file.now
laws_of (ToSlack file part) = slack_laws file.now part.now
laws_of (ToTally file trace) = tally_laws file.now trace.now
laws_of ToVersion = version_laws
laws_of (ToSteal file trace) = steal_laws file.now trace.now

-- the laws of the command, where there is one
abbrev pub AreLawful : Option Command → Type 0
AreLawful None = ⊤
AreLawful (Some command) = CommandLaws (spec_of command)
