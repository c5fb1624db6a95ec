-- What each command reads and what its answer means. A wrong definition breaks one of them.
use Rattle.std.proofs.Common.{◌≡◌, ℕ, List, [], ◌∷◌, refl}
use Rattle.server_sched.specs.declared.supplies.Pattern.{Pattern}
use Rattle.rt_report.specs.Version.{version_text}
use Rattle.command_frame.specs.declared.status.Status.{Status}
use Rattle.command_frame.specs.Answer.{Contents, IfSystem}
use Rattle.admit_commands.specs.Admit.{AdmitMeans}
use Rattle.admit_commands.specs.Certify.{CertifyMeans}
use Rattle.admit_commands.specs.Check.{CheckMeans}
use Rattle.trace_commands.specs.Rtds.{RunMeans}
use Rattle.trace_commands.specs.Audit.{AuditMeans}
use Rattle.trace_commands.specs.Simulate.{SimulateMeans}
use Rattle.trace_commands.specs.Isolate.{IsolateMeans}
use Rattle.trace_commands.specs.Tally.{TallyMeans}
use Rattle.trace_commands.specs.Steal.{StealMeans}
use Rattle.guest_commands.specs.Responses.{RespondMeans}
use Rattle.guest_commands.specs.Interface.{InterfaceMeans}
use Rattle.guest_commands.specs.Choose.{ChooseMeans}
use Rattle.guest_commands.specs.Slack.{SlackMeans}
use Rattle.host_commands.specs.Bulk.{HostKeepsDeadlines}
use Rattle.host_commands.specs.Session.{SessionMeans}
use Rattle.host_commands.specs.Place.{PlaceMeans}
use Rattle.command_line.specs.Commands.{Command, admit, certify, check, rtds, audit, simulate, bulk, responses, interface, choose, session, place, isolate, slack, tally, version, steal, spec_of, file_names}

-- the system file is read first, whichever stands behind it
files_in_the_order_of_the_words : (file other : List ℕ) (pattern : Pattern) (n : ℕ) →
    (file_names (admit file) ≡ file ∷ []) × (file_names (certify file) ≡ file ∷ [])
    × (file_names (check file other) ≡ file ∷ other ∷ []) × (file_names (rtds file other n) ≡ file ∷ other ∷ [])
    × (file_names (audit file other) ≡ file ∷ other ∷ [])
    × (file_names (simulate file other pattern n) ≡ file ∷ other ∷ [])
    × (file_names (session file other) ≡ file ∷ other ∷ []) × (file_names (place file other) ≡ file ∷ other ∷ [])
    × (file_names (tally file other) ≡ file ∷ other ∷ [])
    × (file_names (steal file other) ≡ file ∷ other ∷ [])
files_in_the_order_of_the_words file other pattern n =
    (refl, refl, refl, refl, refl, refl, refl, refl, refl, refl)

-- a leaf is no file, and neither a number of guests nor the version asks for one
other_words_are_no_files : (file part : List ℕ) (n m : ℕ) →
    (file_names (responses file) ≡ file ∷ []) × (file_names (interface file part n) ≡ file ∷ [])
    × (file_names (choose file part n m) ≡ file ∷ []) × (file_names (slack file part) ≡ file ∷ [])
    × (file_names (isolate file) ≡ file ∷ []) × (file_names (bulk n) ≡ []) × (file_names version ≡ [])
other_words_are_no_files file part n m = (refl, refl, refl, refl, refl, refl, refl)

abbrev Means : Command → Contents → Status → List ℕ → Type 0
Means command contents status text = (spec_of command).Means contents status text

commands_over_one_file : (file part text : List ℕ) (low high : ℕ) (contents : Contents) (status : Status) →
    (Means (admit file) contents status text → IfSystem contents (λ sys. AdmitMeans sys status text))
    × (Means (certify file) contents status text → IfSystem contents (λ sys. CertifyMeans sys status text))
    × (Means (responses file) contents status text → IfSystem contents (λ sys. RespondMeans sys status text))
    × (Means (interface file part low) contents status text
    → IfSystem contents (λ sys. InterfaceMeans part low sys status text))
    × (Means (choose file part low high) contents status text
    → IfSystem contents (λ sys. ChooseMeans part low high sys status text))
    × (Means (slack file part) contents status text → IfSystem contents (λ sys. SlackMeans part sys status text))
    × (Means (isolate file) contents status text → IfSystem contents (λ sys. IsolateMeans sys status text))
commands_over_one_file file part text low high contents status =
    (λ h. h, λ h. h, λ h. h, λ h. h, λ h. h, λ h. h, λ h. h)

commands_over_two_files : (file other text : List ℕ) (pattern : Pattern) (n : ℕ) (contents : Contents)
    (status : Status) →
    (Means (check file other) contents status text → CheckMeans contents status)
    × (Means (rtds file other n) contents status text → RunMeans n contents status text)
    × (Means (audit file other) contents status text → AuditMeans contents status text)
    × (Means (simulate file other pattern n) contents status text → SimulateMeans pattern n contents status text)
    × (Means (session file other) contents status text → SessionMeans contents status text)
    × (Means (place file other) contents status text → PlaceMeans contents status text)
    × (Means (tally file other) contents status text → TallyMeans contents status text)
    × (Means (steal file other) contents status text → StealMeans contents status text)
commands_over_two_files file other text pattern n contents status =
    (λ h. h, λ h. h, λ h. h, λ h. h, λ h. h, λ h. h, λ h. h, λ h. h)

commands_without_files : (text : List ℕ) (n : ℕ) (contents : Contents) (status : Status) →
    (Means (bulk n) contents status text → HostKeepsDeadlines n)
    × (Means version contents status text → text ≡ version_text)
commands_without_files text n contents status = (λ h. h, λ h. h)
