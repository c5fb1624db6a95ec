-- What each answer means, taken apart: what may be read out of a report, command by command. A
-- definition that says less breaks one of these.
use Rattle.std.proofs.Common.{◌≡◌, ℕ, ◌≤◌, List, [], ◌∷◌, length, Option, Some, refl, subst}
use Rattle.std.specs.Prelude.{IsOk, Ok}
use Rattle.std.specs.Io.KnownBytes.{Appends}
use Rattle.csv_rows.specs.Reading.{records_of}
use Rattle.slot_model.specs.declared.job.Job.{Job}
use Rattle.tree_model.specs.CertificateView.{NodeView}
use Rattle.tree_model.specs.View.{SystemView}
use Rattle.tree_model.specs.Tree.{NoLoss}
use Rattle.tree_model.specs.Admission.{Admitted, Assigned}
use Rattle.outside.specs.Files.{Files, file_named}
use Rattle.system_file.specs.SystemFile.{system_of}
use Rattle.trace_file.specs.declared.event.Event.{Event}
use Rattle.trace_file.specs.File.{Spells}
use Rattle.release_file.specs.declared.workload.Wake.{Wake}
use Rattle.release_file.specs.ReleaseFile.{SpellsReleases}
use Rattle.release_file.specs.WorkloadFile.{SpellsWorkload}
use Rattle.rtds_sim.specs.Fault.{IsFirstOther}
use Rattle.bulk_host.specs.Host.{bulk_host}
use Rattle.bulk_run.specs.declared.counts.BulkCounts.{BulkCounts}
use Rattle.rt_report.specs.Bulk.{bulk_text}
use Rattle.host_commands.specs.Bulk.{AnswersBulk}
use Rattle.server_sched.specs.declared.supplies.Pattern.{Pattern}
use Rattle.tree_spans.specs.TreeCounts.{NoneMisses}
use Rattle.cert_reader.specs.CertificateFile.{certificate_of}
use Rattle.cert_verify.specs.Proves.{Proves}
use Rattle.command_frame.specs.declared.status.Status.{Status}
use Rattle.command_frame.specs.declared.status.Status.TheVariants.{Yes, No, Usage, BadFile, Wide, Absent, TooLong, ReadFault, WriteFault}
use Rattle.command_line.specs.Commands.{Command, admit, certify, check, rtds, audit, simulate, bulk, version}
use Rattle.command_frame.specs.Answer.{Contents, file_at, IfSystem, IsReadable}
use Rattle.command_frame.specs.TwoFiles.{SpellsSystem}
use Rattle.command_frame.specs.Budgets.{IsTrulyOverfull, IsTrulyUnassigned}
use Rattle.admit_commands.specs.Certify.{IsProof, TellsCertificate, CertifyMeans}
use Rattle.admit_commands.specs.Check.{CheckMeans}
use Rattle.trace_commands.specs.Rtds.{TellsRun, RunMeans, IsRunOf}
use Rattle.trace_commands.specs.Simulate.{RunsFirst, SimulateMeans, IsSimulationOf}
use Rattle.rt_top.specs.Report.{IsAnswer, Reported, HasOneAnswer}
use Rattle.rt_top.specs.Causes.{CanJudge, IsVerdictOf, EndsAs}

-- two answers to one command over the same files are one
answers_agree : (command : Option Command) (files : Files) (s t : Status) (one other : List ℕ)
    → HasOneAnswer command files → IsAnswer command (Some files) s one → IsAnswer command (Some files) t other
    → (s ≡ t) × (one ≡ other)
answers_agree command files s t one other same a b = same s t one other a b

-- `certify`: the text is read as a certificate that proves the system, or tells the first refusal
what_a_yes_certifies : (name : List ℕ) (files : Files) (old new : Option (List ℕ))
    → Reported (Some (certify name)) (Some files) Yes old new →
    (text : List ℕ) × IfSystem (file_named name files ∷ []) (λ sys. TellsCertificate sys text) × Appends old new text
what_a_yes_certifies name files old new h =
    let means = subst (λ (c : Contents). IfSystem c (λ s. CertifyMeans s Yes h.text)) h.answer.held h.answer.means in
    (h.text, means, h.written)

what_a_no_certifies : (name : List ℕ) (files : Files) (old new : Option (List ℕ))
    → Reported (Some (certify name)) (Some files) No old new →
    (text : List ℕ) × IfSystem (file_named name files ∷ []) (λ sys. IsTrulyOverfull sys text) × Appends old new text
what_a_no_certifies name files old new h =
    let means = subst (λ (c : Contents). IfSystem c (λ s. CertifyMeans s No h.text)) h.answer.held h.answer.means in
    (h.text, means, h.written)

-- `check`: yes says that the certificate proves the system, and no that it does not
abbrev SpellCertificate : Contents → SystemView → List NodeView → Type 0
SpellCertificate contents sys nodes = SpellsSystem contents sys (λ bytes. certificate_of bytes ≡ Ok nodes)

what_check_means : (file cert : List ℕ) (files : Files) (contents : Contents) (status : Status)
    → contents ≡ file_named file files ∷ file_named cert files ∷ [] → CheckMeans contents status
    → CheckMeans (file_named file files ∷ file_named cert files ∷ []) status
what_check_means file cert files contents status held means = subst (λ (c : Contents). CheckMeans c status) held means

a_yes_to_a_certificate : (file cert : List ℕ) (files : Files) (old new : Option (List ℕ)) (sys : SystemView)
    (nodes : List NodeView) → Reported (Some (check file cert)) (Some files) Yes old new →
    SpellCertificate (file_named file files ∷ file_named cert files ∷ []) sys nodes → IsProof sys nodes
a_yes_to_a_certificate file cert files old new sys nodes h spelled =
    (what_check_means file cert files h.answer.contents Yes h.answer.held h.answer.means sys nodes spelled).only refl

a_no_to_a_certificate : (file cert : List ℕ) (files : Files) (old new : Option (List ℕ)) (sys : SystemView)
    (nodes : List NodeView) → Reported (Some (check file cert)) (Some files) No old new →
    SpellCertificate (file_named file files ∷ file_named cert files ∷ []) sys nodes → Proves sys nodes → ⊥
a_no_to_a_certificate file cert files old new sys nodes h spelled proves =
    (
    let same : No ≡ Yes
    = (what_check_means file cert files h.answer.contents No h.answer.held h.answer.means sys nodes spelled).always
    proves in
    cc)

-- `rtds`: yes tells the trace of the run
what_rtds_means : (file workload : List ℕ) (slots : ℕ) (files : Files) (contents : Contents) (status : Status)
    (text : List ℕ) → contents ≡ file_named file files ∷ file_named workload files ∷ [] →
    RunMeans slots contents status text
    → RunMeans slots (file_named file files ∷ file_named workload files ∷ []) status text
what_rtds_means file workload slots files contents status text held means =
    subst (λ (c : Contents). RunMeans slots c status text) held means

a_run_of_these_files : (contents : Contents) (sys : SystemView) (budgets : List ℕ) (wakes : List Wake)
    → SpellsSystem contents sys (λ bytes. SpellsWorkload sys (records_of bytes) wakes) → Assigned sys budgets
    → IsRunOf contents sys budgets wakes
a_run_of_these_files contents sys budgets wakes spelled assigned = record { spelled = spelled; assigned = assigned }

a_yes_to_a_workload : (file workload : List ℕ) (slots : ℕ) (files : Files) (old new : Option (List ℕ))
    (sys : SystemView) (budgets : List ℕ) (wakes : List Wake)
    → Reported (Some (rtds file workload slots)) (Some files) Yes old new →
    SpellsSystem (file_named file files ∷ file_named workload files ∷ []) sys
    (λ bytes. SpellsWorkload sys (records_of bytes) wakes) → Assigned sys budgets →
    (text : List ℕ) × TellsRun sys budgets wakes slots text × Appends old new text
a_yes_to_a_workload file workload slots files old new sys budgets wakes h spelled assigned = (
  h.text,
  (what_rtds_means file workload slots files h.answer.contents Yes h.text h.answer.held h.answer.means).run sys budgets
      wakes (a_run_of_these_files _ sys budgets wakes spelled assigned) refl,
  h.written,
)

a_no_to_a_workload : (file workload : List ℕ) (slots : ℕ) (files : Files) (old new : Option (List ℕ))
    → Reported (Some (rtds file workload slots)) (Some files) No old new →
    (text : List ℕ) × IfSystem (file_named file files ∷ file_named workload files ∷ [])
    (λ sys. IsTrulyUnassigned sys text) × Appends old new text
a_no_to_a_workload file workload slots files old new h = (
  h.text,
  (what_rtds_means file workload slots files h.answer.contents No h.text h.answer.held h.answer.means).unassigned,
  h.written,
)

-- `simulate`: yes says that no job misses in the first run, and no that one does
what_simulate_means : (pattern : Pattern) (n : ℕ) (file releases : List ℕ) (files : Files) (contents : Contents)
    (status : Status) (text : List ℕ) → contents ≡ file_named file files ∷ file_named releases files ∷ [] →
    SimulateMeans pattern n contents status text
    → SimulateMeans pattern n (file_named file files ∷ file_named releases files ∷ []) status text
what_simulate_means pattern n file releases files contents status text held means =
    subst (λ (c : Contents). SimulateMeans pattern n c status text) held means

a_simulation_of_these_files : (pattern : Pattern) (n : ℕ) (contents : Contents) (sys : SystemView)
    (jobs : List (List Job)) (budgets : List ℕ) (core_runs part_runs : List (List (Option ℕ))) →
    SpellsSystem contents sys (λ bytes. SpellsReleases sys (records_of bytes) jobs) → Assigned sys budgets
    → RunsFirst sys pattern n jobs budgets core_runs part_runs
    → IsSimulationOf pattern n contents sys jobs budgets core_runs part_runs
a_simulation_of_these_files pattern n contents sys jobs budgets core_runs part_runs spelled assigned first =
    record { spelled = spelled; assigned = assigned; first = first }

a_yes_to_releases : (pattern : Pattern) (n : ℕ) (file releases : List ℕ) (files : Files) (old new : Option (List ℕ))
    (sys : SystemView) (jobs : List (List Job)) (budgets : List ℕ) (core_runs part_runs : List (List (Option ℕ))) →
    Reported (Some (simulate file releases pattern n)) (Some files) Yes old new
    → IsSimulationOf pattern n (file_named file files ∷ file_named releases files ∷ []) sys jobs budgets core_runs
    part_runs → NoneMisses sys budgets n jobs core_runs part_runs
a_yes_to_releases pattern n file releases files old new sys jobs budgets core_runs part_runs h of =
    ((what_simulate_means pattern n file releases files h.answer.contents Yes h.text h.answer.held
    h.answer.means).tells sys jobs budgets core_runs part_runs of).only refl

a_no_to_releases : (pattern : Pattern) (n : ℕ) (file releases : List ℕ) (files : Files) (old new : Option (List ℕ))
    (sys : SystemView) (jobs : List (List Job)) (budgets : List ℕ) (core_runs part_runs : List (List (Option ℕ))) →
    Reported (Some (simulate file releases pattern n)) (Some files) No old new
    → IsSimulationOf pattern n (file_named file files ∷ file_named releases files ∷ []) sys jobs budgets core_runs
    part_runs → NoneMisses sys budgets n jobs core_runs part_runs → ⊥
a_no_to_releases pattern n file releases files old new sys jobs budgets core_runs part_runs h of none =
    (
    let same : No ≡ Yes
    = ((what_simulate_means pattern n file releases files h.answer.contents No h.text h.answer.held
    h.answer.means).tells sys jobs budgets core_runs part_runs of).always none in
    cc)

-- `bulk`: under budgets that admit the host no job is lost
what_bulk_says : (n : ℕ) (files : Files) (old new : Option (List ℕ)) → Reported (Some (bulk n)) (Some files) Yes old new
    → (budgets : List ℕ) × Admitted (bulk_host n) budgets × NoLoss (bulk_host n) budgets
what_bulk_says n files old new h = (h.answer.means.budgets, h.answer.means.admitted, h.answer.means.no_loss)

-- and none misses in the first run, so that its text counts none
no_miss_is_told : (n : ℕ) (files : Files) (old new : Option (List ℕ))
    → Reported (Some (bulk n)) (Some files) Yes old new
    → (counts : BulkCounts) × (counts.missed ≡ 0) × Appends old new (bulk_text counts)
no_miss_is_told n files old new h =
    let said : AnswersBulk n Yes h.text = h.answer.answers in (
      said.counts,
      h.answer.means.none_counted said.counts said.counted,
      subst (λ (text : List ℕ). Appends old new text) said.told h.written,
    )

-- files that are there, short enough and good let a command be judged
readable : (k : ℕ) (contents : Contents) (bytes : List ℕ) (IsGood : List ℕ → Type 0) → file_at k contents ≡ Some bytes
    → length bytes ≤ 67108864 → IsGood bytes → IsReadable k contents IsGood
readable k contents bytes IsGood there short good = record { bytes = bytes; there = there; short = short; good = good }

each_command_is_judged : (file other word : List ℕ) (pattern : Pattern) (n : ℕ) (one two : List ℕ) (sys : SystemView)
    (nodes : List NodeView) (wakes : List Wake) (events : List Event) (jobs : List (List Job)) →
    length one ≤ 67108864 → length two ≤ 67108864 → system_of one ≡ Ok sys →
    (IsOk (system_of one) → CanJudge (certify file) (Some one ∷ []))
    × (certificate_of two ≡ Ok nodes → CanJudge (check file other) (Some one ∷ Some two ∷ []))
    × (SpellsWorkload sys (records_of two) wakes → CanJudge (rtds file other n) (Some one ∷ Some two ∷ []))
    × (Spells sys (records_of two) events → CanJudge (audit file other) (Some one ∷ Some two ∷ []))
    × (SpellsReleases sys (records_of two) jobs → CanJudge (simulate file other pattern n) (Some one ∷ Some two ∷ []))
    × CanJudge (bulk n) []
each_command_is_judged file other word pattern n one two sys nodes wakes events jobs short shorter spelled = (
  (λ good. readable 1 _ one _ refl short good),
  (λ good. record {
    sys = sys;
    spelled =
        record {
          first = readable 1 _ one _ refl short spelled;
          second = readable 2 _ two _ refl shorter (record { value = nodes; gives = good });
        };
  }),
  (λ good. record {
    sys = sys;
    spelled =
        record {
          first = readable 1 _ one _ refl short spelled;
          second = readable 2 _ two _ refl shorter (record { value = wakes; gives = good });
        };
  }),
  (λ good. record {
    sys = sys;
    spelled =
        record {
          first = readable 1 _ one _ refl short spelled;
          second = readable 2 _ two _ refl shorter (record { value = events; gives = good });
        };
  }),
  (λ good. record {
    sys = sys;
    spelled =
        record {
          first = readable 1 _ one _ refl short spelled;
          second = readable 2 _ two _ refl shorter (record { value = jobs; gives = good });
        };
  }),
  tt,
)

-- `rtds` alone may refuse the system file, and only over another core; each other command that can
-- be judged gets its verdict
a_refused_run : (file workload : List ℕ) (n : ℕ) (contents : Contents) → EndsAs (rtds file workload n) contents BadFile
    → (sys : SystemView) × IsReadable 1 contents (λ bytes. system_of bytes ≡ Ok sys) × (core : ℕ)
    × IsFirstOther sys core
a_refused_run file workload n contents other = (other.sys, other.spelled, other.core, other.other)

no_other_end_of_a_run : (file workload : List ℕ) (n : ℕ) (contents : Contents) →
    (EndsAs (rtds file workload n) contents Usage → ⊥) × (EndsAs (rtds file workload n) contents Absent → ⊥)
    × (EndsAs (rtds file workload n) contents TooLong → ⊥) × (EndsAs (rtds file workload n) contents ReadFault → ⊥)
    × (EndsAs (rtds file workload n) contents WriteFault → ⊥)
no_other_end_of_a_run file workload n contents = (λ h. h, λ h. h, λ h. h, λ h. h, λ h. h)

no_other_command_is_refused : (file other : List ℕ) (pattern : Pattern) (n : ℕ) (contents : Contents) →
    (EndsAs (admit file) contents BadFile → ⊥) × (EndsAs (certify file) contents BadFile → ⊥)
    × (EndsAs (check file other) contents BadFile → ⊥) × (EndsAs (audit file other) contents BadFile → ⊥)
    × (EndsAs (simulate file other pattern n) contents BadFile → ⊥) × (EndsAs (bulk n) contents BadFile → ⊥)
no_other_command_is_refused file other pattern n contents = (λ h. h, λ h. h, λ h. h, λ h. h, λ h. h, λ h. h)

-- a certificate is never answered wide; a generated host and the version are always answered yes
who_is_not_answered_wide : (file other : List ℕ) (n : ℕ) (contents : Contents) →
    (EndsAs (check file other) contents Wide → ⊥) × EndsAs (check file other) contents No
    × (EndsAs (bulk n) contents Wide → ⊥) × (EndsAs (bulk n) contents No → ⊥) × EndsAs (bulk n) contents Yes
    × (EndsAs version contents Wide → ⊥) × (EndsAs version contents No → ⊥) × EndsAs version contents Yes
who_is_not_answered_wide file other n contents = (λ h. h, tt, λ h. h, λ h. h, tt, λ h. h, λ h. h, tt)

the_verdict_is_of_the_command : (file : List ℕ) (files : Files)
    (judged : CanJudge (admit file) (file_named file files ∷ []))
    → IsVerdictOf {command = Some (admit file)} {files = Some files}
    (record { spelled = admit file; spells = refl; all = files; told = refl; judged = judged }) BadFile → ⊥
the_verdict_is_of_the_command file files judged h = h
