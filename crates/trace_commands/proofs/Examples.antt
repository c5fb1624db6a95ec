-- Worked cases of what is answered to traces and runs. A wrong definition breaks one of them.
use Rattle.std.proofs.Common.{◌≡◌, ◌⊎◌, ℕ, zero, suc, ◌*◌, Bool, true, false, List, [], ◌∷◌, length, Option, Some, None, refl, ◌<◌, ◌≤◌, arith, lit<, lit≤, inl, inr}
use Rattle.std.specs.Prelude.{codes, All, ◌++◌, Ok, IsOk}
use Rattle.std.specs.Fmt.{digits}
use Rattle.slot_model.specs.declared.sched.Sched.TheVariants.{Edf}
use Rattle.slot_model.specs.declared.sched.Short.{Short as ShortAt}
use Rattle.tree_model.specs.declared.place.Parent.TheVariants.{Core as on_core}
use Rattle.tree_model.specs.declared.place.Place.{Place}
use Rattle.tree_model.specs.declared.place.Place.TheVariants.{Part}
use Rattle.tree_model.specs.declared.plan.Refusal.{Refusal}
use Rattle.tree_model.specs.declared.plan.Refusal.TheVariants.{Overfull}
use Rattle.tree_model.specs.View.{PartView, SystemView}
use Rattle.tree_model.specs.System.{IsSystem, is_leaf_at, part_at}
use Rattle.tree_model.specs.Tree.{run_at, budget_at}
use Rattle.tree_model.specs.Admission.{Admitted, Assigned, FirstRefusal, FirstUnassigned}
use Rattle.compose_tree.specs.Truth.{LeafIsOverfull, RefusalHolds}
use Rattle.slot_model.specs.Slots.{sum_below}
use Rattle.command_frame.specs.declared.status.Status.TheVariants.{Yes, No, BadFile}
use Rattle.trace_file.specs.declared.event.Event.{Event}
use Rattle.trace_file.specs.declared.fault.TraceFault.{TraceFault}
use Rattle.trace_file.specs.declared.fault.TraceFault.TheVariants.{BadHeader, TimeFalls}
use Rattle.trace_file.specs.File.{IsFileFault, rows_of}
use Rattle.trace_file.specs.Periods.{Satisfied}
use Rattle.auditor.specs.declared.finding.Finding.{Finding}
use Rattle.auditor.specs.declared.finding.Finding.TheVariants.{Yes as Kept, Short, Over}
use Rattle.auditor.specs.Finding.{IsFinding}
use Rattle.auditor.specs.Tally.{AreTallies, tally_at}
use Rattle.vcpu_watch.specs.declared.tally.Tally.{Tally}
use Rattle.auditor.specs.declared.steal.StealFinding.{StealFinding}
use Rattle.auditor.specs.declared.steal.StealFinding.TheVariants.{Yes as KeptAll, Denied as DeniedAt}
use Rattle.auditor.specs.declared.steal.StealTally.{StealTally}
use Rattle.auditor.specs.Steal.{IsStealFinding, AreStealTallies, NoneDenied, steal_tally_at}
use Rattle.rt_report.specs.Steal.{steal_finding_text, steal_lines}
use Rattle.trace_commands.specs.Steal.{the_steal, steal_status, AllAreSpared, IsToldSteal, LeavesKeep, Steals, TellsSteal}
use Rattle.isolation.specs.declared.isolation.Isolation.TheVariants.{Isolated, ByTies, ByBlock}
use Rattle.isolation.specs.declared.vcpus.PartIsolation.{PartIsolation}
use Rattle.isolation.specs.Demand.{asked}
use Rattle.isolation.specs.Keeping.{got_in, IsAwakeLast, KeepsBudget, KeepsOpenly, IsBreakable, PeriodsUpTo, IsExposed}
use Rattle.isolation.specs.InTrace.{KeepsInTrace, IsExposedInTrace}
use Rattle.isolation.specs.Answer.{IsIsolation}
use Rattle.isolation.specs.Open.{OpenRun}
use Rattle.isolation.specs.Short.{AllIsolated}
use Rattle.isolation.specs.declared.budgets.CoreBudgets.{CoreBudgets}
use Rattle.isolation.specs.Budgets.{AreCoreBudgets}
use Rattle.isolated_guests.specs.Spared.{IsSparedInTraces}
use Rattle.isolated_guests.specs.Guests.{PartKeeps, HostsKeep}
use Rattle.isolated_guests.specs.Answered.{LineKeeps}
use Rattle.compose_tree.specs.Keeping.{Keeping}
use Rattle.isolation.specs.Answers.{own_core, AreIsolations, are_isolated}
use Rattle.rt_report.specs.declared.fault.FileFault.TheVariants.{Trace, Release}
use Rattle.rt_report.specs.Audit.{audit_text}
use Rattle.rt_report.specs.Fault.{fault_text, not_rtds_text}
use Rattle.rt_report.specs.Isolation.{isolation_text}
use Rattle.rt_report.specs.Refusal.{refusal_text}
use Rattle.rt_report.specs.Tally.{tally_lines}
use Rattle.command_frame.specs.declared.status.Status.{Status}
use Rattle.command_frame.specs.Answer.{Contents, IfSystem, IsReadable}
use Rattle.command_frame.specs.Attempt.{OnAttempt}
use Rattle.command_frame.specs.Budgets.{AssignedOrNone, IsTrulyOverfull, IsTrulyUnassigned, OnAssigned, assigning, composing, refusal_status}
use Rattle.command_frame.specs.CommandSpec.{IsVerdict}
use Rattle.command_frame.proofs.Attempt.{refused_first}
use Rattle.command_frame.proofs.Budgets.{assigning_decided, composing_decided}
use Rattle.rtds_model.specs.Demand.{later}
use Rattle.rtds_sim.specs.Fault.{AllRtds, IsFirstOther}
use Rattle.system_file.specs.SystemFile.{system_of}
use Rattle.command_frame.specs.OverFiles.{OnRead}
use Rattle.trace_commands.specs.Audit.{tracing, finding_status, the_audit, AuditMeans, Audits, IsAudited, OnEvents, TellsSatisfied}
use Rattle.trace_commands.specs.Isolate.{isolating, isolation_status, the_isolate, IsToldIsolation, Isolates, IsolateMeans, LineMeans, LineSpares, HasIdleHosts, TellsIsolations}
use Rattle.trace_commands.specs.Simulate.{kept_status, releasing, the_simulate, IsSimulated, SimulateMeans, Simulates}
use Rattle.trace_commands.specs.Tally.{the_tally, IsToldTally, Tallies, TallyMeans, TellsTally}
use Rattle.trace_commands.proofs.Laws.Rtds.{waking_decided}
use Rattle.trace_commands.proofs.Laws.Simulate.{releasing_decided}
use Rattle.trace_commands.proofs.Laws.Traced.{tracing_decided}
use Rattle.release_file.specs.declared.fault.ReleaseFault.{ReleaseFault}
use Rattle.release_file.specs.declared.fault.ReleaseFault.TheVariants.{BadHeader as NoWorkload, BadOrder, TooEarly}
use Rattle.release_file.specs.WorkloadFile.{IsWorkloadFault, SpellsWorkload, wake_rows}
use Rattle.release_file.specs.ReleaseFile.{IsReleasesFault, release_rows}
use Rattle.server_sched.specs.declared.supplies.Pattern.{Pattern}
use Rattle.csv_rows.specs.Printing.{text_of}
use Rattle.csv_rows.specs.Reading.{records_of}
use Rattle.trace_file.specs.File.{Spells}
use Rattle.trace_printer.specs.Printing.{printed_rows}
use Rattle.release_file.specs.Workload.{IsWorkload}
use Rattle.release_file.specs.declared.workload.Wake.{Wake}
use Rattle.rtds_model.specs.Rtds.{CoreRun, RtdsRun}
use Rattle.rtds_model.specs.Giving.{AlwaysRunnable, ServersFit, AlwaysServed, GivesBudgets, NeverOver, NoneOver}
use Rattle.trace_commands.specs.Rtds.{IsTraceOf, IsTraceText, RunMeans, Runs, TellsRun, running, waking}

-- faults of the trace
faults_of_the_trace : (sys : SystemView) (bytes : List ℕ) →
    ((tracing sys bytes).status_of (TimeFalls 3) ≡ BadFile)
    × ((tracing sys bytes).text_of (TimeFalls 3) ≡ codes "fault=TimeFalls row=3 file=2\n")
    × ((tracing sys bytes).text_of BadHeader ≡ codes "fault=BadHeader row=1 file=2\n")
unfolding digits
faults_of_the_trace sys bytes = (refl, refl, refl)

-- the statuses of findings
statuses_of_findings : (finding_status (Kept 2) ≡ Yes) × (finding_status (Short 1 0 3000) ≡ No)
    × (finding_status (Over 1 0 4001) ≡ No)
statuses_of_findings = (refl, refl, refl)

-- what the trace of a run says
what_a_trace_says : (sys : SystemView) (budgets : List ℕ) (wakes : List Wake) (slots : ℕ) (text : List ℕ)
    → TellsRun sys budgets wakes slots text →
    (events : List Event) × IsTraceOf sys budgets wakes slots events × (text ≡ text_of (printed_rows sys events))
    × Spells sys (records_of text) events × NoneOver sys budgets events
    × (AlwaysServed sys budgets wakes → Satisfied sys budgets events)
what_a_trace_says sys budgets wakes slots text told =
    (told.events, told.trace, told.told, told.reads_back, told.none_over, told.served)

what_no_core_gives : (sys : SystemView) (budgets : List ℕ) (wakes : List Wake) (slots : ℕ) (text : List ℕ)
    (runs : List (List (Option ℕ))) (c : ℕ) → TellsRun sys budgets wakes slots text
    → RtdsRun sys budgets wakes slots runs → c < length sys.cores → NeverOver sys budgets wakes (run_at runs c)
what_no_core_gives sys budgets wakes slots text runs c told = told.never_over runs c

a_core_that_gives : (sys : SystemView) (budgets : List ℕ) (wakes : List Wake) (slots : ℕ) (text : List ℕ)
    (runs : List (List (Option ℕ))) (c : ℕ) → TellsRun sys budgets wakes slots text
    → RtdsRun sys budgets wakes slots runs →
    c < length sys.cores → AlwaysRunnable sys wakes c → ServersFit sys budgets c
    → GivesBudgets sys budgets wakes slots c (run_at runs c)
a_core_that_gives sys budgets wakes slots text runs c told run is_core runnable fit =
    told.gives runs c run is_core runnable fit

a_host_that_gives : (sys : SystemView) (budgets : List ℕ) (wakes : List Wake) (slots : ℕ) (text : List ℕ)
    (told : TellsRun sys budgets wakes slots text) → Admitted sys budgets →
    ((c : ℕ) → c < length sys.cores → AlwaysRunnable sys wakes c) → Satisfied sys budgets told.events
a_host_that_gives sys budgets wakes slots text told admitted runnable =
    told.satisfied (record { admitted = admitted; runnable = runnable })

-- what a no of `rtds` says of the system that the first file spells, and one of the other three
a_part_without_a_budget : (sys : SystemView) (text : List ℕ) → IsTrulyUnassigned sys text
    → (node : Place) × (short : ShortAt) × (text ≡ refusal_text sys (Overfull node short))
    × FirstUnassigned sys (Overfull node short) × RefusalHolds sys (Overfull node short)
a_part_without_a_budget sys text none = (none.node, none.short, none.told, none.first, none.holds)

a_leaf_without_a_budget : (sys : SystemView) (q : ℕ) (short : ShortAt) → RefusalHolds sys (Overfull (Part q) short)
    → is_leaf_at sys q ≡ true → LeafIsOverfull sys q (part_at sys q).budget
a_leaf_without_a_budget sys q short holds leaf = holds.leaf leaf

what_no_run_says : (slots : ℕ) (contents : Contents) (text : List ℕ) → RunMeans slots contents No text
    → IfSystem contents (λ sys. IsTrulyUnassigned sys text)
what_no_run_says slots contents text means = means.unassigned

what_a_no_says : (pattern : Pattern) (n : ℕ) (contents : Contents) (text : List ℕ)
    → AuditMeans contents No text ⊎ TallyMeans contents No text ⊎ SimulateMeans pattern n contents No text
    → IfSystem contents (λ sys. AssignedOrNone sys text)
what_a_no_says pattern n contents text means = elim means [
  | inl of_audit ↦ of_audit.unassigned
  | inr others ↦ elim others [ inl of_tally ↦ of_tally.unassigned | inr of_simulate ↦ of_simulate.unassigned ]
]

budgets_or_a_part : (sys : SystemView) (text : List ℕ) → AssignedOrNone sys text
    → ((budgets : List ℕ) × Assigned sys budgets) ⊎ IsTrulyUnassigned sys text
budgets_or_a_part sys text said = elim said [ inl has ↦ inl (has.budgets, has.assigned) | inr none ↦ inr none ]

-- what the lines of `isolate` say: of parts, of slots and of deadlines; of cores; and on yes
abbrev AreLinesOf : SystemView → List ℕ → List ℕ → Bool → Type 0
AreLinesOf sys text budgets all =
    (rows : List PartIsolation) × (cores : List CoreBudgets) × Admitted sys budgets × Assigned sys budgets
    × Keeping sys budgets × AllRtds sys (length sys.cores) × AreIsolations sys budgets rows
    × All (λ (row : PartIsolation). LineMeans sys budgets (own_core sys row.part) row.part row.isolation
    × LineKeeps sys budgets (own_core sys row.part) row.part row.isolation
    × LineSpares sys budgets row.part row.isolation) rows
    × AreCoreBudgets sys budgets cores
    × All (λ (row : CoreBudgets). (row.budgets ≤ row.shortest → AllIsolated sys budgets row.core)
    × (AllIsolated sys budgets row.core → row.budgets ≤ row.shortest)) cores
    × (are_isolated rows ≡ all) × (all ≡ true → HostsKeep sys budgets) × HasIdleHosts sys budgets
    × (text ≡ isolation_text sys rows cores)

what_lines_say : (sys : SystemView) (text : List ℕ) (all : Bool) → TellsIsolations sys text all
    → (budgets : List ℕ) × AreLinesOf sys text budgets all
what_lines_say sys text all told = (
  told.budgets,
  (
    told.rows,
    told.cores,
    told.admitted,
    told.assigned,
    told.each_node,
    told.all_rtds,
    told.isolations,
    told.means,
    told.sums,
    told.where_short,
    told.all_isolated,
    told.on_yes,
    told.idle_hosts,
    told.told,
  ),
)

-- a yes keeps the deadlines of what halts where it has nothing to do, and so does each line that
-- says isolated
a_yes_keeps_deadlines : (sys : SystemView) (text : List ℕ) → IsolateMeans sys Yes text
    → (budgets : List ℕ) × HostsKeep sys budgets
a_yes_keeps_deadlines sys text told = (told.budgets, told.on_yes refl)

a_line_keeps_deadlines : (sys : SystemView) (budgets : List ℕ) (c v last : ℕ)
    → (LineKeeps sys budgets c v (Isolated last)
    → PartKeeps OpenRun sys budgets c v × PartKeeps CoreRun sys budgets c v)
    × (LineKeeps sys budgets c v (ByTies last) → PartKeeps CoreRun sys budgets c v)
a_line_keeps_deadlines sys budgets c v last = (λ h. h, λ h. h)

-- and spares VCPUs in the traces of `rtds`
a_line_spares : (sys : SystemView) (budgets : List ℕ) (v last : ℕ)
    → (LineSpares sys budgets v (Isolated last) → IsSparedInTraces sys budgets v)
    × (LineSpares sys budgets v (ByTies last) → IsSparedInTraces sys budgets v)
a_line_spares sys budgets v last = (λ h. h, λ h. h)

a_yes_isolates_all : (sys : SystemView) (text : List ℕ) → IsolateMeans sys Yes text → TellsIsolations sys text true
a_yes_isolates_all sys text told = told

a_no_isolates_not_all : (sys : SystemView) (text : List ℕ) → IsolateMeans sys No text
    → IsTrulyOverfull sys text ⊎ TellsIsolations sys text false
a_no_isolates_not_all sys text told = told

what_a_line_says : (sys : SystemView) (budgets : List ℕ) (c v last : ℕ)
    → (LineMeans sys budgets c v (Isolated last)
    → KeepsInTrace sys budgets v last × KeepsOpenly sys budgets c v last × KeepsBudget sys budgets c v last)
    × (LineMeans sys budgets c v (ByTies last) → KeepsInTrace sys budgets v last × KeepsBudget sys budgets c v last)
    × (LineMeans sys budgets c v ByBlock → IsExposed sys budgets c v × IsExposedInTrace sys budgets c v)
what_a_line_says sys budgets c v last = (λ h. h, λ h. h, λ h. (h.1, h.2))

-- A of 2 slots in 5 stands before B of 1,200,000 in 2,000,000. A asks for 2, and B for all but one
-- of up to 5 slots, since ties go to A: 2, 2, 3, 4, 5 and 6 at 0 to 5, so each number is too few.
abbrev server : ℕ → ℕ → PartView
server period budget = record {
  name = 65 ∷ [];
  parent = on_core 0;
  sched = Edf;
  period = period;
  budget = Some budget;
  extra = false;
  tasks = [];
}

abbrev long_pair : SystemView
long_pair = record {
  cores = record { name = 99 ∷ []; sched = Edf; supply = None } ∷ [];
  parts = server 5 2 ∷ server 2000000 1200000 ∷ [];
}

abbrev long_budgets : List ℕ
long_budgets = 2 ∷ 1200000 ∷ []

each_asks_too_much : (t : ℕ) → t ≤ 5 → t < asked later long_pair long_budgets 0 0 t
unfolding sum_below
each_asks_too_much zero l = lit< tt
each_asks_too_much (suc zero) l = lit< tt
each_asks_too_much (suc (suc zero)) l = lit< tt
each_asks_too_much (suc (suc (suc zero))) l = lit< tt
each_asks_too_much (suc (suc (suc (suc zero)))) l = lit< tt
each_asks_too_much (suc (suc (suc (suc (suc zero))))) l = lit< tt
each_asks_too_much (suc (suc (suc (suc (suc (suc t)))))) l = absurd (omega (arith, l))

it_is_by_block : IsIsolation long_pair long_budgets 0 0 ByBlock
it_is_by_block = each_asks_too_much

-- A run of `rtds` has no room for three of the longest periods. Yet the line of A means that it is
-- short in a run over no more than these, and no premise is left.
up_to_two_million : PeriodsUpTo long_pair 0 2000000
up_to_two_million zero l on = lit≤ tt
up_to_two_million (suc zero) l on = lit≤ tt
up_to_two_million (suc (suc u)) l on = absurd (omega (arith, l))

short_past_a_run_of_rtds : LineMeans long_pair long_budgets 0 0 ByBlock
    → (1000000 < 3 * 2000000) × IsBreakable long_pair long_budgets 0 0 6000000
short_past_a_run_of_rtds line = (lit< tt, line.1 2000000 line.0 up_to_two_million (lit≤ tt))

-- a part that keeps its budget by ties keeps it in a run of any length
kept_past_a_run_of_rtds : (sys : SystemView) (budgets : List ℕ) (c v last : ℕ)
    → LineMeans sys budgets c v (ByTies last)
    → (rows : List Wake) (run : List (Option ℕ)) (k : ℕ) → IsWorkload sys rows
    → CoreRun sys budgets rows 3000000 c run → IsAwakeLast sys rows 3000000 c v k last
    → budget_at budgets v ≤ got_in sys rows run v k
kept_past_a_run_of_rtds sys budgets c v last line rows run = line.1 rows 3000000 run

-- what a tally says: what an audit does, whatever it finds, and behind it what is counted; and on
-- yes the periods of all VCPUs
what_a_tally_says : (sys : SystemView) (budgets : List ℕ) (events : List Event) (status : Status) (text : List ℕ)
    → TellsTally sys budgets events status text
    → (finding : Finding) × (tallies : List Tally) × TellsSatisfied sys budgets events status
    × IsFinding sys budgets events finding × AreTallies sys budgets events tallies
    × (text ≡ audit_text sys budgets finding ++ tally_lines sys 0 tallies)
    × (status ≡ Yes → finding ≡ Kept (sum_below (λ v. (tally_at tallies v).judged) (length sys.parts)))
what_a_tally_says sys budgets events status text told =
    (told.finding, told.tallies, told.satisfied, told.found, told.counted, told.told, told.on_yes)

-- and what is said of stolen time: both directions, what it means to guests, and on yes the periods
-- of all VCPUs
what_is_said_of_stolen_time : (sys : SystemView) (budgets : List ℕ) (events : List Event) (status : Status)
    (text : List ℕ) → TellsSteal sys budgets events status text
    → (finding : StealFinding) × (tallies : List StealTally) × (status ≡ Yes → NoneDenied sys budgets events)
    × (NoneDenied sys budgets events → status ≡ Yes) × (status ≡ Yes → AllAreSpared sys budgets events)
    × (AllAreSpared sys budgets events → status ≡ Yes) × (status ≡ Yes → LeavesKeep sys budgets events)
    × IsStealFinding sys budgets events finding × AreStealTallies sys budgets events tallies
    × (text ≡ steal_finding_text sys budgets finding ++ steal_lines sys 0 tallies)
    × (status ≡ Yes → finding ≡ KeptAll (sum_below (λ v. (steal_tally_at tallies v).kept) (length sys.parts)))
what_is_said_of_stolen_time sys budgets events status text told = (
  told.finding,
  told.tallies,
  told.only,
  told.always,
  told.spared,
  told.where_spared,
  told.keeps,
  told.found,
  told.counted,
  told.told,
  told.on_yes,
)

statuses_of_stolen_time : (steal_status (KeptAll 2) ≡ Yes) × (steal_status (DeniedAt 1 0 3000) ≡ No)
statuses_of_stolen_time = (refl, refl)

-- faults of a workload and of releases, and of a core that is not full or not under earliest
-- deadline first
faults_of_second_files : (sys : SystemView) (bytes : List ℕ) →
    ((waking sys bytes).status_of (BadOrder 3) ≡ BadFile)
    × ((waking sys bytes).text_of (BadOrder 3) ≡ codes "fault=BadOrder row=3 file=2\n")
    × ((waking sys bytes).text_of NoWorkload ≡ codes "fault=BadHeader row=1 file=2\n")
    × ((releasing sys bytes).status_of (TooEarly 4) ≡ BadFile)
    × ((releasing sys bytes).text_of (TooEarly 4) ≡ codes "fault=TooEarly row=4 file=2\n")
    × ((releasing sys bytes).text_of NoWorkload ≡ codes "fault=BadHeader row=1 file=2\n")
unfolding digits
faults_of_second_files sys bytes = (refl, refl, refl, refl, refl, refl)

another_core : (sys : SystemView) (budgets : List ℕ) (wakes : List Wake) (slots c : ℕ) →
    ((running sys budgets wakes slots).status_of c ≡ BadFile)
    × ((running sys budgets wakes slots).text_of c ≡ not_rtds_text sys c)
    × ((isolating sys budgets).status_of c ≡ BadFile) × ((isolating sys budgets).text_of c ≡ not_rtds_text sys c)
another_core sys budgets wakes slots c = (refl, refl, refl, refl)

-- yes where no job misses, and where each part is isolated however ties are broken
statuses_of_runs : (kept_status true ≡ Yes) × (kept_status false ≡ No) × (isolation_status [] ≡ Yes)
    × (isolation_status (record { part = 0; isolation = Isolated 3 } ∷ []) ≡ Yes)
    × (isolation_status
    (record { part = 0; isolation = Isolated 3 } ∷ record { part = 1; isolation = ByTies 4 } ∷ []) ≡ No)
statuses_of_runs = (refl, refl, refl, refl, refl)

-- a fault of the second file goes before a part that has no budget
a_trace_with_a_fault : (Says : SystemView → List ℕ → List Event → Status → List ℕ → Type 0) (sys : SystemView)
    (bytes : List ℕ) (fault : TraceFault) (status : Status) (text : List ℕ)
    → IsFileFault sys (rows_of (records_of bytes)) fault → OnRead tracing (OnEvents Says) sys bytes status text
    → (status ≡ BadFile) × (text ≡ fault_text (Trace fault) 2)
a_trace_with_a_fault Says sys bytes fault status text wrong said =
    refused_first (tracing sys bytes) (λ events. OnAssigned sys (λ budgets. Says sys budgets events))
    (tracing_decided sys bytes) fault wrong status text said

what_is_said_of_a_trace : (sys : SystemView) (bytes : List ℕ) (fault : TraceFault) (status : Status) (text : List ℕ)
    → IsFileFault sys (rows_of (records_of bytes)) fault
    → Audits sys bytes status text ⊎ Tallies sys bytes status text ⊎ Steals sys bytes status text
    → (status ≡ BadFile) × (text ≡ fault_text (Trace fault) 2)
what_is_said_of_a_trace sys bytes fault status text wrong said = elim said [
  | inl audited ↦ a_trace_with_a_fault IsAudited sys bytes fault status text wrong audited
  | inr others ↦ elim others [
    | inl tallied ↦ a_trace_with_a_fault IsToldTally sys bytes fault status text wrong tallied
    | inr stolen ↦ a_trace_with_a_fault IsToldSteal sys bytes fault status text wrong stolen
  ]
]

a_workload_with_a_fault : (slots : ℕ) (sys : SystemView) (bytes : List ℕ) (fault : ReleaseFault) (status : Status)
    (text : List ℕ) → IsWorkloadFault sys (wake_rows (records_of bytes)) fault → Runs slots sys bytes status text
    → (status ≡ BadFile) × (text ≡ fault_text (Release fault) 2)
a_workload_with_a_fault slots sys bytes fault status text wrong said =
    refused_first (waking sys bytes)
    (λ wakes. OnAssigned sys (λ budgets. OnAttempt (running sys budgets wakes slots) (IsTraceText sys)))
    (waking_decided sys bytes) fault wrong status text said

releases_with_a_fault : (pattern : Pattern) (slots : ℕ) (sys : SystemView) (bytes : List ℕ) (fault : ReleaseFault)
    (status : Status) (text : List ℕ) → IsReleasesFault sys (release_rows (records_of bytes)) fault
    → Simulates pattern slots sys bytes status text
    → (status ≡ BadFile) × (text ≡ fault_text (Release fault) 2)
releases_with_a_fault pattern slots sys bytes fault status text wrong said =
    refused_first (releasing sys bytes) (λ jobs. OnAssigned sys (λ budgets. IsSimulated pattern slots sys jobs budgets))
    (releasing_decided sys bytes) fault wrong status text said

-- and a part that has no budget, or the first node that refuses, before such a core
a_workload_without_budgets : (slots : ℕ) (sys : SystemView) → IsSystem sys → (bytes : List ℕ) (wakes : List Wake)
    (refusal : Refusal) (status : Status) (text : List ℕ) → SpellsWorkload sys (records_of bytes) wakes
    → FirstUnassigned sys refusal → Runs slots sys bytes status text
    → (status ≡ refusal_status refusal) × (text ≡ refusal_text sys refusal)
a_workload_without_budgets slots sys is bytes wakes refusal status text spelled first said = elim said [
  | inl given ↦
      refused_first (assigning sys)
      (λ budgets. OnAttempt (running sys budgets given.value slots) (IsTraceText sys))
      (assigning_decided sys is) refusal first status text given.said
  | inr refused ↦ absurd ((waking_decided sys bytes).never_both wakes refused.refusal spelled refused.refuses)
]

a_refused_isolation : (sys : SystemView) → IsSystem sys → (refusal : Refusal) (status : Status) (text : List ℕ)
    → FirstRefusal sys refusal → Isolates sys status text
    → (status ≡ refusal_status refusal) × (text ≡ refusal_text sys refusal)
a_refused_isolation sys is refusal status text first said =
    refused_first (composing sys) (λ budgets. OnAttempt (isolating sys budgets) (IsToldIsolation sys))
    (composing_decided sys is) refusal first status text said

-- a file that spells a system lets `isolate` be judged, and two that spell a system and a trace
-- `tally`
files_that_are_judged : (file other one two : List ℕ) (sys : SystemView) (events : List Event)
    → length one ≤ 67108864 → length two ≤ 67108864
    → (IsOk (system_of one) → (the_isolate file).CanJudge (Some one ∷ []))
    × (system_of one ≡ Ok sys → Spells sys (records_of two) events
    → (the_tally file other).CanJudge (Some one ∷ Some two ∷ []))
files_that_are_judged file other one two sys events short shorter = (
  (λ good. record { bytes = one; there = refl; short = short; good = good }),
  (λ is good. record {
    sys = sys;
    spelled =
        record {
          first = record { bytes = one; there = refl; short = short; good = is };
          second =
              record { bytes = two; there = refl; short = shorter; good = record { value = events; gives = good } };
        };
  }),
)

-- all but `rtds` and `isolate` get their verdict, and `isolate` refuses a file for such a core
-- alone
they_end_with_a_verdict : (file other : List ℕ) (pattern : Pattern) (slots : ℕ) (contents : Contents) (status : Status)
    → ((the_audit file other).EndsAs contents status → IsVerdict status)
    × ((the_tally file other).EndsAs contents status → IsVerdict status)
    × ((the_steal file other).EndsAs contents status → IsVerdict status)
    × ((the_simulate file other pattern slots).EndsAs contents status → IsVerdict status)
they_end_with_a_verdict file other pattern slots contents status =
    (λ ends. ends, λ ends. ends, λ ends. ends, λ ends. ends)

what_refuses_an_isolation : (file : List ℕ) (contents : Contents) → (the_isolate file).EndsAs contents BadFile
    → (sys : SystemView) × IsReadable 1 contents (λ bytes. system_of bytes ≡ Ok sys) × (core : ℕ)
    × IsFirstOther sys core
what_refuses_an_isolation file contents ends = (ends.sys, ends.spelled, ends.core, ends.other)
