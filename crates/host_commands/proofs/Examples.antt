-- What the answers of a session, of a placement and of a generated host mean, taken apart. A
-- definition that says less breaks one of these.
use Rattle.std.proofs.Common.{◌≡◌, ◌≢◌, ◌⊎◌, ℕ, ◌<◌, ◌≤◌, List, [], ◌∷◌, length, take, Option, Some, refl}
use Rattle.std.specs.Prelude.{slice_get, Ok, codes}
use Rattle.std.specs.Fmt.{digits}
use Rattle.slot_model.specs.declared.sched.Short.TheVariants.{At}
use Rattle.csv_rows.specs.Reading.{records_of}
use Rattle.csv_rows.specs.Rules.{row_of}
use Rattle.tree_model.specs.declared.place.Place.TheVariants.{Core}
use Rattle.tree_model.specs.declared.plan.Refusal.{Refusal}
use Rattle.tree_model.specs.declared.plan.Refusal.TheVariants.{Overfull, Wide as NodeWide}
use Rattle.tree_model.specs.View.{PartView, SystemView}
use Rattle.tree_model.specs.System.{IsSystem}
use Rattle.tree_model.specs.Tree.{NoLoss}
use Rattle.tree_model.specs.FirstTree.{FirstTree}
use Rattle.tree_model.specs.Admission.{Admitted, FirstRefusal}
use Rattle.tree_spans.specs.TreeCounts.{NoneMisses}
use Rattle.bulk_host.specs.Host.{bulk_host}
use Rattle.bulk_run.specs.declared.counts.BulkCounts.{BulkCounts}
use Rattle.bulk_run.specs.Summary.{bulk_slots, bulk_supplies, bulk_jobs, AreBulkCounts}
use Rattle.system_file.specs.SystemFile.{system_of}
use Rattle.compose_tree.specs.Keeping.{Keeping}
use Rattle.compose_tree.specs.Truth.{IsTight, RefusalHolds}
use Rattle.admission_session.specs.declared.answer.Answer.{Answer}
use Rattle.admission_session.specs.declared.answer.Answer.TheVariants.{Refused as NoEdit, Denied}
use Rattle.admission_session.specs.declared.edit.Edit.{Edit}
use Rattle.admission_session.specs.declared.fault.EditFault.{EditFault}
use Rattle.admission_session.specs.Edits.{MakesSystem}
use Rattle.admission_session.specs.History.{AreAnswered}
use Rattle.admission_session.specs.Leaves.{with_guest}
use Rattle.placement.specs.declared.fault.PlaceFault.TheVariants.{Refused, BadGuest as NoGuest, Unplaced}
use Rattle.placement.specs.Placement.{IsPlaced}
use Rattle.placement.specs.Answers.{IsBadGuest, IsNoneWith, StopsAt, guest_at}
use Rattle.script_file.specs.declared.fault.ScriptFault.{ScriptFault}
use Rattle.script_file.specs.declared.fault.ScriptFault.TheVariants.{BadHeader, BadRow}
use Rattle.script_file.specs.declared.guests.GuestFault.{GuestFault}
use Rattle.script_file.specs.declared.guests.GuestFault.TheVariants.{Script as NoScript, Other}
use Rattle.script_file.specs.Script.{SpellsScript, IsScriptFault, script_rows}
use Rattle.script_file.specs.Guests.{SpellsGuests, IsGuestFault}
use Rattle.rt_report.specs.declared.fault.FileFault.TheVariants.{BadGuest, Script}
use Rattle.rt_report.specs.Fault.{fault_text}
use Rattle.rt_report.specs.Place.{unplaced_text}
use Rattle.rt_report.specs.Session.{session_text}
use Rattle.rt_report.specs.Refusal.{refusal_text}
use Rattle.command_frame.specs.Answer.{Contents, IsReadable}
use Rattle.command_frame.specs.Budgets.{IsTrulyOverfull, composing, refusal_status}
use Rattle.command_frame.specs.CommandSpec.{IsVerdict}
use Rattle.command_frame.specs.TwoFiles.{SpellsSystem}
use Rattle.command_frame.specs.declared.status.Status.{Status}
use Rattle.command_frame.specs.declared.status.Status.TheVariants.{Yes, No, Usage, BadFile, Wide, Absent, TooLong, ReadFault, WriteFault}
use Rattle.command_frame.specs.SecondFile.{guest_fault}
use Rattle.command_frame.proofs.Attempt.{refused_first}
use Rattle.command_frame.proofs.Budgets.{composing_decided}
use Rattle.host_commands.specs.Session.{Edits, EditsSystem, IsSession, MeansOfEdits, scripting, the_session}
use Rattle.host_commands.specs.Place.{IsSystemText, MeansOfPlaces, Places, PlacesGuests, TellsUnplaced, guesting, place_fault_text, place_status, placing, the_place}
use Rattle.host_commands.specs.Bulk.{HostKeepsDeadlines}
use Rattle.host_commands.proofs.Laws.Session.{scripting_decided}
use Rattle.host_commands.proofs.Laws.Place.{guesting_decided, placing_decided}

-- a yes tells the answer to each row, of which the refusal of each denied row holds and each
-- refused row makes no system of the one that the rows before it leave, and budgets that admit the
-- system that is left, lose no job, and can't be smaller at a computed leaf
what_a_session_gives : (sys : SystemView) (edits : List Edit) (text : List ℕ) → MeansOfEdits sys edits Yes text
    → (answers : List Answer) × (last : SystemView) × (budgets : List ℕ)
    × (text ≡ session_text answers last budgets) × AreAnswered sys edits answers last
    × ((k : ℕ) (edited : SystemView) (refusal : Refusal) → slice_get answers k ≡ Some (Denied edited refusal)
    → RefusalHolds edited refusal)
    × ((k : ℕ) (fault : EditFault) → slice_get answers k ≡ Some (NoEdit fault)
    → (edit : Edit) × (now : SystemView) × (slice_get edits k ≡ Some edit)
    × AreAnswered sys (take k edits) (take k answers) now × (MakesSystem now edit → ⊥))
    × Admitted last budgets × NoLoss last budgets × Keeping last budgets × IsTight last budgets
what_a_session_gives sys edits text left = (
  left.answers,
  left.last,
  left.budgets,
  left.told,
  left.answered,
  left.denials,
  (λ k fault e. let row = left.refused k fault e in (row.edit, row.now, row.is_row, row.before, row.none)),
  left.admitted,
  left.no_loss,
  left.each_node,
  left.tight,
)

-- a placement: the text is read as the placed system, which budgets admit; they lose no job, and
-- can't be smaller at a computed leaf
what_a_placement_gives : (sys : SystemView) (guests : List PartView) (text : List ℕ)
    → MeansOfPlaces sys guests Yes text
    → (placed : SystemView) × (budgets : List ℕ) × (system_of text ≡ Ok placed) × IsPlaced sys guests placed
    × Admitted placed budgets × NoLoss placed budgets × Keeping placed budgets × IsTight placed budgets
what_a_placement_gives sys guests text told =
    (told.placed, told.budgets, told.read, told.is, told.admitted, told.no_loss, told.each_node, told.tight)

-- no: the system is refused as it stands, or a guest is told which fits on no core
what_no_placement_gives : (sys : SystemView) (guests : List PartView) (text : List ℕ)
    → MeansOfPlaces sys guests No text → IsTrulyOverfull sys text ⊎ TellsUnplaced sys guests text
what_no_placement_gives sys guests text told = told

what_an_unplaced_guest_gives : (sys : SystemView) (guests : List PartView) (text : List ℕ)
    → TellsUnplaced sys guests text
    → (guest : ℕ) × (now : SystemView) × (guest < length guests)
    × (text ≡ unplaced_text (guest_at guests guest).name) × IsPlaced sys (take guest guests) now
    × ((c : ℕ) → c < length sys.cores → (refusal : Refusal)
    × FirstRefusal (with_guest now (guest_at guests guest) c) refusal
    × RefusalHolds (with_guest now (guest_at guests guest) c) refusal)
what_an_unplaced_guest_gives sys guests text told = (
  told.guest,
  told.now,
  told.is_guest,
  told.told,
  told.placed,
  (λ c l. let on = told.refused c l in (on.refusal, on.first, on.holds)),
)

-- the row of a guest that can be no leaf: with it no core makes a system
what_a_bad_guest_gives : (sys : SystemView) (guests : List PartView) (text : List ℕ)
    → MeansOfPlaces sys guests BadFile text
    → (guest : ℕ) × (text ≡ fault_text (BadGuest (row_of guest)) 2) × StopsAt sys guests guest IsBadGuest
    × StopsAt sys guests guest IsNoneWith
what_a_bad_guest_gives sys guests text told = (told.guest, told.told, told.stops, told.none)

-- a generated host: budgets admit it and lose no job, and none misses in the run that is counted
what_a_generated_host_gives : (n : ℕ) → HostKeepsDeadlines n
    → (budgets : List ℕ) × Admitted (bulk_host n) budgets × NoLoss (bulk_host n) budgets
    × ((core_runs part_runs : List (List (Option ℕ)))
    → FirstTree (bulk_host n) budgets bulk_slots (bulk_supplies n) (bulk_jobs n) core_runs part_runs
    → NoneMisses (bulk_host n) budgets bulk_slots (bulk_jobs n) core_runs part_runs)
    × ((counts : BulkCounts) → AreBulkCounts n counts → counts.missed ≡ 0)
what_a_generated_host_gives n host =
    (host.budgets, host.admitted, host.no_loss, host.none_misses, host.none_counted)

-- a fault of the second file goes before what the system is refused for
a_script_with_a_fault : (sys : SystemView) (bytes : List ℕ) (fault : ScriptFault) (status : Status) (text : List ℕ)
    → IsScriptFault (script_rows (records_of bytes)) fault → Edits sys bytes status text
    → (status ≡ BadFile) × (text ≡ fault_text (Script fault) 2)
a_script_with_a_fault sys bytes fault status text wrong said =
    refused_first (scripting bytes) (EditsSystem sys) (scripting_decided bytes) fault wrong status text said

guests_with_a_fault : (sys : SystemView) (bytes : List ℕ) (fault : GuestFault) (status : Status) (text : List ℕ)
    → IsGuestFault (records_of bytes) fault → Places sys bytes status text
    → (status ≡ BadFile) × (text ≡ fault_text (guest_fault fault) 2)
guests_with_a_fault sys bytes fault status text wrong said =
    refused_first (guesting bytes) (PlacesGuests sys) (guesting_decided bytes) fault wrong status text said

faults_of_guests :
    (fault_text (guest_fault (NoScript BadHeader)) 2 ≡ codes "fault=BadHeader row=1 file=2\n")
    × (fault_text (guest_fault (NoScript (BadRow 3))) 2 ≡ codes "fault=BadRow row=3 file=2\n")
    × (fault_text (guest_fault (Other 4)) 2 ≡ codes "fault=BadGuest row=4 file=2\n")
unfolding digits
faults_of_guests = (refl, refl, refl)

-- and a system that is refused goes before its rows, and before its guests
a_refused_session : (sys : SystemView) → IsSystem sys → (edits : List Edit) (refusal : Refusal) (status : Status)
    (text : List ℕ) → FirstRefusal sys refusal → EditsSystem sys edits status text
    → (status ≡ refusal_status refusal) × (text ≡ refusal_text sys refusal)
a_refused_session sys is edits refusal status text first said =
    refused_first (composing sys) (λ budgets. IsSession sys edits) (composing_decided sys is) refusal first status text
    said

a_refused_placement : (sys : SystemView) → IsSystem sys → (guests : List PartView) (refusal : Refusal)
    (status : Status) (text : List ℕ) → FirstRefusal sys refusal → PlacesGuests sys guests status text
    → (status ≡ refusal_status refusal) × (text ≡ refusal_text sys refusal)
a_refused_placement sys is guests refusal status text first said =
    refused_first (placing sys guests) IsSystemText (placing_decided sys is guests) (Refused refusal)
    (record { real = λ e. cc; fails = first; refused = tt; none = tt }) status text said

-- why guests are not placed, in statuses and in words: guests count from 0, and rows from 2
statuses_of_placements : (place_status (Refused (Overfull (Core 0) (At 20))) ≡ No)
    × (place_status (Refused (NodeWide (Core 0))) ≡ Wide) × (place_status (NoGuest 3) ≡ BadFile)
    × (place_status (Unplaced 3) ≡ No)
statuses_of_placements = (refl, refl, refl, refl)

words_of_placements : (sys : SystemView) (first second : PartView) (refusal : Refusal) →
    (place_fault_text sys (first ∷ second ∷ []) (NoGuest 0) ≡ codes "fault=BadGuest row=2 file=2\n")
    × (place_fault_text sys (first ∷ second ∷ []) (NoGuest 8) ≡ codes "fault=BadGuest row=10 file=2\n")
    × (place_fault_text sys (first ∷ second ∷ []) (Unplaced 1) ≡ unplaced_text second.name)
    × (place_fault_text sys (first ∷ second ∷ []) (Refused refusal) ≡ refusal_text sys refusal)
unfolding digits
words_of_placements sys first second refusal = (refl, refl, refl, refl)

-- files that are there, short enough and spell what they have to are judged
files_that_are_judged : (file other one two : List ℕ) (sys : SystemView) (edits : List Edit) (guests : List PartView)
    → length one ≤ 67108864 → length two ≤ 67108864 → system_of one ≡ Ok sys
    → (SpellsScript (records_of two) edits → (the_session file other).CanJudge (Some one ∷ Some two ∷ []))
    × (SpellsGuests (records_of two) guests → (the_place file other).CanJudge (Some one ∷ Some two ∷ []))
files_that_are_judged file other one two sys edits guests short shorter is =
    let first : IsReadable 1 (Some one ∷ Some two ∷ []) (λ bytes. system_of bytes ≡ Ok sys)
    = record { bytes = one; there = refl; short = short; good = is } in (
      (λ good. record {
        sys = sys;
        spelled =
            record {
              first = first;
              second =
                  record {
                    bytes = two;
                    there = refl;
                    short = shorter;
                    good = record { value = edits; gives = good };
                  };
            };
      }),
      (λ good. record {
        sys = sys;
        spelled =
            record {
              first = first;
              second =
                  record {
                    bytes = two;
                    there = refl;
                    short = shorter;
                    good = record { value = guests; gives = good };
                  };
            };
      }),
    )

-- `session` gets its verdict; `place` may refuse a file for a guest that can be no leaf, and for
-- nothing else
a_session_ends_with_a_verdict : (file script : List ℕ) (contents : Contents) (status : Status)
    → (the_session file script).EndsAs contents status → IsVerdict status
a_session_ends_with_a_verdict file script contents status ends = ends

what_refuses_a_guest : (file guests : List ℕ) (contents : Contents) → (the_place file guests).EndsAs contents BadFile
    → (sys : SystemView) × (placed : List PartView) × (guest : ℕ)
    × SpellsSystem contents sys (λ bytes. SpellsGuests (records_of bytes) placed)
    × StopsAt sys placed guest IsBadGuest
what_refuses_a_guest file guests contents ends = (ends.sys, ends.guests, ends.guest, ends.spelled, ends.stops)

no_other_end_of_a_placement : (file guests : List ℕ) (contents : Contents) →
    ((the_place file guests).EndsAs contents Usage → ⊥) × ((the_place file guests).EndsAs contents Absent → ⊥)
    × ((the_place file guests).EndsAs contents TooLong → ⊥) × ((the_place file guests).EndsAs contents ReadFault → ⊥)
    × ((the_place file guests).EndsAs contents WriteFault → ⊥)
no_other_end_of_a_placement file guests contents = (λ h. h, λ h. h, λ h. h, λ h. h, λ h. h)
