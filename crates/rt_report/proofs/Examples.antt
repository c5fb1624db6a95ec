-- Worked texts: each is spelled out by hand, and what defines it comes to just this.
use Rattle.slot_model.specs.Task.{plain_task}
use Rattle.std.proofs.Common.{◌≡◌, ℕ, false, List, [], ◌∷◌, ◌++◌, Option, Some, None, refl}
use Rattle.std.specs.Prelude.{codes, Ok, Err}
use Rattle.std.specs.Fmt.{digits}
use Rattle.slot_model.specs.declared.sched.Sched.TheVariants.{Edf, Rm}
use Rattle.slot_model.specs.declared.sched.Short.TheVariants.{At, Task}
use Rattle.tree_model.specs.declared.place.Parent.{Parent}
use Rattle.tree_model.specs.declared.place.Parent.TheVariants.{Core as on_core, Part as on_part}
use Rattle.tree_model.specs.declared.place.Place.TheVariants.{Core, Part}
use Rattle.tree_model.specs.declared.plan.Refusal.TheVariants.{Overfull, Wide}
use Rattle.tree_model.specs.View.{NamedTask, PartView, SystemView}
use Rattle.tree_model.specs.System.{computed_leaves, part_at}
use Rattle.system_file.specs.declared.fault.Spot.TheVariants.{Top, Core as at_core, Part as at_part, Task as at_task}
use Rattle.system_file.specs.declared.fault.SystemFault.TheVariants.{NotToml, MissingKey, WrongKind, UnknownKey, BadName, NameTaken, OutOfRange, NoSuchParent, Mixed, Empty, TooMany}
use Rattle.release_file.specs.declared.fault.ReleaseFault.TheVariants.{BadHeader as NoReleases, BadRow as ReleaseBadRow, Unknown as ReleaseUnknown, OutOfRange as ReleaseOutOfRange, TooEarly, BadOrder}
use Rattle.trace_file.specs.declared.fault.TraceFault.TheVariants.{BadHeader as NoTrace, BadRow, Unknown, OutOfRange as LateMoment, TimeFalls, WrongCore, NotStarted, StartedTwice, NotBlocked, NotRunnable, StillRunning, CoreIdle, AfterEnd, NoEnd}
use Rattle.cert_reader.specs.declared.fault.CertFault.TheVariants.{NotJson, WrongShape, BadNumber, TooMany as TooManyNodes}
use Rattle.script_file.specs.declared.fault.ScriptFault.TheVariants.{BadHeader as NoScript, BadRow as ScriptBadRow}
use Rattle.isolation.specs.declared.isolation.Isolation.TheVariants.{Isolated, ByTies, ByBlock}
use Rattle.admission_session.specs.declared.answer.Answer.TheVariants.{Done, Refused, Denied}
use Rattle.admission_session.specs.declared.fault.EditFault.TheVariants.{LastChild}
use Rattle.rt_report.specs.declared.fault.FileFault.TheVariants.{System, Release, Trace, Cert, Script, BadGuest, NoSuchLeaf, BadDeadline}
use Rattle.miss_witness.specs.declared.replay.Replay.{Replay}
use Rattle.auditor.specs.declared.finding.Finding.TheVariants.{Yes, Short, Over}
use Rattle.rt_report.specs.Audit.{audit_text}
use Rattle.rt_report.specs.Admit.{admit_text}
use Rattle.rt_report.specs.Bulk.{bulk_text}
use Rattle.cert_verify.specs.declared.flaw.Flaw.TheVariants.{Nodes, Budget, Cover, Hit, Least, Wide as TooWide}
use Rattle.rt_report.specs.Refusal.{refusal_text}
use Rattle.rt_report.specs.Check.{check_text}
use Rattle.rt_report.specs.Choose.{best_text, nothing_text}
use Rattle.rt_report.specs.Fault.{fault_text, not_rtds_text}
use Rattle.rt_report.specs.Interface.{interface_text}
use Rattle.rt_report.specs.Isolation.{isolation_text}
use Rattle.rt_report.specs.Place.{unplaced_text}
use Rattle.rt_report.specs.Responses.{responses_text}
use Rattle.rt_report.specs.Session.{session_text}
use Rattle.auditor.specs.declared.steal.StealFinding.TheVariants.{Yes as NoneDenied, Denied as DeniedAt}
use Rattle.rt_report.specs.Slack.{slack_text}
use Rattle.rt_report.specs.Steal.{steal_text}
use Rattle.rt_report.specs.Tally.{tally_text, tally_words}
use Rattle.rt_report.specs.Unread.{absent_text, too_long_text}
use Rattle.rt_report.specs.Version.{version_text}
use Rattle.rt_report.specs.declared.version.TheConstants.{VERSION}
use Rattle.rt_report.specs.Words.{served_name}

abbrev task : List ℕ → ℕ → ℕ → NamedTask
task name period work = record { name = name; task = plain_task period period work }

abbrev part : List ℕ → Parent → ℕ → Option ℕ → List NamedTask → PartView
part name parent period budget tasks =
    record { name = name; parent = parent; sched = Rm; period = period; budget = budget; extra = false; tasks = tasks }

-- on a core cpu0 an inner part mid with the leaves video and ctl, and a leaf net with a budget
abbrev tree : SystemView
tree = record {
  cores = record { name = codes "cpu0"; sched = Edf; supply = None } ∷ [];
  parts =
      part (codes "mid") (on_core 0) 50 None []
      ∷ part (codes "net") (on_core 0) 40 (Some 2) (task (codes "n1") 80 1 ∷ [])
      ∷ part (codes "video") (on_part 0) 100 None (task (codes "v1") 500 70 ∷ task (codes "v2") 750 90 ∷ [])
      ∷ part (codes "ctl") (on_part 0) 200 None (task (codes "c1") 400 40 ∷ []) ∷ [];
}

abbrev replays : List Replay
replays =
    record {
      part = 2;
      witness = record { budget = 27; start = 26; span = 1500; task = None };
      miss = Some (record { task = 1; release = 1027; deadline = 1527; got = 58; work = 70 });
    }
    ∷ record { part = 3; witness = record { budget = 39; start = 38; span = 999999996; task = Some 0 }; miss = None }
    ∷ []

the_text_of_a_yes : admit_text tree (30 ∷ 2 ∷ 28 ∷ 40 ∷ []) replays
    ≡ codes
    "verdict=yes\npart mid period=50 budget=30 computed\npart net period=40 budget=2 given\npart video period=100 budget=28 computed\nwitness video budget=27 start=26 span=1500 task=- replay=v2 release=1027 deadline=1527 got=58 of=70\npart ctl period=200 budget=40 computed\nwitness ctl budget=39 start=38 span=999999996 task=c1 replay=skipped\n"
unfolding digits
the_text_of_a_yes = refl

two_leaves_are_computed : computed_leaves tree ≡ 2 ∷ 3 ∷ []
two_leaves_are_computed = refl

a_core_that_is_overfull : refusal_text tree (Overfull (Core 0) (At 20)) ≡ codes "verdict=no\noverfull core cpu0 at=20\n"
unfolding digits
a_core_that_is_overfull = refl

a_leaf_whose_task_is_late : refusal_text tree (Overfull (Part 2) (Task 1))
    ≡ codes "verdict=no\noverfull part video task=v2\n"
a_leaf_whose_task_is_late = refl

an_inner_part_whose_server_is_late : refusal_text tree (Overfull (Part 0) (Task 1))
    ≡ codes "verdict=no\noverfull part mid task=ctl\n"
an_inner_part_whose_server_is_late = refl

a_leaf_that_is_wide : refusal_text tree (Wide (Part 3)) ≡ codes "verdict=wide\nwide part ctl\n"
a_leaf_that_is_wide = refl

a_certificate_that_proves : check_text tree (Ok tt) ≡ codes "verdict=yes\n"
a_certificate_that_proves = refl

flaws_in_their_words :
    ((check_text tree (Err Nodes) ≡ codes "verdict=no\nflaw=Nodes\n")
    × (check_text tree (Err (Budget (Core 0))) ≡ codes "verdict=no\nflaw=Budget core cpu0\n")
    × (check_text tree (Err (Cover (Part 0))) ≡ codes "verdict=no\nflaw=Cover part mid\n")
    × (check_text tree (Err (Hit (Part 1) 0)) ≡ codes "verdict=no\nflaw=Hit part net task=1\n")
    × (check_text tree (Err (Least (Part 3))) ≡ codes "verdict=no\nflaw=Least part ctl\n")
    × (check_text tree (Err (TooWide (Core 0))) ≡ codes "verdict=no\nflaw=Wide core cpu0\n"))
unfolding digits
flaws_in_their_words = (refl, refl, refl, refl, refl, refl)

a_core_serves_its_own_children : served_name tree (Core 0) 1 ≡ codes "net"
a_core_serves_its_own_children = refl

nothing_is_served_past_the_end : served_name tree (Part 0) 2 ≡ []
nothing_is_served_past_the_end = refl

faults_in_their_words :
    ((fault_text (System NotToml) 1 ≡ codes "fault=NotToml file=1\n")
    × (fault_text (System (MissingKey Top)) 1 ≡ codes "fault=MissingKey at=top file=1\n")
    × (fault_text (System (UnknownKey (at_core 0))) 1 ≡ codes "fault=UnknownKey at=core 1 file=1\n")
    × (fault_text (System (Mixed (at_part 1))) 2 ≡ codes "fault=Mixed at=part 2 file=2\n")
    × (fault_text (System (OutOfRange (at_task 0 8))) 1 ≡ codes "fault=OutOfRange at=part 1 task 9 file=1\n"))
unfolding digits
faults_in_their_words = (refl, refl, refl, refl, refl)

the_other_words_of_faults :
    ((fault_text (System (WrongKind Top)) 1 ≡ codes "fault=WrongKind at=top file=1\n")
    × (fault_text (System (BadName (at_part 0))) 1 ≡ codes "fault=BadName at=part 1 file=1\n")
    × (fault_text (System (NameTaken (at_part 1))) 1 ≡ codes "fault=NameTaken at=part 2 file=1\n")
    × (fault_text (System (NoSuchParent (at_part 0))) 1 ≡ codes "fault=NoSuchParent at=part 1 file=1\n")
    × (fault_text (System (Empty (at_part 0))) 1 ≡ codes "fault=Empty at=part 1 file=1\n")
    × (fault_text (System (TooMany Top)) 1 ≡ codes "fault=TooMany at=top file=1\n"))
unfolding digits
the_other_words_of_faults = (refl, refl, refl, refl, refl, refl)

faults_of_releases :
    ((fault_text (Release NoReleases) 2 ≡ codes "fault=BadHeader row=1 file=2\n")
    × (fault_text (Release (ReleaseBadRow 3)) 2 ≡ codes "fault=BadRow row=3 file=2\n")
    × (fault_text (Release (ReleaseUnknown 2)) 2 ≡ codes "fault=Unknown row=2 file=2\n")
    × (fault_text (Release (ReleaseOutOfRange 12)) 2 ≡ codes "fault=OutOfRange row=12 file=2\n")
    × (fault_text (Release (TooEarly 4)) 2 ≡ codes "fault=TooEarly row=4 file=2\n")
    × (fault_text (Release (BadOrder 2)) 2 ≡ codes "fault=BadOrder row=2 file=2\n"))
unfolding digits
faults_of_releases = (refl, refl, refl, refl, refl, refl)

faults_of_traces :
    ((fault_text (Trace NoTrace) 2 ≡ codes "fault=BadHeader row=1 file=2\n")
    × (fault_text (Trace (BadRow 2)) 2 ≡ codes "fault=BadRow row=2 file=2\n")
    × (fault_text (Trace (Unknown 5)) 2 ≡ codes "fault=Unknown row=5 file=2\n")
    × (fault_text (Trace (LateMoment 2)) 2 ≡ codes "fault=OutOfRange row=2 file=2\n")
    × (fault_text (Trace (TimeFalls 3)) 2 ≡ codes "fault=TimeFalls row=3 file=2\n")
    × (fault_text (Trace (WrongCore 4)) 2 ≡ codes "fault=WrongCore row=4 file=2\n")
    × (fault_text (Trace (NotStarted 2)) 2 ≡ codes "fault=NotStarted row=2 file=2\n"))
unfolding digits
faults_of_traces = (refl, refl, refl, refl, refl, refl, refl)

more_faults_of_traces :
    ((fault_text (Trace (StartedTwice 3)) 2 ≡ codes "fault=StartedTwice row=3 file=2\n")
    × (fault_text (Trace (NotBlocked 3)) 2 ≡ codes "fault=NotBlocked row=3 file=2\n")
    × (fault_text (Trace (NotRunnable 4)) 2 ≡ codes "fault=NotRunnable row=4 file=2\n")
    × (fault_text (Trace (StillRunning 4)) 2 ≡ codes "fault=StillRunning row=4 file=2\n")
    × (fault_text (Trace (CoreIdle 2)) 2 ≡ codes "fault=CoreIdle row=2 file=2\n")
    × (fault_text (Trace (AfterEnd 6)) 2 ≡ codes "fault=AfterEnd row=6 file=2\n")
    × (fault_text (Trace (NoEnd 3)) 2 ≡ codes "fault=NoEnd row=3 file=2\n"))
unfolding digits
more_faults_of_traces = (refl, refl, refl, refl, refl, refl, refl)

faults_of_certificates :
    ((fault_text (Cert NotJson) 2 ≡ codes "fault=NotJson file=2\n")
    × (fault_text (Cert WrongShape) 2 ≡ codes "fault=WrongShape file=2\n")
    × (fault_text (Cert BadNumber) 2 ≡ codes "fault=BadNumber file=2\n")
    × (fault_text (Cert TooManyNodes) 2 ≡ codes "fault=TooMany file=2\n"))
unfolding digits
faults_of_certificates = (refl, refl, refl, refl)

a_core_that_is_not_rtds : not_rtds_text tree 0 ≡ codes "fault=NotRtds core=cpu0 file=1\n"
unfolding digits
a_core_that_is_not_rtds = refl

-- of two cores each is told by its own name, and serves its own children
abbrev two_cores : SystemView
two_cores = record {
  cores =
      record { name = codes "little"; sched = Edf; supply = None }
      ∷ record { name = codes "big"; sched = Rm; supply = Some (10, 4) } ∷ [];
  parts =
      part (codes "a") (on_core 0) 40 (Some 2) (task (codes "t") 80 1 ∷ [])
      ∷ part (codes "b") (on_core 1) 40 (Some 2) (task (codes "t") 80 1 ∷ [])
      ∷ part (codes "c") (on_core 1) 50 (Some 2) (task (codes "t") 80 1 ∷ []) ∷ [];
}

the_second_core : (not_rtds_text two_cores 1 ≡ codes "fault=NotRtds core=big file=1\n")
    × (refusal_text two_cores (Wide (Core 1)) ≡ codes "verdict=wide\nwide core big\n")
    × (refusal_text two_cores (Overfull (Core 1) (Task 1)) ≡ codes "verdict=no\noverfull core big task=c\n")
    × (check_text two_cores (Err (Cover (Core 1))) ≡ codes "verdict=no\nflaw=Cover core big\n")
unfolding digits
the_second_core = (refl, refl, refl, refl)

-- the line of the version, whichever it is
the_version_is_told : version_text ≡ codes "rtadmit " ++ (VERSION.now ++ codes "\n")
the_version_is_told = refl

words_that_fit_no_leaf : (fault_text NoSuchLeaf 1 ≡ codes "fault=NoSuchLeaf file=1\n")
    × (fault_text BadDeadline 1 ≡ codes "fault=BadDeadline file=1\n")
unfolding digits
words_that_fit_no_leaf = (refl, refl)

the_interface_of_a_leaf : interface_text (part_at tree 3) 40 27
    ≡ codes "verdict=yes\ninterface ctl period=200 deadline=40 budget=27\n"
unfolding digits
the_interface_of_a_leaf = refl

choices_of_a_period : (best_text (part_at tree 3) 7 2 ≡ codes "verdict=yes\nchoose ctl period=7 budget=2\n")
    × (nothing_text 99 0 ≡ codes "verdict=no\nnothing over=99 wide=0\n")
unfolding digits
choices_of_a_period = (refl, refl)

what_an_audit_tells :
    ((audit_text tree (30 ∷ 2 ∷ 28 ∷ 40 ∷ []) (Yes 12) ≡ codes "verdict=yes\nperiods=12\n")
    × (audit_text tree (30 ∷ 2 ∷ 28 ∷ 40 ∷ []) (Short 1 4000 1999)
    ≡ codes "verdict=no\nshort net from_ns=4000 got_ns=1999 of_ns=2000\n")
    × (audit_text tree (30 ∷ 2 ∷ 28 ∷ 40 ∷ []) (Over 0 0 30001)
    ≡ codes "verdict=no\nover mid from_ns=0 got_ns=30001 of_ns=30000\n"))
unfolding digits
what_an_audit_tells = (refl, refl, refl)

files_that_are_not_read :
    ((absent_text 1 ≡ codes "absent file=1\n")
    × (absent_text 2 ≡ codes "absent file=2\n")
    × (too_long_text 1 ≡ codes "toolong file=1\n")
    × (too_long_text 2 ≡ codes "toolong file=2\n"))
unfolding digits
files_that_are_not_read = (refl, refl, refl, refl)

-- a generated host of one guest
a_generated_host : bulk_text (record { guests = 1; cores = 1; budgets = 53; jobs = 15; missed = 0; pending = 130460 })
    ≡ codes "verdict=yes\nguests=1 cores=1 budgets=53 jobs=15 missed=0 pending=130460\n"
unfolding digits
a_generated_host = refl

-- six counts that differ, each behind its own word
nine_guests_on_two_cores : bulk_text
    (record { guests = 9; cores = 2; budgets = 53; jobs = 15; missed = 4; pending = 130 })
    ≡ codes "verdict=yes\nguests=9 cores=2 budgets=53 jobs=15 missed=4 pending=130\n"
unfolding digits
nine_guests_on_two_cores = refl

-- a script and its guests, of which a row is told, and a guest that fits on no core
faults_of_scripts : (fault_text (Script NoScript) 2 ≡ codes "fault=BadHeader row=1 file=2\n")
    × (fault_text (Script (ScriptBadRow 3)) 2 ≡ codes "fault=BadRow row=3 file=2\n")
    × (fault_text (BadGuest 4) 2 ≡ codes "fault=BadGuest row=4 file=2\n")
    × (unplaced_text (codes "ctl") ≡ codes "verdict=no\nunplaced ctl\n")
unfolding digits
faults_of_scripts = (refl, refl, refl, refl)

-- a session: its rows are counted from 1, and below them stands the plan of what is left
what_a_session_tells : session_text
    (Done ∷ Refused LastChild ∷ Denied tree (Overfull (Part 2) (Task 1)) ∷ Denied tree (Wide (Core 0)) ∷ [])
    (record { cores = []; parts = part (codes "net") (on_core 0) 40 (Some 2) [] ∷ [] }) (2 ∷ [])
    ≡ codes
    "verdict=yes\n1 yes\n2 refused LastChild\n3 overfull part video task=v2\n4 wide core cpu0\npart net period=40 budget=2 given\n"
unfolding digits
what_a_session_tells = refl

-- a line for each task of a leaf
what_responses_tell : responses_text tree
    (record { part = 2; task = 1; worst = 90; limit = 750; replay = Some 90 }
    ∷ record { part = 3; task = 0; worst = 41; limit = 400; replay = None } ∷ [])
    ≡ codes
    "verdict=yes\nresponse video v2 worst=90 limit=750 replay=90\nresponse ctl c1 worst=41 limit=400 replay=skipped\n"
unfolding digits
what_responses_tell = refl

what_slack_tells : slack_text (part_at tree 2) (71 ∷ 95 ∷ [])
    ≡ codes "verdict=yes\nslack video v1 work=70 most=71\nslack video v2 work=90 most=95\n"
unfolding digits
what_slack_tells = refl

-- a line for each part on a core, and behind them one for each core with a part on it: yes where
-- each part is isolated however ties are broken
what_isolations_tell :
    (isolation_text tree (record { part = 1; isolation = Isolated 5 } ∷ [])
    (record { core = 0; budgets = 31; shortest = 40 } ∷ [])
    ≡ codes "verdict=yes\nisolated net last=5 of=40\ncore cpu0 budgets=31 shortest=40\n")
    × (isolation_text tree (record { part = 0; isolation = ByTies 31 } ∷ record { part = 1; isolation = ByBlock } ∷ [])
    [] ≡ codes "verdict=no\nexposed mid by=ties last=31 of=50\nexposed net by=block\n")
    × (isolation_text tree []
    (record { core = 0; budgets = 3; shortest = 4 } ∷ record { core = 0; budgets = 5; shortest = 6 } ∷ [])
    ≡ codes "verdict=yes\ncore cpu0 budgets=3 shortest=4\ncore cpu0 budgets=5 shortest=6\n")
unfolding digits
what_isolations_tell = (refl, refl, refl)

-- behind an audit a line for each part on a core, and none for the parts of a part
what_a_tally_tells : tally_text tree (30 ∷ 2 ∷ 28 ∷ 40 ∷ []) (Yes 3)
    (record { begun = 4; judged = 3; short = 0; over = 0; least = Some 30000; most = Some 31000 }
    ∷ record { begun = 0; judged = 0; short = 0; over = 0; least = None; most = None }
    ∷ record { begun = 9; judged = 9; short = 9; over = 9; least = None; most = None } ∷ [])
    ≡ codes
    "verdict=yes\nperiods=3\nvcpu mid begun=4 judged=3 short=0 over=0 least_ns=30000 most_ns=31000\nvcpu net begun=0 judged=0 short=0 over=0 least_ns=- most_ns=-\n"
unfolding digits
what_a_tally_tells = refl

-- six numbers that differ, each behind its own word
a_line_of_a_tally : tally_words (codes "net")
    (record { begun = 5; judged = 4; short = 2; over = 1; least = Some 1900; most = Some 2100 })
    ≡ codes "vcpu net begun=5 judged=4 short=2 over=1 least_ns=1900 most_ns=2100\n"
unfolding digits
a_line_of_a_tally = refl

-- what is stolen: yes, then a line for each part on a core, and none for the parts of a part
what_is_stolen : steal_text tree (30 ∷ 2 ∷ 28 ∷ 40 ∷ []) (NoneDenied 3)
    (record { begun = 4; kept = 3; denied = 0; most = Some 20000 }
    ∷ record { begun = 0; kept = 0; denied = 0; most = None }
    ∷ record { begun = 9; kept = 9; denied = 9; most = None } ∷ [])
    ≡ codes
    "verdict=yes\nperiods=3\nvcpu mid begun=4 kept=3 denied=0 most_ns=20000\nvcpu net begun=0 kept=0 denied=0 most_ns=-\n"
unfolding digits
what_is_stolen = refl

-- of a period of 40 slots net may lose 38
a_denied_period : steal_text tree (30 ∷ 2 ∷ 28 ∷ 40 ∷ []) (DeniedAt 1 4000 38001)
    (record { begun = 0; kept = 0; denied = 0; most = None }
    ∷ record { begun = 7; kept = 5; denied = 2; most = Some 38001 } ∷ [])
    ≡ codes
    "verdict=no\nstolen net from_ns=4000 got_ns=38001 of_ns=38000\nvcpu mid begun=0 kept=0 denied=0 most_ns=-\nvcpu net begun=7 kept=5 denied=2 most_ns=38001\n"
unfolding digits
a_denied_period = refl
