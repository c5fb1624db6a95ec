-- The lines of faults that rows show: of releases, workloads and traces. The header is row 1.
use Rattle.std.specs.Prelude.{ℕ, List, [], ◌∷◌, codes}
use Rattle.std.specs.Fmt.{decimal}
use Rattle.release_file.specs.declared.fault.ReleaseFault.{ReleaseFault}
use Rattle.release_file.specs.declared.fault.ReleaseFault.TheVariants.{BadHeader, BadRow, Unknown, OutOfRange, TooEarly, BadOrder, NoMemory}
use Rattle.trace_file.specs.declared.fault.TraceFault.{TraceFault}
use Rattle.trace_file.specs.declared.fault.TraceFault.TheVariants.{BadHeader as TraceBadHeader, BadRow as TraceBadRow, Unknown as TraceUnknown, OutOfRange as TraceOutOfRange, TimeFalls, WrongCore, NotStarted, StartedTwice, NotBlocked, NotRunnable, StillRunning, CoreIdle, AfterEnd, NoEnd, NoMemory as TraceNoMemory}
use Rattle.script_file.specs.declared.fault.ScriptFault.{ScriptFault}
use Rattle.script_file.specs.declared.fault.ScriptFault.TheVariants.{BadHeader as ScriptBadHeader, BadRow as ScriptBadRow, NoMemory as ScriptNoMemory}
use Rattle.rt_report.specs.Words.{joined}

-- `fault=WORD row=R file=K`
abbrev pub row_line : List ℕ → ℕ → ℕ → List ℕ
row_line word row file = joined (
    codes "fault=" ∷ word
    ∷ codes " row=" ∷ decimal row
    ∷ codes " file=" ∷ decimal file ∷ codes "\n" ∷ [])

abbrev pub release_fault_text : ReleaseFault → ℕ → List ℕ
release_fault_text BadHeader file = row_line (codes "BadHeader") 1 file
release_fault_text (BadRow row) file = row_line (codes "BadRow") row file
release_fault_text (Unknown row) file = row_line (codes "Unknown") row file
release_fault_text (OutOfRange row) file = row_line (codes "OutOfRange") row file
release_fault_text (TooEarly row) file = row_line (codes "TooEarly") row file
release_fault_text (BadOrder row) file = row_line (codes "BadOrder") row file
release_fault_text NoMemory file = []

abbrev pub trace_fault_text : TraceFault → ℕ → List ℕ
trace_fault_text TraceBadHeader file = row_line (codes "BadHeader") 1 file
trace_fault_text (TraceBadRow row) file = row_line (codes "BadRow") row file
trace_fault_text (TraceUnknown row) file = row_line (codes "Unknown") row file
trace_fault_text (TraceOutOfRange row) file = row_line (codes "OutOfRange") row file
trace_fault_text (TimeFalls row) file = row_line (codes "TimeFalls") row file
trace_fault_text (WrongCore row) file = row_line (codes "WrongCore") row file
trace_fault_text (NotStarted row) file = row_line (codes "NotStarted") row file
trace_fault_text (StartedTwice row) file = row_line (codes "StartedTwice") row file
trace_fault_text (NotBlocked row) file = row_line (codes "NotBlocked") row file
trace_fault_text (NotRunnable row) file = row_line (codes "NotRunnable") row file
trace_fault_text (StillRunning row) file = row_line (codes "StillRunning") row file
trace_fault_text (CoreIdle row) file = row_line (codes "CoreIdle") row file
trace_fault_text (AfterEnd row) file = row_line (codes "AfterEnd") row file
trace_fault_text (NoEnd row) file = row_line (codes "NoEnd") row file
trace_fault_text TraceNoMemory file = []

abbrev pub script_fault_text : ScriptFault → ℕ → List ℕ
script_fault_text ScriptBadHeader file = row_line (codes "BadHeader") 1 file
script_fault_text (ScriptBadRow row) file = row_line (codes "BadRow") row file
script_fault_text ScriptNoMemory file = []

abbrev pub guest_fault_text : ℕ → ℕ → List ℕ
guest_fault_text row file = row_line (codes "BadGuest") row file
