-- The line of a fault of a file that a command reads, and of a core that RTDS does not run.
use Rattle.std.specs.Prelude.{◌≢◌, ℕ, List, [], ◌∷◌, codes, ⊤}
use Rattle.std.specs.Fmt.{decimal}
use Rattle.system_file.specs.declared.fault.SystemFault.TheVariants.{NoMemory as SystemNoMemory}
use Rattle.release_file.specs.declared.fault.ReleaseFault.TheVariants.{NoMemory as ReleaseNoMemory}
use Rattle.trace_file.specs.declared.fault.TraceFault.TheVariants.{NoMemory as TraceNoMemory}
use Rattle.cert_reader.specs.declared.fault.CertFault.TheVariants.{NoMemory as CertNoMemory}
use Rattle.script_file.specs.declared.fault.ScriptFault.TheVariants.{NoMemory as ScriptNoMemory}
use Rattle.tree_model.specs.View.{SystemView}
use Rattle.tree_model.specs.System.{core_at}
use Rattle.rt_report.specs.Words.{joined}
use Rattle.rt_report.specs.SystemFault.{system_fault_text}
use Rattle.rt_report.specs.RowFault.{release_fault_text, trace_fault_text, script_fault_text, guest_fault_text}
use Rattle.rt_report.specs.CertFault.{cert_fault_text}
use Rattle.rt_report.specs.declared.fault.FileFault.{FileFault}
use Rattle.rt_report.specs.declared.fault.FileFault.TheVariants.{System, Release, Trace, Cert, Script, BadGuest, NoSuchLeaf, BadDeadline}

-- `fault=NotRtds core=NAME file=1`, of a core of the system
abbrev pub not_rtds_text : SystemView → ℕ → List ℕ
not_rtds_text sys c = joined (
    codes "fault=NotRtds core=" ∷ (core_at sys c).name ∷ codes " file=1\n" ∷ [])

-- `fault=FAULT file=K`, of a word that does not fit the file
abbrev pub word_fault_text : List ℕ → ℕ → List ℕ
word_fault_text fault file = joined (
    codes "fault=" ∷ fault ∷ codes " file=" ∷ decimal file ∷ codes "\n" ∷ [])

-- the line of a fault
abbrev pub fault_text : FileFault → ℕ → List ℕ
fault_text (System fault) file = system_fault_text fault file
fault_text (Release fault) file = release_fault_text fault file
fault_text (Trace fault) file = trace_fault_text fault file
fault_text (Cert fault) file = cert_fault_text fault file
fault_text (Script fault) file = script_fault_text fault file
fault_text (BadGuest row) file = guest_fault_text row file
fault_text NoSuchLeaf file = word_fault_text (codes "NoSuchLeaf") file
fault_text BadDeadline file = word_fault_text (codes "BadDeadline") file

-- a fault of the file itself, which can be told: memory did not run out
abbrev pub IsFault : FileFault → Type 0
IsFault (System fault) = fault ≢ SystemNoMemory
IsFault (Release fault) = fault ≢ ReleaseNoMemory
IsFault (Trace fault) = fault ≢ TraceNoMemory
IsFault (Cert fault) = fault ≢ CertNoMemory
IsFault (Script fault) = fault ≢ ScriptNoMemory
IsFault (BadGuest row) = ⊤
IsFault NoSuchLeaf = ⊤
IsFault BadDeadline = ⊤
