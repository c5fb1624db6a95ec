-- What the bytes of a second file spell, and how their fault is answered.
use Rattle.std.specs.Prelude.{◌≡◌, ℕ, List, Result, Err}
use Rattle.script_file.specs.declared.guests.GuestFault.{GuestFault}
use Rattle.script_file.specs.declared.guests.GuestFault.TheVariants.{Script as NoScript, Other}
use Rattle.rt_report.specs.declared.fault.FileFault.{FileFault}
use Rattle.rt_report.specs.declared.fault.FileFault.TheVariants.{Script, BadGuest}
use Rattle.rt_report.specs.Fault.{fault_text, IsFault}
use Rattle.command_frame.specs.declared.status.Status.{Status}
use Rattle.command_frame.specs.declared.status.Status.TheVariants.{BadFile}
use Rattle.command_frame.specs.Attempt.{Attempt}

-- the bytes spell such a value, or have such a fault, which is told as this one of the second file
abbrev pub reading_as : {Value Fault : Type 0} → (Fault → FileFault) → (Value → Type 0)
    → (Fault → Type 0) → Attempt Value Fault
reading_as told_as Gives Refuses = record {
  Gives = Gives;
  Refuses = Refuses;
  status_of = λ fault. BadFile;
  text_of = λ fault. fault_text (told_as fault) 2;
}

-- the fault of a file of guests: that of a script, or the row of no guest
abbrev pub guest_fault : GuestFault → FileFault
guest_fault (NoScript fault) = Script fault
guest_fault (Other row) = BadGuest row

-- what was read has a fault of the file, and that is answered
pub record IsToldFault {Value Fault : Type 0} (told_as : Fault → FileFault)
    (read : Result Value Fault) (status : Status) (text : List ℕ) : Type 0 where
  pub fault : Fault
  pub found : read ≡ Err fault
  pub real : IsFault (told_as fault)
  pub status_is : status ≡ BadFile
  pub told : text ≡ fault_text (told_as fault) 2
