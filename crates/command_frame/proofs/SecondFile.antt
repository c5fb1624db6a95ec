-- What was read of a second file and has a fault refuses its bytes.
use Rattle.std.proofs.Common.{◌≡◌, ◌⊎◌, ℕ, List, Result, Ok, Err, refl, subst, inl, inr}
use Rattle.std.specs.Prelude.{IfErr}
use Rattle.script_file.specs.declared.fault.ScriptFault.TheVariants.{NoMemory as ScriptNoMemory}
use Rattle.script_file.specs.declared.guests.GuestFault.{GuestFault}
use Rattle.script_file.specs.declared.guests.GuestFault.TheVariants.{Script as NoScript}
use Rattle.rt_report.specs.declared.fault.FileFault.{FileFault}
use Rattle.rt_report.specs.Fault.{IsFault}
use Rattle.command_frame.specs.declared.status.Status.{Status}
use Rattle.command_frame.specs.declared.answer.Ending.{Ending}
use Rattle.command_frame.specs.declared.answer.Ending.TheVariants.{Answered, Unread, NoMemory as NoRoom}
use Rattle.command_frame.specs.Attempt.{IsRefused, OnAttempt}
use Rattle.command_frame.specs.SecondFile.{IsToldFault, guest_fault, reading_as}
use Rattle.command_frame.specs.Steps.{IfAnswered}
use Rattle.command_frame.proofs.Attempt.{refusal_stops}

-- a fault or want of memory: where it is a fault, this is so of it
pub unless_memory : {Read Fault : Type 0} (IsMemory Refuses : Fault → Type 0) (read : Result Read Fault)
    → IfErr read (λ fault. IsMemory fault ⊎ Refuses fault)
    → IfErr read (λ fault. (IsMemory fault → ⊥) → Refuses fault)
unless_memory IsMemory Refuses (Ok value) h = tt
unless_memory IsMemory Refuses (Err fault) h = λ real. elim h [
  | inl memory ↦ absurd (real memory)
  | inr refuses ↦ refuses
]

-- the same of a file of guests, whose faults are those of a script, too
pub unless_script_memory : {Read : Type 0} (Refuses : GuestFault → Type 0) (read : Result Read GuestFault)
    → IfErr read (λ fault. (fault ≡ NoScript ScriptNoMemory) ⊎ Refuses fault)
    → IfErr read (λ fault. IsFault (guest_fault fault) → Refuses fault)
unless_script_memory Refuses (Ok value) h = tt
unless_script_memory Refuses (Err fault) h = λ real. elim h [
  | inl memory ↦ absurd (subst (λ (f : GuestFault). IsFault (guest_fault f)) memory real refl)
  | inr refuses ↦ refuses
]

module _ {Read Value Fault : Type 0} (told_as : Fault → FileFault) (Gives : Value → Type 0) (Refuses : Fault → Type 0)
    (read : Result Read Fault) (refuses : IfErr read (λ fault. IsFault (told_as fault) → Refuses fault)) where
  refusal_of : (status : Status) (text : List ℕ) → IsToldFault told_as read status text
      → IsRefused (reading_as told_as Gives Refuses) status text
  refusal_of status text h = record {
    refusal = h.fault;
    refuses = subst (λ (r : Result Read Fault). IfErr r (λ fault. IsFault (told_as fault) → Refuses fault)) h.found
        refuses h.real;
    status_is = h.status_is;
    told = h.told;
  }

  fault_refuses : (stop : Ending)
      → IfAnswered stop (λ a. IsToldFault told_as read a.status a.text.items)
      → IfAnswered stop (λ a. IsRefused (reading_as told_as Gives Refuses) a.status a.text.items)
  fault_refuses (Answered a) h = refusal_of a.status a.text.items h
  fault_refuses Unread h = tt
  fault_refuses NoRoom h = tt

  -- and that is what is said of them, whatever is said of a value
  pub fault_said : (Says : Value → Status → List ℕ → Type 0) (stop : Ending)
      → IfAnswered stop (λ a. IsToldFault told_as read a.status a.text.items)
      → IfAnswered stop (λ a. OnAttempt (reading_as told_as Gives Refuses) Says a.status a.text.items)
  fault_said Says stop h = refusal_stops (reading_as told_as Gives Refuses) Says stop (fault_refuses stop h)
