-- Which statuses an answer has.
use Rattle.std.specs.Prelude.{⊤}
use Rattle.command_frame.specs.declared.status.Status.{Status}
use Rattle.command_frame.specs.declared.status.Status.TheVariants.{Yes, No, Usage, BadFile, Wide, Absent, TooLong, ReadFault, WriteFault, NoMemory}
use Rattle.command_frame.specs.Answer.{IfNo}
use Rattle.command_frame.specs.Steps.{IsJudged}

-- the status of an answer to a command
abbrev pub IsOfJob : Status → Type 0
IsOfJob Usage = ⊥
IsOfJob ReadFault = ⊥
IsOfJob WriteFault = ⊥
IsOfJob NoMemory = ⊥
IsOfJob _ = ⊤

pub job_of_judged : (status : Status) → IsJudged status → IsOfJob status
job_of_judged Yes judged = tt
job_of_judged No judged = tt
job_of_judged BadFile judged = tt
job_of_judged Wide judged = tt
job_of_judged Usage judged = absurd judged
job_of_judged Absent judged = absurd judged
job_of_judged TooLong judged = absurd judged
job_of_judged ReadFault judged = absurd judged
job_of_judged WriteFault judged = absurd judged
job_of_judged NoMemory judged = absurd judged

-- what holds anyway holds where the answer is no
pub if_no : {P : Type 0} (status : Status) → P → IfNo status P
if_no Yes p = tt
if_no No p = p
if_no Usage p = tt
if_no BadFile p = tt
if_no Wide p = tt
if_no Absent p = tt
if_no TooLong p = tt
if_no ReadFault p = tt
if_no WriteFault p = tt
if_no NoMemory p = tt
