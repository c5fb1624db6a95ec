-- What is so of each command, by the record that its file gives.
use Rattle.std.proofs.Common.{◌≡◌, List, [], ℕ, Option, Some, None, refl}
use Rattle.outside.specs.Files.{Files}
use Rattle.command_frame.specs.declared.status.Status.{Status}
use Rattle.command_frame.specs.declared.status.Status.TheVariants.{Yes, NoMemory}
use Rattle.command_frame.specs.Answer.{Contents, AreContentsOf, IsOne}
use Rattle.command_frame.specs.CommandSpec.{CommandSpec}
use Rattle.command_frame.proofs.Statuses.{IsOfJob}

pub record CommandLaws (spec : CommandSpec) : Type 0 where
  -- there is one answer
  pub one_answer : (contents : Contents) → IsOne (spec.Answers contents)
  -- it means what it is to mean
  pub means : (contents : Contents) (status : Status) (text : List ℕ) → spec.Answers contents status text
      → spec.Means contents status text
  -- it has the status of an answer
  pub of_job : (contents : Contents) (status : Status) (text : List ℕ) → spec.Answers contents status text
      → IsOfJob status
  -- where the command can be judged, it ends as it is to end, and want of memory may end it too
  pub verdict : (contents : Contents) (status : Status) (text : List ℕ) → spec.CanJudge contents
      → spec.Answers contents status text → spec.EndsAs contents status
  pub no_memory : (contents : Contents) → spec.EndsAs contents NoMemory
  -- a command without files is answered yes
  pub without_file : spec.files ≡ [] → (contents : Contents) (status : Status) (text : List ℕ)
      → spec.Answers contents status text → status ≡ Yes

-- a command without files has no contents
pub no_contents : (files : Option Files) → AreContentsOf [] files []
no_contents None = tt
no_contents (Some files) = refl
