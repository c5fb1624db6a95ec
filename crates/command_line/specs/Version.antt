-- `version`: what it answers.
use Rattle.std.specs.Prelude.{◌≡◌, ℕ, List, [], ⊤}
use Rattle.rt_report.specs.Version.{version_text}
use Rattle.command_frame.specs.declared.status.Status.{Status}
use Rattle.command_frame.specs.declared.status.Status.TheVariants.{Yes}
use Rattle.command_frame.specs.CommandSpec.{CommandSpec, IsYes}

-- the answer is yes, always, and the text is the line of the version
pub record AnswersVersion (status : Status) (text : List ℕ) : Type 0 where
  pub is_yes : status ≡ Yes
  pub told : text ≡ version_text

-- what there is to say of the command: its text means what it tells, whatever stands in any file
abbrev pub the_version : CommandSpec
the_version = record {
  files = [];
  Answers = λ contents. AnswersVersion;
  Means = λ contents status text. text ≡ version_text;
  CanJudge = λ contents. ⊤;
  EndsAs = λ contents. IsYes;
}
