-- What `version` answers.
use Rattle.std.proofs.Common.{◌≡◌, ℕ, List, [], Option, refl, sym, ◌∙◌, subst}
use Rattle.outside.specs.Files.{Files}
use Rattle.rt_report.specs.Version.{version_text}
use Rattle.command_frame.specs.declared.status.Status.TheVariants.{Yes}
use Rattle.command_frame.specs.CommandSpec.{IsYes}
use Rattle.command_line.specs.Version.{the_version}
use Rattle.command_frame.specs.Steps.{IsSaid}
use Rattle.command_frame.proofs.CommandLaws.{CommandLaws, no_contents}
use Rattle.command_frame.proofs.Statuses.{IsOfJob}

pub version_laws : CommandLaws the_version
version_laws = record {
  one_answer = λ contents s t x y a b. (a.is_yes ∙ sym b.is_yes, a.told ∙ sym b.told);
  means = λ contents status text h. h.told;
  of_job = λ contents status text h. subst IsOfJob (sym h.is_yes) tt;
  verdict = λ contents status text can h. subst IsYes (sym h.is_yes) tt;
  no_memory = λ contents. tt;
  without_file = λ none contents status text h. h.is_yes;
}

-- the line of the version is its answer
pub version_answer : (files : Option Files) (text : List ℕ) → text ≡ version_text → IsSaid the_version files Yes text
version_answer files text told =
    record { contents = []; held = no_contents files; answers = record { is_yes = refl; told = told } }
