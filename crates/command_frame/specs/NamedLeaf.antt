-- The leaf that a command finds by its name.
use Rattle.std.specs.Prelude.{◌≡◌, ℕ, List, Ok}
use Rattle.tree_model.specs.View.{SystemView}
use Rattle.tree_model.specs.NamedLeaf.{IsLeafNamed}
use Rattle.system_file.specs.SystemFile.{system_of}
use Rattle.rt_report.specs.declared.fault.FileFault.TheVariants.{NoSuchLeaf}
use Rattle.rt_report.specs.Fault.{fault_text}
use Rattle.command_frame.specs.declared.status.Status.{Status}
use Rattle.command_frame.specs.declared.status.Status.TheVariants.{BadFile}
use Rattle.command_frame.specs.CommandSpec.{IsVerdict}
use Rattle.command_frame.specs.Answer.{Contents, IsReadable}
use Rattle.command_frame.specs.Attempt.{Attempt, OnAttempt}

-- no leaf has that name
abbrev pub HasNoLeaf : SystemView → List ℕ → Type 0
HasNoLeaf sys name = (q : ℕ) → IsLeafNamed sys name q → ⊥

-- the place of the leaf is found, or no leaf has the name
abbrev pub finding : SystemView → List ℕ → Attempt ℕ (Unit {0})
finding sys name = record {
  Gives = IsLeafNamed sys name;
  Refuses = λ none. HasNoLeaf sys name;
  status_of = λ none. BadFile;
  text_of = λ none. fault_text NoSuchLeaf 1;
}

-- the answer where no leaf has the name, or what is said of the leaf at a place
abbrev pub OnLeaf : SystemView → List ℕ → (ℕ → Status → List ℕ → Type 0) → Status → List ℕ → Type 0
OnLeaf sys name Says = OnAttempt (finding sys name) Says

-- the file spells a system of which this is so
pub record SpellsSuch (contents : Contents) (IsSuch : SystemView → Type 0) : Type 0 where
  pub sys : SystemView
  pub spelled : IsReadable 1 contents (λ bytes. system_of bytes ≡ Ok sys)
  pub such : IsSuch sys

-- a verdict, or the file is refused, where this is so of the system that it spells
abbrev pub IsVerdictUnless : (SystemView → Type 0) → Contents → Status → Type 0
IsVerdictUnless IsUnfit contents BadFile = SpellsSuch contents IsUnfit
IsVerdictUnless IsUnfit contents status = IsVerdict status
