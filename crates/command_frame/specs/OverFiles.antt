-- The record of a command over a system file, and of one over a system file and a second file.
use Rattle.std.specs.Prelude.{List, [], ◌∷◌, ℕ}
use Rattle.tree_model.specs.View.{SystemView}
use Rattle.command_frame.specs.declared.status.Status.{Status}
use Rattle.command_frame.specs.Answer.{Contents, Saying, OnOneFile, IfSystem, HasSystem}
use Rattle.command_frame.specs.Attempt.{Attempt, OnAttempt, GivesSome}
use Rattle.command_frame.specs.CommandSpec.{CommandSpec, IsVerdict}
use Rattle.command_frame.specs.TwoFiles.{OnTwoFiles, AreReadable}

-- over a system file: this is said of its system, this is what that means of it, and so it ends
-- where the file spells a system
abbrev pub over_system_ending : (Says Tells : SystemView → Status → List ℕ → Type 0)
    → (Contents → Status → Type 0) → List ℕ → CommandSpec
over_system_ending Says Tells EndsAs file = record {
  files = file ∷ [];
  Answers = λ contents. OnOneFile contents Says;
  Means = λ contents status text. IfSystem contents (λ sys. Tells sys status text);
  CanJudge = HasSystem;
  EndsAs = EndsAs;
}

-- the same with a verdict at the end
abbrev pub over_system : (Says Tells : SystemView → Status → List ℕ → Type 0) → List ℕ → CommandSpec
over_system Says Tells = over_system_ending Says Tells (λ contents. IsVerdict)

-- what is said of a system and of bytes that are read so: their fault, or this of the value that
-- they spell
abbrev pub OnRead : {Value Fault : Type 0} → (SystemView → List ℕ → Attempt Value Fault)
    → (SystemView → Value → Status → List ℕ → Type 0) → SystemView → Saying
OnRead reading Says sys bytes = OnAttempt (reading sys bytes) (Says sys)

-- over a system file and a second file, whose bytes are read so: this is said of the system and of
-- the value, this is what an answer means, and so it ends where both can be read
abbrev pub over_pair : {Value Fault : Type 0} → (SystemView → List ℕ → Attempt Value Fault)
    → (SystemView → Value → Status → List ℕ → Type 0) → (Contents → Status → List ℕ → Type 0)
    → (Contents → Status → Type 0) → (first second : List ℕ) → CommandSpec
over_pair reading Says Means EndsAs first second = record {
  files = first ∷ second ∷ [];
  Answers = λ contents. OnTwoFiles contents (OnRead reading Says);
  Means = Means;
  CanJudge = λ contents. AreReadable contents (λ sys bytes. GivesSome (reading sys bytes));
  EndsAs = EndsAs;
}
