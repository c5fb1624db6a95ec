-- What is said over one file, a system file: the laws of a command that has a judge of its system,
-- and how what was read becomes the answer to a command.
use Rattle.std.proofs.Common.{◌≡◌, ℕ, ◌≤◌, List, [], ◌∷◌, length, Option, Some, None, refl, sym, ap, subst, inl, inr, arith}
use Rattle.std.proofs.lemmas.Bool.{cases_lt, false≢true}
use Rattle.std.specs.Prelude.{IsOk, IfOk, IfSome, Result, Ok, Err}
use Rattle.tree_model.specs.View.{SystemView}
use Rattle.tree_model.specs.System.{IsSystem}
use Rattle.system_file.specs.declared.fault.SystemFault.{SystemFault}
use Rattle.system_file.specs.SystemFile.{system_of}
use Rattle.system_file.proofs.Laws.{read_is_spelled}
use Rattle.outside.specs.Files.{Files, Told}
use Rattle.command_frame.specs.declared.status.Status.{Status}
use Rattle.command_frame.specs.declared.status.Status.TheVariants.{TooLong, NoMemory}
use Rattle.command_frame.specs.declared.answer.Ending.{Ending}
use Rattle.command_frame.specs.declared.answer.Ending.TheVariants.{Answered, Unread, NoMemory as NoRoom}
use Rattle.command_frame.specs.CommandSpec.{IsVerdict}
use Rattle.command_frame.specs.OverFiles.{over_system, over_system_ending}
use Rattle.command_frame.specs.Answer.{Contents, AreContentsOf, file_at, file_limit, AtContent, AtFile, OnSystem, OnOneFile, IsOne, IsReadable, HasSystem}
use Rattle.command_frame.specs.Steps.{IfAnswered, IsJudged, IsSaidOver}
use Rattle.command_frame.specs.inner.Steps.{IsSpelled, StopsAt}
use Rattle.command_frame.proofs.AtFile.{more_at, more_on, one_at, one_on, statuses_at, statuses_on}
use Rattle.command_frame.proofs.CommandLaws.{CommandLaws}
use Rattle.command_frame.proofs.Statuses.{IsOfJob, job_of_judged}

-- one thing is said of a system, and it means this; of a file that is too long nothing is told
pub record AnswersSystem (Says Tells : SystemView → Status → List ℕ → Type 0) : Type 0 where
  pub one : (sys : SystemView) → IsSystem sys → IsOne (Says sys)
  pub judged : (sys : SystemView) (status : Status) (text : List ℕ) → Says sys status text → IsJudged status
  pub means : (sys : SystemView) → IsSystem sys → (status : Status) (text : List ℕ) → Says sys status text
      → Tells sys status text
  pub long : (sys : SystemView) (text : List ℕ) → Tells sys TooLong text

-- what is said of a system means this
pub record MeansSystem (Says Tells : SystemView → Status → List ℕ → Type 0) : Type 0 where
  pub means : (sys : SystemView) → IsSystem sys → (status : Status) (text : List ℕ) → Says sys status text
      → Tells sys status text
  pub long : (sys : SystemView) (text : List ℕ) → Tells sys TooLong text

-- what is said of the system that the file spells ends the command so
pub record EndsSystem (Says : SystemView → Status → List ℕ → Type 0) (EndsAs : Contents → Status → Type 0) : Type 0
  where
    pub verdict : (contents : Contents) (sys : SystemView) → IsReadable 1 contents (λ bytes. system_of bytes ≡ Ok sys)
        → (status : Status) (text : List ℕ) → Says sys status text → EndsAs contents status
    pub no_memory : (contents : Contents) → EndsAs contents NoMemory

-- what is said of a system has the status of a verdict
pub record JudgesSystem (Says Tells : SystemView → Status → List ℕ → Type 0) : Type 0 where
  pub one : (sys : SystemView) → IsSystem sys → IsOne (Says sys)
  pub judged : (sys : SystemView) (status : Status) (text : List ℕ) → Says sys status text → IsJudged status
  pub verdict : (sys : SystemView) (status : Status) (text : List ℕ) → Says sys status text → IsVerdict status
  pub means : (sys : SystemView) → IsSystem sys → (status : Status) (text : List ℕ) → Says sys status text
      → Tells sys status text
  pub long : (sys : SystemView) (text : List ℕ) → Tells sys TooLong text

-- what an answer means
long_tells : (Tells : SystemView → Status → List ℕ → Type 0) (spelled : Result SystemView SystemFault) (text : List ℕ)
    → ((sys : SystemView) (text : List ℕ) → Tells sys TooLong text) → IfOk spelled (λ sys. Tells sys TooLong text)
long_tells Tells (Ok sys) text long = long sys text
long_tells Tells (Err fault) text long = tt

spelled_tells : (Says Tells : SystemView → Status → List ℕ → Type 0) (bytes : List ℕ) → MeansSystem Says Tells
    → (spelled : Result SystemView SystemFault) → system_of bytes ≡ spelled → (status : Status) (text : List ℕ)
    → OnSystem spelled Says status text → IfOk spelled (λ sys. Tells sys status text)
spelled_tells Says Tells bytes judges (Ok sys) is status text h =
    judges.means sys (read_is_spelled bytes sys is).system status text h
spelled_tells Says Tells bytes judges (Err fault) is status text h = tt

pub content_tells : (Says Tells : SystemView → Status → List ℕ → Type 0) → MeansSystem Says Tells
    → (content : Option (List ℕ)) (status : Status) (text : List ℕ)
    → AtContent 1 content (λ bytes. OnSystem (system_of bytes) Says) status text
    → IfSome content (λ bytes. IfOk (system_of bytes) (λ sys. Tells sys status text))
content_tells Says Tells judges None status text h = tt
content_tells Says Tells judges (Some bytes) status text h = elim (cases_lt file_limit (length bytes)) [
  | inl more ↦
      subst (λ (s : Status). IfOk (system_of bytes) (λ sys. Tells sys s text)) (sym (h.too_long more).0)
      (long_tells Tells (system_of bytes) text judges.long)
  | inr short ↦ spelled_tells Says Tells bytes judges (system_of bytes) refl status text (h.said (omega (arith, short)))
]

-- a file that can be read is judged by the system that it spells
end_of_spelled : (Says : SystemView → Status → List ℕ → Type 0) (EndsAs : Contents → Status → Type 0)
    → EndsSystem Says EndsAs → (contents : Contents) (bytes : List ℕ) → file_at 1 contents ≡ Some bytes
    → length bytes ≤ file_limit
    → (spelled : Result SystemView SystemFault) → system_of bytes ≡ spelled → IsOk spelled
    → (status : Status) (text : List ℕ) → OnSystem spelled Says status text → EndsAs contents status
end_of_spelled Says EndsAs ends contents bytes there short (Ok sys) is ok status text h =
    ends.verdict contents sys (record { bytes = bytes; there = there; short = short; good = is }) status text h
end_of_spelled Says EndsAs ends contents bytes there short (Err fault) is ok status text h = absurd (false≢true ok)

end_of_readable : (Says : SystemView → Status → List ℕ → Type 0) (EndsAs : Contents → Status → Type 0)
    → EndsSystem Says EndsAs → (contents : Contents) (status : Status) (text : List ℕ)
    → HasSystem contents → AtFile 1 contents (λ bytes. OnSystem (system_of bytes) Says) status text
    → EndsAs contents status
end_of_readable Says EndsAs ends contents status text can h =
    let read : AtContent 1 (Some can.bytes) (λ bytes. OnSystem (system_of bytes) Says) status text
    = subst (λ (o : Option (List ℕ)). AtContent 1 o (λ bytes. OnSystem (system_of bytes) Says) status text)
    can.there h in
    end_of_spelled Says EndsAs ends contents can.bytes can.there can.short (system_of can.bytes) refl can.good status
    text (read.said can.short)

pub ending_laws : (name : List ℕ) (Says Tells : SystemView → Status → List ℕ → Type 0)
    (EndsAs : Contents → Status → Type 0) → AnswersSystem Says Tells → EndsSystem Says EndsAs
    → CommandLaws (over_system_ending Says Tells EndsAs name)
ending_laws name Says Tells EndsAs answers ends = record {
  one_answer =
      λ contents. one_at 1 (λ bytes. OnSystem (system_of bytes) Says) (one_on Says answers.one) (file_at 1 contents);
  means = λ contents.
      content_tells Says Tells (record { means = answers.means; long = answers.long }) (file_at 1 contents);
  of_job = λ contents status text h. statuses_at IsOfJob tt tt 1 (λ bytes. OnSystem (system_of bytes) Says) status text
      (λ bytes. statuses_on IsOfJob tt Says status text
      (λ sys said. job_of_judged status (answers.judged sys status text said)) (system_of bytes))
      (file_at 1 contents) h;
  verdict = λ contents status text can h. end_of_readable Says EndsAs ends contents status text can h;
  no_memory = ends.no_memory;
  without_file = λ none. absurd (cc);
}

pub system_laws : (name : List ℕ) (Says Tells : SystemView → Status → List ℕ → Type 0) → JudgesSystem Says Tells
    → CommandLaws (over_system Says Tells name)
system_laws name Says Tells judges = ending_laws name Says Tells (λ contents. IsVerdict)
    (record { one = judges.one; judged = judges.judged; means = judges.means; long = judges.long })
    (record { verdict = λ contents sys spelled. judges.verdict sys; no_memory = λ contents. tt })

-- the contents of the one file
held_one : (files : Option Files) (name : List ℕ) (content : Option (List ℕ))
    → Told files name (λ told. told ≡ content) → AreContentsOf (name ∷ []) files (content ∷ [])
held_one None name content told = tt
held_one (Some files) name content told = ap (λ (c : Option (List ℕ)). c ∷ []) (sym told)

-- a file that is refused has its answer
pub stop_said : (name : List ℕ) (Says : SystemView → Status → List ℕ → Type 0) (files : Option Files) (stop : Ending)
    → IfAnswered stop
    (λ a. StopsAt 1 files name (λ bytes. OnSystem (system_of bytes) (λ _ _ _. ⊥)) a.status a.text.items)
    → IfAnswered stop
    (λ a. IsSaidOver (name ∷ []) (λ contents. OnOneFile contents Says) files a.status a.text.items)
stop_said name Says files (Answered a) h = record {
  contents = h.content ∷ [];
  held = held_one files name h.content h.held;
  answers =
      more_at 1 (λ bytes. OnSystem (system_of bytes) (λ _ _ _. ⊥)) (λ bytes. OnSystem (system_of bytes) Says) a.status
      a.text.items (λ bytes. more_on Says (system_of bytes) a.status a.text.items) h.content h.answers;
}
stop_said name Says files Unread h = tt
stop_said name Says files NoRoom h = tt

-- and so has a system that was judged
pub system_said : (name : List ℕ) (Says : SystemView → Status → List ℕ → Type 0) (files : Option Files)
    (sys : SystemView) → IsSpelled files name sys → (end : Ending)
    → IfAnswered end (λ a. Says sys a.status a.text.items)
    → IfAnswered end
    (λ a. IsSaidOver (name ∷ []) (λ contents. OnOneFile contents Says) files a.status a.text.items)
system_said name Says files sys read (Answered a) said = record {
  contents = Some read.bytes ∷ [];
  held = held_one files name (Some read.bytes) read.held;
  answers =
      record {
        too_long = λ l. absurd (omega (arith, l, read.short));
        said =
            λ l. subst (λ (r : Result SystemView SystemFault). OnSystem r Says a.status a.text.items)
            (sym read.spelled) said;
      };
}
system_said name Says files sys read Unread said = tt
system_said name Says files sys read NoRoom said = tt

pub is_system : (files : Option Files) (name : List ℕ) (sys : SystemView) → IsSpelled files name sys → IsSystem sys
is_system files name sys read = (read_is_spelled read.bytes sys read.spelled).system
