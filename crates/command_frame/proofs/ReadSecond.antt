-- What is said over a system file and what the bytes of a second file spell: the laws of a command
-- that has a judge of both.
use Rattle.std.proofs.Common.{◌≡◌, ℕ, List, sym, subst}
use Rattle.std.specs.Prelude.{Ok}
use Rattle.tree_model.specs.View.{SystemView}
use Rattle.tree_model.specs.System.{IsSystem}
use Rattle.system_file.specs.SystemFile.{system_of}
use Rattle.system_file.proofs.Laws.{read_is_spelled}
use Rattle.command_frame.specs.declared.status.Status.{Status}
use Rattle.command_frame.specs.declared.status.Status.TheVariants.{BadFile, NoMemory}
use Rattle.command_frame.specs.Answer.{Contents, AtFile, IfNo, IfSystem, IsOne, IsReadable, file_at}
use Rattle.command_frame.specs.Attempt.{Attempt, GivesSome}
use Rattle.command_frame.specs.OverFiles.{OnRead, over_pair}
use Rattle.command_frame.specs.TwoFiles.{OnTwoFiles, SpellsSystem, AreReadable}
use Rattle.command_frame.specs.Steps.{IsJudged}
use Rattle.command_frame.proofs.AtFile.{statuses_at}
use Rattle.command_frame.proofs.Attempt.{IsDecided, one_attempt, said_of_given, statuses_attempt}
use Rattle.command_frame.proofs.CommandLaws.{CommandLaws}
use Rattle.command_frame.proofs.OneFile.{content_tells}
use Rattle.command_frame.proofs.Statuses.{IsOfJob, job_of_judged}
use Rattle.command_frame.proofs.TwoFiles.{one_two, said_of_two, statuses_two}

-- the bytes of the second file spell one value or have one first fault, and one thing is said of
-- the system and the value, with a status of files that were read
pub record JudgesRead {Value Fault : Type 0} (reading : SystemView → List ℕ → Attempt Value Fault)
    (Says : SystemView → Value → Status → List ℕ → Type 0) : Type 0 where
  pub decided : (sys : SystemView) (bytes : List ℕ) → IsDecided (reading sys bytes)
  pub bad_file : (sys : SystemView) (bytes : List ℕ) (fault : Fault) → (reading sys bytes).status_of fault ≡ BadFile
  pub one : (sys : SystemView) → IsSystem sys → (value : Value) → IsOne (Says sys value)
  pub judged : (sys : SystemView) (value : Value) (status : Status) (text : List ℕ) → Says sys value status text
      → IsJudged status

-- what is said of the system and the value that the files spell
pub said_of_read : {Value Fault : Type 0} (reading : SystemView → List ℕ → Attempt Value Fault)
    (Says : SystemView → Value → Status → List ℕ → Type 0) → JudgesRead reading Says
    → (contents : Contents) (sys : SystemView) (value : Value) (status : Status) (text : List ℕ)
    → SpellsSystem contents sys (λ bytes. (reading sys bytes).Gives value)
    → OnTwoFiles contents (OnRead reading Says) status text → Says sys value status text
said_of_read reading Says judges contents sys value status text spelled h =
    let bytes = spelled.second.bytes in
    said_of_given (reading sys bytes) (Says sys) status text (judges.decided sys bytes) value spelled.second.good
    (said_of_two contents sys _ (OnRead reading Says) status text spelled h)

-- what a no means of the system that the first file spells, whatever stands in the second
no_of_second : {Value Fault : Type 0} (reading : SystemView → List ℕ → Attempt Value Fault)
    (Says : SystemView → Value → Status → List ℕ → Type 0) → JudgesRead reading Says
    → (P : Type 0) (sys : SystemView) (status : Status) (text : List ℕ)
    → ((value : Value) → Says sys value status text → IfNo status P) → (contents : Contents)
    → AtFile 2 contents (OnRead reading Says sys) status text → IfNo status P
no_of_second reading Says judges P sys status text means contents h =
    statuses_at (λ (s : Status). IfNo s P) tt tt 2 (OnRead reading Says sys) status text
    (λ bytes. statuses_attempt (λ (s : Status). IfNo s P) (reading sys bytes) (Says sys) status text
    (λ fault refuses. subst (λ (s : Status). IfNo s P) (sym (judges.bad_file sys bytes fault)) tt) means)
    (file_at 2 contents) h

pub no_of_read : {Value Fault : Type 0} (reading : SystemView → List ℕ → Attempt Value Fault)
    (Says : SystemView → Value → Status → List ℕ → Type 0) → JudgesRead reading Says
    → (P : SystemView → List ℕ → Type 0)
    → ((sys : SystemView) → IsSystem sys → (value : Value) (status : Status) (text : List ℕ)
    → Says sys value status text → IfNo status (P sys text))
    → (contents : Contents) (status : Status) (text : List ℕ)
    → OnTwoFiles contents (OnRead reading Says) status text
    → IfSystem contents (λ sys. IfNo status (P sys text))
no_of_read reading Says judges P means contents status text h =
    content_tells (λ sys. AtFile 2 contents (OnRead reading Says sys)) (λ sys s t. IfNo s (P sys t)) (record {
      means =
          λ sys is s t. no_of_second reading Says judges (P sys t) sys s t (λ value. means sys is value s t) contents;
      long = λ sys t. tt;
    }) (file_at 1 contents) status text h

pub is_spelled_system : (contents : Contents) (sys : SystemView) (IsGood : List ℕ → Type 0)
    → SpellsSystem contents sys IsGood → IsSystem sys
is_spelled_system contents sys IsGood spelled = (read_is_spelled spelled.first.bytes sys spelled.first.good).system

read_judged : {Value Fault : Type 0} (reading : SystemView → List ℕ → Attempt Value Fault)
    (Says : SystemView → Value → Status → List ℕ → Type 0) → JudgesRead reading Says
    → (sys : SystemView) (bytes : List ℕ) (status : Status) (text : List ℕ) → OnRead reading Says sys bytes status text
    → IsJudged status
read_judged reading Says judges sys bytes status text h =
    statuses_attempt IsJudged (reading sys bytes) (Says sys) status text
    (λ fault refuses. subst IsJudged (sym (judges.bad_file sys bytes fault)) tt)
    (λ value. judges.judged sys value status text) h

-- what an answer means, and how the command ends over files that can be read
pub record MeansRead {Value Fault : Type 0} (reading : SystemView → List ℕ → Attempt Value Fault)
    (Says : SystemView → Value → Status → List ℕ → Type 0) (Means : Contents → Status → List ℕ → Type 0)
    (EndsAs : Contents → Status → Type 0) : Type 0 where
  pub means : (contents : Contents) (status : Status) (text : List ℕ)
      → OnTwoFiles contents (OnRead reading Says) status text → Means contents status text
  pub verdict : (contents : Contents) (sys : SystemView) → IsReadable 1 contents (λ bytes. system_of bytes ≡ Ok sys)
      → (value : Value) (status : Status) (text : List ℕ) → Says sys value status text → EndsAs contents status
  pub no_memory : (contents : Contents) → EndsAs contents NoMemory

read_verdict : {Value Fault : Type 0} (reading : SystemView → List ℕ → Attempt Value Fault)
    (Says : SystemView → Value → Status → List ℕ → Type 0) (Means : Contents → Status → List ℕ → Type 0)
    (EndsAs : Contents → Status → Type 0) → JudgesRead reading Says
    → MeansRead reading Says Means EndsAs → (contents : Contents) (status : Status) (text : List ℕ)
    → AreReadable contents (λ sys bytes. GivesSome (reading sys bytes))
    → OnTwoFiles contents (OnRead reading Says) status text → EndsAs contents status
read_verdict reading Says Means EndsAs judges means contents status text can h =
    let bytes = can.spelled.second.bytes in
    let read = can.spelled.second.good in
    means.verdict contents can.sys can.spelled.first read.value status text
    (said_of_given (reading can.sys bytes) (Says can.sys) status text (judges.decided can.sys bytes) read.value
    read.gives
    (said_of_two contents can.sys _ (OnRead reading Says) status text can.spelled h))

pub read_laws : {Value Fault : Type 0} (first second : List ℕ) (reading : SystemView → List ℕ → Attempt Value Fault)
    (Says : SystemView → Value → Status → List ℕ → Type 0) (Means : Contents → Status → List ℕ → Type 0)
    (EndsAs : Contents → Status → Type 0) → JudgesRead reading Says
    → MeansRead reading Says Means EndsAs → CommandLaws (over_pair reading Says Means EndsAs first second)
read_laws first second reading Says Means EndsAs judges means = record {
  one_answer =
      λ contents. one_two (OnRead reading Says) (λ sys is bytes. one_attempt (reading sys bytes) (Says sys)
      (judges.decided sys bytes) (λ value gives. judges.one sys is value)) contents;
  means = means.means;
  of_job =
      λ contents status text h. statuses_two IsOfJob tt tt tt contents (OnRead reading Says) status text
      (λ sys bytes said. job_of_judged status (read_judged reading Says judges sys bytes status text said)) h;
  verdict = read_verdict reading Says Means EndsAs judges means;
  no_memory = means.no_memory;
  without_file = λ none. absurd (cc);
}
