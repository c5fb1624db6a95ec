-- From an answer to what is reported.
use Rattle.std.proofs.Common.{◌≡◌, ◌≢◌, ◌⊎◌, ℕ, List, [], Option, Some, None, inl, inr, arith, refl, subst, sym, ◌∙◌}
use Rattle.std.specs.Prelude.{⊤, option_map}
use Rattle.std.specs.Io.KnownBytes.{Appends}
use Rattle.outside.specs.Files.{Files}
use Rattle.outside.specs.Counts.{Rose}
use Rattle.outside.specs.Written.{AppendsProperPrefix}
use Rattle.command_line.specs.declared.commands.Command.{Command as Parsed}
use Rattle.command_frame.specs.declared.status.Status.{Status}
use Rattle.command_frame.specs.declared.status.Status.TheVariants.{Yes, No, Usage, BadFile, Wide, Absent, TooLong, ReadFault, WriteFault, NoMemory}
use Rattle.command_line.specs.Commands.{Command, command_told, spec_of}
use Rattle.command_frame.specs.Answer.{Contents, IsOne}
use Rattle.rt_top.specs.Report.{JobAnswers, Answers, AreContents, IsAnswer, Reported, HasOneAnswer}
use Rattle.command_line.specs.Reading.{contents_of}
use Rattle.rt_top.specs.Causes.{IsJudgeable, IsVerdictOf, Stays}
use Rattle.command_line.specs.Steps.{IsSaidTo}
use Rattle.command_frame.proofs.CommandLaws.{CommandLaws, no_contents}
use Rattle.command_line.proofs.Laws.{AreLawful, laws_of}
use Rattle.command_frame.proofs.Statuses.{IsOfJob}

parsed_lawful : (parsed : Option Parsed) → AreLawful (option_map command_told parsed)
parsed_lawful None = tt
parsed_lawful (Some command) = laws_of command

-- what was parsed is a command with its laws
pub lawful : (parsed : Option Parsed) (command : Option Command) → option_map command_told parsed ≡ command
    → AreLawful command
lawful parsed command spelled = subst AreLawful spelled (parsed_lawful parsed)

-- to a command over told files there is one answer
one_of_words : (command : Option Command) → AreLawful command → (contents : Contents) → IsOne (Answers command contents)
one_of_words None laws contents = λ s t x y p q. (p.0 ∙ sym q.0, p.1 ∙ sym q.1)
one_of_words (Some command) laws contents = laws.one_answer contents

pub one_answer : (command : Option Command) → AreLawful command → (files : Files) → HasOneAnswer command files
one_answer command laws files = λ s t x y a b.
    let same : b.contents ≡ a.contents = b.held ∙ sym a.held in
    one_of_words command laws a.contents s t x y a.answers
    (subst (λ (c : Contents). Answers command c t y) same b.answers)

-- the status of an answer, which has a text
abbrev pub HasText : Status → Type 0
HasText ReadFault = ⊥
HasText WriteFault = ⊥
HasText NoMemory = ⊥
HasText _ = ⊤

-- a job's status has a text
has_text_of_job : (status : Status) → IsOfJob status → HasText status
has_text_of_job Yes h = tt
has_text_of_job No h = tt
has_text_of_job Usage h = tt
has_text_of_job BadFile h = tt
has_text_of_job Wide h = tt
has_text_of_job Absent h = tt
has_text_of_job TooLong h = tt
has_text_of_job ReadFault h = absurd h
has_text_of_job WriteFault h = absurd h
has_text_of_job NoMemory h = absurd h

answer_has_text : (command : Option Command) → AreLawful command
    → (contents : Contents) (status : Status) (text : List ℕ) → Answers command contents status text → HasText status
answer_has_text None laws contents status text h = subst HasText (sym h.0) tt
answer_has_text (Some command) laws contents status text h = has_text_of_job status (laws.of_job contents status text h)

-- only words that spell no command get the usage
usage_of : (command : Option Command) → AreLawful command → (contents : Contents) (text : List ℕ)
    → Answers command contents Usage text → command ≡ None
usage_of None laws contents text h = refl
usage_of (Some command) laws contents text h = absurd (laws.of_job contents Usage text h)

-- the answer that was finished: written whole, or cut
whole_report : (command : Option Command) (files : Option Files) (status : Status) (old new : Option (List ℕ))
    (text : List ℕ) → HasText status → IsAnswer command files status text → Appends old new text
    → Reported command files status old new
whole_report command files Yes old new text has answer written =
    record { text = text; answer = answer; written = written }
whole_report command files No old new text has answer written =
    record { text = text; answer = answer; written = written }
whole_report command files Usage old new text has answer written =
    record { text = text; answer = answer; written = written }
whole_report command files BadFile old new text has answer written =
    record { text = text; answer = answer; written = written }
whole_report command files Wide old new text has answer written =
    record { text = text; answer = answer; written = written }
whole_report command files Absent old new text has answer written =
    record { text = text; answer = answer; written = written }
whole_report command files TooLong old new text has answer written =
    record { text = text; answer = answer; written = written }
whole_report command files ReadFault old new text has answer written = absurd has
whole_report command files WriteFault old new text has answer written = absurd has
whole_report command files NoMemory old new text has answer written = absurd has

no_write_fault : (status : Status) → HasText status → status ≢ WriteFault
no_write_fault status has = λ e. absurd (subst HasText e has)

cut_report : (command : Option Command) (files : Option Files) (status result : Status) (old new : Option (List ℕ))
    (text : List ℕ) → result ≡ WriteFault → IsAnswer command files status text → AppendsProperPrefix old new text
    → Reported command files result old new
cut_report command files status result old new text is answer written =
    subst (λ (s : Status). Reported command files s old new) (sym is)
    (record { status = status; text = text; answer = answer; written = written })

-- the status of a write that failed
abbrev IsFault : Status → Type 0
IsFault WriteFault = ⊤
IsFault _ = ⊥

-- what `finish` gives
pub record Finishes (status result : Status) (Whole Front Failed : Type 0) : Type 0 where
  pub which : (result ≡ status) ⊎ (result ≡ WriteFault)
  pub whole : status ≢ WriteFault → result ≡ status → Whole
  pub front : status ≢ WriteFault → result ≡ WriteFault → Front
  pub failed : status ≢ WriteFault → result ≡ WriteFault → Failed

pub finished_report : (command : Option Command) → AreLawful command
    → (files : Option Files) (status result : Status) (old new : Option (List ℕ)) (text : List ℕ) (Failed : Type 0)
    → IsAnswer command files status text
    → Finishes status result (Appends old new text) (AppendsProperPrefix old new text) Failed
    → Reported command files result old new
finished_report command laws files status result old new text Failed answer end =
    let has = answer_has_text command laws answer.contents status text answer.answers in
    let sound : status ≢ WriteFault = no_write_fault status has in
    elim end.which [
      | inl e ↦
          subst (λ (s : Status). Reported command files s old new) (sym e)
          (whole_report command files status old new text has answer (end.whole sound e))
      | inr w ↦ cut_report command files status result old new text w answer (end.front sound w)
    ]

pub finished_usage : (command : Option Command) → AreLawful command
    → (files : Option Files) (status result : Status) (text : List ℕ) (Whole Front Failed : Type 0)
    → IsAnswer command files status text → Finishes status result Whole Front Failed → result ≡ Usage → command ≡ None
finished_usage command laws files status result text Whole Front Failed answer end is = elim end.which [
  | inl e ↦
      usage_of command laws answer.contents text
      (subst (λ (s : Status). Answers command answer.contents s text) (sym e ∙ is) answer.answers)
  | inr w ↦ absurd (subst IsFault (sym w ∙ is) tt)
]

-- an answer that was finished tells no failed read, and of a failed write that it failed
pub finished_read : (command : Option Command) → AreLawful command
    → (files : Option Files) (status result : Status) (text : List ℕ) (Failed : Type 0)
    → IsAnswer command files status text → (result ≡ status) ⊎ (result ≡ WriteFault) → result ≡ ReadFault → Failed
finished_read command laws files status result text Failed answer which is = elim which [
  | inl e ↦
      absurd (subst HasText (sym e ∙ is) (answer_has_text command laws answer.contents status text answer.answers))
  | inr w ↦ absurd (subst IsFault (sym w ∙ is) tt)
]

pub finished_write : (command : Option Command) → AreLawful command
    → (files : Option Files) (status result : Status) (text : List ℕ) (Whole Front Failed : Type 0)
    → IsAnswer command files status text → Finishes status result Whole Front Failed → result ≡ WriteFault → Failed
finished_write command laws files status result text Whole Front Failed answer end is =
    end.failed (no_write_fault status (answer_has_text command laws answer.contents status text answer.answers)) is

-- the answer to files that can be judged is a verdict
answer_verdict : (command : Option Command) → AreLawful command
    → (files : Option Files) (status : Status) (text : List ℕ) → IsAnswer command files status text
    → (can : IsJudgeable command files) → IsVerdictOf can status
answer_verdict command laws files status text answer can =
    let held : AreContents (Some can.spelled) (Some can.all) answer.contents
    = subst (λ (o : Option Files). AreContents (Some can.spelled) o answer.contents) can.told
    (subst (λ (o : Option Command). AreContents o files answer.contents) can.spells answer.held) in
    let answers : JobAnswers can.spelled answer.contents status text
    = subst (λ (o : Option Command). Answers o answer.contents status text) can.spells answer.answers in
    let of_spelled : CommandLaws (spec_of can.spelled) = subst AreLawful can.spells laws in
    of_spelled.verdict (contents_of can.spelled can.all) status text can.judged
    (subst (λ (c : Contents). JobAnswers can.spelled c status text) held answers)

-- a count that stays did not rise
pub stays_not_rose : (before after : ℕ) → Stays before after → Rose before after → ⊥
stays_not_rose before after stays rose = omega (arith, stays.0, stays.1, rose)

pub finished_verdict : (command : Option Command) → AreLawful command
    → (files : Option Files) (status result : Status) (text : List ℕ) (before after : ℕ) (Whole Front : Type 0)
    → IsAnswer command files status text → Finishes status result Whole Front (Rose before after)
    → (can : IsJudgeable command files) → Stays before after → IsVerdictOf can result
finished_verdict command laws files status result text before after Whole Front answer end can stays =
    let sound : status ≢ WriteFault
    = no_write_fault status (answer_has_text command laws answer.contents status text answer.answers) in
    elim end.which [
      | inl e ↦ subst (IsVerdictOf can) (sym e) (answer_verdict command laws files status text answer can)
      | inr w ↦ absurd (stays_not_rose before after stays (end.failed sound w))
    ]

-- what is said to words is the answer to them
answer_to : (command : Option Command) → AreLawful command
    → (files : Option Files) (status : Status) (text : List ℕ) → IsSaidTo command files status text
    → IsAnswer command files status text
answer_to None laws files status text said =
    record { contents = []; held = no_contents files; answers = said; means = tt }
answer_to (Some command) laws files status text said = record {
  contents = said.contents;
  held = said.held;
  answers = said.answers;
  means = laws.means said.contents status text said.answers;
}

-- what is said to what was parsed is the answer to the words, in the text that was written
pub answer_of_said : (parsed : Option Parsed) (command : Option Command) (files : Option Files) (status : Status)
    (text piece : List ℕ) → option_map command_told parsed ≡ command → piece ≡ text
    → IsSaidTo (option_map command_told parsed) files status text → IsAnswer command files status piece
answer_of_said parsed command files status text piece spelled same said =
    answer_to command (lawful parsed command spelled) files status piece
    (subst (λ (c : Option Command). IsSaidTo c files status piece) spelled
    (subst (λ (t : List ℕ). IsSaidTo (option_map command_told parsed) files status t) (sym same) said))

-- want of memory may end any command
pub no_memory_ends : (command : Option Command) (files : Option Files) → AreLawful command
    → (can : IsJudgeable command files) → IsVerdictOf can NoMemory
no_memory_ends command files laws can =
    let of_spelled : CommandLaws (spec_of can.spelled) = subst AreLawful can.spells laws in
    of_spelled.no_memory (contents_of can.spelled can.all)
