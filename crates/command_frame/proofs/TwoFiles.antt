-- What is said over two files: which statuses it has, what is said of files that can be read, that
-- it is one, and how what was read becomes the answer to a command.
use Rattle.std.proofs.Common.{◌≡◌, ℕ, List, [], ◌∷◌, Option, Some, None, Result, refl, sym, ◌∙◌, ap, subst, arith}
use Rattle.tree_model.specs.View.{SystemView}
use Rattle.tree_model.specs.System.{IsSystem}
use Rattle.system_file.specs.declared.fault.SystemFault.{SystemFault}
use Rattle.system_file.specs.SystemFile.{system_of}
use Rattle.outside.specs.Files.{Files, Told, file_named}
use Rattle.command_frame.specs.declared.status.Status.{Status}
use Rattle.command_frame.specs.declared.status.Status.TheVariants.{BadFile, Absent, TooLong}
use Rattle.command_frame.specs.declared.answer.Ending.{Ending}
use Rattle.command_frame.specs.declared.answer.Ending.TheVariants.{Answered, Unread, NoMemory as NoRoom}
use Rattle.command_frame.specs.Answer.{Contents, Saying, AreContentsOf, file_at, AtContent, AtFile, OnSystem, IsOne}
use Rattle.command_frame.specs.TwoFiles.{OnTwoFiles, SpellsSystem}
use Rattle.command_frame.specs.Steps.{IfAnswered, IsSaidOver}
use Rattle.command_frame.specs.inner.Steps.{IsSpelled, IsHeld, StopsAt, AnswersTwo}
use Rattle.command_frame.proofs.AtFile.{more_at, more_on, on_more, one_at, one_on, statuses_at, statuses_on}

-- where one thing is said of each system and bytes, one is said over two files
pub one_two : (Says : SystemView → Saying)
    → ((sys : SystemView) → IsSystem sys → (bytes : List ℕ) → IsOne (Says sys bytes)) → (contents : Contents)
    → IsOne (OnTwoFiles contents Says)
one_two Says one contents =
    let second : SystemView → Status → List ℕ → Type 0 = λ sys. AtFile 2 contents (Says sys) in
    one_at 1 (λ bytes. OnSystem (system_of bytes) second)
    (one_on second (λ sys is. one_at 2 (Says sys) (one sys is) (file_at 2 contents))) (file_at 1 contents)

pub statuses_two : (P : Status → Type 0) → P Absent → P TooLong → P BadFile
    → (contents : Contents) (Says : SystemView → Saying) (status : Status) (text : List ℕ)
    → ((sys : SystemView) (bytes : List ℕ) → Says sys bytes status text → P status)
    → OnTwoFiles contents Says status text → P status
statuses_two P absent long bad contents Says status text said h =
    let second : SystemView → Status → List ℕ → Type 0 = λ sys. AtFile 2 contents (Says sys) in
    statuses_at P absent long 1 (λ bytes. OnSystem (system_of bytes) second) status text
    (λ bytes. statuses_on P bad second status text
    (λ sys. statuses_at P absent long 2 (Says sys) status text (said sys) (file_at 2 contents)) (system_of bytes))
    (file_at 1 contents) h

-- what is said of files that can be read
pub said_of_two : (contents : Contents) (sys : SystemView) (IsGood : List ℕ → Type 0) (Says : SystemView → Saying)
    (status : Status) (text : List ℕ) → (can : SpellsSystem contents sys IsGood) → OnTwoFiles contents Says status text
    → Says sys can.second.bytes status text
said_of_two contents sys IsGood Says status text can h =
    let second : SystemView → Status → List ℕ → Type 0 = λ s. AtFile 2 contents (Says s) in
    let first : AtContent 1 (Some can.first.bytes) (λ bytes. OnSystem (system_of bytes) second) status text
    = subst (λ (o : Option (List ℕ)). AtContent 1 o (λ bytes. OnSystem (system_of bytes) second) status text)
    can.first.there h in
    let on : AtFile 2 contents (Says sys) status text
    = subst (λ (r : Result SystemView SystemFault). OnSystem r second status text) can.first.good
    (first.said can.first.short) in
    let at : AtContent 2 (Some can.second.bytes) (Says sys) status text
    = subst (λ (o : Option (List ℕ)). AtContent 2 o (Says sys) status text) can.second.there on in
    at.said can.second.short

-- what stands under a name, where files are told
content_of : Option Files → List ℕ → Option (List ℕ)
content_of None name = None
content_of (Some files) name = file_named name files

content_held : (files : Option Files) (name : List ℕ) → Told files name (λ file. file ≡ content_of files name)
unfolding content_of
content_held None name = tt
content_held (Some files) name = refl

-- a first file that is refused, and a second one, are an answer over both
pub two_at_first : (files : Option Files) (first second : List ℕ) (Says : SystemView → Saying) (status : Status)
    (text : List ℕ) → StopsAt 1 files first (λ bytes. OnSystem (system_of bytes) (λ _ _ _. ⊥)) status text
    → AnswersTwo files first second Says status text
two_at_first files first second Says status text h = record {
  one = h.content;
  two = content_of files second;
  held_first = h.held;
  held_second = content_held files second;
  answers =
      more_at 1 (λ bytes. OnSystem (system_of bytes) (λ _ _ _. ⊥))
      (λ bytes. OnSystem (system_of bytes) (λ sys. AtContent 2 (content_of files second) (Says sys))) status text
      (λ bytes. more_on (λ sys. AtContent 2 (content_of files second) (Says sys)) (system_of bytes) status text)
      h.content h.answers;
}

over_first : (files : Option Files) (first second : List ℕ) (Says : SystemView → Saying) (sys : SystemView)
    (two : Option (List ℕ)) (status : Status) (text : List ℕ) → IsSpelled files first sys
    → Told files second (λ file. file ≡ two) → AtContent 2 two (Says sys) status text
    → AnswersTwo files first second Says status text
over_first files first second Says sys two status text read held at = record {
  one = Some read.bytes;
  two = two;
  held_first = read.held;
  held_second = held;
  answers =
      record {
        too_long = λ l. absurd (omega (arith, l, read.short));
        said =
            λ l. subst (λ (r : Result SystemView SystemFault). OnSystem r (λ s. AtContent 2 two (Says s)) status text)
            (sym read.spelled) at;
      };
}

pub two_at_second : (files : Option Files) (first second : List ℕ) (Says : SystemView → Saying) (sys : SystemView)
    (status : Status) (text : List ℕ) → IsSpelled files first sys → StopsAt 2 files second (λ _ _ _. ⊥) status text
    → AnswersTwo files first second Says status text
two_at_second files first second Says sys status text read h =
    over_first files first second Says sys h.content status text read h.held
    (more_at 2 (λ _ _ _. ⊥) (Says sys) status text (λ bytes none. absurd none) h.content h.answers)

pub two_read : (files : Option Files) (first second : List ℕ) (Says : SystemView → Saying) (sys : SystemView)
    (bytes : List ℕ) (status : Status) (text : List ℕ) → IsSpelled files first sys → IsHeld files second bytes
    → Says sys bytes status text → AnswersTwo files first second Says status text
two_read files first second Says sys bytes status text read held said =
    over_first files first second Says sys (Some bytes) status text read held.held
    (record { too_long = λ l. absurd (omega (arith, l, held.short)); said = λ l. said })

-- the same of a command that ends
pub ends_at_first : (files : Option Files) (first second : List ℕ) (Says : SystemView → Saying) (stop : Ending)
    → IfAnswered stop
    (λ a. StopsAt 1 files first (λ bytes. OnSystem (system_of bytes) (λ _ _ _. ⊥)) a.status a.text.items)
    → IfAnswered stop (λ a. AnswersTwo files first second Says a.status a.text.items)
ends_at_first files first second Says (Answered a) h = two_at_first files first second Says a.status a.text.items h
ends_at_first files first second Says Unread h = tt
ends_at_first files first second Says NoRoom h = tt

pub ends_at_second : (files : Option Files) (first second : List ℕ) (Says : SystemView → Saying) (sys : SystemView)
    (stop : Ending) → IsSpelled files first sys
    → IfAnswered stop (λ a. StopsAt 2 files second (λ _ _ _. ⊥) a.status a.text.items)
    → IfAnswered stop (λ a. AnswersTwo files first second Says a.status a.text.items)
ends_at_second files first second Says sys (Answered a) read h =
    two_at_second files first second Says sys a.status a.text.items read h
ends_at_second files first second Says sys Unread read h = tt
ends_at_second files first second Says sys NoRoom read h = tt

pub ends_read : (files : Option Files) (first second : List ℕ) (Says : SystemView → Saying) (sys : SystemView)
    (bytes : List ℕ) (end : Ending) → IsSpelled files first sys → IsHeld files second bytes
    → IfAnswered end (λ a. Says sys bytes a.status a.text.items)
    → IfAnswered end (λ a. AnswersTwo files first second Says a.status a.text.items)
ends_read files first second Says sys bytes (Answered a) read held said =
    two_read files first second Says sys bytes a.status a.text.items read held said
ends_read files first second Says sys bytes Unread read held said = tt
ends_read files first second Says sys bytes NoRoom read held said = tt

-- where nothing more is said over both files, anything may be
more_two : (files : Option Files) (first second : List ℕ) (Says : SystemView → Saying) (status : Status) (text : List ℕ)
    → AnswersTwo files first second (λ _ _ _ _. ⊥) status text → AnswersTwo files first second Says status text
more_two files first second Says status text h = record {
  one = h.one;
  two = h.two;
  held_first = h.held_first;
  held_second = h.held_second;
  answers =
      more_at 1 (λ bytes. OnSystem (system_of bytes) (λ sys. AtContent 2 h.two (λ _ _ _. ⊥)))
      (λ bytes. OnSystem (system_of bytes) (λ sys. AtContent 2 h.two (Says sys))) status text
      (λ bytes. on_more (λ sys. AtContent 2 h.two (λ _ _ _. ⊥)) (λ sys. AtContent 2 h.two (Says sys)) status text
      (λ sys. more_at 2 (λ _ _ _. ⊥) (Says sys) status text (λ b none. absurd none) h.two) (system_of bytes)) h.one
      h.answers;
}

pub stop_said : (files : Option Files) (first second : List ℕ) (Says : SystemView → Saying) (stop : Ending)
    → IfAnswered stop (λ a. AnswersTwo files first second (λ _ _ _ _. ⊥) a.status a.text.items)
    → IfAnswered stop (λ a. AnswersTwo files first second Says a.status a.text.items)
stop_said files first second Says (Answered a) h = more_two files first second Says a.status a.text.items h
stop_said files first second Says Unread h = tt
stop_said files first second Says NoRoom h = tt

-- and the answer over both files is that to a command over them
two_held : (files : Option Files) (first second : List ℕ) (one two : Option (List ℕ))
    → Told files first (λ file. file ≡ one) → Told files second (λ file. file ≡ two)
    → AreContentsOf (first ∷ second ∷ []) files (one ∷ two ∷ [])
two_held None first second one two a b = tt
two_held (Some files) first second one two a b =
    ap (λ (o : Option (List ℕ)). o ∷ two ∷ []) (sym a)
    ∙ ap (λ (o : Option (List ℕ)). file_named first files ∷ o ∷ []) (sym b)

pub two_said : (files : Option Files) (first second : List ℕ) (Says : SystemView → Saying) (end : Ending)
    → IfAnswered end (λ a. AnswersTwo files first second Says a.status a.text.items)
    → IfAnswered end
    (λ a. IsSaidOver (first ∷ second ∷ []) (λ contents. OnTwoFiles contents Says) files a.status a.text.items)
two_said files first second Says (Answered a) h = record {
  contents = h.one ∷ h.two ∷ [];
  held = two_held files first second h.one h.two h.held_first h.held_second;
  answers = h.answers;
}
two_said files first second Says Unread h = tt
two_said files first second Says NoRoom h = tt
