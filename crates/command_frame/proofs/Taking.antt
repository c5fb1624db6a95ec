-- How many bytes each step of a command takes of told files.
use Rattle.std.proofs.Common.{◌≡◌, ℕ, ◌+◌, ◌≤◌, Bool, true, false, List, [], ◌∷◌, length, Option, Some, None, refl, sym, ◌∙◌, ap, subst, inl, inr, arith}
use Rattle.std.proofs.lemmas.Bool.{cases_lt, cond-true, cond-false, le-leb, lt-leb}
use Rattle.std.specs.Prelude.{Result, Ok, Err, is_ok, nat_le, ◌&&◌}
use Rattle.tree_model.specs.View.{SystemView}
use Rattle.system_file.specs.declared.fault.SystemFault.{SystemFault}
use Rattle.system_file.specs.SystemFile.{system_of}
use Rattle.outside.specs.Counts.{RoseBy}
use Rattle.outside.specs.Files.{Files, Told, file_named}
use Rattle.command_frame.specs.declared.status.Status.{Status}
use Rattle.command_frame.specs.declared.answer.Ending.{Ending}
use Rattle.command_frame.specs.declared.answer.Ending.TheVariants.{Answered, Unread, NoMemory as NoRoom}
use Rattle.command_frame.specs.Answer.{file_limit, AtContent, OnSystem}
use Rattle.command_frame.specs.Reading.{read_of, is_system_file, read_in}
use Rattle.command_frame.specs.Steps.{IfAnswered, EndTakes}
use Rattle.command_frame.specs.inner.Steps.{IsSpelled, StopsAt, StepTakes}

-- what was taken whole is taken by whatever comes of it
pub end_takes : (end : Ending) (bytes before after : ℕ) → RoseBy bytes before after → EndTakes end bytes before after
end_takes (Answered a) bytes before after rose = rose
end_takes Unread bytes before after rose = rose.1
end_takes NoRoom bytes before after rose = rose.1

pub step_takes : {Value : Type 0} (result : Result Value Ending) (bytes before after : ℕ) → RoseBy bytes before after
    → StepTakes result bytes before after
step_takes (Ok value) bytes before after rose = rose
step_takes (Err stop) bytes before after rose = end_takes stop bytes before after rose

-- a first file that is refused is no system file, and one that was spelled is
refused_is_none : (file : Option (List ℕ)) (status : Status) (text : List ℕ)
    → AtContent 1 file (λ bytes. OnSystem (system_of bytes) (λ _ _ _. ⊥)) status text → is_system_file file ≡ false
refused_is_none None status text h = refl
refused_is_none (Some bytes) status text h = elim (cases_lt file_limit (length bytes)) [
  | inl long ↦ ap (λ (b : Bool). b && is_ok (system_of bytes)) (lt-leb (length bytes) file_limit long)
  | inr short ↦ go (nat_le (length bytes) file_limit) (system_of bytes) (h.said (omega (arith, short)))
]
  where
    go : (b : Bool) (spelled : Result SystemView SystemFault) → OnSystem spelled (λ _ _ _. ⊥) status text
        → (b && is_ok spelled) ≡ false
    go true (Ok sys) none = absurd none
    go true (Err fault) none = refl
    go false spelled none = refl

spelled_is_one : (told : Option Files) (files : Files) (name : List ℕ) (sys : SystemView) → told ≡ Some files
    → IsSpelled told name sys → is_system_file (file_named name files) ≡ true
spelled_is_one told files name sys e h =
    let held : file_named name files ≡ Some h.bytes
    = subst (λ (o : Option Files). Told o name (λ file. file ≡ Some h.bytes)) e h.held in
    ap is_system_file held
    ∙ (ap (λ (b : Bool). b && is_ok (system_of h.bytes)) (le-leb (length h.bytes) file_limit h.short)
    ∙ ap (λ (r : Result SystemView SystemFault). is_ok r) h.spelled)

-- of two files, where the first is no system file, and where it is one
read_first : (first second : Option (List ℕ)) → is_system_file first ≡ false
    → read_in (first ∷ second ∷ []) ≡ read_of first
read_first first second other = omega (arith, cond-false {A = ℕ} (is_system_file first) (read_of second) 0 other)

read_both : (first second : Option (List ℕ)) → is_system_file first ≡ true
    → read_in (first ∷ second ∷ []) ≡ read_of first + read_of second
read_both first second good = omega (arith, cond-true {A = ℕ} (is_system_file first) (read_of second) 0 good)

-- a command that ends at its first file
pub ends_first : (told : Option Files) (files : Files) (first second : List ℕ) (stop : Ending) (before after : ℕ)
    → told ≡ Some files
    → IfAnswered stop
    (λ a. StopsAt 1 told first (λ bytes. OnSystem (system_of bytes) (λ _ _ _. ⊥)) a.status a.text.items)
    → EndTakes stop (read_of (file_named first files)) before after →
    EndTakes stop (read_in (file_named first files ∷ file_named second files ∷ [])) before after
ends_first told files first second (Answered a) before after e h took =
    let held : file_named first files ≡ h.content
    = subst (λ (o : Option Files). Told o first (λ file. file ≡ h.content)) e h.held in
    let refused : is_system_file (file_named first files) ≡ false
    = ap is_system_file held ∙ refused_is_none h.content a.status a.text.items h.answers in
    subst (λ (n : ℕ). RoseBy n before after)
    (sym (read_first (file_named first files) (file_named second files) refused)) took
ends_first told files first second Unread before after e h took = omega (arith, took)
ends_first told files first second NoRoom before after e h took = omega (arith, took)

-- and one that comes to its second file
rose_both : (m n before between after : ℕ) → RoseBy m before between → RoseBy n between after
    → RoseBy (m + n) before after
rose_both m n before between after one two = (omega (arith, one, two), omega (arith, one, two))

pub both_taken : (told : Option Files) (files : Files) (first second : List ℕ) (sys : SystemView)
    (before between after : ℕ) → told ≡ Some files → IsSpelled told first sys
    → RoseBy (read_of (file_named first files)) before between
    → RoseBy (read_of (file_named second files)) between after →
    RoseBy (read_in (file_named first files ∷ file_named second files ∷ [])) before after
both_taken told files first second sys before between after e spelled one two =
    subst (λ (n : ℕ). RoseBy n before after) (sym (read_both (file_named first files) (file_named second files)
    (spelled_is_one told files first sys e spelled)))
    (rose_both (read_of (file_named first files)) (read_of (file_named second files)) before between after one two)

less_of_both : (told : Option Files) (files : Files) (first second : List ℕ) (sys : SystemView)
    (before between after : ℕ) → told ≡ Some files → IsSpelled told first sys
    → RoseBy (read_of (file_named first files)) before between → after ≤ between + read_of (file_named second files) →
    after ≤ before + read_in (file_named first files ∷ file_named second files ∷ [])
less_of_both told files first second sys before between after e spelled one two =
    omega (
      arith,
      read_both (file_named first files) (file_named second files) (spelled_is_one told files first sys e spelled),
      one,
      two,
    )

pub ends_second : (told : Option Files) (files : Files) (first second : List ℕ) (sys : SystemView) (stop : Ending)
    (before between after : ℕ) → told ≡ Some files → IsSpelled told first sys
    → RoseBy (read_of (file_named first files)) before between
    → EndTakes stop (read_of (file_named second files)) between after →
    EndTakes stop (read_in (file_named first files ∷ file_named second files ∷ [])) before after
ends_second told files first second sys (Answered a) before between after e spelled one two =
    both_taken told files first second sys before between after e spelled one two
ends_second told files first second sys Unread before between after e spelled one two =
    less_of_both told files first second sys before between after e spelled one two
ends_second told files first second sys NoRoom before between after e spelled one two =
    less_of_both told files first second sys before between after e spelled one two
