-- What is said at a file of a command: when it says more, which statuses it has, and that it is
-- one.
use Rattle.std.proofs.Common.{◌≡◌, ℕ, List, length, Option, Some, None, Result, Ok, Err, refl, sym, ◌∙◌, subst, inl, inr, arith}
use Rattle.std.proofs.lemmas.Bool.{cases_lt}
use Rattle.tree_model.specs.View.{SystemView}
use Rattle.tree_model.specs.System.{IsSystem}
use Rattle.system_file.specs.declared.fault.SystemFault.{SystemFault}
use Rattle.system_file.specs.SystemFile.{system_of}
use Rattle.system_file.proofs.Laws.{read_is_spelled}
use Rattle.command_frame.specs.declared.status.Status.{Status}
use Rattle.command_frame.specs.declared.status.Status.TheVariants.{BadFile, Absent, TooLong}
use Rattle.command_frame.specs.Answer.{file_limit, Saying, AtContent, OnSystem, IsOne}

-- of a file that is short enough more can be said
pub more_at : (k : ℕ) (P Q : Saying) (status : Status) (text : List ℕ)
    → ((bytes : List ℕ) → P bytes status text → Q bytes status text) → (content : Option (List ℕ))
    → AtContent k content P status text → AtContent k content Q status text
more_at k P Q status text more None h = h
more_at k P Q status text more (Some bytes) h =
    record { too_long = h.too_long; said = λ short. more bytes (h.said short) }

-- of a system more can be said, and a file that is refused has an answer, whatever is said of one
pub on_more : (P Q : SystemView → Status → List ℕ → Type 0) (status : Status) (text : List ℕ)
    → ((sys : SystemView) → P sys status text → Q sys status text) → (spelled : Result SystemView SystemFault)
    → OnSystem spelled P status text → OnSystem spelled Q status text
on_more P Q status text more (Ok sys) h = more sys h
on_more P Q status text more (Err fault) h = h

pub more_on : (Says : SystemView → Status → List ℕ → Type 0) (spelled : Result SystemView SystemFault) (status : Status)
    (text : List ℕ) → OnSystem spelled (λ _ _ _. ⊥) status text → OnSystem spelled Says status text
more_on Says spelled status text h = on_more (λ _ _ _. ⊥) Says status text (λ sys none. absurd none) spelled h

-- which statuses come at a file, and at the system that it spells
pub statuses_at : (P : Status → Type 0) → P Absent → P TooLong
    → (k : ℕ) (Says : Saying) (status : Status) (text : List ℕ) → ((bytes : List ℕ) → Says bytes status text → P status)
    → (content : Option (List ℕ)) → AtContent k content Says status text → P status
statuses_at P absent long k Says status text said None h = subst P (sym h.0) absent
statuses_at P absent long k Says status text said (Some bytes) h = elim (cases_lt file_limit (length bytes)) [
  | inl more ↦ subst P (sym (h.too_long more).0) long
  | inr short ↦ said bytes (h.said (omega (arith, short)))
]

pub statuses_on : (P : Status → Type 0) → P BadFile
    → (Says : SystemView → Status → List ℕ → Type 0) (status : Status) (text : List ℕ)
    → ((sys : SystemView) → Says sys status text → P status) → (spelled : Result SystemView SystemFault)
    → OnSystem spelled Says status text → P status
statuses_on P bad Says status text said (Ok sys) h = said sys h
statuses_on P bad Says status text said (Err fault) h = subst P (sym h.0) bad

-- where one thing is said of the bytes, one is said at the file
pub one_at : (k : ℕ) (Says : Saying) → ((bytes : List ℕ) → IsOne (Says bytes)) → (content : Option (List ℕ))
    → IsOne (AtContent k content Says)
one_at k Says one None = λ s t x y p q. (p.0 ∙ sym q.0, p.1 ∙ sym q.1)
one_at k Says one (Some bytes) = λ s t x y p q. elim (cases_lt file_limit (length bytes)) [
  | inl long ↦ (let a = p.too_long long in let b = q.too_long long in (a.0 ∙ sym b.0, a.1 ∙ sym b.1))
  | inr short ↦ one bytes s t x y (p.said (omega (arith, short))) (q.said (omega (arith, short)))
]

-- and where one thing is said of a system, one is said on the system of a file
one_on_spelled : (Says : SystemView → Status → List ℕ → Type 0) (bytes : List ℕ)
    → ((sys : SystemView) → IsSystem sys → IsOne (Says sys)) → (spelled : Result SystemView SystemFault)
    → system_of bytes ≡ spelled → IsOne (OnSystem spelled Says)
one_on_spelled Says bytes one (Ok sys) is = one sys (read_is_spelled bytes sys is).system
one_on_spelled Says bytes one (Err fault) is = λ s t x y p q. (p.0 ∙ sym q.0, p.1 ∙ sym q.1)

pub one_on : (Says : SystemView → Status → List ℕ → Type 0) → ((sys : SystemView) → IsSystem sys → IsOne (Says sys))
    → (bytes : List ℕ) → IsOne (OnSystem (system_of bytes) Says)
one_on Says one bytes = one_on_spelled Says bytes one (system_of bytes) refl
