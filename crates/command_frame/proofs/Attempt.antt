-- What is said at a step that gives a value or is refused: which statuses it has, what it says of a
-- value that it may give, and that it is one.
use Rattle.std.proofs.Common.{◌≡◌, List, ℕ, sym, ◌∙◌, ap, subst, inl, inr}
use Rattle.command_frame.specs.declared.status.Status.{Status}
use Rattle.command_frame.specs.Answer.{IsOne}
use Rattle.command_frame.specs.Attempt.{Attempt, IsRefused, OnAttempt}
use Rattle.command_frame.specs.declared.answer.Ending.{Ending}
use Rattle.command_frame.specs.declared.answer.Ending.TheVariants.{Answered, Unread, NoMemory as NoRoom}
use Rattle.command_frame.specs.Steps.{IfAnswered}

-- it gives one value at most, or is refused in one way
pub record IsDecided {Value Refusal : Type 0} (attempt : Attempt Value Refusal) : Type 0 where
  pub one_value : (x y : Value) → attempt.Gives x → attempt.Gives y → x ≡ y
  pub never_both : (x : Value) (r : Refusal) → attempt.Gives x → attempt.Refuses r → ⊥
  pub one_refusal : (r s : Refusal) → attempt.Refuses r → attempt.Refuses s → r ≡ s

pub one_attempt : {Value Refusal : Type 0} (attempt : Attempt Value Refusal) (Says : Value → Status → List ℕ → Type 0)
    → IsDecided attempt → ((x : Value) → attempt.Gives x → IsOne (Says x)) → IsOne (OnAttempt attempt Says)
one_attempt {Value} {Refusal} attempt Says decided one = λ s t x y p q. elim p [
  | inl a ↦ elim q [
    | inl b ↦
        one a.value a.gives s t x y a.said
        (subst (λ (v : Value). Says v t y) (decided.one_value b.value a.value b.gives a.gives) b.said)
    | inr b ↦ absurd (decided.never_both a.value b.refusal a.gives b.refuses)
  ]
  | inr a ↦ elim q [
    | inl b ↦ absurd (decided.never_both b.value a.refusal b.gives a.refuses)
    | inr b ↦
        (
        let same : a.refusal ≡ b.refusal = decided.one_refusal a.refusal b.refusal a.refuses b.refuses in
        (a.status_is ∙ ap attempt.status_of same ∙ sym b.status_is, a.told ∙ ap attempt.text_of same ∙ sym b.told))
  ]
]

-- a refusal is what is told, whatever would be said of a value
pub refused_first : {Value Refusal : Type 0} (attempt : Attempt Value Refusal) (Says : Value → Status → List ℕ → Type 0)
    → IsDecided attempt → (refusal : Refusal) → attempt.Refuses refusal → (status : Status) (text : List ℕ)
    → OnAttempt attempt Says status text → (status ≡ attempt.status_of refusal) × (text ≡ attempt.text_of refusal)
refused_first attempt Says decided refusal refuses status text h = elim h [
  | inl a ↦ absurd (decided.never_both a.value refusal a.gives refuses)
  | inr a ↦
      (
      let same : a.refusal ≡ refusal = decided.one_refusal a.refusal refusal a.refuses refuses in
      (a.status_is ∙ ap attempt.status_of same, a.told ∙ ap attempt.text_of same))
]

pub statuses_attempt : {Value Refusal : Type 0} (P : Status → Type 0) (attempt : Attempt Value Refusal)
    (Says : Value → Status → List ℕ → Type 0) (status : Status) (text : List ℕ)
    → ((r : Refusal) → attempt.Refuses r → P (attempt.status_of r)) → ((x : Value) → Says x status text → P status)
    → OnAttempt attempt Says status text → P status
statuses_attempt P attempt Says status text refused said h = elim h [
  | inl a ↦ said a.value a.said
  | inr a ↦ subst P (sym a.status_is) (refused a.refusal a.refuses)
]

-- a value that it may give is the one of which it is said
pub said_of_given : {Value Refusal : Type 0} (attempt : Attempt Value Refusal) (Says : Value → Status → List ℕ → Type 0)
    (status : Status) (text : List ℕ) → IsDecided attempt → (x : Value) → attempt.Gives x
    → OnAttempt attempt Says status text → Says x status text
said_of_given {Value} attempt Says status text decided x gives h = elim h [
  | inl a ↦ subst (λ (v : Value). Says v status text) (decided.one_value a.value x a.gives gives) a.said
  | inr a ↦ absurd (decided.never_both x a.refusal gives a.refuses)
]

-- what was said of the value that it gave, and that it was refused, is what is said at the step
module _ {Value Refusal : Type 0} (attempt : Attempt Value Refusal) (Says : Value → Status → List ℕ → Type 0) where
  pub given_stops : (value : Value) → attempt.Gives value → (stop : Ending)
      → IfAnswered stop (λ a. Says value a.status a.text.items)
      → IfAnswered stop (λ a. OnAttempt attempt Says a.status a.text.items)
  given_stops value gives (Answered a) said = inl (record { value = value; gives = gives; said = said })
  given_stops value gives Unread said = tt
  given_stops value gives NoRoom said = tt

  pub refusal_stops : (stop : Ending) → IfAnswered stop (λ a. IsRefused attempt a.status a.text.items)
      → IfAnswered stop (λ a. OnAttempt attempt Says a.status a.text.items)
  refusal_stops (Answered a) refused = inr refused
  refusal_stops Unread refused = tt
  refusal_stops NoRoom refused = tt
