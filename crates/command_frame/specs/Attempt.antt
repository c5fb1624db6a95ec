-- A step of a command that gives a value or is refused.
use Rattle.std.specs.Prelude.{◌≡◌, ◌⊎◌, List, ℕ}
use Rattle.command_frame.specs.declared.status.Status.{Status}

-- which values it may give, what refuses it, and the status and the text that answer a refusal
pub record Attempt (Value Refusal : Type 0) : Type 1 where
  pub Gives : Value → Type 0
  pub Refuses : Refusal → Type 0
  pub status_of : Refusal → Status
  pub text_of : Refusal → List ℕ

-- it gives a value of which this is said
pub record IsGiven {Value Refusal : Type 0} (attempt : Attempt Value Refusal)
    (Says : Value → Status → List ℕ → Type 0) (status : Status) (text : List ℕ) : Type 0 where
  pub value : Value
  pub gives : attempt.Gives value
  pub said : Says value status text

-- or it is refused, and that is answered
pub record IsRefused {Value Refusal : Type 0} (attempt : Attempt Value Refusal)
    (status : Status) (text : List ℕ) : Type 0 where
  pub refusal : Refusal
  pub refuses : attempt.Refuses refusal
  pub status_is : status ≡ attempt.status_of refusal
  pub told : text ≡ attempt.text_of refusal

abbrev pub OnAttempt : {Value Refusal : Type 0} → Attempt Value Refusal
    → (Value → Status → List ℕ → Type 0) → Status → List ℕ → Type 0
OnAttempt attempt Says status text =
    IsGiven attempt Says status text ⊎ IsRefused attempt status text

-- it may give a value
pub record GivesSome {Value Refusal : Type 0} (attempt : Attempt Value Refusal) : Type 0 where
  pub value : Value
  pub gives : attempt.Gives value
