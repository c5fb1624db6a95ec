-- The run of one core by a rule that says, of a run and a slot of it, who is eligible there, and
-- who goes before whom. What a slot holds hangs on the slots before it where the rule looks at
-- those alone, as the rules of RTDS and of constant bandwidth servers do.
use Rattle.std.specs.Prelude.{◌≡◌, ℕ, ◌<◌, Bool, true, false, List, length, Option, Some, None}
use Rattle.slot_model.specs.Run.{held}

pub record Rule : Type 0 where
  pub eligible : List (Option ℕ) → (v x : ℕ) → Bool
  pub before : List (Option ℕ) → (x u v : ℕ) → Bool

-- what slot x may hold: one that is eligible, before which no eligible one goes, and none exactly
-- where none is eligible
pub record RuleEntry (rule : Rule) (run : List (Option ℕ)) (x : ℕ) (entry : Option ℕ) : Type 0 where
  pub idle : entry ≡ None → (v : ℕ) → rule.eligible run v x ≡ false
  pub named : (v : ℕ) → entry ≡ Some v → rule.eligible run v x ≡ true
  pub first : (u v : ℕ) → entry ≡ Some v → rule.eligible run u x ≡ true →
      rule.before run x u v ≡ false

-- a run over n slots
pub record RuleRun (rule : Rule) (n : ℕ) (run : List (Option ℕ)) : Type 0 where
  pub long : length run ≡ n
  pub each : (x : ℕ) → x < n → RuleEntry rule run x (held run x)
