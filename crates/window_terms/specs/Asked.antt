-- What terms ask for.
use Rattle.std.specs.Prelude.{ℕ, ◌+◌, ◌*◌, ◌/◌, ◌≤◌, List, sum_by}
use Rattle.window_terms.specs.declared.term.Term.{Term}

-- what terms ask for together in t slots
abbrev pub asked_by : List Term → ℕ → ℕ
asked_by terms t = sum_by (λ term. ((t + term.slack) / term.period) * term.work) terms

-- a window so short that the reciprocal alone gives the quotient
abbrev pub IsNear : Term → ℕ → Type 0
IsNear term t = t + 1 + term.slack ≤ term.reciprocal
