-- A term more in a list.
use Rattle.std.proofs.Common.{◌≡◌, ℕ, ◌+◌, ◌*◌, ◌/◌, ◌<◌, List, length, take, set, ◌∙◌, ap}
use Rattle.std.proofs.lemmas.List.{take_more_set}
use Rattle.std.proofs.lemmas.List.Sums.{sum_by_push}
use Rattle.window_terms.specs.declared.term.Term.{Term}
use Rattle.window_terms.specs.Asked.{asked_by}

-- what one term asks for
abbrev pub asked_of : Term → ℕ → ℕ
asked_of term t = ((t + term.slack) / term.period) * term.work

-- a term written behind so many
pub written : (terms : List Term) (i : ℕ) (term : Term) (t : ℕ) → i < length terms
    → asked_by (take (i + 1) (set terms i term)) t ≡ asked_by (take i terms) t + asked_of term t
written terms i term t l =
    ap (λ (xs : List Term). asked_by xs t) (take_more_set terms i term l)
    ∙ sum_by_push (λ x. asked_of x t) (take i terms) term
