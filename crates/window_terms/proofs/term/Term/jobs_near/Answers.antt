use Rattle.std.proofs.Common.{◌≡◌, ℕ, ◌+◌, ◌*◌, ◌/◌, ◌^◌, ◌≤◌, ap, subst, ◌∙◌, arith}
use Rattle.window_terms.specs.declared.term.Term.{Term}
use Rattle.window_terms.specs.Asked.{IsNear}
use Rattle.window_terms.proofs.Quotients.{near_quotient}
use Rattle.window_terms.proofs.term.Term.jobs_near.Goals as goal

exact : (term : Term) (t next : ℕ) → IsNear term t → next ≡ t + 1 + term.slack
    → (next * term.reciprocal) / 2 ^ 64 ≡ (t + term.slack) / term.period
exact term t next near e =
    let all : ℕ = t + term.slack in
    let same : next ≡ all + 1 = omega arith in
    ap (λ (n : ℕ). (n * term.reciprocal) / 2 ^ 64) same
    ∙ (ap (λ (r : ℕ). ((all + 1) * r) / 2 ^ 64) term.is_reciprocal
    ∙ near_quotient (2 ^ 64) term.period all (omega arith) (omega (arith, term.in_period))
    (subst (λ (r : ℕ). all ≤ r) term.is_reciprocal (omega arith)))

pub returns : goal.returns
returns c =
    c.high_half.ensures ∙ exact c.args.self.now c.args.t (c.args.t + 1 + c.args.self.now.slack) c.requires (omega arith)
