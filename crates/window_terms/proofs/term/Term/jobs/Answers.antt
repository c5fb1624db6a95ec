use Rattle.std.proofs.Common.{◌≡◌, ℕ, ◌+◌, ◌-◌, ◌*◌, ◌/◌, ◌^◌, subst, ap, sym, ◌∙◌, arith}
use Rattle.window_terms.proofs.Quotients.{IsGuess, guessed, quotient_is}
use Rattle.window_terms.proofs.term.Term.jobs.Goals as goal
use Rattle.window_terms.proofs.term.Term.jobs.Goals.{After-high_half-guess}

is_guess : (c : After-high_half-guess)
    → IsGuess (c.args.t + c.args.self.now.slack) c.args.self.now.period c.high_half-guess.result
is_guess c =
    let term = c.args.self.now in
    let all : ℕ = c.args.t + term.slack in
    let same : c.high_half-guess.result ≡ (all * ((2 ^ 64 - 1) / term.period)) / 2 ^ 64
    = c.high_half-guess.ensures ∙ ap (λ (r : ℕ). (all * r) / 2 ^ 64) term.is_reciprocal in
    subst (λ (z : ℕ). IsGuess all term.period z) (sym same)
    (guessed (2 ^ 64) term.period all (omega (arith, term.in_period))
    (omega (arith, term.in_period, term.in_limit)))

pub overflow_sub-rest : goal.overflow_sub-rest
overflow_sub-rest c = (is_guess (goal.at.overflow_sub-rest c).After-high_half-guess).below

pub returns-then-rest-self : goal.returns-then-rest-self
returns-then-rest-self c =
    let g = is_guess (goal.at.returns-then-rest-self c).After-high_half-guess in
    quotient_is (c.args.t + c.args.self.now.slack) c.args.self.now.period (c.high_half-guess.result + 1)
    (omega (arith, g.below)) (omega (arith, g.near))

pub returns-else-rest-self : goal.returns-else-rest-self
returns-else-rest-self c =
    let g = is_guess (goal.at.returns-else-rest-self c).After-high_half-guess in
    quotient_is (c.args.t + c.args.self.now.slack) c.args.self.now.period c.high_half-guess.result g.below (omega arith)
