use Rattle.std.proofs.Common.{◌≡◌, ℕ, ◌<◌, ◌≤◌, ◌∙◌, List, length, get_or, subst, sym, ap, arith, inl, inr}
use Rattle.std.proofs.lemmas.Bool.{cases_eq}
use Rattle.std.proofs.lemmas.List.{get_or_default}
use Rattle.window_terms.specs.declared.term.Term.{Term}
use Rattle.window_terms.specs.Asked.{IsNear}
use Rattle.window_terms.proofs.sums.near.Goals as goal

-- the next term too
near_next : (terms : List Term) (n near : ℕ) (term : Term) → n < length terms → term ≡ get_or terms n term
    → IsNear term near → ((k : ℕ) (d : Term) → k < n → IsNear (get_or terms k d) near) → (k : ℕ) (d : Term) → k ≤ n
    → IsNear (get_or terms k d) near
near_next terms n near term in_terms is at before k d l = elim (cases_eq k n) [
  | inl e ↦
      subst (λ (x : Term). IsNear x near)
      (is ∙ (get_or_default terms n term d in_terms ∙ ap (λ (j : ℕ). get_or terms j d) (sym e))) at
  | inr ne ↦ before k d (omega (arith, ne))
]

pub loop-term-preserved : goal.loop-term-preserved
loop-term-preserved c = record {
  near =
      λ k d l. near_next c.args.terms.now c.loop-term.term-index c.min-near.result c.term-item.result
      c.loop-term-test.true c.term-item.is (omega arith) (λ j e m. let before : IsNear (get_or c.args.terms.now j e)
      c.loop-term.near
      = c.loop-term.invariant.near j e m in omega arith) k d (omega arith);
  within = omega arith;
  longest =
      λ t low all. let before : t ≤ c.loop-term.near
      = c.loop-term.invariant.longest t low all in let here : IsNear c.term-item.result t
      = subst (λ (x : Term). IsNear x t) (sym c.term-item.is)
      (all c.loop-term.term-index c.term-item.result c.loop-term-test.true) in omega
      (arith, before, here);
}

pub returns-clause-near : goal.returns-clause-near
returns-clause-near c = λ k d l. c.loop-term.invariant.near k d (omega arith)
