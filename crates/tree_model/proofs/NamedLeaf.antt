-- The leaf of a name: there is one at most.
use Rattle.std.proofs.Common.{◌≡◌, ℕ, ◌<◌, List, [], arith, sym, ◌∙◌, inl, inr}
use Rattle.std.proofs.lemmas.Bool.{cases_order}
use Rattle.std.proofs.lemmas.List.{get_or-map, length-map}
use Rattle.tree_model.specs.View.{PartView, SystemView}
use Rattle.tree_model.specs.System.{IsSystem, AreDistinct, core_names, part_names, no_part}
use Rattle.tree_model.specs.NamedLeaf.{IsLeafNamed}
use Rattle.tree_model.proofs.Distinct.{distinct_back}

-- the names of the parts of a system are different
never_named_twice : (sys : SystemView) → IsSystem sys → (name : List ℕ) (q r : ℕ) → IsLeafNamed sys name q
    → IsLeafNamed sys name r → q < r → ⊥
never_named_twice sys is name q r h k less =
    let distinct : AreDistinct (part_names sys.parts)
    = distinct_back (core_names sys.cores) (part_names sys.parts) is.names in
    distinct q r [] less (omega (arith, k.is_part, length-map sys.parts (λ (p : PartView). p.name)))
    (get_or-map (λ (p : PartView). p.name) sys.parts q no_part [] h.is_part
    ∙ (h.is_named ∙ sym (get_or-map (λ (p : PartView). p.name) sys.parts r no_part [] k.is_part ∙ k.is_named)))

pub one_leaf : (sys : SystemView) → IsSystem sys → (name : List ℕ) (q r : ℕ) → IsLeafNamed sys name q
    → IsLeafNamed sys name r → q ≡ r
one_leaf sys is name q r h k = elim (cases_order q r) [
  | inl same ↦ same
  | inr other ↦ elim other [
    | inl less ↦ absurd (never_named_twice sys is name q r h k less)
    | inr more ↦ absurd (never_named_twice sys is name r q k h more)
  ]
]
