-- A task has one greatest work.
use Rattle.std.proofs.Common.{◌≡◌, ℕ, ◌<◌, List, get_or, sym, ◌∙◌, arith, inl, inr}
use Rattle.std.proofs.lemmas.Bool.{cases_order}
use Rattle.std.proofs.lemmas.List.{ext_get_or}
use Rattle.tree_model.specs.View.{SystemView}
use Rattle.slack.specs.MostWork.{IsMostWork, AreMostWorks}

less_is_not : (sys : SystemView) (q i m n : ℕ) → IsMostWork sys q i m → IsMostWork sys q i n → m < n → ⊥
less_is_not sys q i m n a b l =
    let r = b.admitted n b.some (omega arith) in a.past n l b.in_room r.0 r.1

pub one_most : (sys : SystemView) (q i m n : ℕ) → IsMostWork sys q i m → IsMostWork sys q i n → m ≡ n
one_most sys q i m n a b = elim (cases_order m n) [
  | inl same ↦ same
  | inr w ↦ elim w [
    | inl l ↦ absurd (less_is_not sys q i m n a b l)
    | inr l ↦ absurd (less_is_not sys q i n m b a l)
  ]
]

-- and a leaf one list of them
pub one_list_of_works : (sys : SystemView) (q : ℕ) (xs ys : List ℕ) → AreMostWorks sys q xs → AreMostWorks sys q ys
    → xs ≡ ys
one_list_of_works sys q xs ys a b =
    ext_get_or 0 xs ys (a.one_each ∙ sym b.one_each)
    (λ i l. one_most sys q i (get_or xs i 0) (get_or ys i 0) (a.each i (omega (arith, l, a.one_each)))
    (b.each i (omega (arith, l, a.one_each))))
