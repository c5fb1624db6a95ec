-- A budget that is put behind all is taken off again.
use Rattle.std.proofs.Common.{◌≡◌, ℕ, ◌-◌, List, [], ◌∷◌, ◌++◌, length, take, arith, ◌∙◌, ap}
use Rattle.std.proofs.Math.Seq.{take-append_seam}
use Rattle.std.proofs.lemmas.List.{length_push}

pub budget_off : (plan more fewer : List ℕ) (budget : ℕ) → more ≡ plan ++ budget ∷ []
    → fewer ≡ take (length more - 1) more → fewer ≡ plan
budget_off plan more fewer budget e f =
    f
    ∙ (ap (λ (bs : List ℕ). take (length bs - 1) bs) e
    ∙ (ap (λ (n : ℕ). take n (plan ++ budget ∷ []))
    (let same : length (plan ++ budget ∷ []) - 1 ≡ length plan = omega (arith, length_push plan budget) in same)
    ∙ take-append_seam plan (budget ∷ [])))

-- and so it is where that budget alone was written in between
pub budget_left : (plan more after fewer : List ℕ) (budget q : ℕ) → more ≡ plan ++ budget ∷ [] → q ≡ length plan
    → length after ≡ length more → take q after ≡ take q more → fewer ≡ take (length after - 1) after → fewer ≡ plan
budget_left plan more after fewer budget q e n long same f =
    f
    ∙ (ap (λ (k : ℕ). take k after)
    (let k : length after - 1 ≡ q
    = omega (arith, n, long, ap (λ (bs : List ℕ). length bs) e, length_push plan budget) in
    k)
    ∙ (same
    ∙ (ap (take q) e
    ∙ (ap (λ (k : ℕ). take k (plan ++ budget ∷ [])) n ∙ take-append_seam plan (budget ∷ [])))))
