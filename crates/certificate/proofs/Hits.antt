-- The least hits of the first tasks.
use Rattle.std.proofs.Common.{◌≡◌, ℕ, ◌+◌, ◌<◌, Bool, true, List, [], ◌∷◌, ◌++◌, length, get_or, Option, Some, None, is_some, sym, subst, refl, arith, inl, inr}
use Rattle.std.proofs.lemmas.Bool.{cases_lt}
use Rattle.std.proofs.lemmas.List.{get_or_append_left, get_or_push, length_push}
use Rattle.slot_model.specs.Task.{SporadicTask}
use Rattle.slot_model.specs.Bound.{AllHit}
use Rattle.fp_test.specs.Hits.{IsLeastHit, AnswersLeastHit}

pub record HitsTo (above : ℕ → ℕ → Bool) (tasks : List SporadicTask) (bound : ℕ → ℕ) (hits : List ℕ) (n : ℕ) : Type 0
  where
    pub long : length hits ≡ n
    pub each : (i : ℕ) → i < n → IsLeastHit above tasks bound i (get_or hits i 0)

-- a task that has a hit is not short
pub has_hit : (above : ℕ → ℕ → Bool) (tasks : List SporadicTask) (bound : ℕ → ℕ) (i : ℕ) (answer : Option ℕ)
    → AllHit above tasks bound → i < length tasks → AnswersLeastHit above tasks bound i answer → is_some answer ≡ true
has_hit above tasks bound i (Some t) all l exact = refl
has_hit above tasks bound i None all l exact =
    let hit = all i l in absurd (omega (arith, hit.1.enough, exact hit.0 hit.1.some_slots hit.1.in_deadline))

-- the hit that an answer is
pub least_of : (above : ℕ → ℕ → Bool) (tasks : List SporadicTask) (bound : ℕ → ℕ) (i : ℕ) (answer : Option ℕ) (t : ℕ)
    → answer ≡ Some t → AnswersLeastHit above tasks bound i answer → IsLeastHit above tasks bound i t
least_of above tasks bound i answer t is exact =
    subst (λ (o : Option ℕ). AnswersLeastHit above tasks bound i o) is exact

pub hits_more : (above : ℕ → ℕ → Bool) (tasks : List SporadicTask) (bound : ℕ → ℕ) (hits : List ℕ) (n t : ℕ)
    → HitsTo above tasks bound hits n → IsLeastHit above tasks bound n t
    → HitsTo above tasks bound (hits ++ t ∷ []) (n + 1)
hits_more above tasks bound hits n t before least = record {
  long = omega (arith, length_push hits t, before.long);
  each = λ i l. elim (cases_lt i n) [
    | inl sooner ↦
        subst (λ (x : ℕ). IsLeastHit above tasks bound i x)
        (sym (get_or_append_left hits (t ∷ []) 0 i (omega (arith, before.long)))) (before.each i sooner)
    | inr last ↦
        let same : i ≡ n = omega arith in
        subst (λ (j : ℕ). IsLeastHit above tasks bound j (get_or (hits ++ t ∷ []) j 0)) (sym same)
        (subst (λ (x : ℕ). IsLeastHit above tasks bound n x)
        (sym (get_or_push hits t 0 n (omega (arith, before.long)))) least)
  ];
}
