-- The first and the last by an order of the numbers that pass.
use Rattle.std.proofs.Common.{◌≡◌, ◌≢◌, ℕ, ◌<◌, Bool, true, false, Option, sym, ◌∙◌, subst, inl, inr}
use Rattle.std.proofs.lemmas.Bool.{cases_Bool, cases_eq, both_ways}
use Rattle.rtds_queues.specs.inner.Queues.{IsFirstOf, IsLastOf}

-- no number goes before itself, and what goes before one goes before all that that goes before
pub record IsStrict (before : ℕ → ℕ → Bool) : Type 0 where
  pub itself : (u : ℕ) → before u u ≡ false
  pub in_turn : (u v w : ℕ) → before u v ≡ true → before v w ≡ true → before u w ≡ true

-- of two neither goes before the other and after it
pub one_way : (b : ℕ → ℕ → Bool) (u v : ℕ) → IsStrict b → b u v ≡ true → b v u ≡ false
one_way b u v strict h = elim (cases_Bool (b v u)) [
  | inr n ↦ n
  | inl y ↦ absurd (both_ways (b u u) (strict.itself u) (strict.in_turn u v u h y))
]

-- where the same pass, in the same order
module _ (p q : ℕ → Bool) (b e : ℕ → ℕ → Bool) (m : ℕ) (to : (u : ℕ) → u < m → p u ≡ true → q u ≡ true)
    (from : (u : ℕ) → u < m → q u ≡ true → p u ≡ true) (alike : (u v : ℕ) → p u ≡ true → p v ≡ true → e u v ≡ b u v)
  where
    pub first_same : (x : ℕ) → IsFirstOf p b m x → IsFirstOf q e m x
    first_same x h = record {
      within = h.within;
      here = λ l. to x l (h.here l);
      some = λ u l is. h.some u l (from u l is);
      first = λ u l is ne. alike x u (h.here (h.some u l (from u l is))) (from u l is) ∙ h.first u l (from u l is) ne;
    }

    pub last_same : (o : Option ℕ) → IsLastOf p b m o → IsLastOf q e m o
    last_same o h = record {
      none = λ is u l. elim (cases_Bool (q u)) [
        | inr n ↦ n
        | inl y ↦ absurd (both_ways (p u) (h.none is u l) (from u l y))
      ];
      within = h.within;
      here = λ a is. to a (h.within a is) (h.here a is);
      last = λ a u is l its ne. alike u a (from u l its) (h.here a is) ∙ h.last a u is l (from u l its) ne;
    }

-- one more or less behind one that passes changes nothing
pub first_past : (p q : ℕ → Bool) (b : ℕ → ℕ → Bool) (m x a v : ℕ) → IsStrict b → ((u : ℕ) → u ≢ v → q u ≡ p u) → a < m
    → p a ≡ true → b a v ≡ true → IsFirstOf p b m x → IsFirstOf q b m x
first_past p q b m x a v strict same la its behind h =
    let l : x < m = h.some a la its in
    let ahead : b x v ≡ true = elim (cases_eq a x) [
      | inl e ↦ subst (λ (z : ℕ). b z v ≡ true) e behind
      | inr ne ↦ strict.in_turn x a v (h.first a la its ne) behind
    ] in
    let other : x ≢ v = λ e. both_ways (b v v) (strict.itself v) (subst (λ (z : ℕ). b z v ≡ true) e ahead) in
    record {
      within = h.within;
      here = λ k. same x other ∙ h.here k;
      some = λ u lu is. l;
      first = λ u lu is ne. elim (cases_eq u v) [
        | inl e ↦ subst (λ (z : ℕ). b x z ≡ true) (sym e) ahead
        | inr nv ↦ h.first u lu (sym (same u nv) ∙ is) ne
      ];
    }
