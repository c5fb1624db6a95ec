-- A list of which each entry is settled by what stands before it: there is one of each length.
use Rattle.std.proofs.Common.{◌≡◌, ℕ, zero, suc, ◌<◌, ◌≤◌, List, [], ◌∷◌, ◌++◌, length, get_or, refl, sym, ◌∙◌, arith, subst, inl, inr}
use Rattle.std.proofs.lemmas.Bool.{cases_eq}
use Rattle.std.proofs.lemmas.List.{ext_get_or, get_or_append_left, get_or_push, length_push}

module _ {A : Type 0} (d : A) (Entry : List A → ℕ → A → Type 0) where
  -- two lists that agree below x
  abbrev pub Agree : List A → List A → ℕ → Type 0
  Agree xs ys x = (y : ℕ) → y < x → get_or xs y d ≡ get_or ys y d

  -- an entry looks at what stands before it alone
  abbrev pub LooksBack : Type 0
  LooksBack = (xs ys : List A) (x : ℕ) (v : A) → Agree xs ys x → Entry xs x v → Entry ys x v

  -- n entries, each settled
  pub record AreEntries (n : ℕ) (xs : List A) : Type 0 where
    pub long : length xs ≡ n
    pub each : (x : ℕ) → x < n → Entry xs x (get_or xs x d)

  pub push_settled : LooksBack → (n : ℕ) (xs : List A) (v : A) → AreEntries n xs → Entry xs n v
      → AreEntries (suc n) (xs ++ v ∷ [])
  push_settled back n xs v h e = record {
    long = omega (arith, length_push xs v, h.long);
    each = λ x l. back xs (xs ++ v ∷ []) x _
        (λ y m. sym (get_or_append_left xs (v ∷ []) d y (omega (arith, h.long)))) (elim (cases_eq x n) [
          | inr ne ↦
              subst (Entry xs x) (sym (get_or_append_left xs (v ∷ []) d x (omega (arith, h.long))))
              (h.each x (omega arith))
          | inl now ↦
              subst (Entry xs x) (sym (get_or_push xs v d x (omega (arith, h.long))))
              (subst (λ z. Entry xs z v) (sym now) e)
        ]);
  }

  pub settled_to : LooksBack → ((xs : List A) (x : ℕ) → (v : A) × Entry xs x v) → (n : ℕ)
      → (xs : List A) × AreEntries n xs
  settled_to back some zero = ([], record { long = refl; each = λ x l. absurd (omega arith) })
  settled_to back some (suc n) =
      let (xs, h) = settled_to back some n in
      let (v, e) = some xs n in
      (xs ++ v ∷ [], push_settled back n xs v h e)

  agree_up : LooksBack → ((xs : List A) (x : ℕ) (v w : A) → Entry xs x v → Entry xs x w → v ≡ w) → (n : ℕ)
      (xs ys : List A) → AreEntries n xs → AreEntries n ys → (x : ℕ) → x ≤ n → Agree xs ys x
  agree_up back one n xs ys a b zero l y m = absurd (omega arith)
  agree_up back one n xs ys a b (suc x) l y m = elim (cases_eq y x) [
    | inr ne ↦ agree_up back one n xs ys a b x (omega arith) y (omega arith)
    | inl e ↦
        subst (λ (z : ℕ). get_or xs z d ≡ get_or ys z d) (sym e)
        (one ys x _ _ (back xs ys x _ (agree_up back one n xs ys a b x (omega arith)) (a.each x l)) (b.each x l))
  ]

  pub one_list : LooksBack → ((xs : List A) (x : ℕ) (v w : A) → Entry xs x v → Entry xs x w → v ≡ w) → (n : ℕ)
      (xs ys : List A) → AreEntries n xs → AreEntries n ys → xs ≡ ys
  one_list back one n xs ys a b =
      ext_get_or d xs ys (a.long ∙ sym b.long)
      (λ i l. agree_up back one n xs ys a b n (omega arith) i (omega (arith, a.long)))
