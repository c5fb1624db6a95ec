-- The VCPUs of each core.
use Rattle.std.proofs.Common.{◌≡◌, ◌≢◌, ◌∙◌, ◌<◌, ℕ, zero, suc, Bool, true, false, cond, length, get_or, sym, ap, arith, subst, inl, inr, eqb-true}
use Rattle.std.proofs.lemmas.Bool.{cases_lt, cases_Bool}
use Rattle.tree_model.specs.declared.place.Parent.{Parent}
use Rattle.tree_model.specs.declared.place.Parent.TheVariants.{Core as on_core, Part as on_part}
use Rattle.tree_model.specs.declared.place.Place.TheVariants.{Core}
use Rattle.tree_model.specs.View.{SystemView}
use Rattle.tree_model.specs.System.{part_at}
use Rattle.tree_model.specs.Tree.{is_child, place_of, same_place}
use Rattle.slot_model.specs.Slots.{count_below, places_where}
use Rattle.slot_model.proofs.Places.{length-push_if, push_if-kept, push_if-last, length-places_where}

-- a number that passes, and how many below it do
pub record IsPlace (passes : ℕ → Bool) (n i v : ℕ) : Type 0 where
  pub within : v < n
  pub passes_it : passes v ≡ true
  pub counted : count_below passes v ≡ i

pub is_place : (passes : ℕ → Bool) (n i d : ℕ) → i < length (places_where passes n)
    → IsPlace passes n i (get_or (places_where passes n) i d)
is_place passes zero i d l = absurd (omega arith)
is_place passes (suc n) i d l = elim (cases_lt i (length (places_where passes n))) [
  | inl q ↦
      let old : IsPlace passes n i (get_or (places_where passes n) i d) = is_place passes n i d q in
      subst (IsPlace passes (suc n) i) (sym (push_if-kept (places_where passes n) (passes n) n d i q))
      (record { within = omega (arith, old.within); passes_it = old.passes_it; counted = old.counted })
  | inr q ↦ elim (cases_Bool (passes n)) [
    | inl e ↦
        let long : length (places_where passes n) ≡ i
        = omega (
          arith,
          l,
          q,
          length-push_if (places_where passes n) (passes n) n,
          ap (λ (b : Bool). cond {A = ℕ} b 1 0) e,
        ) in
        subst (IsPlace passes (suc n) i) (sym (push_if-last (places_where passes n) (passes n) n d i e long))
        (record { within = omega arith; passes_it = e; counted = sym (length-places_where passes n) ∙ long })
    | inr e ↦
        absurd (omega (
          arith,
          l,
          q,
          length-push_if (places_where passes n) (passes n) n,
          ap (λ (b : Bool). cond {A = ℕ} b 1 0) e,
        ))
  ]
]

-- what stands on one core stands on no other
same_core : (p : Parent) (c d : ℕ) → same_place (place_of p) (Core d) ≡ true → same_place (place_of p) (Core c) ≡ true
    → d ≡ c
same_core (on_core e) c d x y = sym (eqb-true e d x) ∙ eqb-true e c y
same_core (on_part q) c d x y = cc

pub on_one_core : (sys : SystemView) (c d v : ℕ) → d ≢ c → is_child sys (Core c) v ≡ true
    → is_child sys (Core d) v ≡ false
on_one_core sys c d v ne its = elim (cases_Bool (is_child sys (Core d) v)) [
  | inr b ↦ b
  | inl b ↦ absurd (ne (same_core (part_at sys v).parent c d b its))
]
