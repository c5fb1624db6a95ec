-- The marks that the mask of a load makes.
use Rattle.std.proofs.Common.{◌≡◌, ◌∙◌, ℕ, ◌<◌, ◌≤◌, Bool, true, false, cond, eqb, List, length, map, get_or, inl, inr, refl, sym, ap, arith}
use Rattle.std.proofs.lemmas.Bool.{cases_lt, eq-eqb, eqb-true}
use Rattle.std.proofs.lemmas.List.{get_or-map, get_or_past, length-map}
use Rattle.std.proofs.lemmas.Simd.{bit_mask_l, get_or-chunk, length-chunk}
use Rattle.std.specs.Int.{bit_at}
use lib.Lanes.{chunk, mask_l}
use Rattle.csv_rows.specs.inner.Near.{Marks}

is_set : (b : Bool) → cond {A = ℕ} b 1 0 ≡ 1 → b ≡ true
is_set true e = refl
is_set false e = absurd (omega (arith, e))

module _ (text : List ℕ) (byte m : ℕ) (room : 32 ≤ length text)
    (mask : m ≡ mask_l (map (λ x. eqb x byte) (chunk 0 32 text))) where
  abbrev lanes : List Bool
  lanes = map (λ x. eqb x byte) (chunk 0 32 text)

  long : length (chunk 0 32 text) ≡ 32
  long = length-chunk 0 32 text (omega arith)

  bit : (k : ℕ) → bit_at m k ≡ cond (get_or lanes k false) 1 0
  bit k = ap (λ z. bit_at z k) mask ∙ bit_mask_l lanes k

  lane : (k : ℕ) → k < 32 → get_or lanes k false ≡ eqb (get_or text k 0) byte
  lane k less =
      get_or-map (λ x. eqb x byte) (chunk 0 32 text) k 0 false (omega (arith, long))
      ∙ ap (λ b. eqb b byte) (get_or-chunk 0 32 text k 0 less ∙ ap (λ j. get_or text j 0) (omega arith))

  past : (k : ℕ) → 32 ≤ k → get_or lanes k false ≡ false
  past k more = get_or_past lanes k false (omega (arith, long, length-map (chunk 0 32 text) (λ x. eqb x byte)))

  pub marks : Marks text byte m
  marks = record {
    each =
        λ k less e. bit k ∙ ap (λ b. cond b 1 0) (lane k less ∙ eq-eqb (get_or text k 0) byte e);
    only =
        λ k set. elim (cases_lt k 32) [
          | inl less ↦ (
            less,
            eqb-true (get_or text k 0) byte
                (sym (lane k less) ∙ is_set (get_or lanes k false) (sym (bit k) ∙ set)),
          )
          | inr more ↦ absurd (omega (arith, set, bit k ∙ ap (λ b. cond {A = ℕ} b 1 0) (past k more)))
        ];
  }
