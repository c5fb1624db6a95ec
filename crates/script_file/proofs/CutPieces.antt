-- The first piece of a text, and those behind it.
use Rattle.std.proofs.Common.{◌≡◌, ◌≢◌, ℕ, zero, suc, ◌+◌, ◌-◌, ◌<◌, ◌≤◌, List, [], ◌∷◌, ◌++◌, length, take, drop, get_or, refl, sym, ◌∙◌, ap, arith, add-one, Bool, true, false, cond, inl, inr}
use Rattle.std.proofs.lemmas.Bool.{cases_eq, eq-eqb, ne_eqb}
use Rattle.std.proofs.lemmas.List.{take_all, length-drop}
use Rattle.script_file.specs.Pieces.{pieces, put_front}

-- a first byte at which the text is not cut
not_cut : (at b : ℕ) (text : List ℕ) → b ≢ at → pieces at (b ∷ text) ≡ put_front b (pieces at text)
not_cut at b text ne = ap (λ (z : Bool). cond z ([] ∷ pieces at text) (put_front b (pieces at text))) (ne_eqb b at ne)

pub is_cut : (at b : ℕ) (text : List ℕ) → b ≡ at → pieces at (b ∷ text) ≡ [] ∷ pieces at text
is_cut at b text e = ap (λ (z : Bool). cond z ([] ∷ pieces at text) (put_front b (pieces at text))) (eq-eqb b at e)

-- the text is cut first at place i
pub cut_first : (at : ℕ) (text : List ℕ) (i : ℕ) → i < length text → get_or text i 0 ≡ at
    → ((j : ℕ) → j < i → get_or text j 0 ≢ at) → pieces at text ≡ take i text ∷ pieces at (drop (suc i) text)
cut_first at [] i l e before = absurd (omega (arith, l))
cut_first at (b ∷ text) zero l e before = is_cut at b text e
cut_first at (b ∷ text) (suc i) l e before =
    not_cut at b text (before 0 (omega arith))
    ∙ ap (put_front b) (cut_first at text i (omega (arith, l)) e (λ j m. before (suc j) (omega (arith, m))))

-- or nowhere
pub cut_nowhere : (at : ℕ) (text : List ℕ) → ((j : ℕ) → j < length text → get_or text j 0 ≢ at)
    → pieces at text ≡ text ∷ []
cut_nowhere at [] none = refl
cut_nowhere at (b ∷ text) none =
    not_cut at b text (none 0 (omega arith))
    ∙ ap (put_front b) (cut_nowhere at text (λ j m. none (suc j) (omega (arith, m))))

-- there is a piece in any text
filled_front : (b : ℕ) (ps : List (List ℕ)) → 1 ≤ length (put_front b ps)
filled_front b [] = omega arith
filled_front b (p ∷ ps) = omega arith

filled_at : (cut : Bool) (b : ℕ) (ps : List (List ℕ)) → 1 ≤ length (cond cut ([] ∷ ps) (put_front b ps))
filled_at true b ps = omega arith
filled_at false b ps = filled_front b ps

pub pieces_filled : (at : ℕ) (text : List ℕ) → 1 ≤ length (pieces at text)
pieces_filled at [] = omega arith
pieces_filled at (b ∷ text) = filled_at _ b (pieces at text)

-- the same with what is left as a slice gives it
pub cut_at : (at : ℕ) (text : List ℕ) (i : ℕ) → i < length text → get_or text i 0 ≡ at
    → ((j : ℕ) → j < i → get_or text j 0 ≢ at)
    → pieces at text ≡ take i text ∷ pieces at (take (length text - (i + 1)) (drop (i + 1) text))
cut_at at text i l e before =
    cut_first at text i l e before
    ∙ ap (λ (z : List ℕ). take i text ∷ pieces at z) (ap (λ (m : ℕ). drop m text) (sym (add-one i))
    ∙ sym (take_all (length text - (i + 1)) (drop (i + 1) text)
    (
    let h : length (drop (i + 1) text) ≡ length text - (i + 1) = length-drop (i + 1) text in
    omega (arith, h))))

-- pieces with the byte between each two
abbrev pub joined_by : ℕ → List (List ℕ) → List ℕ
joined_by at [] = []
joined_by at (last ∷ []) = last
joined_by at (piece ∷ later) = piece ++ at ∷ joined_by at later

joined_put : (at b : ℕ) (ps : List (List ℕ)) → 1 ≤ length ps → joined_by at (put_front b ps) ≡ b ∷ joined_by at ps
joined_put at b [] l = absurd (omega (arith, l))
joined_put at b (p ∷ []) l = refl
joined_put at b (p ∷ q ∷ ps) l = refl

joined_empty : (at : ℕ) (ps : List (List ℕ)) → 1 ≤ length ps → joined_by at ([] ∷ ps) ≡ at ∷ joined_by at ps
joined_empty at [] l = absurd (omega (arith, l))
joined_empty at (p ∷ ps) l = refl

-- those of a text are the text again
pub pieces_joined : (at : ℕ) (text : List ℕ) → joined_by at (pieces at text) ≡ text
pieces_joined at [] = refl
pieces_joined at (b ∷ bytes) = elim (cases_eq b at) [
  | inl e ↦
      ap (joined_by at) (is_cut at b bytes e)
      ∙ (joined_empty at (pieces at bytes) (pieces_filled at bytes)
      ∙ (ap (λ (z : ℕ). z ∷ joined_by at (pieces at bytes)) (sym e)
      ∙ ap (λ (z : List ℕ). b ∷ z) (pieces_joined at bytes)))
  | inr ne ↦
      ap (joined_by at) (not_cut at b bytes ne)
      ∙ (joined_put at b (pieces at bytes) (pieces_filled at bytes)
      ∙ ap (λ (z : List ℕ). b ∷ z) (pieces_joined at bytes))
]
