-- What is told of the last row of a kind, slot by slot, while rows come behind.
use Rattle.std.proofs.Common.{◌≡◌, ℕ, suc, ◌<◌, ◌≤◌, Bool, true, false, cond, ◌&&◌, List, [], ◌∷◌, ◌++◌, length, Option, Some, sym, ◌∙◌, ap, arith, subst, inl, inr, le-leb}
use Rattle.std.proofs.lemmas.Bool.{cases_eq, and_from, and_left, and_right, lt-leb}
use Rattle.std.proofs.lemmas.List.{get_or_append_left, length_push}
use Rattle.std.proofs.Math.Seq.{get_or-append_seam}
use Rattle.csv_rows.proofs.Last.{last_below-suc, last_by_moment, same_rows}
use Rattle.release_file.specs.declared.workload.Wake.{Wake}
use Rattle.release_file.specs.declared.workload.WakeKind.TheVariants.{Start}
use Rattle.release_file.specs.Workload.{row_at, last_row, is_by}

pub old_row : (ws : List Wake) (w : Wake) (i : ℕ) → i < length ws → row_at (ws ++ w ∷ []) i ≡ row_at ws i
old_row ws w i l = get_or_append_left ws (w ∷ []) (record { at = 0; vcpu = 0; what = Start }) i l

pub new_row : (ws : List Wake) (w : Wake) → row_at (ws ++ w ∷ []) (length ws) ≡ w
new_row ws w = get_or-append_seam ws w [] (record { at = 0; vcpu = 0; what = Start })

-- the last row of those that pass, with a row behind
with_row : (p : Wake → Bool) (ws : List Wake) (w : Wake) (b : Bool) → p w ≡ b
    → last_row p (ws ++ w ∷ []) (length (ws ++ w ∷ [])) ≡ cond b (Some w) (last_row p ws (length ws))
with_row p ws w b e =
    let n : length (ws ++ w ∷ []) ≡ suc (length ws) = omega (arith, length_push ws w) in
    ap (last_row p (ws ++ w ∷ [])) n
    ∙ (last_below-suc p (row_at (ws ++ w ∷ [])) (length ws)
    ∙ (ap (λ (r : Wake). cond (p r) (Some r) (last_row p (ws ++ w ∷ []) (length ws))) (new_row ws w)
    ∙ (ap (λ (t : Bool). cond t (Some w) (last_row p (ws ++ w ∷ []) (length ws))) e
    ∙ ap (λ (o : Option Wake). cond b (Some w) o)
    (same_rows p (row_at (ws ++ w ∷ [])) (row_at ws) (length ws) (λ i l. old_row ws w i l)))))

-- of the rows that pass, the last at or before each slot below `seen` is told, and the last of all
pub record Told (passes : Wake → Bool) (target : ℕ → Option Wake) (seen : ℕ) (rows : List Wake) : Type 0 where
  pub last : last_row passes rows (length rows) ≡ target seen
  pub each : (y : ℕ) → y < seen
      → last_row (λ row. is_by y row && passes row) rows (length rows) ≡ target (suc y)

-- a row behind that does not pass
pub told_other : (passes : Wake → Bool) (target : ℕ → Option Wake) (seen : ℕ) (ws : List Wake) (w : Wake)
    → passes w ≡ false → Told passes target seen ws → Told passes target seen (ws ++ w ∷ [])
told_other passes target seen ws w e h = record {
  last = with_row passes ws w false e ∙ h.last;
  each =
      λ y l. with_row (λ row. is_by y row && passes row) ws w false (and_right (is_by y w) (passes w) e)
      ∙ h.each y l;
}

-- one that passes, at the next slot
pub told_new : (passes : Wake → Bool) (target : ℕ → Option Wake) (x : ℕ) (ws : List Wake) (w : Wake)
    → passes w ≡ true → w.at ≡ x → target (suc x) ≡ Some w → Told passes target x ws
    → Told passes target (suc x) (ws ++ w ∷ [])
told_new passes target x ws w e at t h = record {
  last = with_row passes ws w true e ∙ sym t;
  each = λ y l. elim (cases_eq y x) [
    | inl q ↦
        with_row (λ row. is_by y row && passes row) ws w true
        (and_from (is_by y w) (passes w) (le-leb w.at y (omega (arith, at, q))) e)
        ∙ (sym t ∙ ap (λ (z : ℕ). target (suc z)) (sym q))
    | inr ne ↦
        with_row (λ row. is_by y row && passes row) ws w false
        (and_left (is_by y w) (passes w) (lt-leb w.at y (omega (arith, at))))
        ∙ h.each y (omega arith)
  ];
}

-- no row at the next slot
pub told_same : (passes : Wake → Bool) (target : ℕ → Option Wake) (x : ℕ) (ws : List Wake)
    → ((i : ℕ) → i < length ws → (row_at ws i).at ≤ x) → target (suc x) ≡ target x → Told passes target x ws
    → Told passes target (suc x) ws
told_same passes target x ws by t h = record {
  last = h.last ∙ sym t;
  each = λ y l. elim (cases_eq y x) [
    | inl q ↦
        last_by_moment (λ (r : Wake). r.at) passes (row_at ws) y (length ws) (length ws) (omega arith)
        (λ i m. omega (arith, by i m)) (λ i a b. absurd (omega arith))
        ∙ (h.last ∙ (sym t ∙ ap (λ (z : ℕ). target (suc z)) (sym q)))
    | inr ne ↦ h.each y (omega arith)
  ];
}

-- a number of slots that is the same
pub told_at : (passes : Wake → Bool) (target : ℕ → Option Wake) (x y : ℕ) (ws : List Wake) → x ≡ y
    → Told passes target x ws → Told passes target y ws
told_at passes target x y ws e h = subst (λ (z : ℕ). Told passes target z ws) e h
