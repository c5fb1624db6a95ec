-- An edit that is taken back leaves the system as it was.
use Rattle.std.proofs.Common.{◌≡◌, ℕ, zero, suc, ◌+◌, ◌-◌, ◌<◌, ◌≤◌, true, leb, List, [], ◌∷◌, ◌++◌, map, length, get_or, arith, refl, sym, ◌∙◌, ap, subst, inl, inr, append-nil}
use Rattle.std.specs.Prelude.{All}
use Rattle.std.specs.List.{insert, remove}
use Rattle.std.proofs.lemmas.Bool.{cases_lt, cond-true, cond-false, le-leb, lt-leb}
use Rattle.std.proofs.lemmas.List.{length_push, set-set, set-get_or, get_or_default}
use Rattle.std.proofs.lemmas.List.Edits.{remove-append_right}
use Rattle.tree_model.specs.declared.place.Parent.{Parent}
use Rattle.tree_model.specs.declared.place.Parent.TheVariants.{Core as on_core, Part as on_part}
use Rattle.tree_model.specs.View.{PartView, SystemView}
use Rattle.tree_model.specs.System.{IsSystem, Stands, part_at, no_part, is_leaf_at}
use Rattle.admission_session.specs.Leaves.{on_parent, with_leaf, with_changed, fallen, fallen_part, without_leaf}
use Rattle.admission_session.specs.inner.Undone.{without_last, risen, risen_part, CanRise, with_leaf_back}
use Rattle.admission_session.proofs.KeptByEdits.{fallen_before, fallen_behind, not_on_leaf}

-- the last part is taken off again
last_place : (sys : SystemView) (leaf : PartView) → length (with_leaf sys leaf).parts - 1 ≡ length sys.parts
last_place sys leaf = omega (arith, length_push sys.parts leaf)

pub last_off : (sys : SystemView) (leaf : PartView) → without_last (with_leaf sys leaf) ≡ sys
last_off sys leaf =
    ap (λ (ps : List PartView). let s : SystemView = record { cores = sys.cores; parts = ps } in s)
    (ap (remove (sys.parts ++ leaf ∷ [])) (last_place sys leaf)
    ∙ (remove-append_right sys.parts (leaf ∷ []) (length sys.parts) (length sys.parts) refl (omega arith)
    ∙ (ap (λ (k : ℕ). sys.parts ++ remove (leaf ∷ []) k)
    (let e : length sys.parts - length sys.parts ≡ 0 = omega arith in e) ∙ append-nil sys.parts)))

-- a changed leaf is changed again
pub changed_back : (sys : SystemView) (q : ℕ) (leaf : PartView)
    → with_changed (with_changed sys q leaf) q (part_at sys q) ≡ sys
changed_back sys q leaf =
    ap (λ (ps : List PartView). let s : SystemView = record { cores = sys.cores; parts = ps } in s)
    (set-set sys.parts q leaf (part_at sys q) ∙ set-get_or sys.parts q no_part)

-- a leaf is put back: each parent rises as it fell
rises_again : (q : ℕ) (parent : Parent) → (parent ≡ on_part q → ⊥) → risen q (fallen q parent) ≡ parent
rises_again q (on_core c) ne = refl
rises_again q (on_part p) ne = elim (cases_lt q p) [
  | inl l ↦
      ap (risen q) (fallen_behind q p l)
      ∙ ap on_part (cond-true {A = ℕ} (leb q (p - 1)) (p - 1 + 1) (p - 1) (le-leb q (p - 1) (omega arith))
      ∙ (let e : p - 1 + 1 ≡ p = omega arith in e))
  | inr l ↦ elim (cases_lt p q) [
    | inl b ↦
        ap (risen q) (fallen_before q p l)
        ∙ ap on_part (cond-false {A = ℕ} (leb q p) (p + 1) p (lt-leb q p b))
    | inr b ↦ absurd (ne (ap on_part (let e : p ≡ q = omega arith in e)))
  ]
]

part_again : (q : ℕ) (part : PartView) → (part.parent ≡ on_part q → ⊥)
    → risen_part q (fallen_part q part) ≡ part
part_again q part ne = ap (on_parent part) (rises_again q part.parent ne)

all_again : {A : Type 0} (f g : A → A) (xs : List A) (d : A)
    → ((i : ℕ) → i < length xs → f (g (get_or xs i d)) ≡ get_or xs i d) → map f (map g xs) ≡ xs
all_again f g [] d each = refl
all_again {A} f g (x ∷ xs) d each =
    ap (λ (y : A). y ∷ map f (map g xs)) (each 0 (omega arith))
    ∙ ap (λ (ys : List A). x ∷ ys) (all_again f g xs d (λ i l. each (suc i) (omega (arith, l))))

put_again : {A : Type 0} (f g : A → A) (xs : List A) (q : ℕ) (d : A) → q < length xs
    → ((i : ℕ) → i < length xs → f (g (get_or xs i d)) ≡ get_or xs i d)
    → insert (map f (remove (map g xs) q)) q (get_or xs q d) ≡ xs
put_again f g [] q d l each = absurd (omega (arith, l))
put_again {A} f g (x ∷ xs) zero d l each =
    ap (λ (ys : List A). x ∷ ys) (all_again f g xs d (λ i h. each (suc i) (omega (arith, h))))
put_again {A} f g (x ∷ xs) (suc q) d l each =
    ap (λ (y : A). y ∷ insert (map f (remove (map g xs) q)) q (get_or xs q d)) (each 0 (omega arith))
    ∙ ap (λ (ys : List A). x ∷ ys) (put_again f g xs q d (omega (arith, l)) (λ i h. each (suc i) (omega (arith, h))))

pub taken_leaf : (sys : SystemView) → IsSystem sys → (q : ℕ) → q < length sys.parts
    → fallen_part q (part_at sys q) ≡ part_at sys q
taken_leaf sys is q h = ap (on_parent (part_at sys q)) (stays (part_at sys q).parent (is.parents q h))
  where
    stays : (parent : Parent) → Stands sys q parent → fallen q parent ≡ parent
    stays (on_core c) s = refl
    stays (on_part p) s = fallen_before q p (omega (arith, s.0))

pub leaf_back : (sys : SystemView) → IsSystem sys → (q : ℕ) → q < length sys.parts → is_leaf_at sys q ≡ true
    → with_leaf_back (without_leaf sys q) q (fallen_part q (part_at sys q)) ≡ sys
leaf_back sys is q h leaf =
    ap (λ (p : PartView). with_leaf_back (without_leaf sys q) q p) (taken_leaf sys is q h)
    ∙ ap (λ (ps : List PartView). let s : SystemView = record { cores = sys.cores; parts = ps } in s)
    (put_again (risen_part q) (fallen_part q) sys.parts q no_part h
    (λ i l. part_again q (part_at sys i) (not_on_leaf sys is q leaf i l)))

-- in a system parents have room to rise
pub can_rise : (sys : SystemView) → IsSystem sys → (parts : List PartView) → parts ≡ sys.parts
    → All (λ (p : PartView). CanRise p.parent) parts
can_rise sys is parts e =
    subst (λ (ps : List PartView). All (λ (p : PartView). CanRise p.parent) ps) (sym e)
    (λ k d l. subst (λ (p : PartView). CanRise p.parent) (get_or_default sys.parts k no_part d l)
    (rises k (part_at sys k).parent (omega (arith, l, is.few_parts)) (is.parents k l)))
  where
    rises : (k : ℕ) (parent : Parent) → k ≤ 512 → Stands sys k parent → CanRise parent
    rises k (on_core c) l s = tt
    rises k (on_part p) l s = omega (arith, l, s.0)

-- a parent is written as it falls, and as it rises
pub fallen_written : (v part : PartView) (q : ℕ) (parent : Parent) → v ≡ part → parent ≡ fallen q v.parent
    → on_parent v parent ≡ fallen_part q part
fallen_written v part q parent same e = ap (on_parent v) e ∙ ap (fallen_part q) same

pub risen_written : (v part : PartView) (q : ℕ) (parent : Parent) → v ≡ part → parent ≡ risen q v.parent
    → on_parent v parent ≡ risen_part q part
risen_written v part q parent same e = ap (on_parent v) e ∙ ap (risen_part q) same
