-- The replays of the leaves among the first parts.
use Rattle.std.proofs.Common.{◌≡◌, ◌⊎◌, ℕ, zero, suc, ◌+◌, Bool, true, false, List, [], ◌∷◌, ◌++◌, length, Some, refl, sym, ◌∙◌, ap, arith, subst, inl, inr, add-one}
use Rattle.std.specs.Prelude.{slice_get, slice_index}
use Rattle.std.proofs.lemmas.List.{get_or_append_left, get_or_push, length_push}
use Rattle.std.proofs.lemmas.Option.{slice_get_within}
use Rattle.slot_model.specs.Slots.{push_if, places_where}
use Rattle.slot_model.proofs.Places.{places_where-suc}
use Rattle.tree_model.specs.View.{SystemView}
use Rattle.tree_model.specs.System.{part_at, is_computed_leaf}
use Rattle.miss_witness.specs.declared.replay.Replay.{Replay}
use Rattle.miss_witness.specs.Replay.{AreReplays, IsReplay}

-- what is read of a list with one more at its end
read_pushed : {X : Type 0} (xs : List X) (y z : X) (k : ℕ) → slice_get (xs ++ y ∷ []) k ≡ Some z
    → (slice_get xs k ≡ Some z) ⊎ ((k ≡ length xs) × (y ≡ z))
read_pushed [] y z zero e = inr (refl, cc)
read_pushed [] y z (suc k) e = absurd (cc)
read_pushed (x ∷ xs) y z zero e = inl e
read_pushed (x ∷ xs) y z (suc k) e =
    elim (read_pushed xs y z k e) [ inl old ↦ inl old | inr new ↦ inr (omega (arith, new.0), new.1) ]

-- the computed leaves among the first n parts, and one replay each
abbrev leaves_among : SystemView → ℕ → List ℕ
leaves_among sys n = places_where (λ q. is_computed_leaf (part_at sys q)) n

pub record ReplaysTo (sys : SystemView) (budgets : List ℕ) (n : ℕ) (replays : List Replay) : Type 0 where
  pub one_each : length replays ≡ length (leaves_among sys n)
  pub each : (k : ℕ) (replay : Replay) → slice_get replays k ≡ Some replay
      → IsReplay sys budgets (slice_index (leaves_among sys n) k) replay

more_leaves : (sys : SystemView) (n : ℕ)
    → leaves_among sys (n + 1) ≡ push_if (leaves_among sys n) (is_computed_leaf (part_at sys n)) n
more_leaves sys n =
    ap (λ (z : ℕ). leaves_among sys z) (add-one n) ∙ places_where-suc (λ q. is_computed_leaf (part_at sys q)) n

pub one_more_leaf : (sys : SystemView) (n : ℕ) → is_computed_leaf (part_at sys n) ≡ true
    → leaves_among sys (n + 1) ≡ leaves_among sys n ++ n ∷ []
one_more_leaf sys n e = more_leaves sys n ∙ ap (λ (b : Bool). push_if (leaves_among sys n) b n) e

pub no_more_leaf : (sys : SystemView) (n : ℕ) → is_computed_leaf (part_at sys n) ≡ false
    → leaves_among sys (n + 1) ≡ leaves_among sys n
no_more_leaf sys n e = more_leaves sys n ∙ ap (λ (b : Bool). push_if (leaves_among sys n) b n) e

pub one_more_replay : (sys : SystemView) (budgets : List ℕ) (n : ℕ) (replays : List Replay) (replay : Replay)
    → is_computed_leaf (part_at sys n) ≡ true → IsReplay sys budgets n replay → ReplaysTo sys budgets n replays
    → ReplaysTo sys budgets (n + 1) (replays ++ replay ∷ [])
one_more_replay sys budgets n replays replay leaf one h = record {
  one_each =
      omega (
        arith,
        h.one_each,
        length_push replays replay,
        length_push (leaves_among sys n) n,
        ap (λ (ks : List ℕ). length ks) (one_more_leaf sys n leaf),
      );
  each =
      λ k other e. subst (λ (ks : List ℕ). IsReplay sys budgets (slice_index ks k) other)
      (sym (one_more_leaf sys n leaf)) (elim (read_pushed replays replay other k e) [
        | inl old ↦
            subst (λ (q : ℕ). IsReplay sys budgets q other) (sym (get_or_append_left (leaves_among sys n) (n ∷ []) 0 k
            (omega (arith, h.one_each, slice_get_within replays k other old)))) (h.each k other old)
        | inr new ↦
            subst (λ (q : ℕ). IsReplay sys budgets q other)
            (sym (get_or_push (leaves_among sys n) n 0 k (omega (arith, new.0, h.one_each))))
            (subst (IsReplay sys budgets n) new.1 one)
      ]);
}

pub no_more_replay : (sys : SystemView) (budgets : List ℕ) (n : ℕ) (replays : List Replay)
    → is_computed_leaf (part_at sys n) ≡ false → ReplaysTo sys budgets n replays → ReplaysTo sys budgets (n + 1) replays
no_more_replay sys budgets n replays inner h = record {
  one_each = omega (arith, h.one_each, ap (λ (ks : List ℕ). length ks) (no_more_leaf sys n inner));
  each =
      λ k other e. subst (λ (ks : List ℕ). IsReplay sys budgets (slice_index ks k) other)
      (sym (no_more_leaf sys n inner)) (h.each k other e);
}

pub all_replays : (sys : SystemView) (budgets : List ℕ) (n : ℕ) (replays : List Replay) → n ≡ length sys.parts
    → ReplaysTo sys budgets n replays → AreReplays sys budgets replays
all_replays sys budgets n replays e h =
    let all : ReplaysTo sys budgets (length sys.parts) replays
    = subst (λ (z : ℕ). ReplaysTo sys budgets z replays) e h in
    record { one_each = all.one_each; each = all.each }
