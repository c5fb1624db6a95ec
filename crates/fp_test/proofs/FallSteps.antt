-- One fall after another.
use Rattle.std.proofs.Common.{◌≡◌, ℕ, suc, ◌+◌, ◌-◌, ◌^◌, ◌<◌, ◌≤◌, Bool, List, [], ◌∷◌, ◌++◌, length, get_or, Some, None, arith, sym, ◌∙◌, ap, subst, inl, inr}
use Rattle.std.proofs.lemmas.Bool.{cases_lt}
use Rattle.std.proofs.lemmas.List.{get_or_append_left, get_or_push, length_push}
use Rattle.slot_model.specs.Supply.{SupplyLaws}
use Rattle.slot_model.specs.Task.{SporadicTask, room_of, task_at}
use Rattle.slot_model.specs.Bound.{rbf, IsShortTask}
use Rattle.slot_model.specs.Points.{IsChain}
use Rattle.supply_bound.specs.Reach.{IsReach}
use Rattle.slot_model.proofs.Rising.{never_falls_far}
use Rattle.fp_test.specs.Falls.{IsNextFall, AreFalls}
use Rattle.fp_test.proofs.Jumps.{bound-le, skips_none, below_reach}

-- where no window below 2^128 has a bound, all windows there have less
below_unreached : {bound : ℕ → ℕ} {amount cycle : ℕ} {pattern : ℕ → Bool} {start : ℕ} {Conforms : List Bool → Type 0}
    → SupplyLaws bound amount cycle pattern start Conforms → (x : ℕ) → IsReach bound x None → (u : ℕ) → u < 2 ^ 128
    → bound u < x
below_unreached {bound} laws x never u l = elim (cases_lt (bound u) x) [
  | inl m ↦ m
  | inr m ↦
      let r : (w : ℕ) × (w ≤ u) × (bound w ≡ x) = skips_none laws x u m in absurd (never r.0 (omega (arith, r.1)) r.2)
]

-- the next fall is the window that gives what is requested, or just past the end
pub fall_reached : (above : ℕ → ℕ → Bool) (tasks : List SporadicTask)
    → {bound : ℕ → ℕ} {amount cycle : ℕ} {pattern : ℕ → Bool} {start : ℕ} {Conforms : List Bool → Type 0}
    → SupplyLaws bound amount cycle pattern start Conforms
    → (i from asked t : ℕ) → asked ≡ rbf above tasks i from → IsReach bound asked (Some t)
    → t ≤ room_of (task_at tasks i) → IsNextFall above tasks bound i from t
fall_reached above tasks laws i from asked t e reach l =
    record {
      within = omega arith;
      below = λ u m. omega (arith, e, below_reach laws asked t reach.1 u m);
      gives = λ d. omega (arith, e, reach.0);
    }

pub fall_late : (above : ℕ → ℕ → Bool) (tasks : List SporadicTask)
    → {bound : ℕ → ℕ} {amount cycle : ℕ} {pattern : ℕ → Bool} {start : ℕ} {Conforms : List Bool → Type 0}
    → SupplyLaws bound amount cycle pattern start Conforms
    → (i from asked t : ℕ) → asked ≡ rbf above tasks i from → IsReach bound asked (Some t)
    → room_of (task_at tasks i) < t → IsNextFall above tasks bound i from (room_of (task_at tasks i) + 1)
fall_late above tasks laws i from asked t e reach l =
    record {
      within = omega arith;
      below = λ u m. omega (arith, e, below_reach laws asked t reach.1 u (omega arith));
      gives = λ d. absurd (omega arith);
    }

pub fall_never : (above : ℕ → ℕ → Bool) (tasks : List SporadicTask)
    → {bound : ℕ → ℕ} {amount cycle : ℕ} {pattern : ℕ → Bool} {start : ℕ} {Conforms : List Bool → Type 0}
    → SupplyLaws bound amount cycle pattern start Conforms
    → (i from asked : ℕ) → asked ≡ rbf above tasks i from → IsReach bound asked None
    → room_of (task_at tasks i) + 1 < 2 ^ 128 → IsNextFall above tasks bound i from (room_of (task_at tasks i) + 1)
fall_never above tasks laws i from asked e never small =
    record {
      within = omega arith;
      below = λ u m. omega (arith, e, below_unreached laws asked never u (omega arith));
      gives = λ d. absurd (omega arith);
    }

pub fall_wide : (above : ℕ → ℕ → Bool) (tasks : List SporadicTask)
    → {bound : ℕ → ℕ} {amount cycle : ℕ} {pattern : ℕ → Bool} {start : ℕ} {Conforms : List Bool → Type 0}
    → SupplyLaws bound amount cycle pattern start Conforms
    → (i from : ℕ) → 2 ^ 128 ≤ rbf above tasks i from → room_of (task_at tasks i) + 1 < 2 ^ 128
    → IsNextFall above tasks bound i from (room_of (task_at tasks i) + 1)
fall_wide above tasks laws i from wide small =
    record
    { within = omega arith; below = λ u m. omega (arith, wide, bound-le laws u); gives = λ d. absurd (omega arith) }

-- it is later, since the task has no hit
pub fall_later : (above : ℕ → ℕ → Bool) (tasks : List SporadicTask) (bound : ℕ → ℕ)
    → ((t : ℕ) → bound t ≤ bound (suc t)) → (i from to : ℕ) → IsShortTask above tasks bound i → 1 ≤ from
    → from ≤ room_of (task_at tasks i) → IsNextFall above tasks bound i from to → from < to
fall_later above tasks bound rises i from to short l m next = elim (cases_lt from to) [
  | inl later ↦ later
  | inr sooner ↦
      absurd (omega (arith, next.gives (omega arith), never_falls_far bound rises to from sooner, short from l m))
]

-- the falls as far as `last`
pub record FallsTo (above : ℕ → ℕ → Bool) (tasks : List SporadicTask) (bound : ℕ → ℕ) (i : ℕ) (falls : List ℕ)
    (last : ℕ) : Type 0 where
  pub some_point : 1 ≤ length falls
  pub from_one : get_or falls 0 0 ≡ 1
  pub rising : (j : ℕ) → j + 1 < length falls → get_or falls j 0 < get_or falls (j + 1) 0
  pub steps : (j : ℕ) → j + 1 < length falls
      → IsNextFall above tasks bound i (get_or falls j 0) (get_or falls (j + 1) 0)
  pub ends : get_or falls (length falls - 1) 0 ≡ last
  pub some_slots : 1 ≤ last
  pub within : last ≤ room_of (task_at tasks i) + 1

-- the last entry of a list that one was added to, and the earlier ones
before_push : (xs : List ℕ) (x j : ℕ) → j < length xs → get_or (xs ++ x ∷ []) j 0 ≡ get_or xs j 0
before_push xs x j l = get_or_append_left xs (x ∷ []) 0 j l

at_push : (xs : List ℕ) (x j : ℕ) → j ≡ length xs → get_or (xs ++ x ∷ []) j 0 ≡ x
at_push xs x j e = get_or_push xs x 0 j (omega arith)

pub falls_more : (above : ℕ → ℕ → Bool) (tasks : List SporadicTask) (bound : ℕ → ℕ) (i : ℕ) (falls : List ℕ)
    (last next : ℕ) → FallsTo above tasks bound i falls last → IsNextFall above tasks bound i last next → last < next
    → FallsTo above tasks bound i (falls ++ next ∷ []) next
falls_more above tasks bound i falls last next f step later = record {
  some_point = omega (arith, length_push falls next);
  from_one = before_push falls next 0 f.some_point ∙ f.from_one;
  rising = λ j m. elim (cases_lt (j + 1) (length falls)) [
    | inl old ↦
        omega (arith, before_push falls next j (omega arith), before_push falls next (j + 1) old, f.rising j old)
    | inr new ↦
        omega (
          arith,
          before_push falls next j (omega (arith, m, length_push falls next)),
          at_push falls next (j + 1) (omega (arith, m, length_push falls next)),
          f.ends,
          ap (λ (k : ℕ). get_or falls k 0)
              (let e : j ≡ length falls - 1 = omega (arith, m, length_push falls next) in e),
        )
  ];
  steps = λ j m. elim (cases_lt (j + 1) (length falls)) [
    | inl old ↦
        subst (λ (x : ℕ). IsNextFall above tasks bound i x (get_or (falls ++ next ∷ []) (j + 1) 0))
        (sym (before_push falls next j (omega arith)))
        (subst (λ (x : ℕ). IsNextFall above tasks bound i (get_or falls j 0) x)
        (sym (before_push falls next (j + 1) old)) (f.steps j old))
    | inr new ↦
        let here : get_or (falls ++ next ∷ []) j 0 ≡ last
        = before_push falls next j (omega (arith, m, length_push falls next))
        ∙ (ap (λ (k : ℕ). get_or falls k 0)
        (let e : j ≡ length falls - 1 = omega (arith, m, length_push falls next) in e) ∙ f.ends) in
        subst (λ (x : ℕ). IsNextFall above tasks bound i x (get_or (falls ++ next ∷ []) (j + 1) 0)) (sym here)
        (subst (λ (x : ℕ). IsNextFall above tasks bound i last x)
        (sym (at_push falls next (j + 1) (omega (arith, m, length_push falls next)))) step)
  ];
  ends = at_push falls next (length (falls ++ next ∷ []) - 1) (omega (arith, length_push falls next));
  some_slots = omega arith;
  within = step.within;
}

pub falls_chain : (above : ℕ → ℕ → Bool) (tasks : List SporadicTask) (bound : ℕ → ℕ) (i : ℕ) (falls : List ℕ)
    → AreFalls above tasks bound i falls → IsChain above tasks bound i falls
falls_chain above tasks bound i falls f = record {
  some_point = f.some_point;
  from_one = f.from_one;
  rising = f.rising;
  steps = λ j l. (f.steps j l).below (get_or falls (j + 1) 0 - 1) (omega (arith, f.rising j l));
  to_deadline = f.to_deadline;
}
