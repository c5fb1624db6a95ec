-- What the jumps of the test pass over: from an amount of work to the least window whose bound is
-- that amount.
use Rattle.std.proofs.Common.{◌≡◌, ℕ, ◌<◌, ◌≤◌, Bool, List, length, Some, arith, inl, inr}
use Rattle.std.proofs.lemmas.Bool.{cases_lt}
use Rattle.slot_model.specs.Supply.{SupplyLaws}
use Rattle.slot_model.specs.Task.{SporadicTask, AreConstrained, room_of, task_at}
use Rattle.slot_model.specs.Bound.{rbf, IsHit, IsShortTask}
use Rattle.slot_model.proofs.Rising.{bound-le as least_rise, comes_to_each}
use Rattle.supply_bound.specs.Reach.{IsReach}
use Rattle.fp_request.proofs.Rises.{rbf-rises}

-- no window has more slots than it is long
pub bound-le : {bound : ℕ → ℕ} {amount cycle : ℕ} {pattern : ℕ → Bool} {start : ℕ} {Conforms : List Bool → Type 0}
    → SupplyLaws bound amount cycle pattern start Conforms → (t : ℕ) → bound t ≤ t
bound-le {bound} laws t = least_rise bound laws.none_at_zero laws.rises_by_one t

-- a bound that rises by at most one a slot skips no number
pub skips_none : {bound : ℕ → ℕ} {amount cycle : ℕ} {pattern : ℕ → Bool} {start : ℕ} {Conforms : List Bool → Type 0}
    → SupplyLaws bound amount cycle pattern start Conforms → (x t : ℕ) → x ≤ bound t → (w : ℕ) × (w ≤ t) × (bound w ≡ x)
skips_none {bound} laws x t l = comes_to_each bound laws.none_at_zero laws.rises_by_one x t l

-- so where no smaller window has the bound x, all smaller windows have less
pub below_reach : {bound : ℕ → ℕ} {amount cycle : ℕ} {pattern : ℕ → Bool} {start : ℕ} {Conforms : List Bool → Type 0}
    → SupplyLaws bound amount cycle pattern start Conforms → (x t : ℕ) → ((u : ℕ) → u < t → bound u ≡ x → ⊥) → (u : ℕ)
    → u < t → bound u < x
below_reach {bound} laws x t first u l = elim (cases_lt (bound u) x) [
  | inl m ↦ m
  | inr m ↦ let r : (w : ℕ) × (w ≤ u) × (bound w ≡ x) = skips_none laws x u m in absurd (first r.0 (omega arith) r.2)
]

-- no window whose bound is below `asked` is a hit
pub record Passed (above : ℕ → ℕ → Bool) (tasks : List SporadicTask) (bound : ℕ → ℕ) (i asked : ℕ) : Type 0 where
  pub some_work : 1 ≤ asked
  pub below : (u : ℕ) → 1 ≤ u → bound u < asked → bound u < rbf above tasks i u

-- what is asked for in one slot is asked for in every window
pub passed_first : (above : ℕ → ℕ → Bool) (tasks : List SporadicTask) → AreConstrained tasks
    → (bound : ℕ → ℕ) (i asked : ℕ) → i < length tasks → asked ≡ rbf above tasks i 1 → Passed above tasks bound i asked
passed_first above tasks fits bound i asked li e = record {
  some_work = omega (arith, (fits i li).works);
  below = λ u lu l. omega (arith, rbf-rises above tasks fits i 1 u lu);
}

-- the least window with the bound `asked` that asks for more passes all windows whose bound is
-- below that
pub passed_more : (above : ℕ → ℕ → Bool) (tasks : List SporadicTask) → AreConstrained tasks
    → {bound : ℕ → ℕ} {amount cycle : ℕ} {pattern : ℕ → Bool} {start : ℕ} {Conforms : List Bool → Type 0}
    → SupplyLaws bound amount cycle pattern start Conforms
    → (i asked t more : ℕ) → Passed above tasks bound i asked → IsReach bound asked (Some t)
    → more ≡ rbf above tasks i t → asked < more → Passed above tasks bound i more
passed_more above tasks fits {bound} laws i asked t more passed reach e l = record {
  some_work = omega arith;
  below = λ u lu lb. elim (cases_lt u t) [
    | inl before ↦ passed.below u lu (below_reach laws asked t reach.1 u before)
    | inr after ↦ omega (arith, rbf-rises above tasks fits i t u after)
  ];
}

-- and where it asks for no more it is the least hit
pub passed_hit : (above : ℕ → ℕ → Bool) (tasks : List SporadicTask)
    → {bound : ℕ → ℕ} {amount cycle : ℕ} {pattern : ℕ → Bool} {start : ℕ} {Conforms : List Bool → Type 0}
    → SupplyLaws bound amount cycle pattern start Conforms
    → (i asked t : ℕ) → Passed above tasks bound i asked → IsReach bound asked (Some t) → t ≤ room_of (task_at tasks i)
    → rbf above tasks i t ≤ asked
    → IsHit above tasks bound i t × ((u : ℕ) → u < t → IsHit above tasks bound i u → ⊥)
passed_hit above tasks {bound} laws i asked t passed reach d l = (
  record {
    some_slots = omega (arith, passed.some_work, reach.0, bound-le laws t);
    in_deadline = d;
    enough = omega (arith, reach.0);
  },
  λ u lu h. omega (arith, h.enough, passed.below u h.some_slots (below_reach laws asked t reach.1 u lu)),
)

-- where the least window with the bound `asked` is past the deadline, or past 2^128, there is no
-- hit
pub passed_late : (above : ℕ → ℕ → Bool) (tasks : List SporadicTask)
    → {bound : ℕ → ℕ} {amount cycle : ℕ} {pattern : ℕ → Bool} {start : ℕ} {Conforms : List Bool → Type 0}
    → SupplyLaws bound amount cycle pattern start Conforms
    → (i asked t : ℕ) → Passed above tasks bound i asked → ((u : ℕ) → u < t → bound u ≡ asked → ⊥)
    → room_of (task_at tasks i) < t → IsShortTask above tasks bound i
passed_late above tasks laws i asked t passed first d u lu lt =
    passed.below u lu (below_reach laws asked t first u (omega arith))

-- where a window asks for more than any number of slots up to the deadline, there is no hit from it
-- on
pub passed_wide : (above : ℕ → ℕ → Bool) (tasks : List SporadicTask) → AreConstrained tasks
    → {bound : ℕ → ℕ} {amount cycle : ℕ} {pattern : ℕ → Bool} {start : ℕ} {Conforms : List Bool → Type 0}
    → SupplyLaws bound amount cycle pattern start Conforms
    → (i t : ℕ) → ((u : ℕ) → 1 ≤ u → u < t → bound u < rbf above tasks i u)
    → room_of (task_at tasks i) < rbf above tasks i t → IsShortTask above tasks bound i
passed_wide above tasks fits {bound} laws i t before wide u lu lt = elim (cases_lt u t) [
  | inl l ↦ before u lu l
  | inr l ↦ omega (arith, bound-le laws u, rbf-rises above tasks fits i t u l)
]

-- the windows before the least one with the bound `asked`
pub before_reach : (above : ℕ → ℕ → Bool) (tasks : List SporadicTask)
    → {bound : ℕ → ℕ} {amount cycle : ℕ} {pattern : ℕ → Bool} {start : ℕ} {Conforms : List Bool → Type 0}
    → SupplyLaws bound amount cycle pattern start Conforms
    → (i asked t : ℕ) → Passed above tasks bound i asked → IsReach bound asked (Some t) → (u : ℕ) → 1 ≤ u → u < t
    → bound u < rbf above tasks i u
before_reach above tasks laws i asked t passed reach u lu l = passed.below u lu (below_reach laws asked t reach.1 u l)
