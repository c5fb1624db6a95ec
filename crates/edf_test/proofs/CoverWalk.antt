-- The points of the walk backwards, from a point on.
use Rattle.std.proofs.Common.{◌≡◌, ℕ, zero, suc, ◌+◌, ◌-◌, ◌<◌, ◌≤◌, List, ◌∷◌, length, get_or, ◌∙◌, ap, arith}
use Rattle.slot_model.specs.Task.{SporadicTask, AreConstrained}
use Rattle.slot_model.specs.Bound.{dbf}
use Rattle.slot_model.proofs.Demand.{dbf_start}
use Rattle.edf_test.specs.inner.Back.{IsGivenBy}

-- a list that begins with the point, and goes on as the walk does
pub record IsWalk (tasks : List SporadicTask) (bound : ℕ → ℕ) (h point : ℕ) (points : List ℕ) : Type 0 where
  pub some : 1 ≤ length points
  pub starts : get_or points 0 0 ≡ point
  pub positive : 1 ≤ point
  pub rising : (j : ℕ) → j + 1 < length points → get_or points j 0 < get_or points (j + 1) 0
  pub steps : (j : ℕ) → j + 1 < length points → dbf tasks (get_or points (j + 1) 0 - 1) ≤ bound (get_or points j 0)
  pub least : (j u : ℕ) → j + 1 < length points → u < get_or points j 0
      → bound u < dbf tasks (get_or points (j + 1) 0 - 1)
  pub ends : get_or points (length points - 1) 0 ≡ h + 1

-- one point before
pub walk_more : (tasks : List SporadicTask) (bound : ℕ → ℕ) (h point given : ℕ) (points : List ℕ)
    → IsWalk tasks bound h point points → IsGivenBy tasks bound (point - 1) given → 1 ≤ given
    → IsWalk tasks bound h given (given ∷ points)
walk_more tasks bound h point given points w step some = record {
  some = omega arith;
  starts = omega arith;
  positive = some;
  rising = rising;
  steps = steps;
  least = least;
  ends = ap (λ (k : ℕ). get_or (given ∷ points) k 0) last ∙ w.ends;
}
  where
    further : (j : ℕ) → get_or (given ∷ points) (suc j + 1) 0 ≡ get_or points (j + 1) 0
    further j = ap (λ (k : ℕ). get_or (given ∷ points) k 0) (let e : suc j + 1 ≡ suc (j + 1) = omega arith in e)

    last : length (given ∷ points) - 1 ≡ suc (length points - 1)
    last = omega (arith, w.some)

    rising : (j : ℕ) → j + 1 < length (given ∷ points) → get_or (given ∷ points) j 0 < get_or (given ∷ points) (j + 1) 0
    rising zero l = omega (arith, w.starts, step.within, w.positive)
    rising (suc j) l = rw (further j) (w.rising j (omega arith))

    steps : (j : ℕ) → j + 1 < length (given ∷ points)
        → dbf tasks (get_or (given ∷ points) (j + 1) 0 - 1) ≤ bound (get_or (given ∷ points) j 0)
    steps zero l = rw w.starts step.enough
    steps (suc j) l = rw (further j) (w.steps j (omega arith))

    least : (j u : ℕ) → j + 1 < length (given ∷ points) → u < get_or (given ∷ points) j 0
        → bound u < dbf tasks (get_or (given ∷ points) (j + 1) 0 - 1)
    least zero u l m = rw w.starts (step.least u m)
    least (suc j) u l m = rw (further j) (w.least j u (omega arith) m)

-- a short window has some slots
pub short_past_none : (tasks : List SporadicTask) → AreConstrained tasks → (bound : ℕ → ℕ) (t : ℕ)
    → bound t < dbf tasks t → 1 ≤ t
short_past_none tasks fits bound zero short = omega (arith, dbf_start tasks fits, short)
short_past_none tasks fits bound (suc t) short = omega arith
