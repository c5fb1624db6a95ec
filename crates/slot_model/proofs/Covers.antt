-- A cover shows that no window is short.
use Rattle.std.proofs.Common.{ℕ, suc, ◌+◌, ◌-◌, ◌≤◌, List, length, get_or, arith, inl, inr}
use Rattle.std.proofs.lemmas.Bool.{cases_lt}
use Rattle.slot_model.specs.Task.{SporadicTask, AreConstrained}
use Rattle.slot_model.specs.Points.{CoversShow}
use Rattle.slot_model.proofs.Points.{Between, between}
use Rattle.slot_model.proofs.Rising.{never_falls_far}
use Rattle.slot_model.proofs.Demand.{dbf-rises}

-- below the first point nothing is asked for; past it a window lies between two points
pub covers_show : (tasks : List SporadicTask) → AreConstrained tasks → (bound : ℕ → ℕ)
    → ((t : ℕ) → bound t ≤ bound (suc t)) → (h : ℕ) → CoversShow tasks bound h
covers_show tasks fits bound rises h points cover t l m = elim (cases_lt t (get_or points 0 0)) [
  | inl a ↦ omega (arith, cover.none_before, dbf-rises tasks fits t (get_or points 0 0 - 1) (omega arith))
  | inr a ↦
      let r : (j : ℕ) × Between points t j
      = between points t (length points - 1) (omega (arith, cover.some_point)) a (omega (arith, cover.past)) in
      let here : Between points t r.0 = r.1 in
      omega (
        arith,
        cover.steps r.0 here.in_list,
        dbf-rises tasks fits t (get_or points (r.0 + 1) 0 - 1) (omega (arith, here.below)),
        never_falls_far bound rises (get_or points r.0 0) t here.from,
      )
]
