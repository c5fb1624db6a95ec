-- What is asked of the last slots of a period, beside what is counted in a window.
use Rattle.std.proofs.Common.{◌≡◌, ℕ, max, ◌==◌, ◌-◌, ◌≤◌, true, false, refl, sym, ◌∙◌, arith, inl, inr, eq-eqb, eqb-true}
use Rattle.std.proofs.lemmas.Bool.{cases_Bool, cond-true, cond-false}
use Rattle.rtds_model.specs.Demand.{deferrable_demand}
use Rattle.isolation.specs.Demand.{asked_of}
use Rattle.rtds_model.proofs.Demands.{last_demand, own_last, demand_rises}

-- what is asked for v, and for another
pub of_itself : (tie : ℕ → ℕ → ℕ) (v u P B t : ℕ) → (u == v) ≡ true → asked_of tie v u P B t ≡ B
of_itself tie v u P B t e = cond-true {A = ℕ} (u == v) B (deferrable_demand P B (t - tie v u)) e

pub of_another : (tie : ℕ → ℕ → ℕ) (v u P B t : ℕ) → (u == v) ≡ false
    → asked_of tie v u P B t ≡ deferrable_demand P B (t - tie v u)
of_another tie v u P B t e = cond-false {A = ℕ} (u == v) B (deferrable_demand P B (t - tie v u)) e

-- of another as much is counted in a window
same_of_another : (tie : ℕ → ℕ → ℕ) (v u P B t : ℕ) → (u == v) ≡ false
    → asked_of tie v u P B t ≡ last_demand tie v u P B t
same_of_another tie v u P B t e =
    of_another tie v u P B t e
    ∙ sym (cond-false {A = ℕ} (u == v) (max B (deferrable_demand P B (t - tie v u)))
    (deferrable_demand P B (t - tie v u)) e)

-- in windows no longer than v's period that is what is asked of them
pub last-le-asked : (tie : ℕ → ℕ → ℕ) (v u P B t : ℕ) → 1 ≤ P → (u ≡ v → t ≤ P)
    → last_demand tie v u P B t ≤ asked_of tie v u P B t
last-le-asked tie v u P B t p l = elim (cases_Bool (u == v)) [
  | inl e ↦ omega (arith, own_last tie v u P B t p (l (eqb-true u v e)), of_itself tie v u P B t e)
  | inr e ↦ omega (arith, same_of_another tie v u P B t e)
]

pub asked-le-last : (tie : ℕ → ℕ → ℕ) (v u P B t : ℕ) → asked_of tie v u P B t ≤ last_demand tie v u P B t
asked-le-last tie v u P B t = elim (cases_Bool (u == v)) [
  | inl e ↦
      omega (
        arith,
        cond-true {A = ℕ} (u == v) (max B (deferrable_demand P B (t - tie v u)))
            (deferrable_demand P B (t - tie v u)) e,
        of_itself tie v u P B t e,
      )
  | inr e ↦ omega (arith, same_of_another tie v u P B t e)
]

-- more slots ask for no less
pub asked-rises : (tie : ℕ → ℕ → ℕ) (v u P B s t : ℕ) → 1 ≤ P → s ≤ t → asked_of tie v u P B s ≤ asked_of tie v u P B t
asked-rises tie v u P B s t p l = elim (cases_Bool (u == v)) [
  | inl e ↦ omega (arith, of_itself tie v u P B s e, of_itself tie v u P B t e)
  | inr e ↦
      omega (
        arith,
        of_another tie v u P B s e,
        of_another tie v u P B t e,
        demand_rises false P B (s - tie v u) (t - tie v u) p (omega arith),
      )
]

-- v itself asks for its budget
pub asked-own : (tie : ℕ → ℕ → ℕ) (v P B t : ℕ) → asked_of tie v v P B t ≡ B
asked-own tie v P B t = of_itself tie v v P B t (eq-eqb v v refl)
