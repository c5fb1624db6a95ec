-- RTDS gives VCPUs that never block their budgets, whenever each starts.
use Rattle.std.proofs.Common.{ℕ, ◌-◌, ◌<◌, ◌≤◌, true, cond, length, arith, inl, inr}
use Rattle.std.proofs.lemmas.Bool.{cases_Bool, cond-true, cond-false}
use Rattle.slot_model.specs.Slots.{sum_below}
use Rattle.slot_model.proofs.Sums.{sum_below-le}
use Rattle.tree_model.specs.declared.place.Place.TheVariants.{Core}
use Rattle.rtds_model.specs.Demand.{later}
use Rattle.rtds_model.specs.Giving.{AlwaysRunnable, ServersFit, GivesBudgets}
use Rattle.rtds_model.proofs.Demands.{steady_demand, demand_rises}
use Rattle.rtds_model.proofs.Plain.{dbf-parts}
use Rattle.rtds_model.proofs.Setting.{Setting, IsCoreRun, period, budget, here, on, on_is, on_from, runs_from}
use Rattle.rtds_model.proofs.Serving.{serves_by_place}
use Rattle.rtds_model.proofs.Windows.{has_budget_in}

module _ (s : Setting) where
  -- one of the core that starts asks for no more than as a server of the core, also of fewer slots
  asks_no_more : (few t u : ℕ) → few ≤ t → u < length s.sys.parts
      → cond (on s u) (steady_demand (period s u) (budget s u) few) 0
      ≤ cond (here s u) (steady_demand (period s u) (budget s u) t) 0
  asks_no_more few t u within l = elim (cases_Bool (on s u)) [
    | inr e ↦ omega (arith, cond-false {A = ℕ} (on s u) (steady_demand (period s u) (budget s u) few) 0 e)
    | inl e ↦ omega (
      arith,
      cond-true {A = ℕ} (on s u) (steady_demand (period s u) (budget s u) few) 0 e,
      cond-true {A = ℕ} (here s u) (steady_demand (period s u) (budget s u) t) 0 (on_is s u e).on_core,
      demand_rises true (period s u) (budget s u) few t
          (omega (arith, s.plan.some_budget u l, s.plan.in_period u l)) within,
    )
  ]

  -- so no window asks for more than there is
  pub fits_on : ServersFit s.sys s.budgets s.core → (t : ℕ) → 1 ≤ t → (few : ℕ → ℕ) → ((u : ℕ) → few u ≤ t)
      → sum_below (λ u. cond (on s u) (steady_demand (period s u) (budget s u) (few u)) 0) (length s.sys.parts) ≤ t
  fits_on fit t some few within = omega (
    arith,
    fit t some,
    dbf-parts s.sys s.budgets (Core s.core) t (length s.sys.parts)
        (λ u l. omega (arith, s.plan.some_budget u l, s.plan.in_period u l)),
    sum_below-le (λ u. cond (on s u) (steady_demand (period s u) (budget s u) (few u)) 0)
        (λ u. cond (here s u) (steady_demand (period s u) (budget s u) t) 0) (length s.sys.parts)
        (λ u l. asks_no_more (few u) t u (within u) l),
  )

pub gives_budgets : (s : Setting) → IsCoreRun s → AlwaysRunnable s.sys s.rows s.core
    → ServersFit s.sys s.budgets s.core → GivesBudgets s.sys s.budgets s.rows s.slots s.core s.run
gives_budgets s is always fit v k h ln =
    has_budget_in (serves_by_place s is) (λ u. true)
    (λ u x o su l. runs_from s u x (on_is s u o) l (always.awake u x (on_is s u o)))
    v k h.is_part (on_from s v h) ln
    (λ x lo hi. runs_from s v x h (omega arith) (always.awake v x h))
    (λ t l. inl (fits_on s fit t (omega (arith, s.plan.some_budget v h.is_part, s.plan.in_period v h.is_part))
    (λ u. t - later v u) (λ u. omega arith)))
