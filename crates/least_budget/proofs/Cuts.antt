-- The search for the least budget under earliest deadline first: a short window cuts off all
-- budgets that are short there.
use Rattle.std.proofs.Common.{◌≡◌, ℕ, ◌+◌, ◌-◌, ◌<◌, ◌≤◌, Bool, List, subst, arith, inl, inr}
use Rattle.std.proofs.lemmas.Bool.{cases_lt}
use Rattle.slot_model.specs.declared.sched.Sched.TheVariants.{Edf}
use Rattle.slot_model.specs.Task.{SporadicTask, AreConstrained}
use Rattle.slot_model.specs.Supply.{BudgetLaws}
use Rattle.slot_model.specs.Bound.{dbf, DemandFits, IsHorizon}
use Rattle.edf_demand.proofs.Horizons.{horizon_is_enough, rises_of_laws}
use Rattle.edf_test.specs.Back.{FitsPast, IsLastShort}
use Rattle.least_budget.specs.inner.Cuts.{IsLeastAt}
use Rattle.least_budget.proofs.Between.{Grows, IsBetween}

-- nothing below `low` passes, `high` passes, and with `low` no window past `last` and up to h is
-- short
pub record IsCutTo (tasks : List SporadicTask) (bound : ℕ → ℕ → ℕ) (most h low high last : ℕ) : Type 0 where
  pub between : IsBetween Edf tasks bound most low high
  pub fits : FitsPast tasks (bound low) last h

-- more budget leaves no window short that was not
pub fits_more : (tasks : List SporadicTask) (bound : ℕ → ℕ → ℕ) (most budget more low high : ℕ) → Grows bound most
    → budget ≤ more → more ≤ most → FitsPast tasks (bound budget) low high → FitsPast tasks (bound more) low high
fits_more tasks bound most budget more low high grows m n fits t past within =
    omega (arith, fits t past within, grows budget more t m n)

-- a window that is short with a budget keeps it and every smaller one from passing
pub short_keeps : (tasks : List SporadicTask) (bound : ℕ → ℕ → ℕ) (most budget less t : ℕ) → Grows bound most
    → less ≤ budget → budget ≤ most → 1 ≤ t → bound budget t < dbf tasks t → DemandFits tasks (bound less) → ⊥
short_keeps tasks bound most budget less t grows l m some short fits =
    omega (arith, fits t some, grows less budget t l m, short)

-- the windows up to the horizon are those up to `last` and those past it
pub cut_passes : (tasks : List SporadicTask) → AreConstrained tasks
    → {most cycle : ℕ} {bound : ℕ → ℕ → ℕ} {pattern : ℕ → ℕ → Bool} {start : ℕ → ℕ} {Conforms : ℕ → List Bool → Type 0}
    → BudgetLaws most cycle bound pattern start Conforms
    → (h low high last budget : ℕ) → IsHorizon tasks cycle h → low ≤ budget → budget ≤ most
    → FitsPast tasks (bound low) last h → FitsPast tasks (bound budget) 0 last → DemandFits tasks (bound budget)
cut_passes tasks fits {most} {cycle} {bound} laws h low high last budget horizon l m past up_to =
    horizon_is_enough tasks fits (bound budget) budget cycle h (laws.each budget m).some_cycle
    (rises_of_laws _ _ _ _ _ _ (laws.each budget m)) horizon
    (λ t some within. elim (cases_lt last t) [
      | inl later ↦ fits_more tasks bound most low budget last h laws.more l m past t later within
      | inr near ↦ up_to t some near
    ])

-- a budget that passes is the new high one
pub cut_high : (tasks : List SporadicTask) → AreConstrained tasks
    → {most cycle : ℕ} {bound : ℕ → ℕ → ℕ} {pattern : ℕ → ℕ → Bool} {start : ℕ → ℕ} {Conforms : ℕ → List Bool → Type 0}
    → BudgetLaws most cycle bound pattern start Conforms
    → (h low high last budget : ℕ) → IsHorizon tasks cycle h → low ≤ budget → budget < high
    → FitsPast tasks (bound budget) 0 last → IsCutTo tasks bound most h low high last
    → IsCutTo tasks bound most h low budget last
cut_high tasks fits {most} {cycle} {bound} laws h low high last budget horizon l m up_to cut =
    let in_range : budget ≤ most = omega (arith, m, cut.between.in_range) in
    record {
      between = record {
        in_order = l;
        in_range = in_range;
        passes = cut_passes tasks fits laws h low high last budget horizon l in_range cut.fits up_to;
        below = cut.between.below;
      };
      fits = cut.fits;
    }

-- one that fails has a short window, and the new low one is the least that is enough there
pub cut_low : (tasks : List SporadicTask) (bound : ℕ → ℕ → ℕ) (most h low high last budget t more : ℕ)
    → Grows bound most → low ≤ budget → budget < high → IsLastShort tasks (bound budget) 0 last t
    → IsLeastAt bound t (dbf tasks t) (budget + 1) high more → IsCutTo tasks bound most h low high last
    → IsCutTo tasks bound most h more high (t - 1)
cut_low tasks bound most h low high last budget t more grows l m short least cut =
    record {
      between = record {
        in_order = least.in_range;
        in_range = cut.between.in_range;
        passes = cut.between.passes;
        below = λ b lb passes. elim (cases_lt budget b) [
          | inl above ↦ omega (arith, passes t short.past, least.least b (omega arith) lb)
          | inr up_to ↦
              short_keeps tasks bound most budget b t grows up_to (omega (arith, m, cut.between.in_range)) short.past
              short.short passes
        ];
      };
      fits = λ u past within. elim (cases_lt t u) [
        | inl later ↦ elim (cases_lt last u) [
          | inl settled ↦
              fits_more tasks bound most low more last h grows (omega (arith, l, least.not_below))
              (omega (arith, least.in_range, cut.between.in_range)) cut.fits u settled within
          | inr near ↦
              fits_more tasks bound most budget more t last grows (omega (arith, least.not_below))
              (omega (arith, least.in_range, cut.between.in_range)) short.after u later near
        ]
        | inr up_to ↦ at_t u past up_to
      ];
    }
  where
    at_t : (u : ℕ) → t - 1 < u → u ≤ t → dbf tasks u ≤ bound more u
    at_t u past up_to = subst (λ (z : ℕ). dbf tasks z ≤ bound more z) (let e : t ≡ u = omega arith in e)
        least.enough
