-- What is enough for all at the end of a period gives its VCPU its budget, in the order of the file
-- and where ties are left open.
use Rattle.std.proofs.Common.{◌≡◌, ℕ, ◌<◌, ◌≤◌, Bool, true, cond, List, length, refl, sym, arith, subst, inl, inr}
use Rattle.std.proofs.lemmas.Bool.{cases_Bool, cond-true, cond-false}
use Rattle.std.proofs.lemmas.Bool.Decides.{nat_tests}
use Rattle.slot_model.proofs.Sums.{sum_below-le}
use Rattle.tree_model.specs.View.{SystemView}
use Rattle.tree_model.specs.Plans.{IsPlan}
use Rattle.rtds_model.specs.Demand.{later}
use Rattle.isolation.specs.Demand.{asked_of, no_tie, IsIsolatedBy}
use Rattle.isolation.specs.Open.{goes_sooner, OpenRun}
use Rattle.isolation.specs.Keeping.{IsAwakeLast, got_in, KeepsBudget, KeepsOpenly}
use Rattle.rtds_model.proofs.Demands.{last_demand}
use Rattle.isolation.proofs.Asked.{last-le-asked}
use Rattle.rtds_model.proofs.Windows.{has_budget_late}
use Rattle.rtds_model.proofs.Goes.{Goes, place_goes}
use Rattle.rtds_model.proofs.Setting.{Setting, setting, period, budget, here, on, on_is, on_from, runs_from}
use Rattle.rtds_model.proofs.Serving.{RunBy, by_place, serves}

-- where ties are left open
sooner_by_level : (l d p l' d' p' : ℕ) → l < l' → goes_sooner l d p l' d' p' ≡ true
sooner_by_level l d p l' d' p' h = grind (arith, nat_tests)

sooner_by_end : (l d p l' d' p' : ℕ) → l ≡ l' → d < d' → goes_sooner l d p l' d' p' ≡ true
sooner_by_end l d p l' d' p' e h = grind (arith, nat_tests)

pub open_goes : Goes goes_sooner no_tie
open_goes =
    record {
      by_level = sooner_by_level;
      by_end = λ l d p l' d' p' e h. sooner_by_end l d p l' d' p' e (omega arith);
      tie_few = λ v u. omega arith;
      tie_itself = λ v. refl;
      tie_in_turn = λ v w h. omega arith;
    }

pub by_open : (s : Setting) → OpenRun s.sys s.budgets s.rows s.slots s.core s.run → RunBy goes_sooner s
by_open s is =
    record {
      idle = λ x l e. (is.each x l).idle e;
      named = λ x v l e. (is.each x l).named v e;
      first = λ x u v l e h. (is.each x l).first u v e h;
    }

module _ (s : Setting) {sooner : ℕ → ℕ → ℕ → ℕ → ℕ → ℕ → Bool} {tie : ℕ → ℕ → ℕ} (goes : Goes sooner tie)
    (is : RunBy sooner s) where
  -- what those that are on ask for is no more than what all of the core do
  no_more : (v t u : ℕ) → t ≤ period s v → u < length s.sys.parts
      → cond (on s u) (last_demand tie v u (period s u) (budget s u) t) 0
      ≤ cond (here s u) (asked_of tie v u (period s u) (budget s u) t) 0
  no_more v t u within l = elim (cases_Bool (on s u)) [
    | inr e ↦ omega (arith, cond-false {A = ℕ} (on s u) (last_demand tie v u (period s u) (budget s u) t) 0 e)
    | inl e ↦ omega (
      arith,
      cond-true {A = ℕ} (on s u) (last_demand tie v u (period s u) (budget s u) t) 0 e,
      cond-true {A = ℕ} (here s u) (asked_of tie v u (period s u) (budget s u) t) 0 (on_is s u e).on_core,
      last-le-asked tie v u (period s u) (budget s u) t (omega (arith, s.plan.some_budget u l, s.plan.in_period u l))
          (λ same. subst (λ (w : ℕ). t ≤ period s w) (sym same) within),
    )
  ]

  isolated : (v t k : ℕ) → IsIsolatedBy tie s.sys s.budgets s.core v t
      → IsAwakeLast s.sys s.rows s.slots s.core v k t → budget s v ≤ got_in s.sys s.rows s.run v k
  isolated v t k by h =
      has_budget_late (serves s goes is) v k t h.starts.is_part (on_from s v h.starts) h.in_run by.in_period
      (λ x lo hi. runs_from s v x h.starts (omega (arith, by.in_period)) (h.awake x lo hi))
      (omega (
        arith,
        by.enough,
        sum_below-le (λ u. cond (on s u) (last_demand tie v u (period s u) (budget s u) t) 0)
            (λ u. cond (here s u) (asked_of tie v u (period s u) (budget s u) t) 0) (length s.sys.parts)
            (λ u l. no_more v t u by.in_period l),
      ))

-- in the order of the file
pub keeps : (sys : SystemView) (budgets : List ℕ) → IsPlan sys budgets → (c v t : ℕ)
    → IsIsolatedBy later sys budgets c v t → KeepsBudget sys budgets c v t
keeps sys budgets plan c v t by rows n run k is_workload is awake =
    let s : Setting = setting sys budgets plan rows is_workload n c run in
    isolated s place_goes (by_place s is) v t k by awake

-- and however ties are broken
pub keeps_openly : (sys : SystemView) (budgets : List ℕ) → IsPlan sys budgets → (c v t : ℕ)
    → IsIsolatedBy no_tie sys budgets c v t → KeepsOpenly sys budgets c v t
keeps_openly sys budgets plan c v t by rows n run k is_workload is awake =
    let s : Setting = setting sys budgets plan rows is_workload n c run in
    isolated s open_goes (by_open s is) v t k by awake
