-- The least number of slots that is enough, and sums of what is asked.
use Rattle.std.proofs.Common.{◌≡◌, ℕ, suc, ◌+◌, ◌-◌, ◌<◌, ◌≤◌, ◌==◌, true, false, cond, List, length, arith, inl, inr}
use Rattle.std.proofs.lemmas.Bool.{cases_Bool, cond-true, cond-false}
use Rattle.slot_model.specs.Slots.{sum_below}
use Rattle.slot_model.proofs.Sums.{cond_rises, sum_below-zero, sum_below-le, get-le-sum_below}
use Rattle.tree_model.specs.declared.place.Place.TheVariants.{Core}
use Rattle.tree_model.specs.View.{SystemView}
use Rattle.tree_model.specs.System.{part_at}
use Rattle.tree_model.specs.Tree.{is_child, budget_at}
use Rattle.tree_model.specs.Plans.{IsPlan}
use Rattle.rtds_model.specs.Demand.{deferrable_demand, later}
use Rattle.isolation.specs.Demand.{no_tie, asked_of, asked, IsIsolatedBy}
use Rattle.rtds_model.proofs.Demands.{demand_rises}
use Rattle.isolation.specs.inner.Neighbours.{IsNextOn}
use Rattle.isolation.proofs.Asked.{asked-own}
use Rattle.isolation.proofs.Neighbouring.{sum_next, sum_with}

module _ (tie : ℕ → ℕ → ℕ) (sys : SystemView) (budgets : List ℕ) (c v : ℕ) where
  -- what part u asks for, if it stands on the core
  abbrev pub part_asks : ℕ → ℕ → ℕ
  part_asks t u = cond (is_child sys (Core c) u) (asked_of tie v u (part_at sys u).period (budget_at budgets u) t) 0

  -- and the first so many
  abbrev pub asked_by : ℕ → ℕ → ℕ
  asked_by t u = sum_below (part_asks t) u

  pub asked_none : (t : ℕ) → asked_by t 0 ≡ 0
  asked_none t = sum_below-zero (part_asks t)

  -- those ahead of the next one of the core
  pub asked_next : (t from next : ℕ) → IsNextOn sys c from next → asked_by t next ≡ asked_by t from
  asked_next t from next h =
      sum_next sys (λ u. asked_of tie v u (part_at sys u).period (budget_at budgets u) t) c from next h

  -- and with one of the core ahead of the next
  pub asked_with : (t u next : ℕ) → is_child sys (Core c) u ≡ true → IsNextOn sys c (suc u) next
      → asked_by t next ≡ asked_by t u + asked_of tie v u (part_at sys u).period (budget_at budgets u) t
  asked_with t u next on h =
      sum_with sys (λ w. asked_of tie v w (part_at sys w).period (budget_at budgets w) t) c u next on h

  -- all numbers below t are too few
  abbrev pub TooFewBelow : ℕ → Type 0
  TooFewBelow t = (s : ℕ) → s < t → s < asked tie sys budgets c v s

  pub few_first : v < length sys.parts → is_child sys (Core c) v ≡ true → TooFewBelow (budget_at budgets v)
  few_first l child s k = omega (
    arith,
    cond-true {A = ℕ} (is_child sys (Core c) v) (asked_of tie v v (part_at sys v).period (budget_at budgets v) s) 0
        child,
    asked-own tie v (part_at sys v).period (budget_at budgets v) s,
    get-le-sum_below (part_asks s) v (length sys.parts) l,
  )

-- what is enough where ties are left open is enough in the order of the file
pub in_file_order : (sys : SystemView) (budgets : List ℕ) → IsPlan sys budgets → (c v t : ℕ)
    → IsIsolatedBy no_tie sys budgets c v t → IsIsolatedBy later sys budgets c v t
in_file_order sys budgets plan c v t h = record {
  in_period = h.in_period;
  enough = omega (
    arith,
    h.enough,
    sum_below-le (part_asks later sys budgets c v t) (part_asks no_tie sys budgets c v t) (length sys.parts)
        (λ u k. cond_rises (is_child sys (Core c) u) (asked_of later v u (part_at sys u).period (budget_at budgets u) t)
        (asked_of no_tie v u (part_at sys u).period (budget_at budgets u) t)
        (fewer u (part_at sys u).period (budget_at budgets u)
        (omega (arith, plan.some_budget u k, plan.in_period u k)))),
  );
}
  where
    fewer : (u P B : ℕ) → 1 ≤ P → asked_of later v u P B t ≤ asked_of no_tie v u P B t
    fewer u P B p = elim (cases_Bool (u == v)) [
      | inl e ↦
          omega (
            arith,
            cond-true {A = ℕ} (u == v) B (deferrable_demand P B (t - later v u)) e,
            cond-true {A = ℕ} (u == v) B (deferrable_demand P B (t - no_tie v u)) e,
          )
      | inr e ↦
          omega (
            arith,
            cond-false {A = ℕ} (u == v) B (deferrable_demand P B (t - later v u)) e,
            cond-false {A = ℕ} (u == v) B (deferrable_demand P B (t - no_tie v u)) e,
            demand_rises false P B (t - later v u) (t - no_tie v u) p (omega arith),
          )
    ]
