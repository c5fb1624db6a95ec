-- Smaller budgets ask for less.
use Rattle.std.proofs.Common.{ℕ, ◌==◌, ◌-◌, ◌/◌, ◌≤◌, cond, List, length, arith, inl, inr}
use Rattle.std.proofs.Math.Nat.{mul-le-mul_left}
use Rattle.std.proofs.lemmas.Bool.{cases_Bool}
use Rattle.slot_model.proofs.Sums.{cond_rises, sum_below-le}
use Rattle.tree_model.specs.declared.place.Place.TheVariants.{Core}
use Rattle.tree_model.specs.View.{SystemView}
use Rattle.tree_model.specs.System.{part_at}
use Rattle.tree_model.specs.Tree.{is_child, budget_at}
use Rattle.rtds_model.specs.Demand.{deferrable_demand, later}
use Rattle.isolation.specs.Demand.{asked_of, no_tie, IsIsolatedBy}
use Rattle.isolation.proofs.Asked.{of_itself, of_another}
use Rattle.isolation.specs.Short.{AreNoGreater, FewerIsolate}

deferrable-fewer : (P B M t : ℕ) → B ≤ M → deferrable_demand P B t ≤ deferrable_demand P M t
deferrable-fewer P B M t l = omega (arith, l, mul-le-mul_left (t / P) l)

asked-fewer : (tie : ℕ → ℕ → ℕ) (v u P B M t : ℕ) → B ≤ M → asked_of tie v u P B t ≤ asked_of tie v u P M t
asked-fewer tie v u P B M t l = elim (cases_Bool (u == v)) [
  | inl e ↦ omega (arith, l, of_itself tie v u P B t e, of_itself tie v u P M t e)
  | inr e ↦
      omega (
        arith,
        deferrable-fewer P B M (t - tie v u) l,
        of_another tie v u P B t e,
        of_another tie v u P M t e,
      )
]

module _ (tie : ℕ → ℕ → ℕ) (sys : SystemView) (budgets more : List ℕ) (c v t : ℕ)
    (less : AreNoGreater sys budgets more) where
  abbrev term : List ℕ → ℕ → ℕ
  term of u = cond (is_child sys (Core c) u) (asked_of tie v u (part_at sys u).period (budget_at of u) t) 0

  fewer : IsIsolatedBy tie sys more c v t → IsIsolatedBy tie sys budgets c v t
  fewer by = record {
    in_period = by.in_period;
    enough =
        omega (
          arith,
          by.enough,
          sum_below-le (term budgets) (term more) (length sys.parts) (λ u l. cond_rises (is_child sys (Core c) u) _ _
              (asked-fewer tie v u (part_at sys u).period (budget_at budgets u) (budget_at more u) t (less u l))),
        );
  }

pub fewer_isolate : FewerIsolate
fewer_isolate sys budgets more c v t less =
    (fewer no_tie sys budgets more c v t less, fewer later sys budgets more c v t less)
