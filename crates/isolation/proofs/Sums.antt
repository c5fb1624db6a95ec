-- The budgets and the shortest period of each core that has a part on it.
use Rattle.std.proofs.Common.{◌≡◌, ℕ, suc, min, ◌+◌, ◌<◌, ◌≤◌, true, false, cond, nat_lt, List, length, refl, sym, ◌∙◌, ap, arith, subst, inl, inr, lt-ltb}
use Rattle.std.proofs.lemmas.Bool.{cases_lt, cases_order, cond-true, both_ways}
use Rattle.slot_model.specs.Slots.{sum_below, count_below}
use Rattle.slot_model.proofs.Sums.{get-le-sum_below, sum_below-zero}
use Rattle.tree_model.specs.declared.place.Place.TheVariants.{Core}
use Rattle.tree_model.specs.View.{SystemView}
use Rattle.tree_model.specs.System.{part_at}
use Rattle.tree_model.specs.Tree.{is_child, budget_at}
use Rattle.isolation.specs.declared.budgets.CoreBudgets.{CoreBudgets}
use Rattle.isolation.specs.Short.{budgets_on, FitsShortest}
use Rattle.isolation.specs.Budgets.{has_part, used_cores, IsShortest, IsCoreBudgets, AreCoreBudgets}
use Rattle.isolation.specs.inner.Neighbours.{IsNextOn}
use Rattle.isolation.proofs.Listed.{one_each}
use Rattle.isolation.proofs.Neighbouring.{sum_next, sum_with}

-- a core has a part on it where the first of its parts is one of the parts, and else none
pub has_one : (sys : SystemView) (c first : ℕ) → IsNextOn sys c 0 first → first < length sys.parts
    → has_part sys c ≡ true
has_one sys c first h l =
    lt-ltb 0 (count_below (is_child sys (Core c)) (length sys.parts))
    (omega (
      arith,
      cond-true {A = ℕ} (is_child sys (Core c) first) 1 0 (h.here l),
      get-le-sum_below (λ u. cond (is_child sys (Core c) u) 1 0) first (length sys.parts) l,
    ))

pub has_none : (sys : SystemView) (c first : ℕ) → IsNextOn sys c 0 first → length sys.parts ≤ first
    → has_part sys c ≡ false
has_none sys c first h l =
    let all : first ≡ length sys.parts = omega (arith, l, h.within) in
    let none : count_below (is_child sys (Core c)) (length sys.parts) ≡ 0
    = omega (
      arith,
      ap (count_below (is_child sys (Core c))) all,
      sum_next sys (λ u. 1) c 0 first h,
      sum_below-zero (λ u. cond (is_child sys (Core c) u) 1 0),
    ) in
    ap (λ (z : ℕ). nat_lt 0 z) none

-- of the parts of core c below u, the sum of the budgets and the shortest period
pub record IsSummed (sys : SystemView) (budgets : List ℕ) (c sum shortest u : ℕ) : Type 0 where
  pub sum_is : sum ≡ sum_below (λ w. cond (is_child sys (Core c) w) (budget_at budgets w) 0) u
  pub part : ℕ
  pub is_part : part < length sys.parts
  pub on_core : is_child sys (Core c) part ≡ true
  pub has_it : (part_at sys part).period ≡ shortest
  pub least : (v : ℕ) → v < u → is_child sys (Core c) v ≡ true → shortest ≤ (part_at sys v).period

module _ (sys : SystemView) (budgets : List ℕ) (c : ℕ) where
  pub none_summed : (first shortest : ℕ) → IsNextOn sys c 0 first → first < length sys.parts
      → shortest ≡ (part_at sys first).period → IsSummed sys budgets c 0 shortest first
  none_summed first shortest h l e = record {
    sum_is = omega (
      arith,
      sum_next sys (budget_at budgets) c 0 first h,
      sum_below-zero (λ w. cond (is_child sys (Core c) w) (budget_at budgets w) 0),
    );
    part = first;
    is_part = l;
    on_core = h.here l;
    has_it = sym e;
    least = λ v k on. absurd (both_ways (is_child sys (Core c) v) (h.none v (omega arith) k) on);
  }

  -- and with part u, up to the next one
  module _ (sum shortest u next : ℕ) (l : u < length sys.parts) (on : is_child sys (Core c) u ≡ true)
      (h : IsNextOn sys c (suc u) next) (so : IsSummed sys budgets c sum shortest u) (sum' shortest' : ℕ)
      (more : sum' ≡ sum + budget_at budgets u) (less : shortest' ≡ min shortest (part_at sys u).period) where
    least_more : (v : ℕ) → v < next → is_child sys (Core c) v ≡ true → shortest' ≤ (part_at sys v).period
    least_more v k its = elim (cases_order v u) [
      | inl e ↦ omega (arith, less, ap (λ (w : ℕ). (part_at sys w).period) e)
      | inr o ↦ elim o [
        | inl before ↦ omega (arith, less, so.least v before its)
        | inr behind ↦ absurd (both_ways (is_child sys (Core c) v) (h.none v (omega (arith, behind)) k) its)
      ]
    ]

    with_part : (p : ℕ) → p < length sys.parts → is_child sys (Core c) p ≡ true
        → (part_at sys p).period ≡ shortest' → IsSummed sys budgets c sum' shortest' next
    with_part p k its e = record {
      sum_is = omega (arith, more, so.sum_is, sum_with sys (budget_at budgets) c u next on h);
      part = p;
      is_part = k;
      on_core = its;
      has_it = e;
      least = least_more;
    }

    pub one_more : IsSummed sys budgets c sum' shortest' next
    one_more = elim (cases_lt (part_at sys u).period shortest) [
      | inl shorter ↦ with_part u l on (omega (arith, less, shorter))
      | inr longer ↦ with_part so.part so.is_part so.on_core (omega (arith, less, longer, so.has_it))
    ]

  pub all_summed : (sum shortest u : ℕ) → u ≡ length sys.parts → IsSummed sys budgets c sum shortest u
      → IsCoreBudgets sys budgets (record { core = c; budgets = sum; shortest = shortest })
  all_summed sum shortest u e so = record {
    sum_is =
        so.sum_is ∙ ap (sum_below (λ w. cond (is_child sys (Core c) w) (budget_at budgets w) 0)) e;
    shortest_is = record {
      part = so.part;
      is_part = so.is_part;
      on_core = so.on_core;
      has_it = so.has_it;
      least = λ v l on. so.least v (omega (arith, l, e)) on;
    };
  }

-- the sum fits in the shortest period exactly where it fits in each
pub fits_shortest : (sys : SystemView) (budgets : List ℕ) (row : CoreBudgets) → IsCoreBudgets sys budgets row
    → (row.budgets ≤ row.shortest → FitsShortest sys budgets row.core)
    × (FitsShortest sys budgets row.core → row.budgets ≤ row.shortest)
fits_shortest sys budgets row is = (
  (λ fits v l on. omega (arith, fits, is.sum_is, is.shortest_is.least v l on)),
  (λ fits. omega (
    arith,
    is.sum_is,
    is.shortest_is.has_it,
    fits is.shortest_is.part is.shortest_is.is_part is.shortest_is.on_core,
  )),
)

-- a core has one sum and one shortest period, and a system one list of them
one_shortest : (sys : SystemView) (c s t : ℕ) → IsShortest sys c s → IsShortest sys c t → s ≡ t
one_shortest sys c s t p q =
    omega (
      arith,
      p.has_it,
      q.has_it,
      p.least q.part q.is_part q.on_core,
      q.least p.part p.is_part p.on_core,
    )

row_of : ℕ → ℕ → ℕ → CoreBudgets
row_of c sum shortest = record { core = c; budgets = sum; shortest = shortest }

same_row : (c d a b s t : ℕ) → c ≡ d → a ≡ b → s ≡ t → row_of c a s ≡ row_of d b t
unfolding row_of
same_row c d a b s t core sum shortest = rw (core, sum, shortest) refl

one_row : (sys : SystemView) (budgets : List ℕ) (a b : CoreBudgets) → a.core ≡ b.core
    → IsCoreBudgets sys budgets a → IsCoreBudgets sys budgets b → a ≡ b
unfolding row_of
one_row sys budgets a b core p q =
    same_row a.core b.core a.budgets b.budgets a.shortest b.shortest core
    (p.sum_is ∙ (ap (budgets_on sys budgets) core ∙ sym q.sum_is))
    (one_shortest sys b.core a.shortest b.shortest
    (subst (λ (c : ℕ). IsShortest sys c a.shortest) core p.shortest_is) q.shortest_is)

pub one_list_of_budgets : (sys : SystemView) (budgets : List ℕ) (a b : List CoreBudgets)
    → AreCoreBudgets sys budgets a → AreCoreBudgets sys budgets b → a ≡ b
one_list_of_budgets sys budgets =
    one_each (λ (row : CoreBudgets). row.core) (IsCoreBudgets sys budgets) (used_cores sys) (one_row sys budgets)
