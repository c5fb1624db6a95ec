-- How far what is asked rises with each slot more: up to the whole budgets of the periods that have
-- begun.
use Rattle.std.proofs.Common.{◌≡◌, ℕ, zero, suc, ◌⊎◌, ◌+◌, ◌*◌, ◌-◌, ◌/◌, ◌%◌, ◌<◌, ◌≤◌, ◌==◌, nat_lt, Bool, true, false, cond, List, length, arith, ap, inl, inr}
use Rattle.std.proofs.Math.Nat.{mul-le-mul_right}
use Rattle.std.proofs.lemmas.Nat.{le-div}
use Rattle.std.proofs.lemmas.Bool.{cases_lt, cases_Bool, cond-true, cond-false}
use Rattle.slot_model.specs.Slots.{sum_below}
use Rattle.slot_model.proofs.Sums.{sum_below-zero, sum_below-suc, sum_below-le, cond_rises, cond_at_most_one}
use Rattle.tree_model.specs.declared.place.Place.TheVariants.{Core}
use Rattle.tree_model.specs.View.{SystemView}
use Rattle.tree_model.specs.System.{part_at}
use Rattle.tree_model.specs.Tree.{is_child, budget_at}
use Rattle.tree_model.specs.Plans.{IsPlan}
use Rattle.rtds_model.specs.Demand.{deferrable_demand}
use Rattle.rtds_model.proofs.Demands.{quotient_is}
use Rattle.isolation.specs.Demand.{asked_of, asked}
use Rattle.isolation.specs.inner.Neighbours.{IsNextOn}
use Rattle.isolation.specs.declared.ties.Ties.{Ties}
use Rattle.isolation.specs.declared.ties.Ties.TheVariants.{Open, InFileOrder}
use Rattle.isolation.specs.inner.Ties.{tie_of}
use Rattle.isolation.specs.inner.Whole.{whole_asked_of, whole_asked}
use Rattle.isolation.proofs.Asked.{asked-rises, of_itself, of_another}
use Rattle.isolation.proofs.Least.{part_asks, TooFewBelow}
use Rattle.isolation.proofs.Neighbouring.{sum_next, sum_with}

-- where each term takes d more or comes to what it is in another sum, so does the sum
sums_or : (f g h : ℕ → ℕ) (d n : ℕ) → ((x : ℕ) → x < n → f x ≤ h x)
    → ((x : ℕ) → x < n → (f x + d ≤ h x) ⊎ (g x ≤ h x))
    → (sum_below f n + d ≤ sum_below h n) ⊎ (sum_below g n ≤ sum_below h n)
sums_or f g h d zero le each = inr (omega (arith, sum_below-zero g))
sums_or f g h d (suc n) le each =
    elim (sums_or f g h d n (λ x l. le x (omega arith)) (λ x l. each x (omega arith))) [
      | inl a ↦ inl (omega (arith, a, sum_below-suc f n, sum_below-suc h n, le n (omega arith)))
      | inr b ↦ elim (each n (omega arith)) [
        | inl a ↦
            inl (omega (
              arith,
              a,
              sum_below-suc f n,
              sum_below-suc h n,
              sum_below-le f h n (λ x l. le x (omega arith)),
            ))
        | inr e ↦ inr (omega (arith, b, e, sum_below-suc g n, sum_below-suc h n))
      ]
    ]

-- a server takes each slot more, or has had its budget of the period in which they begin
taken_or : (P B t d : ℕ) → 1 ≤ P
    → (deferrable_demand P B t + d ≤ deferrable_demand P B (t + d))
    ⊎ (suc (t / P) * B ≤ deferrable_demand P B (t + d))
taken_or P B t d p =
    let q : ℕ = t / P in
    let s : ℕ = t % P in
    elim (cases_lt (s + d) P) [
      | inl m ↦
          let e : (t + d) / P ≡ q = quotient_is q P (s + d) (t + d) m (omega arith) in
          elim (cases_lt B (s + d)) [
            | inl k ↦ inr (omega (arith, ap (λ (z : ℕ). z * P) e, ap (λ (z : ℕ). z * B) e))
            | inr k ↦ inl (omega (arith, ap (λ (z : ℕ). z * P) e, ap (λ (z : ℕ). z * B) e))
          ]
      | inr m ↦
          let more : suc q ≤ (t + d) / P = le-div (suc q) (t + d) P p (omega arith) in
          inr (omega (arith, mul-le-mul_right B more))
    ]

-- no more is asked than the whole budgets
in_whole : (tie : ℕ → ℕ → ℕ) (v u P B t : ℕ) → asked_of tie v u P B t ≤ whole_asked_of tie v u P B t
in_whole tie v u P B t = elim (cases_Bool (u == v)) [
  | inl e ↦
      omega (
        arith,
        of_itself tie v u P B t e,
        cond-true {A = ℕ} (u == v) B (suc ((t - tie v u) / P) * B) e,
      )
  | inr e ↦
      omega (
        arith,
        of_another tie v u P B t e,
        cond-false {A = ℕ} (u == v) B (suc ((t - tie v u) / P) * B) e,
      )
]

-- so does another VCPU, of slots that are not lost by a tie, and v asks for all at once
asked_or : (tie : ℕ → ℕ → ℕ) (v u P B t d : ℕ) → 1 ≤ P → tie v u ≤ t
    → (asked_of tie v u P B t + d ≤ asked_of tie v u P B (t + d))
    ⊎ (whole_asked_of tie v u P B t ≤ asked_of tie v u P B (t + d))
asked_or tie v u P B t d p within = elim (cases_Bool (u == v)) [
  | inl e ↦
      inr (omega (
        arith,
        of_itself tie v u P B (t + d) e,
        cond-true {A = ℕ} (u == v) B (suc ((t - tie v u) / P) * B) e,
      ))
  | inr e ↦
      let x : ℕ = t - tie v u in
      let at : (t + d) - tie v u ≡ x + d = omega arith in
      let same : deferrable_demand P B ((t + d) - tie v u) ≡ deferrable_demand P B (x + d)
      = ap (λ (z : ℕ). deferrable_demand P B z) at in
      elim (taken_or P B x d p) [
        | inl a ↦ inl (omega (arith, a, same, of_another tie v u P B t e, of_another tie v u P B (t + d) e))
        | inr a ↦
            inr (omega (
              arith,
              a,
              same,
              of_another tie v u P B (t + d) e,
              cond-false {A = ℕ} (u == v) B (suc ((t - tie v u) / P) * B) e,
            ))
      ]
]

-- where a VCPU does not stand on the core, nothing is asked
cond_or : (on : Bool) (x y z d : ℕ) → (x + d ≤ z) ⊎ (y ≤ z)
    → (cond on x 0 + d ≤ cond on z 0) ⊎ (cond on y 0 ≤ cond on z 0)
cond_or true x y z d h = h
cond_or false x y z d h = inr (omega arith)

-- a tie costs one slot at most
pub one_slot : (ties : Ties) (v u : ℕ) → tie_of ties v u ≤ 1
one_slot Open v u = omega arith
one_slot InFileOrder v u = cond_at_most_one (nat_lt v u)

module _ (tie : ℕ → ℕ → ℕ) (sys : SystemView) (budgets : List ℕ) (c v : ℕ) where
  -- what part u takes in the end, if it stands on the core
  abbrev pub part_takes : ℕ → ℕ → ℕ
  part_takes t u =
      cond (is_child sys (Core c) u) (whole_asked_of tie v u (part_at sys u).period (budget_at budgets u) t) 0

  -- and the first so many
  abbrev pub whole_by : ℕ → ℕ → ℕ
  whole_by t u = sum_below (part_takes t) u

  pub whole_none : (t : ℕ) → whole_by t 0 ≡ 0
  whole_none t = sum_below-zero (part_takes t)

  -- those ahead of the next one of the core
  pub whole_next : (t from next : ℕ) → IsNextOn sys c from next → whole_by t next ≡ whole_by t from
  whole_next t from next h =
      sum_next sys (λ u. whole_asked_of tie v u (part_at sys u).period (budget_at budgets u) t) c from next h

  -- and with one of the core ahead of the next
  pub whole_with : (t u next : ℕ) → is_child sys (Core c) u ≡ true → IsNextOn sys c (suc u) next
      → whole_by t next ≡ whole_by t u + whole_asked_of tie v u (part_at sys u).period (budget_at budgets u) t
  whole_with t u next on h =
      sum_with sys (λ w. whole_asked_of tie v w (part_at sys w).period (budget_at budgets w) t) c u next on h

  module _ (plan : IsPlan sys budgets) where
    -- all together take each slot more, or come to all budgets that have begun
    all_or : (t d : ℕ) → ((u : ℕ) → tie v u ≤ t)
        → (asked tie sys budgets c v t + d ≤ asked tie sys budgets c v (t + d))
        ⊎ (whole_asked tie sys budgets c v t ≤ asked tie sys budgets c v (t + d))
    all_or t d ties =
        sums_or (part_asks tie sys budgets c v t) (part_takes t) (part_asks tie sys budgets c v (t + d)) d
        (length sys.parts) part_rises part_or
      where
        some : (u : ℕ) → u < length sys.parts → 1 ≤ (part_at sys u).period
        some u k = omega (arith, plan.some_budget u k, plan.in_period u k)

        part_rises : (u : ℕ) → u < length sys.parts
            → part_asks tie sys budgets c v t u ≤ part_asks tie sys budgets c v (t + d) u
        part_rises u k =
            cond_rises (is_child sys (Core c) u) (asked_of tie v u (part_at sys u).period (budget_at budgets u) t)
            (asked_of tie v u (part_at sys u).period (budget_at budgets u) (t + d))
            (asked-rises tie v u (part_at sys u).period (budget_at budgets u) t (t + d) (some u k) (omega arith))

        part_or : (u : ℕ) → u < length sys.parts
            → (part_asks tie sys budgets c v t u + d ≤ part_asks tie sys budgets c v (t + d) u)
            ⊎ (part_takes t u ≤ part_asks tie sys budgets c v (t + d) u)
        part_or u k =
            cond_or (is_child sys (Core c) u) (asked_of tie v u (part_at sys u).period (budget_at budgets u) t)
            (whole_asked_of tie v u (part_at sys u).period (budget_at budgets u) t)
            (asked_of tie v u (part_at sys u).period (budget_at budgets u) (t + d)) d
            (asked_or tie v u (part_at sys u).period (budget_at budgets u) t d (some u k) (ties u))

    pub asked-le-whole : (t : ℕ) → asked tie sys budgets c v t ≤ whole_asked tie sys budgets c v t
    asked-le-whole t =
        sum_below-le (part_asks tie sys budgets c v t) (part_takes t) (length sys.parts)
        (λ u k. cond_rises (is_child sys (Core c) u) (asked_of tie v u (part_at sys u).period (budget_at budgets u) t)
        (whole_asked_of tie v u (part_at sys u).period (budget_at budgets u) t)
        (in_whole tie v u (part_at sys u).period (budget_at budgets u) t))

    -- where t slots are too few, all up to the budgets that have begun are
    pub few_more : (t : ℕ) → ((u : ℕ) → tie v u ≤ t) → t < asked tie sys budgets c v t
        → TooFewBelow tie sys budgets c v t → TooFewBelow tie sys budgets c v (whole_asked tie sys budgets c v t)
    few_more t ties more few s k = elim (cases_lt s t) [
      | inl q ↦ few s q
      | inr q ↦
          let e : t + (s - t) ≡ s = omega arith in
          let same = ap (λ (z : ℕ). asked tie sys budgets c v z) e in
          elim (all_or t (s - t) ties) [
            | inl a ↦ omega (arith, a, same)
            | inr a ↦ omega (arith, a, same)
          ]
    ]
