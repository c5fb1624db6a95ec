-- All VCPUs of a core are isolated exactly where the sum of its budgets is at most its shortest
-- period.
use Rattle.std.proofs.Common.{◌≡◌, ◌≢◌, ℕ, min, ◌==◌, ◌+◌, ◌*◌, ◌-◌, ◌/◌, ◌<◌, ◌≤◌, Bool, true, cond, List, length, refl, arith, subst, inl, inr, eq-eqb, eqb-true}
use Rattle.std.proofs.Math.Nat.{mul-le-mul_right}
use Rattle.std.proofs.lemmas.Nat.{le-div}
use Rattle.std.proofs.lemmas.Bool.{cases_eq, cases_lt, cases_Bool, cond-true, cond-false}
use Rattle.slot_model.specs.Slots.{sum_below}
use Rattle.slot_model.proofs.Sums.{sum_below-le, sum_below-lt, sum_below_smaller, get-le-sum_below}
use Rattle.tree_model.specs.declared.place.Place.TheVariants.{Core}
use Rattle.tree_model.specs.View.{SystemView}
use Rattle.tree_model.specs.System.{part_at}
use Rattle.tree_model.specs.Tree.{is_child, budget_at}
use Rattle.tree_model.specs.Plans.{IsPlan}
use Rattle.rtds_model.specs.Demand.{deferrable_demand}
use Rattle.rtds_model.proofs.Demands.{deferrable_fits, own}
use Rattle.isolation.specs.Demand.{asked_of, no_tie, IsIsolatedBy}
use Rattle.isolation.proofs.Asked.{of_itself, of_another, asked-own}
use Rattle.isolation.specs.Short.{budgets_on, FitsShortest, AllIsolated, IsolatedWhereShort}

-- a server takes its budget of so many slots, or all of them
deferrable-least : (P B t : ℕ) → 1 ≤ P → min B t ≤ deferrable_demand P B t
deferrable-least P B t p = elim (cases_lt t P) [
  | inl l ↦ omega (
    arith,
    subst (λ (z : ℕ). min B t + (0 / P) * B ≤ deferrable_demand P B z)
        (let e : t + 0 ≡ t = omega arith in e) (deferrable_fits P B t 0 p l),
  )
  | inr l ↦ omega (arith, mul-le-mul_right B (le-div 1 t P p (omega (arith, l))))
]

module _ (sys : SystemView) (budgets : List ℕ) (c : ℕ) (plan : IsPlan sys budgets) where
  abbrev m : ℕ
  m = length sys.parts

  abbrev on : ℕ → Bool
  on u = is_child sys (Core c) u

  abbrev period : ℕ → ℕ
  period u = (part_at sys u).period

  abbrev budget : ℕ → ℕ
  budget u = budget_at budgets u

  abbrev share : ℕ → ℕ
  share u = cond (on u) (budget u) 0

  abbrev term : ℕ → ℕ → ℕ → ℕ
  term v t u = cond (on u) (asked_of no_tie v u (period u) (budget u) t) 0

  some : (u : ℕ) → u < m → 1 ≤ period u
  some u l = omega (arith, plan.some_budget u l, plan.in_period u l)

  -- no more than a budget, in no more slots than a period
  asked_few : (v u t : ℕ) → 1 ≤ period u → t ≤ period u → asked_of no_tie v u (period u) (budget u) t ≤ budget u
  asked_few v u t p l = elim (cases_Bool (u == v)) [
    | inl e ↦ omega (arith, of_itself no_tie v u (period u) (budget u) t e)
    | inr e ↦
        omega (
          arith,
          of_another no_tie v u (period u) (budget u) t e,
          own (period u) (budget u) (t - 0) p (omega (arith, l)),
        )
  ]

  short_isolates : FitsShortest sys budgets c → AllIsolated sys budgets c
  short_isolates fits v l o =
      let t : ℕ = budgets_on sys budgets c in (
        t,
        record {
          in_period = fits v l o;
          enough = sum_below-le (term v t) share m (λ u k. elim (cases_Bool (on u)) [
            | inr b ↦
                omega (arith, cond-false {A = ℕ} (on u) (asked_of no_tie v u (period u) (budget u) t) 0 b)
            | inl b ↦
                omega (
                  arith,
                  cond-true {A = ℕ} (on u) (asked_of no_tie v u (period u) (budget u) t) 0 b,
                  cond-true {A = ℕ} (on u) (budget u) 0 b,
                  asked_few v u t (some u k) (fits u k b),
                )
          ]);
        },
      )

  -- one that is asked for less than its budget is asked for all slots
  asked_all : (v u t : ℕ) → u ≢ v → 1 ≤ period u → asked_of no_tie v u (period u) (budget u) t < budget u
      → t ≤ asked_of no_tie v u (period u) (budget u) t
  asked_all v u t ne p less = elim (cases_Bool (u == v)) [
    | inl e ↦ absurd (ne (eqb-true u v e))
    | inr e ↦
        omega (
          arith,
          less,
          of_another no_tie v u (period u) (budget u) t e,
          deferrable-least (period u) (budget u) (t - 0) p,
        )
  ]

  -- all slots, at the place of u alone
  abbrev at_place : ℕ → ℕ → ℕ → ℕ
  at_place t u w = cond (u == w) t 0

  too_much : (v u t : ℕ) → v < m → u < m → on v ≡ true → term v t u < share u
      → t < sum_below (term v t) m
  too_much v u t lv lu o less = elim (cases_Bool (on u)) [
    | inr b ↦ absurd (omega (arith, less, cond-false {A = ℕ} (on u) (budget u) 0 b))
    | inl b ↦
        let same : term v t u ≡ asked_of no_tie v u (period u) (budget u) t
        = cond-true {A = ℕ} (on u) (asked_of no_tie v u (period u) (budget u) t) 0 b in
        let whole : share u ≡ budget u = cond-true {A = ℕ} (on u) (budget u) 0 b in
        elim (cases_eq u v) [
          | inl e ↦
              absurd (omega (
                arith,
                less,
                same,
                whole,
                subst (λ (z : ℕ). asked_of no_tie z u (period u) (budget u) t ≡ budget u) e
                    (asked-own no_tie u (period u) (budget u) t),
              ))
          | inr ne ↦
              let all : t ≤ term v t u
              = omega (arith, same, asked_all v u t ne (some u lu) (omega (arith, less, same, whole))) in
              let below : (w : ℕ) → w < m → at_place t u w ≤ term v t w
              = λ w k. elim (cases_Bool (u == w)) [
                | inr d ↦ omega (arith, cond-false {A = ℕ} (u == w) t 0 d)
                | inl d ↦
                    subst (λ (z : ℕ). at_place t u z ≤ term v t z) (eqb-true u w d)
                    (omega (arith, all, cond-true {A = ℕ} (u == u) t 0 (eq-eqb u u refl)))
              ] in
              let one : at_place t u v + 1 ≤ term v t v
              = elim (cases_Bool (u == v)) [
                | inl d ↦ absurd (ne (eqb-true u v d))
                | inr d ↦
                    omega (
                      arith,
                      cond-false {A = ℕ} (u == v) t 0 d,
                      cond-true {A = ℕ} (on v) (asked_of no_tie v v (period v) (budget v) t) 0 o,
                      asked-own no_tie v (period v) (budget v) t,
                      plan.some_budget v lv,
                    )
              ] in
              omega (
                arith,
                sum_below-lt (at_place t u) (term v t) v m 1 below lv one,
                get-le-sum_below (at_place t u) u m lu,
                cond-true {A = ℕ} (u == u) t 0 (eq-eqb u u refl),
              )
        ]
  ]

  isolates_short : AllIsolated sys budgets c → FitsShortest sys budgets c
  isolates_short all v l o =
      let w : (t : ℕ) × IsIsolatedBy no_tie sys budgets c v t = all v l o in
      elim (cases_lt (sum_below (term v w.0) m) (sum_below share m)) [
        | inr fits ↦ omega (arith, fits, w.1.enough, w.1.in_period)
        | inl less ↦
            let u : (i : ℕ) × (i < m) × (term v w.0 i < share i)
            = sum_below_smaller (term v w.0) share m less in
            absurd (omega (arith, too_much v u.0 w.0 l u.1 o u.2, w.1.enough))
      ]

pub isolated_where_short : IsolatedWhereShort
isolated_where_short sys budgets c plan =
    (short_isolates sys budgets c plan, isolates_short sys budgets c plan)
