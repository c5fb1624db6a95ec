-- What servers ask for in more slots, and in whole periods more.
use Rattle.std.proofs.Common.{◌≡◌, ℕ, suc, min, max, ◌==◌, ◌+◌, ◌*◌, ◌-◌, ◌/◌, ◌%◌, ◌<◌, ◌≤◌, Bool, true, false, cond, refl, ◌∙◌, ap, arith, subst, inl, inr, eq-eqb}
use Rattle.std.proofs.Math.Nat.{mul-le-mul_left, mul-le-mul_right}
use Rattle.std.proofs.lemmas.Nat.{div-mul-add, le-div}
use Rattle.std.proofs.lemmas.Bool.{cases_eq, cases_lt, cases_Bool, cond-true, cond-false}
use Rattle.rtds_model.specs.Demand.{deferrable_demand}

-- what a server asks for in t slots by deadlines at their end where it never blocks, as a periodic
-- task
abbrev pub steady_demand : ℕ → ℕ → ℕ → ℕ
steady_demand period budget t = (t / period) * budget

abbrev pub demand_of : Bool → ℕ → ℕ → ℕ → ℕ
demand_of steady period budget t = cond steady (steady_demand period budget t) (deferrable_demand period budget t)

-- what u asks for of the last t slots of a period of v, and v itself, where it lacks some of its
-- budget
abbrev pub last_demand : (ℕ → ℕ → ℕ) → ℕ → ℕ → ℕ → ℕ → ℕ → ℕ
last_demand tie v u period budget t =
    cond (u == v) (max budget (deferrable_demand period budget (t - tie v u)))
    (deferrable_demand period budget (t - tie v u))

-- whole periods and a rest
pub quotient_is : (q P s t : ℕ) → s < P → t ≡ q * P + s → t / P ≡ q
quotient_is q P s t l e = ap (λ (z : ℕ). z / P) e ∙ div-mul-add q P s l

-- what is left at the front of a window, and the whole periods behind it
pub steady_fits : (P B a b : ℕ) → 1 ≤ P → (b / P) * B ≤ steady_demand P B (a + b)
steady_fits P B a b p = mul-le-mul_right B (le-div (b / P) (a + b) P p (omega arith))

pub deferrable_fits : (P B a b : ℕ) → 1 ≤ P → a < P → min B a + (b / P) * B ≤ deferrable_demand P B (a + b)
deferrable_fits P B a b p l =
    let q : ℕ = b / P in
    let s : ℕ = b % P in
    elim (cases_lt (a + s) P) [
      | inl m ↦
          let e : (a + b) / P ≡ q = quotient_is q P (a + s) (a + b) m (omega arith) in
          omega (arith, ap (λ (z : ℕ). z * P) e, ap (λ (z : ℕ). z * B) e)
      | inr m ↦
          let e : (a + b) / P ≡ suc q = quotient_is (suc q) P (a + s - P) (a + b) (omega arith) (omega arith) in
          omega (arith, ap (λ (z : ℕ). z * B) e)
    ]

-- whether it is steady or not
abbrev pub carry : Bool → ℕ → ℕ → ℕ
carry steady B a = cond steady 0 (min B a)

pub demand_fits : (steady : Bool) (P B a b : ℕ) → 1 ≤ P → a < P
    → carry steady B a + (b / P) * B ≤ demand_of steady P B (a + b)
demand_fits true P B a b p l = omega (arith, steady_fits P B a b p)
demand_fits false P B a b p l = deferrable_fits P B a b p l

-- and where no period is under way at its front
pub whole_fits : (steady : Bool) (P B a b : ℕ) → 1 ≤ P → (b / P) * B ≤ demand_of steady P B (a + b)
whole_fits true P B a b p = steady_fits P B a b p
whole_fits false P B a b p = omega (arith, steady_fits P B a b p)

-- in the last window a VCPU asks for no less than so, and v for no less than its budget
pub last_demand-least : (tie : ℕ → ℕ → ℕ) (v u P B t : ℕ)
    → demand_of false P B (t - tie v u) ≤ last_demand tie v u P B t
last_demand-least tie v u P B t = elim (cases_Bool (u == v)) [
  | inl e ↦
      omega (
        arith,
        cond-true {A = ℕ} (u == v) (max B (deferrable_demand P B (t - tie v u)))
            (deferrable_demand P B (t - tie v u)) e,
      )
  | inr e ↦
      omega (
        arith,
        cond-false {A = ℕ} (u == v) (max B (deferrable_demand P B (t - tie v u)))
            (deferrable_demand P B (t - tie v u)) e,
      )
]

pub last_demand-own : (tie : ℕ → ℕ → ℕ) (v P B t : ℕ) → B ≤ last_demand tie v v P B t
last_demand-own tie v P B t =
    omega (
      arith,
      cond-true {A = ℕ} (v == v) (max B (deferrable_demand P B (t - tie v v))) (deferrable_demand P B (t - tie v v))
          (eq-eqb v v refl),
    )

-- more slots ask for no less
pub demand_rises : (steady : Bool) (P B s t : ℕ) → 1 ≤ P → s ≤ t → demand_of steady P B s ≤ demand_of steady P B t
demand_rises true P B s t p l =
    let e : (t - s) + s ≡ t = omega arith in
    subst (λ (z : ℕ). steady_demand P B s ≤ steady_demand P B z) e (steady_fits P B (t - s) s p)
demand_rises false P B s t p l =
    let q : ℕ = s / P in
    let a : ℕ = s % P in
    let whole : q ≤ t / P = le-div q t P p (omega arith) in
    elim (cases_lt q (t / P)) [
      | inl m ↦ omega (arith, mul-le-mul_right B m)
      | inr m ↦
          let e : q ≡ t / P = omega (arith, whole) in omega (arith, ap (λ (z : ℕ). z * B) e, ap (λ (z : ℕ). z * P) e)
    ]

-- within one period no more than a budget
pub own : (P B t : ℕ) → 1 ≤ P → t ≤ P → deferrable_demand P B t ≤ B
own P B t p l = elim (cases_eq t P) [
  | inl e ↦
      let q : t / P ≡ 1 = quotient_is 1 P 0 t p (omega arith) in
      omega (arith, ap (λ (y : ℕ). y * B) q, ap (λ (y : ℕ). y * P) q)
  | inr ne ↦
      let q : t / P ≡ 0 = quotient_is 0 P t t (omega arith) (omega arith) in omega (arith, ap (λ (y : ℕ). y * B) q)
]

pub own_last : (tie : ℕ → ℕ → ℕ) (v u P B t : ℕ) → 1 ≤ P → t ≤ P → last_demand tie v u P B t ≤ B
own_last tie v u P B t p l = elim (cases_Bool (u == v)) [
  | inl e ↦
      omega (
        arith,
        cond-true {A = ℕ} (u == v) (max B (deferrable_demand P B (t - tie v u)))
            (deferrable_demand P B (t - tie v u)) e,
        own P B (t - tie v u) p (omega arith),
      )
  | inr e ↦
      omega (
        arith,
        cond-false {A = ℕ} (u == v) (max B (deferrable_demand P B (t - tie v u)))
            (deferrable_demand P B (t - tie v u)) e,
        own P B (t - tie v u) p (omega arith),
      )
]

-- no server takes more slots than there are
pub deferrable-le : (P B t : ℕ) → B ≤ P → deferrable_demand P B t ≤ t
deferrable-le P B t l = omega (arith, mul-le-mul_left (t / P) l)
