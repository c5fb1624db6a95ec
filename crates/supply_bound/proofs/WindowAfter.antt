-- The window of the worst pattern after one that it has: this one ends with the budget of a period.
use Rattle.std.proofs.Common.{◌≡◌, ◌≢◌, ◌⊎◌, ℕ, suc, min, ◌+◌, ◌*◌, ◌-◌, ◌/◌, ◌%◌, ◌<◌, ◌≤◌, true, false, ap, subst, arith, inl, inr}
use Rattle.std.proofs.lemmas.Bool.{cases_lt, cases_eq}
use Rattle.std.proofs.lemmas.Nat.{le-div}
use Rattle.slot_model.specs.Supply.{worst_slot_by}
use Rattle.slot_model.proofs.WorstPattern.{slot_by_gap}
use Rattle.supply_bound.specs.declared.next_window.Window.{Window}
use Rattle.supply_bound.specs.NextWindow.{IsFirstStretch}
use Rattle.supply_bound.proofs.NextWindow.{clash, first_it, before_it, within_it, behind_it, whole_period, NextBudget}

-- a slot that ends the budget of the first period or of a later one, where a gap follows each
record EndsBudget (period budget deadline end : ℕ) : Type 0 where
  some : 1 ≤ budget
  some_gap : budget < period
  ends : (end ≡ budget) ⊎ ((k : ℕ) × (end ≡ suc k * period + deadline))

-- where slots end there is a gap
a_gap : (period budget deadline x : ℕ) → 1 ≤ deadline → budget ≤ deadline → deadline ≤ period
    → worst_slot_by period budget deadline x ≡ false → budget < period
a_gap period budget deadline x s m n f = elim (cases_lt budget period) [
  | inl gap ↦ gap
  | inr whole ↦
      let e : budget ≡ period = omega arith in
      absurd (clash (worst_slot_by period budget deadline x)
      (subst (λ (b : ℕ). worst_slot_by period b deadline x ≡ true) (let z : period ≡ budget = omega (arith, e) in z)
      (let z : true ≡ worst_slot_by period period deadline x
      = whole_period period deadline x (omega arith) (omega (arith, e)) n in grind arith)) f)
]

-- the last slot of a later period's budget
end_later : (period budget deadline x k place : ℕ) → 1 ≤ deadline → budget ≤ deadline → deadline ≤ period
    → x ≡ suc k * period + place → place < period → worst_slot_by period budget deadline x ≡ true
    → worst_slot_by period budget deadline (suc x) ≡ false → EndsBudget period budget deadline (suc x)
end_later period budget deadline x k place s m n e l t f = elim (cases_lt place (deadline - budget)) [
  | inl early ↦
      absurd (clash (worst_slot_by period budget deadline x) t
      (before_it period budget deadline k x m n (omega (arith, e)) (omega (arith, e))))
  | inr begun ↦
      elim (cases_lt place deadline) [
        | inr over ↦
            absurd (clash (worst_slot_by period budget deadline x) t
            (behind_it period budget deadline k x m n (omega (arith, e)) (omega (arith, e))))
        | inl within ↦
            elim (cases_lt (suc place) deadline) [
              | inl more ↦
                  absurd (clash (worst_slot_by period budget deadline (suc x))
                  (within_it period budget deadline k (suc x) m n (omega (arith, e)) (omega (arith, e))) f)
              | inr none ↦ record {
                some = omega arith;
                some_gap = a_gap period budget deadline (suc x) s m n f;
                ends = inr (k, omega (arith, e));
              }
            ]
      ]
]

-- so does each slot of the pattern before one that it has not
last_slot : (period budget deadline x : ℕ) → 1 ≤ deadline → budget ≤ deadline → deadline ≤ period
    → worst_slot_by period budget deadline x ≡ true → worst_slot_by period budget deadline (suc x) ≡ false
    → EndsBudget period budget deadline (suc x)
last_slot period budget deadline x s m n t f = elim (cases_lt x budget) [
  | inl first ↦
      elim (cases_lt (suc x) budget) [
        | inl more ↦
            absurd (clash (worst_slot_by period budget deadline (suc x))
            (first_it period budget deadline (suc x) more) f)
        | inr none ↦ record {
          some = omega arith;
          some_gap = a_gap period budget deadline (suc x) s m n f;
          ends = inl (omega arith);
        }
      ]
  | inr past ↦
      elim (cases_lt x period) [
        | inl gap ↦
            absurd (clash (worst_slot_by period budget deadline x) t (slot_by_gap period budget deadline x past gap))
        | inr later ↦
            let whole : (x / period) * period + x % period ≡ x = omega arith in
            let is : suc (x / period - 1) ≡ x / period
            = (let l : 1 ≤ x / period = le-div 1 x period (omega arith) (omega arith) in omega (arith, l)) in
            end_later period budget deadline x (x / period - 1) (x % period) s m n
            (omega (arith, whole, ap (λ (z : ℕ). z * period) is)) (omega arith) t f
      ]
]

ends_budget : (period budget deadline below : ℕ) (last : Window) → 1 ≤ deadline → budget ≤ deadline
    → deadline ≤ period → IsFirstStretch (worst_slot_by period budget deadline) last.from below last
    → last.until < below → EndsBudget period budget deadline last.until
ends_budget period budget deadline below last s m n h l =
    let e : suc (last.until - 1) ≡ last.until = omega (arith, h.some) in
    subst (EndsBudget period budget deadline) e
    (last_slot period budget deadline (last.until - 1) s m n
    (h.every (last.until - 1) (omega (arith, h.some)) (omega (arith, h.some)))
    (subst (λ (z : ℕ). worst_slot_by period budget deadline z ≡ false)
    (let z : last.until ≡ suc (last.until - 1) = omega (arith, e) in z) (h.ends l)))

-- the period after such a slot, of whose budget's begin m is told at the most
pub record AfterBudget (period budget deadline end m told : ℕ) : Type 0 where
  pub some : 1 ≤ budget
  pub some_gap : budget < period
  pub begin : ℕ
  pub next : NextBudget period budget deadline end begin
  pub is_told : told ≡ min (begin + (deadline - budget)) m
  pub later : end ≤ begin + (deadline - budget)

next_period : (period budget deadline end m told : ℕ) → budget ≤ deadline → deadline ≤ period
    → EndsBudget period budget deadline end → (end ≡ budget → told ≡ min (period + (deadline - budget)) m)
    → (end ≢ budget → told ≡ min (end + (period - budget)) m) → AfterBudget period budget deadline end m told
next_period period budget deadline end m told i n h second later = elim (cases_eq end budget) [
  | inl first ↦ record {
    some = h.some;
    some_gap = h.some_gap;
    begin = period;
    next =
        record {
          k = 0;
          begins = omega arith;
          not_over = omega (arith, first, h.some_gap);
          none = λ x a b. slot_by_gap period budget deadline x (omega (arith, first)) b;
        };
    is_told = second first;
    later = omega (arith, first, h.some_gap);
  }
  | inr other ↦
      elim h.ends [
        | inl first ↦ absurd (other first)
        | inr at ↦ record {
          some = h.some;
          some_gap = h.some_gap;
          begin = end + (period - deadline);
          next =
              record {
                k = suc at.0;
                begins = omega (arith, at.1);
                not_over = omega (arith, h.some_gap);
                none = λ x a b. behind_it period budget deadline at.0 x i n (omega (arith, at.1)) (omega (arith, at.1));
              };
          is_told = omega (arith, later other);
          later = omega arith;
        }
      ]
]

pub after_window : (period budget deadline below m told : ℕ) (last : Window) → 1 ≤ deadline → budget ≤ deadline
    → deadline ≤ period → IsFirstStretch (worst_slot_by period budget deadline) last.from below last
    → last.until < below → (last.until ≡ budget → told ≡ min (period + (deadline - budget)) m)
    → (last.until ≢ budget → told ≡ min (last.until + (period - budget)) m)
    → AfterBudget period budget deadline last.until m told
after_window period budget deadline below m told last s i n h l second later =
    next_period period budget deadline last.until m told i n
    (ends_budget period budget deadline below last s i n h l) second later
