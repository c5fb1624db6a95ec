-- A test of slots that gives a budget in each period: what its windows have, and the parts of its
-- periods.
use Rattle.std.proofs.Common.{◌≡◌, ℕ, suc, min, ◌+◌, ◌*◌, ◌-◌, ◌≤◌, Bool, false, leb, ◌&&◌, List, map, get_or, length, sym, ◌∙◌, ap, arith, subst, inl, inr}
use Rattle.std.specs.List.{range_with_len}
use Rattle.std.proofs.lemmas.Bool.{cases_lt}
use Rattle.std.proofs.lemmas.List.FromFn.{length-map-range_with_len, get_or-map-range_with_len}
use Rattle.slot_model.specs.Slots.{count_below, slots_between}
use Rattle.slot_model.specs.Bound.{sbf}
use Rattle.slot_model.specs.Supply.{GivesBudget}
use Rattle.slot_model.proofs.Counts.{count_same}
use Rattle.slot_model.proofs.Runs.{count_below-mono}
use Rattle.slot_model.proofs.PeriodicSupply.{count_slow, count_from, windows}

module _ (given : ℕ → Bool) (period budget : ℕ) (some : 1 ≤ period) (within : budget ≤ period)
    (gives : (k : ℕ) → count_below given (k * period) + budget ≤ count_below given (k * period + period)) where
  abbrev slots : ℕ → List Bool
  slots n = map given (range_with_len 0 n)

  long : (n : ℕ) → length (slots n) ≡ n
  long n = length-map-range_with_len given 0 n

  between : (n a b : ℕ) → a ≤ b → b ≤ n → count_below given b ≡ count_below given a + slots_between (slots n) a b
  between n a b l m =
      count_from given a b l
      ∙ ap (λ (z : ℕ). count_below given a + z)
      (count_same (λ x. leb a x && given x) (λ x. leb a x && get_or (slots n) x false) b
      (λ x lx. ap (λ (c : Bool). leb a x && c)
      (sym (get_or-map-range_with_len given 0 n x x false (omega (arith, lx, m)) (omega arith)))))

  budgets : (n : ℕ) → GivesBudget period budget (slots n)
  budgets n k l =
      let e : suc k * period ≡ k * period + period = omega arith in
      elim (cases_lt n (suc k * period)) [
        | inr whole ↦
            let q : min (length (slots n)) (suc k * period) ≡ suc k * period = omega (arith, long n) in
            subst (λ (z : ℕ). budget ≤ slots_between (slots n) (k * period) z + (suc k * period - z)) (sym q)
            (omega (
              arith,
              between n (k * period) (suc k * period) (omega arith) whole,
              gives k,
              ap (count_below given) e,
            ))
        | inl broken ↦
            let q : min (length (slots n)) (suc k * period) ≡ n = omega (arith, long n, broken) in
            subst (λ (z : ℕ). budget ≤ slots_between (slots n) (k * period) z + (suc k * period - z)) (sym q)
            (omega (
              arith,
              between n (k * period) n (omega (arith, long n, l)) (omega arith),
              gives k,
              count_slow given n (suc k * period - n),
              ap (count_below given) (let w : n + (suc k * period - n) ≡ k * period + period = omega
                  (arith, broken) in w),
            ))
      ]

  pub window_has : (a b : ℕ) → a ≤ b → count_below given a + sbf period budget (b - a) ≤ count_below given b
  window_has a b l =
      omega (
        arith,
        windows period budget (slots b) some within (budgets b) a b l (omega (arith, long b)),
        between b a b l (omega arith),
      )

  -- the first v slots of a period
  pub part_has : (k v : ℕ) → v ≤ period
      → count_below given (k * period) + (v - (period - budget)) ≤ count_below given (k * period + v)
  part_has k v l =
      omega (
        arith,
        gives k,
        count_slow given (k * period + v) (period - v),
        ap (count_below given) (let w : (k * period + v) + (period - v) ≡ k * period + period = omega (arith, l) in w),
        count_below-mono given (k * period) (k * period + v) (omega arith),
      )
