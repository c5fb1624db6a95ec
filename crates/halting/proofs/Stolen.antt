-- What is stolen in a period, beside what is had there, and beside a supply.
use Rattle.std.proofs.Common.{◌≡◌, ℕ, suc, min, ◌==◌, ◌+◌, ◌*◌, ◌-◌, ◌<◌, ◌≤◌, Bool, true, false, not, ◌&&◌, ◌||◌, nat_le, length, refl, sym, ◌∙◌, ap, arith, inl, inr, leb-true, eqb-true}
use Rattle.std.proofs.lemmas.Bool.{cases_lt, and_parts, false≢true}
use Rattle.slot_model.specs.Slots.{slots_between}
use Rattle.slot_model.specs.Supply.{GivesBudget}
use Rattle.trace_file.specs.Periods.{begins, count_between, is_judged}
use Rattle.trace_file.proofs.Counting.{between_none}
use Rattle.halting.specs.Stolen.{is_stolen, stolen_in, Spares, moments_from, TimesAddUp, AgreesWithAudit, IsSupplyWhereSpared}
use Rattle.halting.proofs.Counted.{complement, disjoint, none_passes, moments_long, slots_are}

neither : (r b : Bool) → (not b && not r) ≡ not (r || b)
neither true true = refl
neither true false = refl
neither false true = refl
neither false false = refl

module _ (blocked runs : ℕ → Bool) where
  -- a moment at which it has its core or is blocked
  abbrev pub is_spared : ℕ → Bool
  is_spared x = runs x || blocked x

  -- each moment is that or stolen
  parted : (a c : ℕ) → count_between is_spared a c + count_between (is_stolen blocked runs) a c ≡ c - a
  parted a c = complement is_spared (is_stolen blocked runs) a c (λ x. neither (runs x) (blocked x))

  -- a whole period in which it never has its core while it is blocked
  whole : (period f n k : ℕ) → begins period f (suc k) ≤ n
      → ((x : ℕ) → begins period f k ≤ x → x < begins period f (suc k) → blocked x ≡ true → runs x ≡ false)
      → stolen_in blocked runs period f n k + count_between runs (begins period f k) (min (begins period f (suc k)) n)
      + count_between blocked (begins period f k) (min (begins period f (suc k)) n) ≡ period
  whole period f n k l never =
      let r : ℕ = begins period f k in
      let d : ℕ = begins period f (suc k) in
      let e : min d n ≡ d = omega arith in
      omega (
        arith,
        ap (count_between (is_stolen blocked runs) r) e,
        ap (count_between runs r) e,
        ap (count_between blocked r) e,
        parted r d,
        disjoint runs blocked r d never,
      )

  judged : (period budget f n k : ℕ) → budget ≤ period → is_judged blocked period f n k ≡ true →
      (stolen_in blocked runs period f n k + budget ≤ period
      → budget ≤ count_between runs (begins period f k) (min (begins period f (suc k)) n))
      × (budget ≤ count_between runs (begins period f k) (min (begins period f (suc k)) n)
      → stolen_in blocked runs period f n k + budget ≤ period)
  judged period budget f n k some is =
      let r : ℕ = begins period f k in
      let d : ℕ = begins period f (suc k) in
      let p = and_parts (nat_le d n) (count_between blocked r d == 0) is in
      let l : d ≤ n = leb-true d n p.0 in
      let none : count_between blocked r d ≡ 0 = eqb-true (count_between blocked r d) 0 p.1 in
      let e : min d n ≡ d = omega arith in
      let all : stolen_in blocked runs period f n k + count_between runs r (min d n)
      + count_between blocked r (min d n) ≡ period
      = whole period f n k l (λ x lo hi b. absurd (false≢true (sym (none_passes blocked r d x none lo hi) ∙ b))) in
      let rest : count_between blocked r (min d n) ≡ 0 = ap (count_between blocked r) e ∙ none in (
        λ few. omega (arith, few, all, rest),
        λ has. omega (arith, has, all, rest),
      )

  module _ (period f n k : ℕ) (l : k * period < n - f) where
    abbrev last : ℕ
    last = min (length (moments_from is_spared f n)) (suc k * period)

    -- what the supply gives in a period that begins below n, and what is stolen of it
    balance : slots_between (moments_from is_spared f n) (k * period) last + stolen_in blocked runs period f n k
        ≡ last - k * period
    balance =
        let long : length (moments_from is_spared f n) ≡ n - f = moments_long is_spared f n in
        let e : f + last ≡ min (begins period f (suc k)) n = omega (arith, long, l) in
        omega (
          arith,
          slots_are is_spared f n (k * period) last (omega (arith, long, l)),
          parted (begins period f k) (f + last),
          ap (count_between (is_stolen blocked runs) (begins period f k)) e,
        )

  pub gives : (period budget f n : ℕ) → Spares blocked runs period budget f n
      → GivesBudget period budget (moments_from is_spared f n)
  gives period budget f n few k l =
      let m : k * period < n - f = omega (arith, l, moments_long is_spared f n) in
      omega (arith, few k, balance period f n k m, moments_long is_spared f n)

  spares : (period budget f n : ℕ) → budget ≤ period → GivesBudget period budget (moments_from is_spared f n)
      → Spares blocked runs period budget f n
  spares period budget f n some has k = elim (cases_lt (k * period) (n - f)) [
    | inl l ↦
        omega (
          arith,
          has k (omega (arith, l, moments_long is_spared f n)),
          balance period f n k l,
          moments_long is_spared f n,
        )
    | inr l ↦
        omega (
          arith,
          some,
          between_none (is_stolen blocked runs) (begins period f k) (min (begins period f (suc k)) n) (omega arith),
        )
  ]

pub times_add_up : TimesAddUp
times_add_up blocked runs period f n k never l = whole blocked runs period f n k l (λ x lo hi b. never x b)

pub agrees_with_audit : AgreesWithAudit
agrees_with_audit blocked runs period budget f n k some is = judged blocked runs period budget f n k some is

pub is_supply_where_spared : IsSupplyWhereSpared
is_supply_where_spared blocked runs period budget f n some =
    (gives blocked runs period budget f n, spares blocked runs period budget f n some)
