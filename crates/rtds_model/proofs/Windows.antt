-- Servers under earliest deadline first on level 0: how many slots of a window one has there, in
-- periods that end by the window's end. The VCPUs, their periods and their starts are plain
-- functions.
use Rattle.std.proofs.Common.{◌≡◌, ◌⊎◌, ℕ, zero, suc, min, ◌+◌, ◌*◌, ◌-◌, ◌/◌, ◌<◌, ◌≤◌, Bool, true, false, cond, ◌&&◌, nat_lt, nat_le, List, Option, Some, None, refl, sym, ◌∙◌, ap, arith, subst, inl, inr, leb-true, le-leb, ltb-true, lt-ltb, le-ltb, eq-eqb}
use Rattle.std.proofs.Math.Nat.{mul-le-mul_right}
use Rattle.std.proofs.lemmas.Bool.{cases_lt, cases_Bool, cond-true, cond-false, and_parts, and_from, both_ways, false≢true}
use Rattle.std.proofs.lemmas.Option.{same_Some}
use Rattle.slot_model.specs.Slots.{sum_below}
use Rattle.slot_model.specs.Run.{held, holds}
use Rattle.trace_file.specs.Periods.{begins, count_between}
use Rattle.rtds_model.specs.Rtds.{period_number}
use Rattle.rtds_model.specs.Demand.{later}
use Rattle.slot_model.proofs.Sums.{cond_at_most_one, sum_below-lt}
use Rattle.slot_model.proofs.Runs.{back_to, holds-is}
use Rattle.slot_model.proofs.FirstRuns.{none_some}
use Rattle.trace_file.proofs.Counting.{between_none}
use Rattle.rtds_model.proofs.Counts.{between_split, between_at_most, between_zero, between_le, between_capped, all_counted}
use Rattle.rtds_model.proofs.Demands.{demand_of, last_demand, carry, quotient_is, demand_fits, whole_fits, last_demand-least, last_demand-own}

pub holds-some : (o : Option ℕ) (j : ℕ) → o ≡ Some j → holds o j ≡ true
holds-some None j e = absurd (none_some None j refl e)
holds-some (Some i) j e = eq-eqb i j (same_Some i j e)

-- the slots that VCPU u had in its period at x before x
abbrev pub had : (ℕ → ℕ) → (ℕ → ℕ) → List (Option ℕ) → ℕ → ℕ → ℕ
had period start run u x =
    count_between (λ y. holds (held run y) u) (begins (period u) (start u) (period_number (period u) (start u) x)) x

-- where that period ends
abbrev pub ends : (ℕ → ℕ) → (ℕ → ℕ) → ℕ → ℕ → ℕ
ends period start u x = begins (period u) (start u) (suc (period_number (period u) (start u) x))

-- one slot for a VCPU that goes behind v where their periods end at once
pub later_in_turn : (v w h : ℕ) → later v h ≤ later v w + later w h
later_in_turn v w h = elim (cases_lt v h) [
  | inr l ↦ omega (arith, cond-false {A = ℕ} (nat_lt v h) 1 0 (le-ltb v h l))
  | inl l ↦ elim (cases_lt v w) [
    | inl i ↦
        omega
        (arith, cond-true {A = ℕ} (nat_lt v h) 1 0 (lt-ltb v h l), cond-true {A = ℕ} (nat_lt v w) 1 0 (lt-ltb v w i))
    | inr i ↦
        omega (
          arith,
          cond-true {A = ℕ} (nat_lt v h) 1 0 (lt-ltb v h l),
          cond-true {A = ℕ} (nat_lt w h) 1 0 (lt-ltb w h (omega arith)),
        )
  ]
]

pub later_few : (v u : ℕ) → later v u ≤ 1
later_few v u = cond_at_most_one (nat_lt v u)

pub later_itself : (v : ℕ) → later v v ≡ 0
later_itself v = cond-false {A = ℕ} (nat_lt v v) 1 0 (le-ltb v v (omega arith))

-- what is used of a run over n slots of VCPUs below m: which of them are on, and which are able to
-- run at a slot; what holds a slot is on and has started; and where one that is able has budget
-- left, the slot is held by one with budget left whose period ends no later, and earlier where it
-- stands behind
pub record ServesByDeadline (tie : ℕ → ℕ → ℕ) (m n : ℕ) (period budget start : ℕ → ℕ) (on : ℕ → Bool)
    (able : ℕ → ℕ → Bool) (run : List (Option ℕ)) : Type 0 where
  pub tie_few : (v u : ℕ) → tie v u ≤ 1
  pub tie_itself : (v : ℕ) → tie v v ≡ 0
  pub tie_in_turn : (v w h : ℕ) → tie v h ≤ tie v w + tie w h
  pub some_budget : (u : ℕ) → on u ≡ true → 1 ≤ budget u
  pub in_period : (u : ℕ) → on u ≡ true → budget u ≤ period u
  pub of_core : (x u : ℕ) → x < n → held run x ≡ Some u → u < m
  pub is_on : (x u : ℕ) → x < n → held run x ≡ Some u → on u ≡ true
  pub is_started : (x u : ℕ) → x < n → held run x ≡ Some u → start u ≤ x
  pub chosen : (x w : ℕ) → x < n → able w x ≡ true → had period start run w x < budget w
      → (u : ℕ) × (held run x ≡ Some u) × (had period start run u x < budget u)
      × (ends period start u x + tie w u ≤ ends period start w x)

-- those that are steady are able from their start on
abbrev pub SteadyAreAble : (ℕ → ℕ) → (ℕ → Bool) → (ℕ → ℕ → Bool) → (ℕ → Bool) → Type 0
SteadyAreAble start on able steady = (u x : ℕ) → on u ≡ true → steady u ≡ true → start u ≤ x → able u x ≡ true

module _ {tie : ℕ → ℕ → ℕ} {m n : ℕ} {period budget start : ℕ → ℕ} {on : ℕ → Bool} {able : ℕ → ℕ → Bool}
    {run : List (Option ℕ)} (serves : ServesByDeadline tie m n period budget start on able run) where
  -- the slots from r on and before x that u has
  abbrev pub got : ℕ → ℕ → ℕ → ℕ
  got u r x = count_between (λ y. holds (held run y) u) r x

  -- u holds slot x on level 0, in a period that ends by d
  abbrev pub urgent : ℕ → ℕ → ℕ → Bool
  urgent d u x =
      holds (held run x) u && (nat_lt (had period start run u x) (budget u) && nat_le (ends period start u x) d)

  abbrev pub urgent_of : ℕ → ℕ → ℕ → ℕ → ℕ
  urgent_of d u a c = count_between (urgent d u) a c

  pub record IsUrgent (d u x : ℕ) : Type 0 where
    pub holder : held run x ≡ Some u
    pub has_budget : had period start run u x < budget u
    pub in_time : ends period start u x ≤ d

  pub urgent_is : (d u x : ℕ) → urgent d u x ≡ true → IsUrgent d u x
  urgent_is d u x e =
      let p
      = and_parts (holds (held run x) u)
      (nat_lt (had period start run u x) (budget u) && nat_le (ends period start u x) d) e in
      let q = and_parts (nat_lt (had period start run u x) (budget u)) (nat_le (ends period start u x) d) p.1 in
      record { holder = holds-is (held run x) u p.0; has_budget = ltb-true _ _ q.0; in_time = leb-true _ _ q.1 }

  pub urgent_from : (d u x : ℕ) → IsUrgent d u x → urgent d u x ≡ true
  urgent_from d u x h =
      and_from (holds (held run x) u) (nat_lt (had period start run u x) (budget u) && nat_le (ends period start u x) d)
      (holds-some (held run x) u h.holder)
      (and_from (nat_lt (had period start run u x) (budget u)) (nat_le (ends period start u x) d)
      (lt-ltb _ _ h.has_budget) (le-leb _ _ h.in_time))

  not_urgent : (d u x : ℕ) → (IsUrgent d u x → ⊥) → urgent d u x ≡ false
  not_urgent d u x no_one = elim (cases_Bool (urgent d u x)) [ inr e ↦ e | inl e ↦ absurd (no_one (urgent_is d u x e)) ]

  pub some_period : (u : ℕ) → on u ≡ true → 1 ≤ period u
  some_period u o = omega (arith, serves.some_budget u o, serves.in_period u o)

  -- a slot of period k
  pub number_at : (u k x : ℕ) → begins (period u) (start u) k ≤ x → x < begins (period u) (start u) k + period u
      → period_number (period u) (start u) x ≡ k
  number_at u k x l h =
      quotient_is k (period u) (x - begins (period u) (start u) k) (x - start u) (omega arith) (omega arith)

  pub had_at : (u k x : ℕ) → begins (period u) (start u) k ≤ x → x < begins (period u) (start u) k + period u
      → had period start run u x ≡ got u (begins (period u) (start u) k) x
  had_at u k x l h = ap (λ (q : ℕ). got u (begins (period u) (start u) q) x) (number_at u k x l h)

  pub ends_at : (u k x : ℕ) → begins (period u) (start u) k ≤ x → x < begins (period u) (start u) k + period u
      → ends period start u x ≡ begins (period u) (start u) (suc k)
  ends_at u k x l h = ap (λ (q : ℕ). begins (period u) (start u) (suc q)) (number_at u k x l h)

  -- in one period no more than its budget, and less where it had some before
  capped : (d u k a c : ℕ) → begins (period u) (start u) k ≤ a → a ≤ c → c ≤ begins (period u) (start u) k + period u →
      urgent_of d u a c + min (got u (begins (period u) (start u) k) a) (budget u)
      ≤ min (got u (begins (period u) (start u) k) c) (budget u)
  capped d u k a c l i h =
      between_capped (urgent d u) (λ y. holds (held run y) u) (budget u) (begins (period u) (start u) k) a c l i
      (λ x lo hi e. let w : IsUrgent d u x = urgent_is d u x e in
      (holds-some (held run x) u w.holder, omega (arith, w.has_budget, had_at u k x (omega arith) (omega arith))))

  one_period : (d u k : ℕ)
      → urgent_of d u (begins (period u) (start u) k) (begins (period u) (start u) (suc k)) ≤ budget u
  one_period d u k =
      omega (
        arith,
        capped d u k (begins (period u) (start u) k) (begins (period u) (start u) (suc k)) (omega arith) (omega arith)
            (omega arith),
      )

  -- in whole periods
  whole_periods : (d u k i : ℕ)
      → urgent_of d u (begins (period u) (start u) k) (begins (period u) (start u) (k + i)) ≤ i * budget u
  whole_periods d u k zero =
      let e : begins (period u) (start u) (k + 0) ≡ begins (period u) (start u) k = omega arith in
      omega (
        arith,
        between_none (urgent d u) (begins (period u) (start u) k) (begins (period u) (start u) (k + 0)) (omega arith),
      )
  whole_periods d u k (suc i) =
      let e : begins (period u) (start u) (suc (k + i)) ≡ begins (period u) (start u) (k + suc i) = omega arith in
      omega (
        arith,
        whole_periods d u k i,
        one_period d u (k + i),
        between_split (urgent d u) (begins (period u) (start u) k) (begins (period u) (start u) (k + i))
            (begins (period u) (start u) (k + suc i)) (omega arith) (omega arith),
        ap (λ (z : ℕ). urgent_of d u (begins (period u) (start u) (k + i)) z) e,
      )

  -- a period ends behind each of its slots
  pub ends_later : (u x : ℕ) → on u ≡ true → start u ≤ x → x < ends period start u x
  ends_later u x o l = let p : 1 ≤ period u = some_period u o in omega arith

  -- behind the last period that ends by d there is nothing
  behind : (d u k a : ℕ) → begins (period u) (start u) k ≤ a → d < begins (period u) (start u) (suc k)
      → urgent_of d u a d ≡ 0
  behind d u k a l h =
      between_zero (urgent d u) a d
      (λ x i j. not_urgent d u x (λ w. omega (arith, w.in_time, ends_at u k x (omega arith) (omega arith))))

  -- nor before the start
  early_none : (d u a c : ℕ) → c ≤ start u → c ≤ n → urgent_of d u a c ≡ 0
  early_none d u a c l h =
      between_zero (urgent d u) a c
      (λ x i j. not_urgent d u x (λ w. omega (arith, serves.is_started x u (omega arith) w.holder)))

  -- nor from the moment on by which the period must end
  pub past_due : (d u a c : ℕ) → on u ≡ true → d ≤ a → c ≤ n → urgent_of d u a c ≡ 0
  past_due d u a c o l h =
      between_zero (urgent d u) a c (λ x i j. not_urgent d u x (λ w. omega
      (arith, w.in_time, ends_later u x o (omega (arith, serves.is_started x u (omega arith) w.holder)))))

  -- from the begin of a period on
  from_begin : (d u k : ℕ) → on u ≡ true → begins (period u) (start u) k ≤ d
      → urgent_of d u (begins (period u) (start u) k) d ≤ ((d - begins (period u) (start u) k) / period u) * budget u
  from_begin d u k o l =
      let P : ℕ = period u in
      let p : 1 ≤ P = some_period u o in
      let q : ℕ = (d - begins P (start u) k) / P in
      let last : begins P (start u) (k + q) ≤ d = omega arith in
      let next : d < begins P (start u) (suc (k + q)) = omega arith in
      omega (
        arith,
        whole_periods d u k q,
        behind d u (k + q) (begins P (start u) (k + q)) (omega arith) next,
        between_split (urgent d u) (begins P (start u) k) (begins P (start u) (k + q)) d (omega arith) last,
      )

  -- the first period of u that begins at or behind a, and what u has before it
  pub record Head (steady : Bool) (d a u : ℕ) : Type 0 where
    number : ℕ
    rest : ℕ
    carried : ℕ
    at : begins (period u) (start u) number ≡ a + rest
    first : (i : ℕ) → a ≤ begins (period u) (start u) i → number ≤ i
    fits : (b : ℕ) → carried + (b / period u) * budget u ≤ demand_of steady (period u) (budget u) (rest + b)
    early : a + rest ≤ d → urgent_of d u a (a + rest) ≤ carried
    late : d < a + rest → urgent_of d u a d ≡ 0

  -- one that is steady has had its budget when the window begins, if its period ends by d
  abbrev pub Quiet : Bool → ℕ → ℕ → ℕ → Type 0
  Quiet steady d a u =
      (x : ℕ) → suc x ≡ a → steady ≡ true → start u ≤ x → ends period start u x ≤ d
      → budget u ≤ had period start run u x

  head_later : (steady : Bool) (d a u : ℕ) → d ≤ n → on u ≡ true → a ≤ start u → Head steady d a u
  head_later steady d a u l o h = record {
    number = 0;
    rest = start u - a;
    carried = 0;
    at = omega arith;
    first = λ i k. omega arith;
    fits = λ b. omega (arith, whole_fits steady (period u) (budget u) (start u - a) b (some_period u o));
    early = λ k. omega (arith, early_none d u a (a + (start u - a)) (omega arith) (omega arith));
    late = λ k. early_none d u a d (omega arith) l;
  }

  -- what it has of the period that is under way
  carries : (steady : Bool) (d a u k x : ℕ) → Quiet steady d a u → suc x ≡ a → start u ≤ x
      → begins (period u) (start u) k ≤ x → x < begins (period u) (start u) k + period u
      → begins (period u) (start u) (suc k) ≤ d →
      urgent_of d u a (begins (period u) (start u) (suc k))
      ≤ carry steady (budget u) (begins (period u) (start u) (suc k) - a)
  carries true d a u k x quiet e s l h i =
      let r : ℕ = begins (period u) (start u) k in
      let end : ℕ = begins (period u) (start u) (suc k) in
      let full : budget u ≤ had period start run u x = quiet x e refl s (omega (arith, ends_at u k x l h)) in
      omega (
        arith,
        full,
        had_at u k x l h,
        between_split (λ y. holds (held run y) u) r x a l (omega arith),
        capped d u k a end (omega arith) (omega arith) (omega arith),
      )
  carries false d a u k x quiet e s l h i =
      let end : ℕ = begins (period u) (start u) (suc k) in
      omega (arith, capped d u k a end (omega arith) (omega arith) (omega arith), between_at_most (urgent d u) a end)

  head_under_way : (steady : Bool) (d a u x : ℕ) → on u ≡ true → Quiet steady d a u → suc x ≡ a → start u ≤ x
      → Head steady d a u
  head_under_way steady d a u x o quiet e s =
      let P : ℕ = period u in
      let f : ℕ = start u in
      let p : 1 ≤ P = some_period u o in
      let k : ℕ = (x - f) / P in
      let lo : begins P f k ≤ x = omega arith in
      let hi : x < begins P f k + P = omega arith in
      let end : ℕ = begins P f (suc k) in
      let rest : ℕ = end - a in
      let at : end ≡ a + rest = omega arith in
      record {
        number = suc k;
        rest = rest;
        carried = carry steady (budget u) rest;
        at = at;
        first = λ i h. elim (cases_lt k i) [ inl q ↦ q | inr q ↦ absurd (omega (arith, mul-le-mul_right P q)) ];
        fits = λ b. demand_fits steady P (budget u) rest b p (omega arith);
        early =
            λ h. subst (λ (z : ℕ). urgent_of d u a z ≤ carry steady (budget u) rest) at
            (carries steady d a u k x quiet e s lo hi (omega arith));
        late = λ h. behind d u k a (omega arith) (omega arith);
      }

  pub head : (steady : Bool) (d a u : ℕ) → d ≤ n → on u ≡ true → Quiet steady d a u → Head steady d a u
  head steady d a u l o quiet = elim (cases_lt (start u) a) [
    | inr h ↦ head_later steady d a u l o h
    | inl h ↦ head_under_way steady d a u (a - 1) o quiet (omega arith) (omega arith)
  ]

  -- so it has no more than it asks for
  pub asks : (steady : Bool) (d a u : ℕ) → on u ≡ true → a ≤ d → Head steady d a u
      → urgent_of d u a d ≤ demand_of steady (period u) (budget u) (d - a)
  asks steady d a u o l h = elim (cases_lt d (a + h.rest)) [
    | inl q ↦ omega (arith, h.late q)
    | inr q ↦
        let e : h.rest + (d - (a + h.rest)) ≡ d - a = omega arith in
        let tail : urgent_of d u (a + h.rest) d ≤ ((d - (a + h.rest)) / period u) * budget u
        = subst (λ (z : ℕ). urgent_of d u z d ≤ ((d - z) / period u) * budget u) h.at
        (from_begin d u h.number o (omega (arith, h.at))) in
        subst (λ (z : ℕ). urgent_of d u a d ≤ demand_of steady (period u) (budget u) z) e
        (omega (
          arith,
          h.early q,
          tail,
          h.fits (d - (a + h.rest)),
          between_split (urgent d u) a (a + h.rest) d (omega arith) q,
        ))
  ]

  -- and less where a period that ends at d has less than the budget
  pub lacks : (steady : Bool) (d a u k : ℕ) → on u ≡ true → d ≡ begins (period u) (start u) (suc k)
      → a ≤ begins (period u) (start u) k → got u (begins (period u) (start u) k) d < budget u → Head steady d a u →
      urgent_of d u a d + 1 ≤ demand_of steady (period u) (budget u) (d - a)
  lacks steady d a u k o end l short h =
      let P : ℕ = period u in
      let f : ℕ = start u in
      let j : ℕ = h.number in
      let before : j ≤ k = h.first k l in
      let i : ℕ = k - j in
      let ki : k ≡ j + i = omega (arith, before) in
      let r : ℕ = begins P f k in
      let r_is : begins P f (j + i) ≡ r = ap (begins P f) (sym ki) in
      let mid : a + h.rest ≤ r = omega (arith, h.at, mul-le-mul_right P before) in
      let times : k * P ≡ j * P + i * P
      = ap (λ (z : ℕ). z * P) ki ∙ (let q : (j + i) * P ≡ j * P + i * P = omega arith in q) in
      let quotient : (d - (a + h.rest)) / P ≡ suc i
      = quotient_is (suc i) P 0 (d - (a + h.rest)) (some_period u o) (omega (arith, h.at)) in
      let whole : urgent_of d u (a + h.rest) r ≤ i * budget u
      = subst (λ (z : ℕ). urgent_of d u z r ≤ i * budget u) h.at
      (subst (λ (z : ℕ). urgent_of d u (begins P f j) z ≤ i * budget u) r_is (whole_periods d u j i)) in
      let last : urgent_of d u r d ≤ got u r d
      = between_le (urgent d u) (λ y. holds (held run y) u) r d
      (λ x lo hi e. holds-some (held run x) u (urgent_is d u x e).holder) in
      let e : h.rest + (d - (a + h.rest)) ≡ d - a = omega arith in
      let times_budget : ((d - (a + h.rest)) / P) * budget u ≡ suc i * budget u
      = ap (λ (z : ℕ). z * budget u) quotient in
      subst (λ (z : ℕ). urgent_of d u a d + 1 ≤ demand_of steady P (budget u) z) e
      (omega (
        arith,
        h.early (omega arith),
        whole,
        last,
        short,
        times_budget,
        h.fits (d - (a + h.rest)),
        between_split (urgent d u) a (a + h.rest) d (omega arith) (omega arith),
        between_split (urgent d u) (a + h.rest) r d mid (omega arith),
      ))

  -- the last moment by which a period of u may end that goes before one of v that ends at d
  abbrev due : ℕ → ℕ → ℕ → ℕ
  due d v u = d - tie v u

  -- what u has in a window up to d is what it has up to there
  asks_by : (steady : Bool) (d v a u : ℕ) → d ≤ n → 1 ≤ d → a ≤ d → on u ≡ true → Quiet steady (due d v u) a u
      → urgent_of (due d v u) u a d ≤ demand_of steady (period u) (budget u) (d - a - tie v u)
  asks_by steady d v a u l some al o quiet = elim (cases_lt (due d v u) a) [
    | inl q ↦
        let none : urgent_of (due d v u) u a d ≡ 0 = past_due (due d v u) u a d o (omega arith) l in
        omega arith
    | inr q ↦
        let e : due d v u - a ≡ d - a - tie v u = omega (arith, serves.tie_few v u) in
        subst (λ (z : ℕ). urgent_of (due d v u) u a d ≤ demand_of steady (period u) (budget u) z) e
        (omega (
          arith,
          asks steady (due d v u) a u o q (head steady (due d v u) a u (omega arith) o quiet),
          past_due (due d v u) u (due d v u) d o (omega arith) l,
          between_split (urgent (due d v u) u) a (due d v u) d q (omega arith),
        ))
  ]

  -- whether a slot is urgent
  abbrev SomeUrgent : ℕ → ℕ → ℕ → Type 0
  SomeUrgent d v x = (u : ℕ) × IsUrgent (due d v u) u x

  some_urgent : (d v x : ℕ) → SomeUrgent d v x ⊎ (SomeUrgent d v x → ⊥)
  some_urgent d v x = go (held run x) refl
    where
      go : (o : Option ℕ) → held run x ≡ o → SomeUrgent d v x ⊎ (SomeUrgent d v x → ⊥)
      go None e = inr (λ w. none_some (held run x) w.0 e w.1.holder)
      go (Some u) e = elim (cases_Bool (urgent (due d v u) u x)) [
        | inl b ↦ inl (u, urgent_is (due d v u) u x b)
        | inr b ↦ inr (λ w.
            let same : w.0 ≡ u = same_Some w.0 u (sym w.1.holder ∙ e) in
            both_ways _ b (subst (λ (z : ℕ). urgent (due d v z) z x ≡ true) same (urgent_from (due d v w.0) w.0 x w.1)))
      ]

  -- one with budget left that is able makes its slot urgent
  makes_urgent : (d v x w : ℕ) → x < n → able w x ≡ true → had period start run w x < budget w
      → ends period start w x + tie v w ≤ d → SomeUrgent d v x
  makes_urgent d v x w l a h e =
      let c : (u : ℕ) × (held run x ≡ Some u) × (had period start run u x < budget u)
      × (ends period start u x + tie w u ≤ ends period start w x)
      = serves.chosen x w l a h in
      (c.0, record { holder = c.1; has_budget = c.2; in_time = omega (arith, c.3, serves.tie_in_turn v w c.0) })

  -- what the VCPUs that are on ask for, and what they ask for of a window in which v lacks some of
  -- its budget
  abbrev asked : ℕ → (ℕ → Bool) → ℕ → ℕ → ℕ
  asked v steady t u = cond (on u) (demand_of (steady u) (period u) (budget u) (t - tie v u)) 0

  abbrev asked_at_last : ℕ → ℕ → ℕ → ℕ
  asked_at_last v t u = cond (on u) (last_demand tie v u (period u) (budget u) t) 0

  -- a window of t slots up to d, that all are urgent, asks for more than t
  module _ (v k : ℕ) (in_m : v < m) (o : on v ≡ true) (in_run : begins (period v) (start v) (suc k) ≤ n)
      (short : got v (begins (period v) (start v) k) (begins (period v) (start v) (suc k)) < budget v) where
    abbrev r : ℕ
    r = begins (period v) (start v) k

    abbrev d : ℕ
    d = begins (period v) (start v) (suc k)

    record Busy (a : ℕ) : Type 0 where
      before : a ≤ d
      each : (x : ℕ) → a ≤ x → x < d → SomeUrgent d v x

    counted : (a : ℕ) → Busy a → d ≤ a + sum_below (λ u. urgent_of (due d v u) u a d) m
    counted a h = all_counted (λ u. urgent (due d v u) u) m a d h.before
        (λ x l i. let s : SomeUrgent d v x
        = h.each x l i in
        (s.0, serves.of_core x s.0 (omega arith) s.1.holder, urgent_from (due d v s.0) s.0 x s.1))

    some_end : 1 ≤ d
    some_end = omega (arith, some_period v o)

    due_itself : due d v v ≡ d
    due_itself = omega (arith, serves.tie_itself v)

    -- what v itself has in a window that begins by its period
    itself : (steady : Bool) (a : ℕ) → a ≤ r → Quiet steady d a v
        → urgent_of (due d v v) v a d + 1 ≤ demand_of steady (period v) (budget v) (d - a - tie v v)
    itself steady a l quiet =
        let e : d - a ≡ d - a - tie v v = omega (arith, serves.tie_itself v) in
        subst (λ (z : ℕ). urgent_of z v a d + 1 ≤ demand_of steady (period v) (budget v) (d - a - tie v v))
        (sym due_itself)
        (subst (λ (z : ℕ). urgent_of d v a d + 1 ≤ demand_of steady (period v) (budget v) z) e
        (lacks steady d a v k o refl l short (head steady d a v in_run o quiet)))

    -- and in one that begins in it
    itself_late : (a : ℕ) → r ≤ a → a ≤ d → urgent_of (due d v v) v a d + 1 ≤ budget v
    itself_late a l h =
        omega (
          arith,
          short,
          between_le (urgent (due d v v) v) (λ y. holds (held run y) v) a d
              (λ x lo hi e. holds-some (held run x) v (urgent_is (due d v v) v x e).holder),
          between_split (λ y. holds (held run y) v) r a d l h,
        )

    off : (a u : ℕ) → on u ≡ false → urgent_of (due d v u) u a d ≡ 0
    off a u b =
        between_zero (urgent (due d v u) u) a d
        (λ x lo hi. not_urgent (due d v u) u x (λ z. both_ways _ b (serves.is_on x u (omega arith) z.holder)))

    -- the whole of a busy window, before which those that are steady have had their budgets
    whole_window : (steady : ℕ → Bool) (a : ℕ) → a ≤ r → Busy a
        → ((u : ℕ) → on u ≡ true → Quiet (steady u) (due d v u) a u) → d - a < sum_below (asked v steady (d - a)) m
    whole_window steady a l busy quiet =
        let bound : (u : ℕ) → u < m → urgent_of (due d v u) u a d ≤ asked v steady (d - a) u
        = λ u _. elim (cases_Bool (on u)) [
          | inl b ↦
              omega (
                arith,
                asks_by (steady u) d v a u in_run some_end (omega arith) b (quiet u b),
                cond-true {A = ℕ} (on u) (demand_of (steady u) (period u) (budget u) (d - a - tie v u)) 0 b,
              )
          | inr b ↦ omega (arith, off a u b)
        ] in
        let less : urgent_of (due d v v) v a d + 1 ≤ asked v steady (d - a) v
        = omega (
          arith,
          itself (steady v) a l (subst (λ (z : ℕ). Quiet (steady v) z a v) due_itself (quiet v o)),
          cond-true {A = ℕ} (on v) (demand_of (steady v) (period v) (budget v) (d - a - tie v v)) 0 o,
        ) in
        omega (
          arith,
          counted a busy,
          sum_below-lt (λ u. urgent_of (due d v u) u a d) (asked v steady (d - a)) v m 1 bound in_m less,
        )

    -- any window at the end of a busy one
    last_window : (a : ℕ) → Busy a → d - a < sum_below (asked_at_last v (d - a)) m
    last_window a busy =
        let bound : (u : ℕ) → u < m → urgent_of (due d v u) u a d ≤ asked_at_last v (d - a) u
        = λ u _. elim (cases_Bool (on u)) [
          | inl b ↦
              omega (
                arith,
                asks_by false d v a u in_run some_end busy.before b (λ x e q s h. absurd (false≢true q)),
                last_demand-least tie v u (period u) (budget u) (d - a),
                cond-true {A = ℕ} (on u) (last_demand tie v u (period u) (budget u) (d - a)) 0 b,
              )
          | inr b ↦ omega (arith, off a u b)
        ] in
        let less : urgent_of (due d v v) v a d + 1 ≤ asked_at_last v (d - a) v = elim (cases_lt r a) [
          | inl l ↦
              omega (
                arith,
                itself_late a (omega arith) busy.before,
                last_demand-own tie v (period v) (budget v) (d - a),
                cond-true {A = ℕ} (on v) (last_demand tie v v (period v) (budget v) (d - a)) 0 o,
              )
          | inr l ↦
              omega (
                arith,
                itself false a l (λ x e q s h. absurd (false≢true q)),
                last_demand-least tie v v (period v) (budget v) (d - a),
                cond-true {A = ℕ} (on v) (last_demand tie v v (period v) (budget v) (d - a)) 0 o,
              )
        ] in
        omega (
          arith,
          counted a busy,
          sum_below-lt (λ u. urgent_of (due d v u) u a d) (asked_at_last v (d - a)) v m 1 bound in_m less,
        )

  -- where so many slots at the end of a period of v are enough for all, whatever they did before, v
  -- has its budget in each period in whose last slots, as many, it is able
  pub has_budget_late : (v k t : ℕ) → v < m → on v ≡ true → begins (period v) (start v) (suc k) ≤ n → t ≤ period v →
      ((x : ℕ) → begins (period v) (start v) (suc k) ≤ x + t → x < begins (period v) (start v) (suc k)
      → able v x ≡ true) →
      sum_below (asked_at_last v t) m ≤ t →
      budget v ≤ got v (begins (period v) (start v) k) (begins (period v) (start v) (suc k))
  has_budget_late v k t in_m o in_run within awake enough =
      let r : ℕ = begins (period v) (start v) k in
      let d : ℕ = begins (period v) (start v) (suc k) in
      elim (cases_lt (got v r d) (budget v)) [
        | inr h ↦ h
        | inl short ↦
            let urgent_there : (x : ℕ) → d - t ≤ x → x < d → SomeUrgent d v x = λ x l h.
            makes_urgent d v x v (omega arith) (awake x (omega arith) h)
            (omega (
              arith,
              had_at v k x (omega arith) (omega arith),
              short,
              between_split (λ y. holds (held run y) v) r x d (omega arith) (omega arith),
            ))
            (omega (arith, ends_at v k x (omega arith) (omega arith), serves.tie_itself v))
            in
            let e : d - (d - t) ≡ t = omega arith in
            let more : d - (d - t) < sum_below (asked_at_last v (d - (d - t))) m
            = last_window v k in_m o in_run short (d - t) (record { before = omega arith; each = urgent_there }) in
            absurd (omega (arith, enough, subst (λ (z : ℕ). z < sum_below (asked_at_last v z) m) e more))
      ]

  -- what decides for v: from its period on no number of slots is too few for all, up to one that is
  -- enough for all whatever they do
  abbrev Enough : (ℕ → Bool) → ℕ → Type 0
  Enough steady v =
      (t : ℕ) → period v ≤ t
      → (sum_below (asked v steady t) m ≤ t) ⊎ ((s : ℕ) × (s ≤ t) × (sum_below (asked_at_last v s) m ≤ s))

  -- then it has its budget in each period in which it is able throughout
  pub has_budget_in : (steady : ℕ → Bool) → SteadyAreAble start on able steady → (v k : ℕ) → v < m → on v ≡ true
      → begins (period v) (start v) (suc k) ≤ n →
      ((x : ℕ) → begins (period v) (start v) k ≤ x → x < begins (period v) (start v) (suc k) → able v x ≡ true) →
      Enough steady v →
      budget v ≤ got v (begins (period v) (start v) k) (begins (period v) (start v) (suc k))
  has_budget_in steady are v k in_m o in_run awake test =
      let r : ℕ = begins (period v) (start v) k in
      let d : ℕ = begins (period v) (start v) (suc k) in
      elim (cases_lt (got v r d) (budget v)) [
        | inr h ↦ h
        | inl short ↦
            let in_period : (x : ℕ) → r ≤ x → x < d → SomeUrgent d v x = λ x l h.
            makes_urgent d v x v (omega arith) (awake x l h) (omega (
              arith,
              had_at v k x l (omega arith),
              short,
              between_split (λ y. holds (held run y) v) r x d l (omega arith),
            ))
            (omega (arith, ends_at v k x l (omega arith), serves.tie_itself v))
            in
            let w : (a : ℕ) × (a ≤ r) × ((y : ℕ) → a ≤ y → y < r → SomeUrgent d v y)
            × ((y : ℕ) → suc y ≡ a → SomeUrgent d v y → ⊥)
            = back_to (SomeUrgent d v) (some_urgent d v) r in
            let a : ℕ = w.0 in
            let al : a ≤ r = w.1 in
            let each : (x : ℕ) → a ≤ x → x < d → SomeUrgent d v x
            = λ x l h. elim (cases_lt x r) [ inl q ↦ w.2 x l q | inr q ↦ in_period x q h ] in
            let quiet : (u : ℕ) → on u ≡ true → Quiet (steady u) (due d v u) a u
            = λ u ou x e su s h. elim (cases_lt (had period start run u x) (budget u)) [
              | inr q ↦ q
              | inl q ↦
                  absurd (w.3 x e (makes_urgent d v x u (omega arith) (are u x ou su s) q
                  (omega (arith, h, serves.tie_few v u, some_period v o))))
            ] in
            elim (test (d - a) (omega arith)) [
              | inl fits ↦
                  absurd (omega (
                    arith,
                    fits,
                    whole_window v k in_m o in_run short steady a al
                        (record { before = omega arith; each = each }) quiet,
                  ))
              | inr c ↦
                  let e : d - (d - c.0) ≡ c.0 = omega (arith, c.1) in
                  let more : d - (d - c.0) < sum_below (asked_at_last v (d - (d - c.0))) m
                  = last_window v k in_m o in_run short (d - c.0)
                  (record { before = omega arith; each = λ x l h. each x (omega (arith, c.1)) h }) in
                  absurd (omega (arith, c.2, subst (λ (z : ℕ). z < sum_below (asked_at_last v z) m) e more))
            ]
      ]
