-- Where so many slots at the end of a period of v are enough for all, no more slots of a period are
-- stolen from v than the period has beyond its budget, whenever it is able.
use Rattle.std.proofs.Common.{◌≡◌, ℕ, zero, suc, ◌==◌, ◌+◌, ◌-◌, ◌<◌, ◌≤◌, Bool, true, false, not, cond, ◌&&◌, ◌||◌, List, Option, Some, refl, ◌∙◌, ap, arith, subst, inl, inr, eq-eqb, eqb-true}
use Rattle.std.proofs.lemmas.Bool.{cases_lt, cases_Bool, cond-true, cond-false, and_parts, and_from, both_ways, false≢true, not-true}
use Rattle.slot_model.specs.Slots.{sum_below}
use Rattle.slot_model.specs.Run.{held, holds}
use Rattle.slot_model.proofs.Sums.{cond_at_most_one, sum_below-same, sum_below-add, sum_below-lt, get-le-sum_below}
use Rattle.trace_file.specs.Periods.{begins, count_between}
use Rattle.trace_file.proofs.Counting.{between_none}
use Rattle.rtds_model.proofs.Counts.{between_suc, between_split, between_at_most, between_zero, between_le}
use Rattle.rtds_model.proofs.Demands.{demand_of}
use Rattle.rtds_model.proofs.Windows.{ServesByDeadline, holds-some, had, ends, urgent, urgent_is, urgent_from, some_period, had_at, ends_at, past_due, head, asks}
use Rattle.isolation.specs.Demand.{asked_of}
use Rattle.isolation.proofs.Asked.{of_another, asked-own}
use Rattle.halting.proofs.Counted.{disjoint}

-- where each that passes also passes one of m tests, they count it
covered : (p : ℕ → Bool) (q : ℕ → ℕ → Bool) (m a c : ℕ)
    → ((x : ℕ) → a ≤ x → x < c → p x ≡ true → (u : ℕ) × (u < m) × (q u x ≡ true))
    → count_between p a c ≤ sum_below (λ u. count_between (q u) a c) m
covered p q m a zero h = omega (arith, between_none p a 0 (omega arith))
covered p q m a (suc c) h = elim (cases_lt c a) [
  | inl l ↦ omega (arith, between_none p a (suc c) (omega arith))
  | inr l ↦
      let past : count_between p a c ≤ sum_below (λ u. count_between (q u) a c) m
      = covered p q m a c (λ x i j. h x i (omega arith)) in
      let same : sum_below (λ u. count_between (q u) a (suc c)) m
      ≡ sum_below (λ u. count_between (q u) a c + cond (q u c) 1 0) m
      = sum_below-same (λ u. count_between (q u) a (suc c)) (λ u. count_between (q u) a c + cond (q u c) 1 0) m
      (λ u k. between_suc (q u) a c l) in
      let added : sum_below (λ u. count_between (q u) a c + cond (q u c) 1 0) m
      ≡ sum_below (λ u. count_between (q u) a c) m + sum_below (λ u. cond (q u c) 1 0) m
      = sum_below-add (λ u. count_between (q u) a c) (λ u. cond (q u c) 1 0) m in
      elim (cases_Bool (p c)) [
        | inl b ↦
            let w : (u : ℕ) × (u < m) × (q u c ≡ true) = h c l (omega arith) b in
            omega (
              arith,
              past,
              same,
              added,
              between_suc p a c l,
              cond_at_most_one (p c),
              get-le-sum_below (λ u. cond (q u c) 1 0) w.0 m w.1,
              cond-true {A = ℕ} (q w.0 c) 1 0 w.2,
            )
        | inr b ↦ omega (arith, past, same, added, between_suc p a c l, cond-false {A = ℕ} (p c) 1 0 b)
      ]
]

-- two tests of which none passes both count no more than all
apart : (p q : ℕ → Bool) (a c : ℕ) → ((x : ℕ) → q x ≡ true → p x ≡ false)
    → count_between p a c + count_between q a c ≤ c - a
apart p q a c h =
    omega (arith, disjoint p q a c (λ x lo hi e. h x e), between_at_most (λ x. p x || q x) a c)

and_none : (b : Bool) → (b && false) ≡ false
and_none true = refl
and_none false = refl

module _ {tie : ℕ → ℕ → ℕ} {m n : ℕ} {period budget start : ℕ → ℕ} {on : ℕ → Bool} {able : ℕ → ℕ → Bool}
    {run : List (Option ℕ)} (serves : ServesByDeadline tie m n period budget start on able run) where
  abbrev pressing : ℕ → ℕ → ℕ → Bool
  pressing d u x = urgent serves d u x

  -- v is able and does not have the core
  abbrev pub is_kept_off : ℕ → ℕ → Bool
  is_kept_off v x = able v x && not (holds (held run x) v)

  -- what another has in a window up to d, in periods that go before one that ends at d
  press_few : (d v a u : ℕ) → d ≤ n → 1 ≤ d → a ≤ d → on u ≡ true
      → count_between (pressing (d - tie v u) u) a d
      ≤ demand_of false (period u) (budget u) (d - a - tie v u)
  press_few d v a u l some al o = elim (cases_lt (d - tie v u) a) [
    | inl q ↦
        omega (
          arith,
          past_due serves (d - tie v u) u a d o (omega arith) l,
        )
    | inr q ↦
        let e : d - tie v u - a ≡ d - a - tie v u = omega (arith, serves.tie_few v u) in
        subst (λ (z : ℕ). count_between (pressing (d - tie v u) u) a d ≤ demand_of false (period u) (budget u) z) e
        (omega (
          arith,
          asks serves false (d - tie v u) a u o q
              (head serves false (d - tie v u) a u (omega arith) o
              (λ x e q s h. absurd (false≢true q))),
          past_due serves (d - tie v u) u (d - tie v u) d o (omega arith) l,
          between_split (pressing (d - tie v u) u) a (d - tie v u) d q (omega arith),
        ))
  ]

  -- one of the others has the slot
  abbrev taken : ℕ → ℕ → ℕ → ℕ → Bool
  taken d v u x = not (u == v) && pressing (d - tie v u) u x

  off : (d v u a : ℕ) → d ≤ n → on u ≡ false → count_between (taken d v u) a d ≡ 0
  off d v u a l b = between_zero (taken d v u) a d (λ x lo hi. elim (cases_Bool (taken d v u x)) [
    | inr e ↦ e
    | inl e ↦
        absurd (both_ways _ b (serves.is_on x u (omega arith)
        (urgent_is serves (d - tie v u) u x
        (and_parts (not (u == v)) (pressing (d - tie v u) u x) e).1).holder))
  ])

  itself : (d v u a : ℕ) → (u == v) ≡ true → count_between (taken d v u) a d ≡ 0
  itself d v u a e =
      between_zero (taken d v u) a d (λ x lo hi. ap (λ (b : Bool). not b && pressing (d - tie v u) u x) e)

  -- of a core on which all that are on stand
  module _ (stands : ℕ → Bool) (on_stands : (u : ℕ) → on u ≡ true → stands u ≡ true) (v k t : ℕ) (in_m : v < m)
      (o : on v ≡ true) (in_run : begins (period v) (start v) (suc k) ≤ n) (within : t ≤ period v) where
    abbrev r : ℕ
    r = begins (period v) (start v) k

    abbrev d : ℕ
    d = begins (period v) (start v) (suc k)

    abbrev got : ℕ → ℕ → ℕ
    got a c = count_between (λ y. holds (held run y) v) a c

    abbrev term : ℕ → ℕ
    term u = cond (stands u) (asked_of tie v u (period u) (budget u) t) 0

    -- a slot in which it is kept off, while it has budget left, is taken
    is_taken : got r d < budget v → (x : ℕ) → r ≤ x → x < d → is_kept_off v x ≡ true
        → (u : ℕ) × (u < m) × (taken d v u x ≡ true)
    is_taken short x lo hi e =
        let p = and_parts (able v x) (not (holds (held run x) v)) e in
        let c : (u : ℕ) × (held run x ≡ Some u) × (had period start run u x < budget u)
        × (ends period start u x + tie v u ≤ ends period start v x)
        = serves.chosen x v (omega arith) p.0
        (omega (
          arith,
          short,
          had_at serves v k x lo (omega arith),
          between_split (λ y. holds (held run y) v) r x d lo (omega arith),
        )) in (
          c.0,
          serves.of_core x c.0 (omega arith) c.1,
          and_from (not (c.0 == v)) (pressing (d - tie v c.0) c.0 x)
              (elim (cases_Bool (c.0 == v)) [
                | inr b ↦ ap not b
                | inl b ↦
                    absurd (both_ways _ (not-true (holds (held run x) v) p.1)
                    (holds-some (held run x) v (subst (λ (z : ℕ). held run x ≡ Some z) (eqb-true c.0 v b) c.1)))
              ])
              (urgent_from serves (d - tie v c.0) c.0 x (record {
                holder = c.1;
                has_budget = c.2;
                in_time =
                    omega (
                      arith,
                      c.3,
                      ends_at serves v k x lo (omega arith),
                    );
              })),
        )

    -- what another takes of the last t slots is no more than what is asked of them
    takes_few : (u : ℕ) → count_between (taken d v u) (d - t) d ≤ term u
    takes_few u = elim (cases_Bool (on u)) [
      | inr b ↦ omega (arith, off d v u (d - t) in_run b)
      | inl b ↦ elim (cases_Bool (u == v)) [
        | inl e ↦ omega (arith, itself d v u (d - t) e)
        | inr e ↦
            let rest : d - (d - t) ≡ t = omega (arith, within) in
            omega (
              arith,
              between_le (taken d v u) (pressing (d - tie v u) u) (d - t) d
                  (λ x lo hi q. (and_parts (not (u == v)) (pressing (d - tie v u) u x) q).1),
              subst (λ (z : ℕ). count_between (pressing (d - tie v u) u) (d - t) d
                  ≤ demand_of false (period u) (budget u) (z - tie v u)) rest
                  (press_few d v (d - t) u in_run
                  (omega (arith, some_period serves v o)) (omega arith) b),
              of_another tie v u (period u) (budget u) t e,
              cond-true {A = ℕ} (stands u) (asked_of tie v u (period u) (budget u) t) 0 (on_stands u b),
            )
      ]
    ]

    -- so v is kept off in few of them
    at_last : sum_below term m ≤ t → got r d < budget v → count_between (is_kept_off v) (d - t) d + budget v ≤ t
    at_last enough short =
        let own : count_between (taken d v v) (d - t) d + budget v ≤ term v
        = omega (
          arith,
          itself d v v (d - t) (eq-eqb v v refl),
          asked-own tie v (period v) (budget v) t,
          cond-true {A = ℕ} (stands v) (asked_of tie v v (period v) (budget v) t) 0 (on_stands v o),
        ) in
        omega (
          arith,
          enough,
          covered (is_kept_off v) (taken d v) m (d - t) d (λ x lo hi q. is_taken short x (omega (arith, within)) hi q),
          sum_below-lt (λ u. count_between (taken d v u) (d - t) d) term v m (budget v) (λ u _. takes_few u) in_m own,
        )

    -- and in the whole period
    pub kept_off_few : sum_below term m ≤ t → count_between (is_kept_off v) r d + budget v ≤ period v
    kept_off_few enough = elim (cases_lt (got r d) (budget v)) [
      | inr full ↦
          omega (
            arith,
            full,
            apart (is_kept_off v) (λ y. holds (held run y) v) r d
                (λ x e. ap (λ (b : Bool). able v x && not b) e ∙ and_none (able v x)),
          )
      | inl short ↦
          omega (
            arith,
            within,
            at_last enough short,
            between_at_most (is_kept_off v) r (d - t),
            between_split (is_kept_off v) r (d - t) d (omega (arith, within)) (omega arith),
          )
    ]
