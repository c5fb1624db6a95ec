-- Slots between two moments: counts of those that pass, of several tests together, and of the VCPUs
-- of a run.
use Rattle.std.proofs.Common.{◌≡◌, ◌⊎◌, ℕ, zero, suc, min, leb, ◌+◌, ◌-◌, ◌<◌, ◌≤◌, Bool, true, false, cond, ◌&&◌, List, Option, Some, None, ◌∙◌, ap, arith, subst, inl, inr, le-leb}
use Rattle.std.proofs.lemmas.Bool.{cases_eq, cases_lt, cases_Bool, cond-true, cond-false, lt-leb}
use Rattle.slot_model.specs.Slots.{sum_below}
use Rattle.slot_model.specs.Run.{held, holds}
use Rattle.slot_model.proofs.Sums.{cond_at_most_one, sum_below-same, sum_below-none, sum_below-add, sum_below_one, get-le-sum_below}
use Rattle.trace_file.specs.Periods.{count_between}
use Rattle.trace_file.proofs.Counting.{between_more, between_none}

-- one slot more, from `from` on
pub between_suc : (p : ℕ → Bool) (a c : ℕ) → a ≤ c → count_between p a (suc c) ≡ count_between p a c + cond (p c) 1 0
between_suc p a c l = between_more p a c ∙ ap (λ (b : Bool). count_between p a c + cond (b && p c) 1 0) (le-leb a c l)

pub between_split : (p : ℕ → Bool) (a b c : ℕ) → a ≤ b → b ≤ c
    → count_between p a c ≡ count_between p a b + count_between p b c
between_split p a b zero l m =
    omega (arith, between_none p a 0 (omega arith), between_none p a b (omega arith), between_none p b 0 (omega arith))
between_split p a b (suc c) l m = elim (cases_eq b (suc c)) [
  | inl e ↦ omega (arith, between_none p b (suc c) (omega arith), ap (count_between p a) e)
  | inr ne ↦
      omega
      (arith, between_suc p a c (omega arith), between_suc p b c (omega arith), between_split p a b c l (omega arith))
]

pub between_at_most : (p : ℕ → Bool) (a c : ℕ) → count_between p a c ≤ c - a
between_at_most p a zero = omega (arith, between_none p a 0 (omega arith))
between_at_most p a (suc c) = elim (cases_lt c a) [
  | inl l ↦ omega (arith, between_none p a (suc c) (omega arith))
  | inr l ↦ omega (arith, between_suc p a c l, between_at_most p a c, cond_at_most_one (p c))
]

-- no slot passes
pub between_zero : (p : ℕ → Bool) (a c : ℕ) → ((x : ℕ) → a ≤ x → x < c → p x ≡ false) → count_between p a c ≡ 0
between_zero p a zero h = between_none p a 0 (omega arith)
between_zero p a (suc c) h = elim (cases_lt c a) [
  | inl l ↦ between_none p a (suc c) (omega arith)
  | inr l ↦
      omega (
        arith,
        between_suc p a c l,
        between_zero p a c (λ x i j. h x i (omega arith)),
        cond-false {A = ℕ} (p c) 1 0 (h c l (omega arith)),
      )
]

pub between_le : (p q : ℕ → Bool) (a c : ℕ) → ((x : ℕ) → a ≤ x → x < c → p x ≡ true → q x ≡ true)
    → count_between p a c ≤ count_between q a c
between_le p q a zero h = omega (arith, between_none p a 0 (omega arith))
between_le p q a (suc c) h = elim (cases_lt c a) [
  | inl l ↦ omega (arith, between_none p a (suc c) (omega arith))
  | inr l ↦
      let before : count_between p a c ≤ count_between q a c = between_le p q a c (λ x i j. h x i (omega arith)) in
      let one : cond {A = ℕ} (p c) 1 0 ≤ cond {A = ℕ} (q c) 1 0
      = elim (cases_Bool (p c)) [
        | inl b ↦ omega (arith, cond_at_most_one (p c), cond-true {A = ℕ} (q c) 1 0 (h c l (omega arith) b))
        | inr b ↦ omega (arith, cond-false {A = ℕ} (p c) 1 0 b)
      ] in
      omega (arith, before, one, between_suc p a c l, between_suc q a c l)
]

-- slots that pass p only while fewer than B passed q from r on, and q too
pub between_capped : (p q : ℕ → Bool) (B r a c : ℕ) → r ≤ a → a ≤ c
    → ((x : ℕ) → a ≤ x → x < c → p x ≡ true → (q x ≡ true) × (count_between q r x < B))
    → count_between p a c + min (count_between q r a) B ≤ min (count_between q r c) B
between_capped p q B r a zero l m h = omega (arith, between_none p a 0 (omega arith), between_none q r a (omega arith))
between_capped p q B r a (suc c) l m h = elim (cases_eq a (suc c)) [
  | inl e ↦ omega (arith, between_none p a (suc c) (omega arith), ap (count_between q r) e)
  | inr ne ↦
      let past : count_between p a c + min (count_between q r a) B ≤ min (count_between q r c) B
      = between_capped p q B r a c l (omega arith) (λ x i j. h x i (omega arith)) in
      elim (cases_Bool (p c)) [
        | inl b ↦
            let w : (q c ≡ true) × (count_between q r c < B) = h c (omega arith) (omega arith) b in
            omega (
              arith,
              past,
              w.1,
              between_suc p a c (omega arith),
              between_suc q r c (omega arith),
              cond_at_most_one (p c),
              cond-true {A = ℕ} (q c) 1 0 w.0,
            )
        | inr b ↦
            omega (
              arith,
              past,
              between_suc p a c (omega arith),
              between_suc q r c (omega arith),
              cond-false {A = ℕ} (p c) 1 0 b,
            )
      ]
]

-- where at each slot one of m tests passes, they count all slots
pub all_counted : (p : ℕ → ℕ → Bool) (m a c : ℕ) → a ≤ c
    → ((x : ℕ) → a ≤ x → x < c → (u : ℕ) × (u < m) × (p u x ≡ true))
    → c ≤ a + sum_below (λ u. count_between (p u) a c) m
all_counted p m a zero l h = omega arith
all_counted p m a (suc c) l h = elim (cases_eq a (suc c)) [
  | inl e ↦ omega arith
  | inr ne ↦
      let w : (u : ℕ) × (u < m) × (p u c ≡ true) = h c (omega arith) (omega arith) in
      omega (
        arith,
        all_counted p m a c (omega arith) (λ x i j. h x i (omega arith)),
        sum_below-same (λ u. count_between (p u) a (suc c)) (λ u. count_between (p u) a c + cond (p u c) 1 0) m
            (λ u k. between_suc (p u) a c (omega arith)),
        sum_below-add (λ u. count_between (p u) a c) (λ u. cond (p u c) 1 0) m,
        get-le-sum_below (λ u. cond (p u c) 1 0) w.0 m w.1,
        cond-true {A = ℕ} (p w.0 c) 1 0 w.2,
      )
]

-- of r and the m numbers behind it the last of which Q holds, where it holds of r
pub record LastOf (Q : ℕ → Type 0) (r d : ℕ) : Type 0 where
  pub at : ℕ
  pub from : r ≤ at
  pub to : at ≤ d
  pub holds_there : Q at
  pub none_behind : (x : ℕ) → at < x → x ≤ d → Q x → ⊥

pub last_of : (Q : ℕ → Type 0) → ((k : ℕ) → Q k ⊎ (Q k → ⊥)) → (r d : ℕ) → r ≤ d → Q r → LastOf Q r d
last_of Q test r zero l h =
    let e : r ≡ 0 = omega arith in
    record { at = r; from = omega arith; to = l; holds_there = h; none_behind = λ x i j q. omega arith }
last_of Q test r (suc d) l h = elim (test (suc d)) [
  | inl q ↦ record { at = suc d; from = l; to = omega arith; holds_there = q; none_behind = λ x i j z. omega arith }
  | inr none ↦ elim (cases_eq r (suc d)) [
    | inl e ↦ absurd (none (subst Q e h))
    | inr ne ↦
        let w : LastOf Q r d = last_of Q test r d (omega arith) h in
        record {
          at = w.at;
          from = w.from;
          to = omega (arith, w.to);
          holds_there = w.holds_there;
          none_behind =
              λ x i j q. elim (cases_eq x (suc d))
              [ inl e ↦ none (subst Q e q) | inr nx ↦ w.none_behind x i (omega arith) q ];
        }
  ]
]

-- an entry is at most one VCPU
one_holder : (o : Option ℕ) (m : ℕ) → sum_below (λ u. cond (holds o u) 1 0) m ≤ 1
one_holder None m = omega (arith, sum_below-none m)
one_holder (Some i) m = elim (cases_lt i m) [
  | inl l ↦ omega (arith, (sum_below_one (λ j. 1) i m).0 l)
  | inr l ↦ omega (arith, (sum_below_one (λ j. 1) i m).1 l)
]

-- so all together have no more slots than there are
pub few_counted : (run : List (Option ℕ)) (m a c : ℕ) → a ≤ c
    → a + sum_below (λ u. count_between (λ y. holds (held run y) u) a c) m ≤ c
few_counted run m a zero l =
    omega (
      arith,
      sum_below-same (λ u. count_between (λ y. holds (held run y) u) a 0) (λ u. 0) m
          (λ u k. between_none (λ y. holds (held run y) u) a 0 (omega arith)),
      sum_below-none m,
    )
few_counted run m a (suc c) l = elim (cases_eq a (suc c)) [
  | inl e ↦
      omega (
        arith,
        sum_below-same (λ u. count_between (λ y. holds (held run y) u) a (suc c)) (λ u. 0) m
            (λ u k. between_none (λ y. holds (held run y) u) a (suc c) (omega arith)),
        sum_below-none m,
      )
  | inr ne ↦ omega (
    arith,
    few_counted run m a c (omega arith),
    sum_below-same (λ u. count_between (λ y. holds (held run y) u) a (suc c))
        (λ u. count_between (λ y. holds (held run y) u) a c + cond (holds (held run c) u) 1 0) m
        (λ u k. between_suc (λ y. holds (held run y) u) a c (omega arith)),
    sum_below-add (λ u. count_between (λ y. holds (held run y) u) a c) (λ u. cond (holds (held run c) u) 1 0) m,
    one_holder (held run c) m,
  )
]

-- no slot lies between a moment and itself
pub none_between : (p : ℕ → Bool) (x : ℕ) → count_between p x x ≡ 0
none_between p x =
    sum_below-same (λ y. cond (leb x y && p y) 1 0) (λ y. 0) x
    (λ y l. ap (λ (b : Bool). cond {A = ℕ} (b && p y) 1 0) (lt-leb x y l)) ∙ sum_below-none x
