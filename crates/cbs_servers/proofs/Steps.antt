-- What a moment makes of an account.
use Rattle.std.proofs.Common.{◌≡◌, ℕ, ◌+◌, ◌-◌, ◌*◌, ◌<◌, ◌≤◌, ◌==◌, ◌⊎◌, nat_lt, nat_le, Bool, true, false, if◌then◌else◌, arith, refl, sym, subst, inl, inr, le-leb, le-ltb}
use Rattle.std.proofs.lemmas.Bool.{cases_lt, cases_Bool, and_parts, and_from, both_ways, eq-eqb, false≢true, or_parts, or_cases, cond-true, cond-false, leb-true, leb-false, ltb-true, ltb-false, eqb-true}
use Rattle.cbs_servers.specs.Cbs.{Account, renewed, is_renewed, comes_back, next_due, brought_back, at_moment}

-- what a moment makes of an account: it is renewed at a wake-up, its budget comes back, or it stays
pub data Turn (budget period x : ℕ) (wakes : Bool) (a b : Account) : Type 0 where
  renews : wakes ≡ true → a.due ≤ x ⊎ ((x < a.due) × ((a.due - x) * budget < a.left * period))
      → b ≡ renewed budget period x
      → Turn budget period x wakes a b
  returns : a.left ≡ 0 → a.due ≤ x → b ≡ brought_back budget period x a → Turn budget period x wakes a b
  stays : (wakes ≡ true → (x < a.due) × (a.left * period ≤ (a.due - x) * budget)) → (a.left ≡ 0 → a.due ≤ x → ⊥)
      → b ≡ a → Turn budget period x wakes a b

-- the deadline with which a budget comes back: at its last one a period later, and else no further
pub next_at : (period x due : ℕ) → due ≡ x → next_due period x due ≡ due + period
next_at period x due e = cond-false {A = ℕ} _ _ _ (le-ltb (due + period) x (omega arith))

pub next_near : (period x due : ℕ) → due ≤ x → next_due period x due ≤ x + period
next_near period x due l = elim (cases_Bool (nat_lt (due + period) x)) [
  | inl e ↦ omega (arith, cond-true {A = ℕ} (nat_lt (due + period) x) (x + period) (due + period) e)
  | inr e ↦ omega (arith, cond-false {A = ℕ} (nat_lt (due + period) x) (x + period) (due + period) e)
]

why_renewed : (budget period x : ℕ) (a : Account) → is_renewed budget period x a ≡ true
    → a.due ≤ x ⊎ ((x < a.due) × ((a.due - x) * budget < a.left * period))
why_renewed budget period x a e = elim (cases_lt x a.due) [
  | inr l ↦ inl l
  | inl l ↦ elim (or_cases (nat_le a.due x) (nat_lt ((a.due - x) * budget) (a.left * period)) e) [
    | inl q ↦ inl (leb-true _ _ q)
    | inr q ↦ inr (l, ltb-true _ _ q)
  ]
]

why_kept : (budget period x : ℕ) (a : Account) → is_renewed budget period x a ≡ false
    → (x < a.due) × (a.left * period ≤ (a.due - x) * budget)
why_kept budget period x a e =
    let p = or_parts (nat_le a.due x) (nat_lt ((a.due - x) * budget) (a.left * period)) e in
    (leb-false _ _ p.0, ltb-false _ _ p.1)

unwoken : (budget period x : ℕ) (wakes : Bool) (a : Account)
    → (wakes ≡ true → (x < a.due) × (a.left * period ≤ (a.due - x) * budget))
    → Turn budget period x wakes a (if comes_back x a then brought_back budget period x a else a)
unwoken budget period x wakes a h = elim (cases_Bool (comes_back x a)) [
  | inl e ↦
      let p = and_parts (a.left == 0) (nat_le a.due x) e in
      returns (eqb-true _ _ p.0) (leb-true _ _ p.1) (cond-true {A = Account} _ _ _ e)
  | inr e ↦ stays h (λ z q. both_ways _ e (and_from _ _ (eq-eqb _ _ z) (le-leb _ _ q)))
      (cond-false {A = Account} _ _ _ e)
]

pub turn : (budget period x : ℕ) (wakes : Bool) (a : Account)
    → Turn budget period x wakes a (at_moment budget period x wakes a)
turn budget period x false a = unwoken budget period x false a (λ e. absurd (false≢true e))
turn budget period x true a = elim (cases_Bool (is_renewed budget period x a)) [
  | inl e ↦ renews refl (why_renewed budget period x a e) (cond-true {A = Account} _ _ _ e)
  | inr e ↦
      subst (Turn budget period x true a) (sym (cond-false {A = Account} _ _ _ e))
      (unwoken budget period x true a (λ _. why_kept budget period x a e))
]
