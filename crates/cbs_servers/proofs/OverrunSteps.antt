-- What a moment and a slot make of a server that may run past its budget, seen over a window.
use Rattle.std.proofs.Common.{◌≡◌, ◌⊎◌, ℕ, suc, ◌+◌, ◌-◌, ◌*◌, ◌/◌, ◌%◌, ◌<◌, ◌≤◌, nat_lt, nat_le, Bool, true, false, not, cond, ◌&&◌, arith, refl, sym, ◌∙◌, ap, subst, inl, inr, mul-le-mul_right}
use Rattle.std.proofs.lemmas.Bool.{cases_lt, cases_Bool, both_ways, and_parts, and_from, or_parts, or_cases, cond-true, cond-false, leb-true, leb-false, ltb-true, ltb-false, le-leb, false≢true}
use Rattle.cbs_servers.specs.Overrun.{Grant, whole_grant, times_granted, is_used_up, granted_more, caught_up, at_deadline, is_given_up, at_wake, grant_at, grant_after}

-- as in Steps, where what is left may be less than nothing, and what was had too much stands to it
pub data Owes (budget period t d over got : ℕ) (up : Bool) (g : Grant) : Type 0 where
  untouched : got ≡ 0 → (up ≡ true → d < g.due) → Owes budget period t d over got up g
  within : g.due ≤ d → (got + g.granted) * period + t * budget ≤ g.due * budget + g.used * period
      → Owes budget period t d over got up g
  past : d < g.due → got * period + t * budget ≤ d * budget + over * period → Owes budget period t d over got up g

-- what each grant keeps after a moment x: no more than a budget is granted, no more is used than
-- may be, and where all is used the deadline is still to come
pub record Fair (budget over x : ℕ) (g : Grant) : Type 0 where
  pub most : g.granted ≤ budget
  pub used_up_to : g.used ≤ g.granted + over
  pub comes : g.granted ≤ g.used → x < g.due

-- and before a moment x
pub record Nearly (budget over : ℕ) (g : Grant) : Type 0 where
  pub most : g.granted ≤ budget
  pub used_up_to : g.used ≤ g.granted + over

pub slot_owes : (budget period t d over got : ℕ) (up runs : Bool) (g : Grant)
    → (runs ≡ true → (up ≡ true) × (g.due ≤ d))
    → Owes budget period t d over got up g → Owes budget period t d over (got + cond runs 1 0) up (grant_after runs g)
slot_owes budget period t d over got up false g may (untouched e h) = untouched (omega arith) h
slot_owes budget period t d over got up false g may (within l h) =
    within l
    (omega (
      arith,
      h,
      ap (λ (z : ℕ). (z + g.granted) * period) (let e : got + 0 ≡ got = omega arith in e),
      ap (λ (z : ℕ). z * period) (let e : g.used + 0 ≡ g.used = omega arith in e),
    ))
slot_owes budget period t d over got up false g may (past l h) =
    past l (omega (arith, h, ap (λ (z : ℕ). z * period) (let e : got + 0 ≡ got = omega arith in e)))
slot_owes budget period t d over got up true g may (untouched e h) =
    let m = may refl in absurd (let q = h m.0 in omega (arith, m.1))
slot_owes budget period t d over got up true g may (within l h) = within l (omega (arith, h))
slot_owes budget period t d over got up true g may (past l h) = let m = may refl in absurd (omega (arith, m.1))

-- how a payment comes out
pub record Pays (budget period x : ℕ) (g p : Grant) : Type 0 where
  pub owed : ℕ
  pub all_used : g.granted ≤ g.used
  pub here : g.due ≤ x
  pub due_is : p.due ≡ g.due + owed * period
  pub granted_is : p.granted + g.used ≡ g.granted + owed * budget
  pub none_used : p.used ≡ 0
  pub some : 1 ≤ p.granted
  pub most : p.granted ≤ budget

pays : (budget period x : ℕ) (g : Grant) → 1 ≤ budget → g.granted ≤ g.used → g.due ≤ x
    → Pays budget period x g (granted_more budget period g)
pays budget period x g o a b =
    let m : ℕ = g.used - g.granted in
    let low : m % budget < budget = omega arith in
    let e : (m / budget) * budget + m % budget ≡ m = omega arith in
    let f : suc (m / budget) * budget ≡ (m / budget) * budget + budget = omega arith in
    record {
      owed = times_granted budget g;
      all_used = a;
      here = b;
      due_is = refl;
      granted_is = omega (arith, low, e, f);
      none_used = refl;
      some = omega (arith, low, e, f);
      most = omega (arith, low, e, f);
    }

-- the deadline's part of a moment: a payment, where all is used and the deadline is here, and else
-- the grant stays, with something left or its deadline to come
pub data Paid (budget period x : ℕ) (g p : Grant) : Type 0 where
  pay : Pays budget period x g p → Paid budget period x g p
  wait : (g.granted ≤ g.used → x < g.due) → p ≡ g → Paid budget period x g p

-- the rest of it: the grant is given up for a whole one, or stays
pub data Ends (budget period x : ℕ) (w : Bool) (p b : Grant) : Type 0 where
  anew : (p.due ≤ x) × (p.used < p.granted) ⊎ ((x < p.due) × ((p.due - x) * budget < (p.granted - p.used) * period))
      → b ≡ whole_grant budget period x → Ends budget period x w p b
  keeps : (w ≡ true → (x < p.due) × ((p.granted - p.used) * period ≤ (p.due - x) * budget)) → b ≡ p
      → Ends budget period x w p b

pub record Moves (budget period x : ℕ) (w : Bool) (g b : Grant) : Type 0 where
  pub between : Grant
  pub first : Paid budget period x g between
  pub ends : Ends budget period x w between b

has_or_comes : (budget period x : ℕ) (g p : Grant) → Paid budget period x g p → (p.used < p.granted) ⊎ (x < p.due)
has_or_comes budget period x g p (pay h) = inl (omega (arith, h.none_used, h.some))
has_or_comes budget period x g p (wait h e) = elim (cases_lt g.used g.granted) [
  | inl l ↦ inl (omega (arith, ap (λ (z : Grant). z.used) e, ap (λ (z : Grant). z.granted) e))
  | inr l ↦ inr (omega (arith, h l, ap (λ (z : Grant). z.due) e))
]

woken : (budget period x : ℕ) (w : Bool) (p : Grant) → (p.used < p.granted) ⊎ (x < p.due)
    → Ends budget period x w p (at_wake budget period x w p)
woken budget period x false p h = keeps (λ e. absurd (false≢true e)) refl
woken budget period x true p h = elim (cases_Bool (is_given_up budget period x p)) [
  | inr e ↦
      let q = or_parts (nat_le p.due x) (nat_lt ((p.due - x) * budget) ((p.granted - p.used) * period)) e in
      keeps (λ _. (leb-false _ _ q.0, ltb-false _ _ q.1)) (cond-false {A = Grant} _ _ _ e)
  | inl e ↦
      anew (elim (cases_lt x p.due) [
        | inr l ↦ inl (l, elim h [ inl some ↦ some | inr ahead ↦ absurd (omega arith) ])
        | inl l ↦
            elim (or_cases (nat_le p.due x) (nat_lt ((p.due - x) * budget) ((p.granted - p.used) * period)) e) [
              | inl q ↦ absurd (omega (arith, leb-true _ _ q))
              | inr q ↦ inr (l, ltb-true _ _ q)
            ]
      ]) (cond-true {A = Grant} _ _ _ e)
]

-- a whole grant that is given up at once is the same
pub whole_again : (budget period x : ℕ) (w : Bool) → 1 ≤ budget → 1 ≤ period
    → at_wake budget period x w (whole_grant budget period x) ≡ whole_grant budget period x
whole_again budget period x w o r = elim (cases_Bool (w && is_given_up budget period x (whole_grant budget period x))) [
  | inl e ↦ cond-true {A = Grant} _ _ _ e
  | inr e ↦ cond-false {A = Grant} _ _ _ e
]

pub moves : (budget period x : ℕ) (w : Bool) (g : Grant) → 1 ≤ budget → 1 ≤ period
    → Moves budget period x w g (grant_at budget period x w g)
moves budget period x w g o r = elim (cases_Bool (is_used_up x g)) [
  | inr e ↦
      let k : g.granted ≤ g.used → x < g.due
      = λ l. elim (cases_lt x g.due) [
        | inl m ↦ m
        | inr m ↦ absurd (both_ways _ e (and_from _ _ (le-leb _ _ l) (le-leb _ _ m)))
      ] in
      let q : at_deadline budget period x g ≡ g = cond-false {A = Grant} _ _ _ e in
      record {
        between = g;
        first = wait k refl;
        ends =
            subst (λ (z : Grant). Ends budget period x w g (at_wake budget period x w z)) (sym q)
            (woken budget period x w g (has_or_comes budget period x g g (wait k refl)));
      }
  | inl e ↦
      let a = and_parts (nat_le g.granted g.used) (nat_le g.due x) e in
      let h = pays budget period x g o (leb-true _ _ a.0) (leb-true _ _ a.1) in
      let p : Grant = granted_more budget period g in
      let q : at_deadline budget period x g ≡ caught_up budget period x p = cond-true {A = Grant} _ _ _ e in
      elim (cases_Bool (nat_lt p.due x)) [
        | inl f ↦
            record {
              between = p;
              first = pay h;
              ends =
                  anew (inl ((let l : p.due < x = ltb-true _ _ f in omega arith), omega (arith, h.some)))
                  (ap (at_wake budget period x w) (q ∙ cond-true {A = Grant} _ _ _ f)
                  ∙ whole_again budget period x w o r);
            }
        | inr f ↦
            record {
              between = p;
              first = pay h;
              ends =
                  subst (λ (z : Grant). Ends budget period x w p (at_wake budget period x w z))
                  (sym (q ∙ cond-false {A = Grant} _ _ _ f))
                  (woken budget period x w p (has_or_comes budget period x g p (pay h)));
            }
      ]
]

-- a payment
paid_owes : (budget period t d over got x : ℕ) (up : Bool) (g p : Grant) → g.used ≤ g.granted + over
    → Paid budget period x g p
    → Owes budget period t d over got up g → Owes budget period t d over got up p
paid_owes budget period t d over got x up g p f (wait k e) h = subst (Owes budget period t d over got up) (sym e) h
paid_owes budget period t d over got x up g p f (pay h) (untouched z k) =
    untouched z (λ u. omega (arith, k u, h.due_is))
paid_owes budget period t d over got x up g p f (pay h) (past l k) = past (omega (arith, h.due_is)) k
paid_owes budget period t d over got x up g p f (pay h) (within l k) =
    let own : (got + p.granted) * period + t * budget ≤ p.due * budget
    = omega (
      arith,
      k,
      ap (λ (z : ℕ). z * period) h.granted_is,
      ap (λ (z : ℕ). z * budget) h.due_is,
    ) in
    elim (cases_lt d p.due) [
      | inr m ↦ within m (omega (arith, own))
      | inl m ↦
          past m (omega (
            arith,
            k,
            mul-le-mul_right period f,
            mul-le-mul_right budget l,
          ))
    ]

-- a whole grant from x on, for what was had within the share up to x
whole_owes : (budget period t d over got x : ℕ) (up : Bool) → got * period + t * budget ≤ x * budget
    → got * period + t * budget ≤ d * budget + over * period
    → Owes budget period t d over got up (whole_grant budget period x)
whole_owes budget period t d over got x up h k = elim (cases_lt d (x + period)) [
  | inl l ↦ past l k
  | inr l ↦ within l (omega (arith, h))
]

-- what was had by one that is given up
had_share : (budget period t x got : ℕ) (p : Grant)
    → (p.due ≤ x) × (p.used < p.granted) ⊎ ((x < p.due) × ((p.due - x) * budget < (p.granted - p.used) * period))
    → (got + p.granted) * period + t * budget ≤ p.due * budget + p.used * period
    → (got * period + t * budget ≤ x * budget) × (got * period + t * budget ≤ p.due * budget)
had_share budget period t x got p (inl w) h =
    let m : p.used * period ≤ p.granted * period = mul-le-mul_right period
    (let q : p.used ≤ p.granted = omega (arith, w.1) in q) in
    let n : p.due * budget ≤ x * budget = mul-le-mul_right budget w.0 in
    (omega (arith, h, m, n), omega (arith, h, m))
had_share budget period t x got p (inr w) h = elim (cases_lt p.used p.granted) [
  | inr l ↦
      absurd (omega (
        arith,
        w.1,
        ap (λ (z : ℕ). z * period) (let q : p.granted - p.used ≡ 0 = omega arith in q),
      ))
  | inl l ↦
      let f : (p.due - x) + x ≡ p.due = omega (arith, w.0) in
      let e : (p.granted - p.used) + p.used ≡ p.granted = omega arith in
      let a : (p.due - x) * budget + x * budget ≡ p.due * budget = omega (arith, ap (λ (z : ℕ). z * budget) f) in
      let b : (p.granted - p.used) * period + p.used * period ≡ p.granted * period
      = omega (arith, ap (λ (z : ℕ). z * period) e) in
      (omega (arith, h, w.1, a, b), omega (arith, h, b))
]

-- its deadline is no later than that of the whole grant
ends_later : (budget period x : ℕ) (p : Grant) → p.granted ≤ budget
    → (p.due ≤ x) × (p.used < p.granted) ⊎ ((x < p.due) × ((p.due - x) * budget < (p.granted - p.used) * period))
    → p.due ≤ x + period
ends_later budget period x p s (inl w) = omega (arith, w.0)
ends_later budget period x p s (inr w) = elim (cases_lt (x + period) p.due) [
  | inr m ↦ m
  | inl m ↦
      absurd (omega (
        arith,
        w.1,
        mul-le-mul_right period (let q : p.granted - p.used ≤ budget = omega arith in q),
        mul-le-mul_right budget (let q : period ≤ p.due - x = omega arith in q),
      ))
]

-- a server that keeps its grant where it wakes, having had nothing in the window
kept_owes : (budget period t d over got x : ℕ) (up next : Bool) (p : Grant) → t ≤ x
    → ((next && not up) ≡ true → (x < p.due) × ((p.granted - p.used) * period ≤ (p.due - x) * budget)) → got ≡ 0
    → (up ≡ true → d < p.due) → Owes budget period t d over got next p
kept_owes budget period t d over got x up false p l h z k = untouched z (λ e. absurd (false≢true e))
kept_owes budget period t d over got x true true p l h z k = untouched z k
kept_owes budget period t d over got x false true p l h z k = elim (cases_lt d p.due) [
  | inl m ↦ untouched z (λ _. m)
  | inr m ↦
      let w = h refl in
      let f : (p.due - x) * budget + x * budget ≡ p.due * budget
      = (let q : (p.due - x) + x ≡ p.due = omega (arith, w.0) in omega (arith, ap (λ (n : ℕ). n * budget) q)) in
      let late : t * budget ≤ x * budget = mul-le-mul_right budget l in
      let none : (got + p.granted) * period ≡ p.granted * period = ap (λ (n : ℕ). (n + p.granted) * period) z
      ∙ (let q : (0 + p.granted) * period ≡ p.granted * period = omega arith in q) in
      within m (elim (cases_lt p.used p.granted) [
        | inl q ↦
            let b : (p.granted - p.used) * period + p.used * period ≡ p.granted * period
            = (let e : (p.granted - p.used) + p.used ≡ p.granted = omega arith in
            omega (arith, ap (λ (n : ℕ). n * period) e)) in
            omega (arith, w.1, f, late, none, b)
        | inr q ↦ omega (arith, f, late, none, mul-le-mul_right period q)
      ])
]

-- the rest of a moment
ends_owes : (budget period t d over got x : ℕ) (up next : Bool) (p b : Grant) → t ≤ x → p.granted ≤ budget
    → Ends budget period x (next && not up) p b
    → Owes budget period t d over got up p → Owes budget period t d over got next b
ends_owes budget period t d over got x up next p b l s (anew why e) (untouched z h) =
    subst (Owes budget period t d over got next) (sym e)
    (elim (cases_lt d (x + period)) [
      | inl m ↦ untouched z (λ _. m)
      | inr m ↦
          within m (omega (arith, mul-le-mul_right budget l, ap (λ (n : ℕ). (n + budget) * period) z))
    ])
ends_owes budget period t d over got x up next p b l s (anew why e) (within m h) =
    let q = had_share budget period t x got p why h in
    subst (Owes budget period t d over got next) (sym e)
    (whole_owes budget period t d over got x next q.0 (omega (arith, q.1, mul-le-mul_right budget m)))
ends_owes budget period t d over got x up next p b l s (anew why e) (past m h) =
    subst (Owes budget period t d over got next) (sym e)
    (past (let q = ends_later budget period x p s why in omega arith) h)
ends_owes budget period t d over got x up next p b l s (keeps k e) (untouched z h) =
    subst (Owes budget period t d over got next) (sym e) (kept_owes budget period t d over got x up next p l k z h)
ends_owes budget period t d over got x up next p b l s (keeps k e) (within m h) =
    subst (Owes budget period t d over got next) (sym e) (within m h)
ends_owes budget period t d over got x up next p b l s (keeps k e) (past m h) =
    subst (Owes budget period t d over got next) (sym e) (past m h)

paid-le : (budget period x : ℕ) (g p : Grant) → g.granted ≤ budget → Paid budget period x g p → p.granted ≤ budget
paid-le budget period x g p l (pay h) = h.most
paid-le budget period x g p l (wait k e) = omega (arith, ap (λ (z : Grant). z.granted) e)

-- a moment
pub moment_owes : (budget period t d over got x : ℕ) (up next : Bool) (g b : Grant) → t ≤ x → Nearly budget over g
    → Moves budget period x (next && not up) g b
    → Owes budget period t d over got up g → Owes budget period t d over got next b
moment_owes budget period t d over got x up next g b l f m h =
    ends_owes budget period t d over got x up next m.between b l
    (paid-le budget period x g m.between f.most m.first) m.ends
    (paid_owes budget period t d over got x up g m.between f.used_up_to m.first h)

-- and what each grant keeps
pub fair_moves : (budget period over x : ℕ) (w : Bool) (g b : Grant) → 1 ≤ budget → Nearly budget over g
    → Moves budget period x w g b → Fair budget over x b
fair_moves budget period over x w g b o f m = go m.first m.ends
  where
    go : Paid budget period x g m.between → Ends budget period x w m.between b → Fair budget over x b
    go i (anew why e) =
        subst (Fair budget over x) (sym e)
        (record { most = omega arith; used_up_to = omega arith; comes = λ l. absurd (omega arith) })
    go (pay h) (keeps k e) =
        subst (Fair budget over x) (sym e)
        (record {
          most = h.most;
          used_up_to = omega (arith, h.none_used);
          comes = λ l. absurd (omega (arith, h.none_used, h.some));
        })
    go (wait k' e') (keeps k e) =
        subst (Fair budget over x) (sym (e ∙ e')) (record { most = f.most; used_up_to = f.used_up_to; comes = k' })

pub nearly_ran : (budget over x : ℕ) (runs : Bool) (g : Grant) → (runs ≡ true → g.used < g.granted + over)
    → Fair budget over x g → Nearly budget over (grant_after runs g)
nearly_ran budget over x true g h f = record { most = f.most; used_up_to = omega (arith, h refl) }
nearly_ran budget over x false g h f = record { most = f.most; used_up_to = omega (arith, f.used_up_to) }
