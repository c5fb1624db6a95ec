-- Grants in parts of slots: k moments to a slot, as nanoseconds to a microsecond.
use Rattle.std.proofs.Common.{◌≡◌, ℕ, zero, suc, ◌+◌, ◌-◌, ◌*◌, ◌/◌, ◌<◌, ◌≤◌, nat_lt, nat_le, Bool, true, false, cond, ◌&&◌, ◌||◌, arith, refl, sym, ◌∙◌, ap, subst, inl, inr, le-leb, lt-ltb, le-ltb, mul-le-mul_left}
use Rattle.std.proofs.Math.Nat.{mul-lt-mul_of_pos_left, mul-div-mul_left, mul-sub}
use Rattle.std.proofs.lemmas.Bool.{cases_lt, and_left, and_right, cond-false, lt-leb}
use Rattle.cbs_servers.specs.Parts.{grant_times, AreParts, GrantsAtSlots, GrantsInSlots}
use Rattle.cbs_servers.proofs.OverrunSteps.{Fair, moves, fair_moves}
use Rattle.cbs_servers.specs.Overrun.{Grant, whole_grant, no_grant, times_granted, is_used_up, granted_more, caught_up, at_deadline, is_given_up, at_wake, grant_at, grant_after, grant_of}

same_le : (k a b : ℕ) → 1 ≤ k → nat_le (k * a) (k * b) ≡ nat_le a b
same_le k a b o = elim (cases_lt b a) [
  | inr l ↦ le-leb _ _ (mul-le-mul_left k l) ∙ sym (le-leb _ _ l)
  | inl l ↦ lt-leb _ _ (mul-lt-mul_of_pos_left l o) ∙ sym (lt-leb _ _ l)
]

same_lt : (k a b : ℕ) → 1 ≤ k → nat_lt (k * a) (k * b) ≡ nat_lt a b
same_lt k a b o = elim (cases_lt a b) [
  | inl l ↦ lt-ltb _ _ (mul-lt-mul_of_pos_left l o) ∙ sym (lt-ltb _ _ l)
  | inr l ↦ le-ltb _ _ (mul-le-mul_left k l) ∙ sym (le-ltb _ _ l)
]

same_grant : (a b c a' b' c' : ℕ) → a ≡ a' → b ≡ b' → c ≡ c'
    → record { due = a; granted = b; used = c } ≡ (let g : Grant = record { due = a'; granted = b'; used = c' } in g)
same_grant a b c a' b' c' e f h = cc

module _ (k budget period : ℕ) (o : 1 ≤ k) where
  scaled_owed : (g : Grant) → times_granted (k * budget) (grant_times k g) ≡ times_granted budget g
  scaled_owed g =
      ap suc
      (ap (λ (z : ℕ). z / (k * budget)) (sym (mul-sub k g.used g.granted))
      ∙ mul-div-mul_left (g.used - g.granted) budget o)

  scaled_paid : (g : Grant) → granted_more (k * budget) (k * period) (grant_times k g) ≡ grant_times k
      (granted_more budget period g)
  scaled_paid g =
      let n : ℕ = times_granted budget g in
      let e : times_granted (k * budget) (grant_times k g) ≡ n = scaled_owed g in
      same_grant _ _ _ _ _ _
      (ap (λ (z : ℕ). k * g.due + z * (k * period)) e
      ∙ (let q : k * g.due + n * (k * period) ≡ k * (g.due + n * period) = omega arith in q))
      (ap (λ (z : ℕ). k * g.granted + z * (k * budget) - k * g.used) e
      ∙ (ap (λ (z : ℕ). z - k * g.used)
      (let q : k * g.granted + n * (k * budget) ≡ k * (g.granted + n * budget) = omega arith in q)
      ∙ sym (mul-sub k (g.granted + n * budget) g.used)))
      (let q : 0 ≡ k * 0 = omega arith in q)

  scaled_whole : (x : ℕ) → whole_grant (k * budget) (k * period) (k * x) ≡ grant_times k (whole_grant budget period x)
  scaled_whole x =
      same_grant _ _ _ _ _ _ (let q : k * x + k * period ≡ k * (x + period) = omega arith in q) refl
      (let q : 0 ≡ k * 0 = omega arith in q)

  -- a choice between grant_times grants
  scaled_cond : (b : Bool) (g h : Grant) → cond b (grant_times k g) (grant_times k h) ≡ grant_times k (cond b g h)
  scaled_cond true g h = refl
  scaled_cond false g h = refl

  scaled_caught : (x : ℕ) (g : Grant)
      → caught_up (k * budget) (k * period) (k * x) (grant_times k g) ≡ grant_times k (caught_up budget period x g)
  scaled_caught x g =
      ap (λ (b : Bool). cond b (whole_grant (k * budget) (k * period) (k * x)) (grant_times k g)) (same_lt k g.due x o)
      ∙ (ap (λ (h : Grant). cond (nat_lt g.due x) h (grant_times k g)) (scaled_whole x)
      ∙ scaled_cond (nat_lt g.due x) (whole_grant budget period x) g)

  scaled_deadline : (x : ℕ) (g : Grant)
      → at_deadline (k * budget) (k * period) (k * x) (grant_times k g) ≡ grant_times k (at_deadline budget period x g)
  scaled_deadline x g =
      ap (λ (b : Bool). cond (b && nat_le (k * g.due) (k * x))
      (caught_up (k * budget) (k * period) (k * x) (granted_more (k * budget) (k * period) (grant_times k g)))
      (grant_times k g))
      (same_le k g.granted g.used o)
      ∙ (ap (λ (b : Bool). cond (nat_le g.granted g.used && b)
      (caught_up (k * budget) (k * period) (k * x) (granted_more (k * budget) (k * period) (grant_times k g)))
      (grant_times k g))
      (same_le k g.due x o)
      ∙ (ap (λ (h : Grant). cond (is_used_up x g) (caught_up (k * budget) (k * period) (k * x) h) (grant_times k g))
      (scaled_paid g)
      ∙ (ap (λ (h : Grant). cond (is_used_up x g) h (grant_times k g)) (scaled_caught x (granted_more budget period g))
      ∙ scaled_cond (is_used_up x g) (caught_up budget period x (granted_more budget period g)) g)))

  scaled_given_up : (x : ℕ) (g : Grant)
      → is_given_up (k * budget) (k * period) (k * x) (grant_times k g) ≡ is_given_up budget period x g
  scaled_given_up x g =
      let kk : 1 ≤ k * k = omega (arith, mul-le-mul_left k o) in
      let a : (k * g.due - k * x) * (k * budget) ≡ (k * k) * ((g.due - x) * budget)
      = ap (λ (z : ℕ). z * (k * budget)) (sym (mul-sub k g.due x))
      ∙ (let q : (k * (g.due - x)) * (k * budget) ≡ (k * k) * ((g.due - x) * budget) = omega arith in q) in
      let b : (k * g.granted - k * g.used) * (k * period) ≡ (k * k) * ((g.granted - g.used) * period)
      = ap (λ (z : ℕ). z * (k * period)) (sym (mul-sub k g.granted g.used))
      ∙ (let q : (k * (g.granted - g.used)) * (k * period) ≡ (k * k) * ((g.granted - g.used) * period) = omega arith in
      q) in
      ap (λ (c : Bool). c || nat_lt ((k * g.due - k * x) * (k * budget)) ((k * g.granted - k * g.used) * (k * period)))
      (same_le k g.due x o)
      ∙ ap (λ (c : Bool). nat_le g.due x || c)
      (ap (λ (z : ℕ). nat_lt z ((k * g.granted - k * g.used) * (k * period))) a
      ∙ (ap (nat_lt ((k * k) * ((g.due - x) * budget))) b
      ∙ same_lt (k * k) ((g.due - x) * budget) ((g.granted - g.used) * period) kk))

  scaled_wake : (x : ℕ) (w : Bool) (g : Grant)
      → at_wake (k * budget) (k * period) (k * x) w (grant_times k g) ≡ grant_times k (at_wake budget period x w g)
  scaled_wake x w g =
      ap (λ (b : Bool). cond (w && b) (whole_grant (k * budget) (k * period) (k * x)) (grant_times k g))
      (scaled_given_up x g)
      ∙ (ap (λ (h : Grant). cond (w && is_given_up budget period x g) h (grant_times k g)) (scaled_whole x)
      ∙ scaled_cond (w && is_given_up budget period x g) (whole_grant budget period x) g)

  pub scaled_moved : (x : ℕ) (w : Bool) (g : Grant)
      → grant_at (k * budget) (k * period) (k * x) w (grant_times k g) ≡ grant_times k (grant_at budget period x w g)
  scaled_moved x w g =
      ap (at_wake (k * budget) (k * period) (k * x) w) (scaled_deadline x g)
      ∙ scaled_wake x w (at_deadline budget period x g)

grant_of-zero : (budget period : ℕ) (wakes runs : ℕ → Bool)
    → grant_of budget period wakes runs 0 ≡ grant_at budget period 0 (wakes 0) no_grant
unfolding grant_of
grant_of-zero budget period wakes runs = refl

grant_of-suc : (budget period : ℕ) (wakes runs : ℕ → Bool) (x : ℕ)
    → grant_of budget period wakes runs (suc x)
    ≡ grant_at budget period (suc x) (wakes (suc x)) (grant_after (runs x) (grant_of budget period wakes runs x))
unfolding grant_of
grant_of-suc budget period wakes runs x = refl

-- within a slot nothing happens but that time is used
inside : (k budget period x c u : ℕ) (g : Grant) → (g.granted ≤ g.used → x < g.due) → c < k → u ≤ c
    → grant_at (k * budget) (k * period) (k * x + c) false
    (record { due = k * g.due; granted = k * g.granted; used = k * g.used + u })
    ≡ (let h : Grant = record { due = k * g.due; granted = k * g.granted; used = k * g.used + u } in h)
inside k budget period x c u g ahead l m =
    let none : (nat_le (k * g.granted) (k * g.used + u) && nat_le (k * g.due) (k * x + c)) ≡ false
    = elim (cases_lt g.used g.granted) [
      | inl q ↦
          and_left (nat_le (k * g.granted) (k * g.used + u)) (nat_le (k * g.due) (k * x + c))
          (lt-leb (k * g.granted) (k * g.used + u)
          (let e : k * suc g.used ≤ k * g.granted = mul-le-mul_left k q in omega (arith, e)))
      | inr q ↦
          and_right (nat_le (k * g.granted) (k * g.used + u)) (nat_le (k * g.due) (k * x + c))
          (lt-leb (k * g.due) (k * x + c)
          (let e : k * suc x ≤ k * g.due = mul-le-mul_left k (ahead q) in omega (arith, e)))
    ] in
    cond-false {A = Grant} _ _ _ none

-- of each grant no more than a budget is granted, and where all is used the deadline is still to
-- come
grant_fair : (budget period : ℕ) (wakes runs : ℕ → Bool) → 1 ≤ budget → 1 ≤ period → (x : ℕ)
    → (over : ℕ) × Fair budget over x (grant_of budget period wakes runs x)
grant_fair budget period wakes runs o r zero = (
  0,
  subst (Fair budget 0 0) (sym (grant_of-zero budget period wakes runs))
      (fair_moves budget period 0 0 (wakes 0) no_grant _ o (record { most = omega arith; used_up_to = omega arith })
      (moves budget period 0 (wakes 0) no_grant o r)),
)
grant_fair budget period wakes runs o r (suc x) =
    let (over, f) = grant_fair budget period wakes runs o r x in
    let g : Grant = grant_after (runs x) (grant_of budget period wakes runs x) in (
      g.used,
      subst (Fair budget g.used (suc x)) (sym (grant_of-suc budget period wakes runs x))
          (fair_moves budget period g.used (suc x) (wakes (suc x)) g _ o
          (record { most = f.most; used_up_to = omega arith }) (moves budget period (suc x) (wakes (suc x)) g o r)),
    )

module _ (k n budget period : ℕ) (wakes runs fine_wakes fine_runs : ℕ → Bool)
    (h : AreParts k n wakes runs fine_wakes fine_runs)
    (ahead : (x : ℕ) → x ≤ n
    → (grant_of budget period wakes runs x).granted ≤ (grant_of budget period wakes runs x).used
    → x < (grant_of budget period wakes runs x).due) where
  abbrev slot : ℕ → Grant
  slot x = grant_of budget period wakes runs x

  abbrev fine : ℕ → Grant
  fine m = grant_of (k * budget) (k * period) fine_wakes fine_runs m

  abbrev part : ℕ → ℕ → Grant
  part x c = record {
    due = k * (slot x).due;
    granted = k * (slot x).granted;
    used = k * (slot x).used + cond (runs x) c 0;
  }

  part_ran : (b : Bool) (x c : ℕ) (g : Grant)
      → grant_after b (record { due = k * g.due; granted = k * g.granted; used = k * g.used + cond b c 0 })
      ≡ record { due = k * g.due; granted = k * g.granted; used = k * g.used + cond b (suc c) 0 }
  part_ran true x c g =
      same_grant _ _ _ _ _ _ refl refl (let q : k * g.used + c + 1 ≡ k * g.used + suc c = omega arith in q)
  part_ran false x c g =
      same_grant _ _ _ _ _ _ refl refl (let q : k * g.used + 0 + 0 ≡ k * g.used + 0 = omega arith in q)

  no_more : (b : Bool) (c : ℕ) → cond b c 0 ≤ c
  no_more true c = omega arith
  no_more false c = omega arith

  pub in_slot : (x c : ℕ) → x < n → c < k → fine (k * x) ≡ grant_times k (slot x) → fine (k * x + c) ≡ part x c
  in_slot x zero l m e =
      ap fine (let q : k * x + 0 ≡ k * x = omega arith in q)
      ∙ (e ∙ same_grant _ _ _ _ _ _ refl refl (none (runs x)))
    where
      none : (b : Bool) → k * (slot x).used ≡ k * (slot x).used + cond b 0 0
      none true = omega arith
      none false = omega arith
  in_slot x (suc c) l m e =
      ap fine (let q : k * x + suc c ≡ suc (k * x + c) = omega arith in q)
      ∙ (grant_of-suc (k * budget) (k * period) fine_wakes fine_runs (k * x + c)
      ∙ (ap (λ (b : Bool). grant_at (k * budget) (k * period) (suc (k * x + c)) b
      (grant_after (fine_runs (k * x + c)) (fine (k * x + c))))
      (ap fine_wakes (let q : suc (k * x + c) ≡ k * x + suc c = omega arith in q)
      ∙ h.no_others x (suc c) l (omega arith) m)
      ∙ (ap (λ (b : Bool). grant_at (k * budget) (k * period) (suc (k * x + c)) false
      (grant_after b (fine (k * x + c))))
      (h.core_so x c l (omega arith))
      ∙ (ap (λ (g : Grant). grant_at (k * budget) (k * period) (suc (k * x + c)) false (grant_after (runs x) g))
      (in_slot x c l (omega arith) e)
      ∙ (ap (grant_at (k * budget) (k * period) (suc (k * x + c)) false) (part_ran (runs x) x c (slot x))
      ∙ (ap (λ (z : ℕ). grant_at (k * budget) (k * period) z false (part x (suc c)))
      (let q : suc (k * x + c) ≡ k * x + suc c = omega arith in q)
      ∙ inside k budget period x (suc c) (cond (runs x) (suc c) 0) (slot x) (ahead x (omega arith)) m
      (no_more (runs x) (suc c))))))))

  whole_ran : (b : Bool) (c : ℕ) (g : Grant) → suc c ≡ k
      → grant_after b (record { due = k * g.due; granted = k * g.granted; used = k * g.used + cond b c 0 })
      ≡ grant_times k (grant_after b g)
  whole_ran true c g e =
      same_grant _ _ _ _ _ _ refl refl (let q : k * g.used + c + 1 ≡ k * (g.used + 1) = omega arith in q)
  whole_ran false c g e =
      same_grant _ _ _ _ _ _ refl refl (let q : k * g.used + 0 + 0 ≡ k * (g.used + 0) = omega arith in q)

  -- at each slot the grants are those of slots, in the smaller unit
  pub at_slots : (x : ℕ) → x ≤ n → fine (k * x) ≡ grant_times k (slot x)
  at_slots zero l =
      ap fine (let q : k * 0 ≡ 0 = omega arith in q)
      ∙ (grant_of-zero (k * budget) (k * period) fine_wakes fine_runs
      ∙ (ap (λ (b : Bool). grant_at (k * budget) (k * period) 0 b no_grant)
      (ap fine_wakes (let q : 0 ≡ k * 0 = omega arith in q) ∙ h.wakes_so 0 l)
      ∙ (ap (λ (z : ℕ). grant_at (k * budget) (k * period) z (wakes 0) no_grant) (let q : 0 ≡ k * 0 = omega arith in q)
      ∙ (ap (grant_at (k * budget) (k * period) (k * 0) (wakes 0))
      (same_grant _ _ _ _ _ _ (let q : 0 ≡ k * 0 = omega arith in q) (let q : 0 ≡ k * 0 = omega arith in q)
      (let q : 0 ≡ k * 0 = omega arith in q))
      ∙ (scaled_moved k budget period h.some 0 (wakes 0) no_grant
      ∙ ap (grant_times k) (sym (grant_of-zero budget period wakes runs)))))))
  at_slots (suc x) l =
      let c : ℕ = k - 1 in
      let last : suc c ≡ k = omega (arith, h.some) in
      let e : suc (k * x + c) ≡ k * suc x = omega arith in
      ap fine (sym e)
      ∙ (grant_of-suc (k * budget) (k * period) fine_wakes fine_runs (k * x + c)
      ∙ (ap (λ (b : Bool). grant_at (k * budget) (k * period) (suc (k * x + c)) b
      (grant_after (fine_runs (k * x + c)) (fine (k * x + c))))
      (ap fine_wakes e ∙ h.wakes_so (suc x) l)
      ∙ (ap (λ (b : Bool). grant_at (k * budget) (k * period) (suc (k * x + c)) (wakes (suc x))
      (grant_after b (fine (k * x + c))))
      (h.core_so x c (omega arith) (omega arith))
      ∙ (ap (λ (g : Grant). grant_at (k * budget) (k * period) (suc (k * x + c)) (wakes (suc x))
      (grant_after (runs x) g))
      (in_slot x c (omega arith) (omega arith) (at_slots x (omega arith)))
      ∙ (ap (grant_at (k * budget) (k * period) (suc (k * x + c)) (wakes (suc x)))
      (whole_ran (runs x) c (slot x) last)
      ∙ (ap (λ (z : ℕ). grant_at (k * budget) (k * period) z (wakes (suc x))
      (grant_times k (grant_after (runs x) (slot x)))) e
      ∙ (scaled_moved k budget period h.some (suc x) (wakes (suc x)) (grant_after (runs x) (slot x))
      ∙ ap (grant_times k) (sym (grant_of-suc budget period wakes runs x)))))))))

pub grants_at_slots : GrantsAtSlots
grants_at_slots k n budget period wakes runs fine_wakes fine_runs o r h x l =
    at_slots k n budget period wakes runs fine_wakes fine_runs h
    (λ y m. (grant_fair budget period wakes runs o r y).1.comes) x l

pub grants_in_slots : GrantsInSlots
grants_in_slots k n budget period wakes runs fine_wakes fine_runs o r h x c l m =
    in_slot k n budget period wakes runs fine_wakes fine_runs h
    (λ y i. (grant_fair budget period wakes runs o r y).1.comes) x c l m
    (grants_at_slots k n budget period wakes runs fine_wakes fine_runs o r h x (omega (arith, l)))
