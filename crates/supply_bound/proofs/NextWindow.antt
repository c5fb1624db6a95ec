-- The next window of a pattern, and that of the worst one of a budget within a deadline.
use Rattle.std.proofs.Common.{◌≡◌, ℕ, suc, min, max, ◌+◌, ◌*◌, ◌-◌, ◌/◌, ◌%◌, ◌<◌, ◌≤◌, Bool, true, false, ltb, leb, ◌&&◌, ◌||◌, Option, Some, None, ◌∙◌, ap, refl, sym, arith, inl, inr, lt-ltb, le-ltb, le-leb}
use Rattle.std.proofs.lemmas.Bool.{cases_lt, and_from, or_left, lt-leb}
use Rattle.std.proofs.lemmas.Nat.{le-div}
use Rattle.slot_model.specs.Supply.{worst_slot_by}
use Rattle.slot_model.proofs.WorstPattern.{slot_by_at, slot_by_gap}
use Rattle.supply_bound.specs.declared.next_window.Window.{Window}
use Rattle.supply_bound.specs.NextWindow.{IsFirstStretch, IsNextWindow}

pub clash : (b : Bool) → b ≡ true → b ≡ false → ⊥
clash b t f = absurd (cc)

one_from : (pattern : ℕ → Bool) (from below : ℕ) (a b : Window) → IsFirstStretch pattern from below a
    → IsFirstStretch pattern from below b → b.from ≤ a.from
one_from pattern from below a b h g = elim (cases_lt a.from b.from) [
  | inl early ↦ absurd (clash (pattern a.from) (h.every a.from (omega arith) h.some)
      (g.none_before a.from h.not_before early))
  | inr late ↦ late
]

one_until : (pattern : ℕ → Bool) (from below : ℕ) (a b : Window) → IsFirstStretch pattern from below a
    → IsFirstStretch pattern from below b → a.from ≡ b.from → b.until ≤ a.until
one_until pattern from below a b h g e = elim (cases_lt a.until b.until) [
  | inl early ↦ absurd (clash (pattern a.until) (g.every a.until (omega (arith, e, h.some)) early)
      (h.ends (omega (arith, g.in_slots))))
  | inr late ↦ late
]

same_window : (a b : Window) → a.from ≡ b.from → a.until ≡ b.until → a ≡ b
same_window a b e f = grind arith

-- there is one answer
pub only_next : (pattern : ℕ → Bool) (from below : ℕ) (a b : Option Window) → IsNextWindow pattern from below a
    → IsNextWindow pattern from below b → a ≡ b
only_next pattern from below None None h g = refl
only_next pattern from below (Some a) None h g = absurd
    (clash (pattern a.from) (h.every a.from (omega arith) h.some)
    (g a.from h.not_before (omega (arith, h.some, h.in_slots))))
only_next pattern from below None (Some b) h g = absurd
    (clash (pattern b.from) (g.every b.from (omega arith) g.some)
    (h b.from g.not_before (omega (arith, g.some, g.in_slots))))
only_next pattern from below (Some a) (Some b) h g =
    let e : a.from ≡ b.from = omega (arith, one_from pattern from below a b h g, one_from pattern from below b a g h) in
    let f : a.until ≡ b.until =
    omega (arith, one_until pattern from below a b h g e, one_until pattern from below b a g h (sym e)) in
    ap (λ (w : Window). Some w) (same_window a b e f)

-- patterns with the same slots have the same next window
pub same_next : (p q : ℕ → Bool) → ((x : ℕ) → p x ≡ q x) → (from below : ℕ) (answer : Option Window)
    → IsNextWindow p from below answer → IsNextWindow q from below answer
same_next p q same from below None h = λ x a b. sym (same x) ∙ h x a b
same_next p q same from below (Some w) h = record {
  not_before = h.not_before;
  some = h.some;
  in_slots = h.in_slots;
  none_before = λ x a b. sym (same x) ∙ h.none_before x a b;
  every = λ x a b. sym (same x) ∙ h.every x a b;
  ends = λ l. sym (same w.until) ∙ h.ends l;
}

and_none : (a b : Bool) → b ≡ false → (a && b) ≡ false
and_none a b e = grind arith

-- the pattern of a deadline by period and place: none past the first budget in its period
pub first_it : (period budget deadline x : ℕ) → x < budget → worst_slot_by period budget deadline x ≡ true
first_it period budget deadline x l = or_left (ltb x budget)
    (leb period x && (leb (deadline - budget) (x % period) && ltb (x % period) deadline)) (lt-ltb x budget l)

at_place : (period budget deadline k x : ℕ) → budget ≤ deadline → deadline ≤ period → suc k * period ≤ x
    → x < suc (suc k) * period
    → worst_slot_by period budget deadline x
    ≡ leb (deadline - budget) (x - suc k * period) && ltb (x - suc k * period) deadline
at_place period budget deadline k x m n l u =
    ap (worst_slot_by period budget deadline) (let e : x ≡ suc k * period + (x - suc k * period) = omega arith in e)
    ∙ slot_by_at period budget deadline k (x - suc k * period) m n (omega arith)

pub before_it : (period budget deadline k x : ℕ) → budget ≤ deadline → deadline ≤ period → suc k * period ≤ x
    → x < suc k * period + (deadline - budget) → worst_slot_by period budget deadline x ≡ false
before_it period budget deadline k x m n l u =
    at_place period budget deadline k x m n l (omega arith)
    ∙ ap (λ (b : Bool). b && ltb (x - suc k * period) deadline)
    (lt-leb (deadline - budget) (x - suc k * period) (omega arith))

pub within_it : (period budget deadline k x : ℕ) → budget ≤ deadline → deadline ≤ period
    → suc k * period + (deadline - budget) ≤ x → x < suc k * period + deadline
    → worst_slot_by period budget deadline x ≡ true
within_it period budget deadline k x m n l u =
    at_place period budget deadline k x m n (omega arith) (omega arith)
    ∙ and_from _ _ (le-leb (deadline - budget) (x - suc k * period) (omega arith))
    (lt-ltb (x - suc k * period) deadline (omega arith))

pub behind_it : (period budget deadline k x : ℕ) → budget ≤ deadline → deadline ≤ period → suc k * period + deadline ≤ x
    → x < suc (suc k) * period → worst_slot_by period budget deadline x ≡ false
behind_it period budget deadline k x m n l u =
    at_place period budget deadline k x m n (omega arith) u
    ∙ and_none (leb (deadline - budget) (x - suc k * period)) (ltb (x - suc k * period) deadline)
    (le-ltb (x - suc k * period) deadline (omega arith))

-- where the budget is the period
pub whole_period : (period deadline x : ℕ) → 1 ≤ period → period ≤ deadline → deadline ≤ period
    → true ≡ worst_slot_by period period deadline x
whole_period period deadline x l m n = sym (elim (cases_lt x period) [
  | inl first ↦ first_it period period deadline x first
  | inr later ↦ all (ltb x period) (leb period x) (leb (deadline - period) (x % period)) (ltb (x % period) deadline)
      (le-leb period x later) (le-leb (deadline - period) (x % period) (omega arith))
      (lt-ltb (x % period) deadline (omega arith))
])
  where
    all : (a b c d : Bool) → b ≡ true → c ≡ true → d ≡ true → (a || (b && (c && d))) ≡ true
    all a b c d e f g = grind arith

-- a period but the first, whose deadline is past a slot, and up to whose begin the slot is followed
-- by none of the pattern
pub record NextBudget (period budget deadline from begin : ℕ) : Type 0 where
  pub k : ℕ
  pub begins : begin ≡ suc k * period
  pub not_over : from < begin + deadline
  pub none : (x : ℕ) → from ≤ x → x < begin → worst_slot_by period budget deadline x ≡ false

pub next_budget : (period budget deadline from begin : ℕ) → 1 ≤ budget → budget ≤ deadline → deadline ≤ period
    → budget ≤ from → (from < period → begin ≡ period)
    → (period ≤ from → from % period < deadline → begin ≡ (from / period) * period)
    → (period ≤ from → deadline ≤ from % period → begin ≡ (from / period + 1) * period)
    → NextBudget period budget deadline from begin
next_budget period budget deadline from begin s m n past first same next = elim (cases_lt from period) [
  | inl early ↦ record {
    k = 0;
    begins = omega (arith, first early);
    not_over = omega (arith, first early);
    none = λ x a b. slot_by_gap period budget deadline x (omega arith) (omega (arith, first early));
  }
  | inr late ↦ (
      let whole : (from / period) * period + from % period ≡ from = omega arith in
      let place : from % period < period = omega arith in
      let is : suc (from / period - 1) ≡ from / period = omega (arith, some_whole late) in
      elim (cases_lt (from % period) deadline) [
        | inl before ↦ record {
          k = from / period - 1;
          begins = same late before ∙ ap (λ (z : ℕ). z * period) (sym is);
          not_over = omega (arith, same late before, whole);
          none = λ x a b. absurd (omega (arith, same late before, whole));
        }
        | inr over ↦ record {
          k = from / period;
          begins = omega (arith, next late over);
          not_over = omega (arith, next late over, whole);
          none = λ x a b. behind_it period budget deadline (from / period - 1) x m n
              (omega (arith, whole, ap (λ (z : ℕ). z * period) is))
              (omega (arith, next late over, ap (λ (z : ℕ). z * period) is));
        }
      ]
      )
]
  where
    some_whole : period ≤ from → 1 ≤ from / period
    some_whole l = le-div 1 from period (omega arith) (omega arith)

-- such a period, of whose begin m is told at the most
pub record ToldBudget (period budget deadline from m told : ℕ) : Type 0 where
  pub begin : ℕ
  pub next : NextBudget period budget deadline from begin
  pub is_told : told ≡ min begin m

pub told_budget : (period budget deadline from m told : ℕ) → 1 ≤ budget → budget ≤ deadline → deadline ≤ period
    → budget ≤ from → from ≤ m → period ≤ m → (from < period → told ≡ period)
    → (period ≤ from → from % period < deadline → told ≡ (from / period) * period)
    → (period ≤ from → deadline ≤ from % period → told ≡ min ((from / period + 1) * period) m)
    → ToldBudget period budget deadline from m told
told_budget period budget deadline from m told s k n past within fits first same next = elim (cases_lt from period) [
  | inl early ↦ record {
    begin = told;
    next = next_budget period budget deadline from told s k n past first same (λ late. absurd (omega arith));
    is_told = omega (arith, first early);
  }
  | inr late ↦
      let whole : (from / period) * period + from % period ≡ from = omega arith in
      elim (cases_lt (from % period) deadline) [
        | inl before ↦ record {
          begin = told;
          next = next_budget period budget deadline from told s k n past first same (λ l over. absurd (omega arith));
          is_told = omega (arith, same late before, whole);
        }
        | inr over ↦ record {
          begin = (from / period + 1) * period;
          next = next_budget period budget deadline from ((from / period + 1) * period) s k n past
              (λ early. absurd (omega arith)) (λ l before. absurd (omega arith)) (λ l o. refl);
          is_told = next late over;
        }
      ]
]

-- no slot up to its budget
none_to : (period budget deadline from begin : ℕ) → budget ≤ deadline → deadline ≤ period
    → NextBudget period budget deadline from begin → (x : ℕ) → from ≤ x → x < begin + (deadline - budget)
    → worst_slot_by period budget deadline x ≡ false
none_to period budget deadline from begin m n h x a b = elim (cases_lt x begin) [
  | inl early ↦ h.none x a early
  | inr late ↦ before_it period budget deadline h.k x m n (omega (arith, h.begins)) (omega (arith, h.begins))
]

-- and none behind it
none_at : (period budget deadline from begin : ℕ) → 1 ≤ budget → budget ≤ deadline → deadline ≤ period
    → budget < period → NextBudget period budget deadline from begin
    → worst_slot_by period budget deadline (begin + deadline) ≡ false
none_at period budget deadline from begin s m n g h = elim (cases_lt deadline period) [
  | inl within ↦ behind_it period budget deadline h.k (begin + deadline) m n (omega (arith, h.begins))
      (omega (arith, h.begins))
  | inr whole ↦ before_it period budget deadline (suc h.k) (begin + deadline) m n (omega (arith, h.begins))
      (omega (arith, h.begins))
]

pub none_later : (period budget deadline from below begin first : ℕ) → budget ≤ deadline → deadline ≤ period
    → NextBudget period budget deadline from begin → first ≡ max (begin + (deadline - budget)) from → below ≤ first
    → IsNextWindow (worst_slot_by period budget deadline) from below None
none_later period budget deadline from below begin first m n h e l =
    λ x a b. none_to period budget deadline from begin m n h x a (omega (arith, e))

pub later_next : (period budget deadline from below begin first until : ℕ) → 1 ≤ budget → budget ≤ deadline
    → deadline ≤ period → budget < period → NextBudget period budget deadline from begin
    → first ≡ max (begin + (deadline - budget)) from → first < below → until ≡ min (begin + deadline) below
    → IsNextWindow (worst_slot_by period budget deadline) from below (Some (record { from = first; until = until }))
later_next period budget deadline from below begin first until s m n g h e l u = record {
  not_before = omega (arith, e);
  some = omega (arith, e, u, h.not_over);
  in_slots = omega (arith, u);
  none_before = λ x a b. none_to period budget deadline from begin m n h x a (omega (arith, e));
  every = λ x a b. within_it period budget deadline h.k x m n (omega (arith, e, h.begins)) (omega (arith, u, h.begins));
  ends = λ early.
      ap (worst_slot_by period budget deadline) (let z : until ≡ begin + deadline = omega (arith, u) in z)
      ∙ none_at period budget deadline from begin s m n g h;
}
