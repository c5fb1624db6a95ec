-- Windows with more slots at their end.
use Rattle.std.proofs.Common.{◌≡◌, ◌≢◌, ℕ, zero, suc, ◌+◌, ◌-◌, ◌<◌, ◌≤◌, ◌&&◌, ◌||◌, Bool, true, false, List, [], ◌∷◌, ◌++◌, length, get_or, set, refl, sym, ◌∙◌, ap, arith, subst, inl, inr, length-set, get_or-set_same, get_or-set_other, nat_le, lt-ltb}
use Rattle.std.proofs.lemmas.Bool.{cases_eq}
use Rattle.std.proofs.lemmas.List.{get_or_append_left, get_or_push, get_or_read, length_push}
use Rattle.std.proofs.lemmas.List.Folds.{list_any_at, list_any-append}
use Rattle.guest_sched.specs.Spans.{Window, is_within, is_given, window_at, AreWindows}
use Rattle.guest_sched.proofs.Given.{all_given, inside, before_it}
use Rattle.std.specs.List.{list_any}
use Rattle.guest_sched.specs.MoreWindows.{AddsWindow}
use Rattle.guest_sched.specs.inner.LastWindow.{EndsAt}

abbrev nowhere : Window
nowhere = record { from = 0; until = 0 }

-- a list with another element that a test answers alike
same_test : {X : Type 0} (p : X → Bool) (xs : List X) (i : ℕ) (y d : X) → p y ≡ p (get_or xs i d)
    → list_any p (set xs i y) ≡ list_any p xs
same_test p [] i y d e = refl
same_test p (x ∷ xs) zero y d e = ap (λ (b : Bool). b || list_any p xs) e
same_test p (x ∷ xs) (suc i) y d e = ap (λ (b : Bool). p x || b) (same_test p xs i y d e)

-- the last window goes on
pub last_longer : (windows : List Window) (i from until : ℕ) → AreWindows windows from → i + 1 ≡ length windows
    → (window_at windows i).until ≡ from → from < until
    → AddsWindow windows from until (set windows i (record (window_at windows i) { until = until }))
last_longer windows i from until h e ends l = record {
  windows = record {
    some = λ k m. elim (cases_eq k i) [
      | inl q ↦
          subst (λ (z : ℕ). (window_at new z).from < (window_at new z).until) (sym q)
          (subst (λ (v : Window). v.from < v.until) (sym here) (omega (arith, h.some i (omega arith))))
      | inr ne ↦ subst (λ (v : Window). v.from < v.until) (sym (there k ne)) (h.some k (omega (arith, long)))
    ];
    in_slots = λ k m. elim (cases_eq k i) [
      | inl q ↦
          subst (λ (z : ℕ). (window_at new z).until ≤ until) (sym q)
          (subst (λ (v : Window). v.until ≤ until) (sym here) (omega arith))
      | inr ne ↦
          subst (λ (v : Window). v.until ≤ until) (sym (there k ne))
          (omega (arith, h.in_slots k (omega (arith, long))))
    ];
    in_turn =
        λ k m. omega (
          arith,
          ap (λ (v : Window). v.until) (there k (λ q. omega (arith, long))),
          from_same (k + 1),
          h.in_turn k (omega (arith, long)),
        );
  };
  before = λ x lx. same_test (λ w. is_within w x) windows i (record (window_at windows i) { until = until }) nowhere
      (ap (λ (b : Bool). nat_le (window_at windows i).from x && b)
      (lt-ltb x until (omega arith) ∙ sym (lt-ltb x (window_at windows i).until (omega arith))));
  after =
      λ x a b. all_given new i x (omega (arith, long)) (omega (arith, from_same i, h.some i (omega arith)))
      (omega (arith, ap (λ (v : Window). v.until) here));
}
  where
    new : List Window
    new = set windows i (record (window_at windows i) { until = until })

    long : length new ≡ length windows
    long = length-set windows i (record (window_at windows i) { until = until })

    here : window_at new i ≡ record (window_at windows i) { until = until }
    here = get_or-set_same windows i (record (window_at windows i) { until = until }) nowhere (omega arith)

    there : (k : ℕ) → k ≢ i → window_at new k ≡ window_at windows k
    there k ne = get_or-set_other windows i k (record (window_at windows i) { until = until }) nowhere ne

    from_same : (k : ℕ) → (window_at new k).from ≡ (window_at windows k).from
    from_same k =
        elim (cases_eq k i) [
          | inl q ↦
              subst (λ (z : ℕ). (window_at new z).from ≡ (window_at windows z).from) (sym q)
              (ap (λ (v : Window). v.from) here)
          | inr ne ↦
              ap (λ (v : Window). v.from) (there k ne)
        ]

-- one window more
or_none : (b c : Bool) → c ≡ false → (b || (c || false)) ≡ b
or_none b c e = grind arith

pub one_window : (windows : List Window) (from until : ℕ) → AreWindows windows from → from < until
    → AddsWindow windows from until (windows ++ record { from = from; until = until } ∷ [])
one_window windows from until h l = record {
  windows = record {
    some = λ k m. elim (cases_eq k (length windows)) [
      | inl q ↦ subst (λ (v : Window). v.from < v.until) (sym (here k q)) l
      | inr ne ↦
          subst (λ (v : Window). v.from < v.until) (sym (there k (omega (arith, long))))
          (h.some k (omega (arith, long)))
    ];
    in_slots = λ k m. elim (cases_eq k (length windows)) [
      | inl q ↦ subst (λ (v : Window). v.until ≤ until) (sym (here k q)) (omega arith)
      | inr ne ↦
          subst (λ (v : Window). v.until ≤ until) (sym (there k (omega (arith, long))))
          (omega (arith, h.in_slots k (omega (arith, long))))
    ];
    in_turn = λ k m. elim (cases_eq (k + 1) (length windows)) [
      | inl q ↦
          omega (
            arith,
            ap (λ (v : Window). v.until) (there k (omega (arith, long))),
            ap (λ (v : Window). v.from) (here (k + 1) q),
            h.in_slots k (omega (arith, long)),
          )
      | inr ne ↦
          omega (
            arith,
            ap (λ (v : Window). v.until) (there k (omega (arith, long))),
            ap (λ (v : Window). v.from) (there (k + 1) (omega (arith, long))),
            h.in_turn k (omega (arith, long)),
          )
    ];
  };
  before =
      λ x lx. list_any-append (λ w. is_within w x) windows (more ∷ [])
      ∙ or_none (is_given windows x) (is_within more x) (before_it more x lx);
  after =
      λ x a b. list_any_at (λ w. is_within w x) (windows ++ more ∷ []) (length windows) nowhere (omega (arith, long))
      (subst (λ (v : Window). is_within v x ≡ true) (sym (here (length windows) refl)) (inside more x a b));
}
  where
    more : Window
    more = record { from = from; until = until }

    long : length (windows ++ more ∷ []) ≡ length windows + 1
    long = length_push windows more

    here : (k : ℕ) → k ≡ length windows → window_at (windows ++ more ∷ []) k ≡ more
    here k q = get_or_push windows more nowhere k (sym q)

    there : (k : ℕ) → k < length windows → window_at (windows ++ more ∷ []) k ≡ window_at windows k
    there k m = get_or_append_left windows (more ∷ []) nowhere k m

-- as the code writes it
pub longer_read : (windows : List Window) (long from until : ℕ) (last : Window) → AreWindows windows from → from < until
    → EndsAt windows from → long ≡ length windows → last ≡ get_or windows (long - 1) last
    → AddsWindow windows from until (set windows (long - 1) (record last { until = until }))
longer_read windows long from until last h l ends e r =
    let at : suc (long - 1) ≡ length windows = omega (arith, ends.1) in
    let i : ends.0 ≡ long - 1 = omega (arith, ends.1) in
    let is : last ≡ window_at windows (long - 1) = get_or_read windows (long - 1) last (omega arith) r nowhere in
    let done : (window_at windows (long - 1)).until ≡ from
    = sym (ap (λ (z : ℕ). (window_at windows z).until) i) ∙ ends.2 in
    subst (λ (v : Window). AddsWindow windows from until (set windows (long - 1) (record v { until = until }))) (sym is)
    (last_longer windows (long - 1) from until h (omega arith) done l)
