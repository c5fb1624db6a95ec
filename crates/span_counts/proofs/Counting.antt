-- Counts over stretches of places that are all alike.
use Rattle.std.proofs.Common.{◌≡◌, ℕ, zero, suc, min, ◌+◌, ◌-◌, ◌<◌, ◌≤◌, ◌&&◌, Bool, true, false, cond, nat_le, List, length, get_or, set, Option, Some, None, refl, sym, ◌∙◌, ap, arith, subst, inl, inr, add-one, eqb, eq-eqb, ne_eqb, le-leb, length-set, get_or-set_same, get_or-set_other, replicate}
use Rattle.std.proofs.lemmas.Bool.{cases_eq, cond-true, cond-false}
use Rattle.std.proofs.lemmas.List.{get_or-replicate, length-replicate}
use Rattle.slot_model.specs.Slots.{count_below, slots_between}
use Rattle.slot_model.specs.Run.{held, holds, service}
use Rattle.slot_model.proofs.Sums.{sum_below-zero}
use Rattle.slot_model.proofs.Counts.{count_same, count_stretch}
use Rattle.slot_model.proofs.Runs.{count_below-le}
use Rattle.guest_sched.specs.Spans.{Window, is_given, slots_of, window_at, AreWindows}
use Rattle.guest_sched.proofs.Given.{apart, none_given, all_given, slot_at}
use Rattle.span_counts.specs.Counts.{ServedTo}
use Rattle.guest_sched.proofs.SpanByOne.{Holds}

pub count_to : (p : ℕ → Bool) (v : Bool) (a b : ℕ) → a ≤ b → ((x : ℕ) → a ≤ x → x < b → p x ≡ v)
    → count_below p b ≡ count_below p a + cond v (b - a) 0
count_to p v a b l h =
    let e : a + (b - a) ≡ b = omega arith in
    subst (λ (z : ℕ). count_below p z ≡ count_below p a + cond v (b - a) 0) e
    (count_stretch p v a (b - a) (λ x m n. h x m (omega arith)))

-- the windows before the i-th end here
pub window_end : List Window → ℕ → ℕ
window_end windows zero = 0
window_end windows (suc i) = (window_at windows i).until

pub no_window : (windows : List Window) → 0 ≡ count_below (is_given windows) (window_end windows 0)
unfolding window_end
no_window windows = sym (sum_below-zero (λ x. cond (is_given windows x) 1 0))

over : (windows : List Window) (n i k : ℕ) → AreWindows windows n → k < i → i ≤ length windows
    → (window_at windows k).until ≤ window_end windows i
unfolding window_end
over windows n zero k h l m = absurd (omega arith)
over windows n (suc i) k h l m = elim (cases_eq k i) [
  | inl e ↦ omega (arith, ap (λ (z : ℕ). (window_at windows z).until) e)
  | inr ne ↦ omega (arith, apart windows n h k i (omega arith) (omega arith), h.some i (omega arith))
]

ends_before : (windows : List Window) (n i : ℕ) → AreWindows windows n → i < length windows
    → window_end windows i ≤ (window_at windows i).from
unfolding window_end
ends_before windows n zero h l = omega arith
ends_before windows n (suc i) h l = apart windows n h i (suc i) (omega arith) l

pub window_next : (windows : List Window) (i : ℕ) → window_end windows (i + 1) ≡ (window_at windows i).until
unfolding window_end
window_next windows i = ap (window_end windows) (add-one i)

pub one_window_more : (windows : List Window) (n i given : ℕ) → AreWindows windows n → i < length windows
    → given ≡ count_below (is_given windows) (window_end windows i)
    → given + ((window_at windows i).until - (window_at windows i).from)
    ≡ count_below (is_given windows) (window_end windows (i + 1))
one_window_more windows n i given h l e =
    let gap
    = count_to (is_given windows) false (window_end windows i) (window_at windows i).from
    (ends_before windows n i h l) (λ x a b. none_given windows n i (window_end windows i) x h
    (λ k m. over windows n i k h m (omega arith)) a (λ q. b)) in
    let own
    = count_to (is_given windows) true (window_at windows i).from (window_at windows i).until
    (omega (arith, h.some i l)) (λ x a b. all_given windows i x l a b) in
    omega (arith, gap, own, ap (count_below (is_given windows)) (window_next windows i))

end_within : (windows : List Window) (n i : ℕ) → AreWindows windows n → i ≤ length windows → window_end windows i ≤ n
unfolding window_end
end_within windows n zero h l = omega arith
end_within windows n (suc i) h l = h.in_slots i (omega arith)

pub all_windows : (windows : List Window) (n i given : ℕ) → AreWindows windows n → i ≡ length windows
    → given ≡ count_below (is_given windows) (window_end windows i) → given ≡ slots_between (slots_of windows n) 0 n
all_windows windows n i given h l e =
    let last : window_end windows i ≤ n = end_within windows n i h (omega arith) in
    let rest
    = count_to (is_given windows) false (window_end windows i) n last
    (λ x a b. none_given windows n i (window_end windows i) x h (λ k m. over windows n i k h m (omega arith)) a
    (λ q. absurd (omega arith))) in
    let same : slots_between (slots_of windows n) 0 n ≡ count_below (is_given windows) n
    = count_same (λ x. nat_le 0 x && get_or (slots_of windows n) x false) (is_given windows) n
    (λ x m. ap (λ (b : Bool). b && get_or (slots_of windows n) x false) (le-leb 0 x (omega arith))
    ∙ slot_at windows n x m) in
    omega (arith, rest, same)

pub none_served : (due : ℕ → ℕ) (n : ℕ) (run : List (Option ℕ)) (got : List ℕ)
    → got ≡ replicate n 0 → ServedTo due n run 0 got
none_served due n run got e = subst (λ (g : List ℕ). ServedTo due n run 0 g) (sym e) (record {
  long = length-replicate n 0;
  each =
      λ j l. get_or-replicate n j 0 0 l
      ∙ (sym (sum_below-zero (λ y. cond (holds (held run y) j) 1 0))
      ∙ ap (service run j) (let q : 0 ≡ min (due j) 0 = omega arith in q));
})

-- one span more: its job gets its slots before the deadline moment, and no other job gets any
span_service : (run : List (Option ℕ)) (m u d j : ℕ) (o : Option ℕ) → m ≤ u → Holds run m u o
    → service run j (min d u) ≡ service run j (min d m) + cond (holds o j) (min d u - min d m) 0
span_service run m u d j o l is =
    count_to (λ y. holds (held run y) j) (holds o j) (min d m) (min d u) (omega arith)
    (λ x a b. ap (λ (v : Option ℕ). holds v j) (is x (omega arith) (omega arith)))

pub idle_served : (due : ℕ → ℕ) (n : ℕ) (run : List (Option ℕ)) (m u : ℕ) (got : List ℕ)
    → ServedTo due n run m got → m ≤ u → Holds run m u None → ServedTo due n run u got
idle_served due n run m u got h l is =
    record {
      long = h.long;
      each = λ j lj. omega (arith, h.each j lj, span_service run m u (due j) j None l is);
    }

pub job_served : (due : ℕ → ℕ) (n : ℕ) (run : List (Option ℕ)) (m u i more : ℕ) (got : List ℕ)
    → ServedTo due n run m got → m ≤ u → Holds run m u (Some i) → i < n
    → more + min (due i) m ≡ min (due i) u
    → ServedTo due n run u (set got i (get_or got i 0 + more))
job_served due n run m u i more got h l is li e = record {
  long = length-set got i (get_or got i 0 + more) ∙ h.long;
  each = λ j lj. elim (cases_eq j i) [
    | inl q ↦
        subst (λ (z : ℕ). get_or (set got i (get_or got i 0 + more)) z 0
        ≡ service run z (min (due z) u)) (sym q)
        (get_or-set_same got i (get_or got i 0 + more) 0 (omega (arith, h.long))
        ∙ omega (
          arith,
          h.each i li,
          e,
          span_service run m u (due i) i (Some i) l is,
          cond-true {A = ℕ} (eqb i i)
              (min (due i) u - min (due i) m) 0
              (eq-eqb i i refl),
        ))
    | inr ne ↦
        get_or-set_other got i j (get_or got i 0 + more) 0 ne
        ∙ omega (
          arith,
          h.each j lj,
          span_service run m u (due j) j (Some i) l is,
          cond-false {A = ℕ} (eqb i j)
              (min (due j) u - min (due j) m) 0
              (ne_eqb i j (λ z. ne (sym z))),
        )
  ];
}

-- no service is longer than the run so far, and one span more adds no more than its slots
pub served_fits : (due : ℕ → ℕ) (n : ℕ) (run : List (Option ℕ)) (m i : ℕ) (got : List ℕ)
    → ServedTo due n run m got → i < n → get_or got i 0 ≤ min (due i) m
served_fits due n run m i got h l =
    omega (arith, h.each i l, count_below-le (λ y. holds (held run y) i) (min (due i) m))
