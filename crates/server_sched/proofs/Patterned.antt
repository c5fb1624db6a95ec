-- Windows that give a budget at the same slots of every period.
use Rattle.std.proofs.Common.{◌≡◌, ℕ, suc, min, ◌+◌, ◌-◌, ◌*◌, ◌<◌, ◌≤◌, ◌&&◌, nat_le, nat_lt, Bool, true, false, List, [], ◌∷◌, ◌++◌, length, get_or, Option, refl, sym, ◌∙◌, ap, arith, subst, inl, inr, lt-ltb, le-ltb, le-leb}
use Rattle.std.proofs.lemmas.Bool.{lt-leb, and_from, cases_eq, and_right}
use Rattle.std.proofs.lemmas.List.{get_or_append_left, get_or_push, length_push, length-map, get_or-map, ext_get_or}
use Rattle.std.proofs.lemmas.List.FromFn.{get_or-map-range_with_len, length-map-range_with_len}
use Rattle.std.proofs.lemmas.Nat.{mod-mul-add}
use Rattle.slot_model.specs.Supply.{Follows}
use Rattle.guest_sched.specs.Spans.{Window, AreWindows, slots_of}
use Rattle.tree_model.specs.declared.pinned_core.Core.{Core}
use Rattle.tree_model.specs.View.{SystemView}
use Rattle.tree_model.specs.System.{no_core}
use Rattle.guest_sched.specs.MoreWindows.{AddsWindow}
use Rattle.guest_sched.proofs.Given.{slots-long}
use Rattle.guest_sched.proofs.Spelled.{Spells, then_none, then_all}
use Rattle.server_sched.specs.declared.supplies.Pattern.{Pattern}
use Rattle.server_sched.specs.Patterns.{pattern_slot, pattern_slots, pattern_supplies}
use Rattle.server_sched.specs.inner.Cyclic.{cyclic_slot}
use Rattle.tree_spans.specs.TreeSpans.{given_at, supplies_of}

-- the slots of period k, by their place in it
cyclic_at : (period first budget k y : ℕ) → y < period
    → cyclic_slot period first budget (k * period + y) ≡ (nat_le first y && nat_lt y (first + budget))
cyclic_at period first budget k y l =
    ap (λ (r : ℕ). nat_le first r && nat_lt r (first + budget)) (mod-mul-add k period y l)

-- before, within and behind the budget of period k
before_it : (period first budget k x : ℕ) → first ≤ period → k * period ≤ x → x < k * period + first
    → cyclic_slot period first budget x ≡ false
before_it period first budget k x f l m =
    ap (cyclic_slot period first budget) (let e : x ≡ k * period + (x - k * period) = omega arith in e)
    ∙ (cyclic_at period first budget k (x - k * period) (omega arith)
    ∙ ap (λ (b : Bool). b && nat_lt (x - k * period) (first + budget))
    (lt-leb first (x - k * period) (omega arith)))

within_it : (period first budget k x : ℕ) → first + budget ≤ period → k * period + first ≤ x
    → x < k * period + first + budget → cyclic_slot period first budget x ≡ true
within_it period first budget k x f l m =
    ap (cyclic_slot period first budget) (let e : x ≡ k * period + (x - k * period) = omega arith in e)
    ∙ (cyclic_at period first budget k (x - k * period) (omega arith)
    ∙ and_from _ _ (le-leb first (x - k * period) (omega arith))
    (lt-ltb (x - k * period) (first + budget) (omega arith)))

behind_it : (period first budget k x : ℕ) → k * period + first + budget ≤ x → x < suc k * period
    → cyclic_slot period first budget x ≡ false
behind_it period first budget k x l m =
    ap (cyclic_slot period first budget) (let e : x ≡ k * period + (x - k * period) = omega arith in e)
    ∙ (cyclic_at period first budget k (x - k * period) (omega arith)
    ∙ (ap (λ (b : Bool). nat_le first (x - k * period) && b)
    (le-ltb (x - k * period) (first + budget) (omega arith))
    ∙ and_right (nat_le first (x - k * period)) false refl))

-- up to the end of a period, and the begin of the budget in the next
pub record CyclicTo (period first budget slots from : ℕ) (windows : List Window) : Type 0 where
  pub k : ℕ
  pub begins : from ≡ k * period + first
  pub spells : Spells (cyclic_slot period first budget) (min slots (k * period)) windows

pub one_period_more : (period first budget slots from until : ℕ) (old new : List Window) → first + budget ≤ period
    → from < slots → until ≡ min (from + budget) slots → CyclicTo period first budget slots from old
    → AddsWindow old from until new → CyclicTo period first budget slots (from + period) new
one_period_more period first budget slots from until old new f l e h adds =
    let p = cyclic_slot period first budget in record {
      k = suc h.k;
      begins = omega (arith, h.begins);
      spells = then_none p until (min slots (suc h.k * period)) new
          (then_all p from until old new
          (then_none p (min slots (h.k * period)) from old h.spells (omega (arith, h.begins))
          (λ x a b. before_it period first budget h.k x (omega arith) (omega (arith, h.begins))
          (omega (arith, h.begins))))
          adds (λ x a b. within_it period first budget h.k x f (omega (arith, h.begins)) (omega (arith, h.begins, e))))
          (omega (arith, e, h.begins))
          (λ x a b. behind_it period first budget h.k x (omega (arith, e, h.begins)) (omega arith));
    }

pub all_cyclic : (period first budget slots from : ℕ) (windows : List Window) → first + budget ≤ period → slots ≤ from
    → CyclicTo period first budget slots from windows → Spells (cyclic_slot period first budget) slots windows
all_cyclic period first budget slots from windows f l h =
    then_none (cyclic_slot period first budget) (min slots (h.k * period)) slots windows h.spells (omega arith)
    (λ x a b. before_it period first budget h.k x (omega arith) (omega arith) (omega (arith, h.begins)))

-- windows that follow a pattern have its list of slots
pub pattern_exact : (pattern : Pattern) (supply : Option (ℕ × ℕ)) (n : ℕ) (windows : List Window)
    → Follows (pattern_slot pattern supply) (slots_of windows n) → slots_of windows n ≡ pattern_slots pattern supply n
pattern_exact pattern supply n windows h =
    ext_get_or false (slots_of windows n) (pattern_slots pattern supply n)
    (slots-long windows n ∙ sym (length-map-range_with_len (pattern_slot pattern supply) 0 n))
    (λ x l. h x l
    ∙ sym (get_or-map-range_with_len (pattern_slot pattern supply) 0 n x x false
    (omega (arith, slots-long windows n)) (omega arith)))

-- the windows of the first m cores
pub record PatternTo (cores : List Core) (pattern : Pattern) (n m : ℕ) (lists : List (List Window)) : Type 0 where
  pub long : length lists ≡ m
  pub windows : (c : ℕ) → c < m → AreWindows (given_at lists c) n
  pub same : (c : ℕ) → c < m → slots_of (given_at lists c) n ≡ pattern_slots pattern (get_or cores c no_core).supply n

pub one_core_more : (cores : List Core) (pattern : Pattern) (n m : ℕ) (lists : List (List Window))
    → PatternTo cores pattern n m lists → (new : List Window) → AreWindows new n
    → slots_of new n ≡ pattern_slots pattern (get_or cores m no_core).supply n
    → PatternTo cores pattern n (m + 1) (lists ++ new ∷ [])
one_core_more cores pattern n m lists h new are same = record {
  long = omega (arith, length_push lists new, h.long);
  windows = λ c l. elim (cases_eq c m) [
    | inl now ↦ subst (λ (w : List Window). AreWindows w n) (sym (get_or_push lists new [] c (h.long ∙ sym now))) are
    | inr ne ↦
        subst (λ (w : List Window). AreWindows w n)
        (sym (get_or_append_left lists (new ∷ []) [] c (omega (arith, h.long)))) (h.windows c (omega arith))
  ];
  same = λ c l. elim (cases_eq c m) [
    | inl now ↦
        ap (λ (w : List Window). slots_of w n) (get_or_push lists new [] c (h.long ∙ sym now))
        ∙ (same ∙ ap (λ (z : ℕ). pattern_slots pattern (get_or cores z no_core).supply n) (sym now))
    | inr ne ↦
        ap (λ (w : List Window). slots_of w n) (get_or_append_left lists (new ∷ []) [] c (omega (arith, h.long)))
        ∙ h.same c (omega arith)
  ];
}

pub all_exact : (sys : SystemView) (pattern : Pattern) (n m : ℕ) (lists : List (List Window)) → m ≡ length sys.cores
    → PatternTo sys.cores pattern n m lists → supplies_of lists n ≡ pattern_supplies sys pattern n
all_exact sys pattern n m lists e h =
    let long : length (supplies_of lists n) ≡ length lists = length-map lists (λ (w : List Window). slots_of w n) in
    let of_core : Core → List Bool = λ core. pattern_slots pattern core.supply n in
    ext_get_or [] (supplies_of lists n) (pattern_supplies sys pattern n)
    (long ∙ (h.long ∙ (e ∙ sym (length-map sys.cores of_core))))
    (λ i l. get_or-map (λ (w : List Window). slots_of w n) lists i [] [] (omega arith)
    ∙ (h.same i (omega (arith, h.long)) ∙ sym (get_or-map of_core sys.cores i no_core [] (omega (arith, h.long)))))
