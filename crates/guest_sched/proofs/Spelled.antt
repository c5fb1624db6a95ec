-- Windows that spell a pattern of slots, as far as they were made.
use Rattle.std.proofs.Common.{◌≡◌, ℕ, ◌-◌, ◌<◌, ◌≤◌, Bool, true, false, List, [], ◌∷◌, ◌++◌, Option, Some, None, length, get_or, sym, subst, ◌∙◌, arith, inl, inr}
use Rattle.std.proofs.lemmas.Bool.{cases_lt}
use Rattle.std.proofs.lemmas.List.{ext_get_or}
use Rattle.slot_model.specs.Supply.{Follows}
use Rattle.supply_bound.specs.NextWindow.{IsNextWindow}
use Rattle.guest_sched.specs.Spans.{Window, is_given, slots_of, AreWindows}
use Rattle.guest_sched.specs.MoreWindows.{AddsWindow}
use Rattle.guest_sched.proofs.Given.{none_given, slots-long, slot_at}
use Rattle.guest_sched.proofs.MoreWindows.{one_window}

-- below m they give just the slots of the pattern, and from there on none
pub record Spells (pattern : ℕ → Bool) (m : ℕ) (windows : List Window) : Type 0 where
  pub fit : AreWindows windows m
  pub same : (x : ℕ) → x < m → is_given windows x ≡ pattern x

pub nothing_yet : (pattern : ℕ → Bool) → Spells pattern 0 []
nothing_yet pattern = record {
  fit =
      record {
        some = λ i m. absurd (omega arith);
        in_slots = λ i m. absurd (omega arith);
        in_turn = λ i m. absurd (omega arith);
      };
  same = λ x m. absurd (omega arith);
}

-- no slots up to u
pub then_none : (pattern : ℕ → Bool) (m u : ℕ) (windows : List Window) → Spells pattern m windows → m ≤ u
    → ((x : ℕ) → m ≤ x → x < u → pattern x ≡ false) → Spells pattern u windows
then_none pattern m u windows h l none = record {
  fit = record { some = h.fit.some; in_slots = λ i q. omega (arith, h.fit.in_slots i q); in_turn = h.fit.in_turn };
  same = λ x lx. elim (cases_lt x m) [
    | inl before ↦ h.same x before
    | inr after ↦
        none_given windows m (length windows) m x h.fit h.fit.in_slots after (λ q. absurd (omega arith))
        ∙ sym (none x after lx)
  ];
}

-- all slots up to u
pub then_all : (pattern : ℕ → Bool) (m u : ℕ) (old new : List Window) → Spells pattern m old → AddsWindow old m u new
    → ((x : ℕ) → m ≤ x → x < u → pattern x ≡ true) → Spells pattern u new
then_all pattern m u old new h adds all = record {
  fit = adds.windows;
  same = λ x lx. elim (cases_lt x m) [
    | inl before ↦ adds.before x before ∙ h.same x before
    | inr after ↦ adds.after x after lx ∙ sym (all x after lx)
  ];
}

-- at the end the list of slots follows the pattern
pub spelled_follows : (pattern : ℕ → Bool) (n : ℕ) (windows : List Window) → Spells pattern n windows
    → Follows pattern (slots_of windows n)
spelled_follows pattern n windows h x l =
    let lx : x < n = omega (arith, slots-long windows n) in
    slot_at windows n x lx ∙ h.same x lx

pub spelled_same : (given : List Bool) (n : ℕ) (windows : List Window) → n ≡ length given
    → Spells (λ x. get_or given x false) n windows → slots_of windows n ≡ given
spelled_same given n windows e h =
    ext_get_or false (slots_of windows n) given (slots-long windows n ∙ e)
    (λ i l. spelled_follows (λ x. get_or given x false) n windows h i l)

-- a list that follows the pattern is the list of the windows
pub only_list : (pattern : ℕ → Bool) (n : ℕ) (windows : List Window) (given : List Bool)
    → Follows pattern (slots_of windows n) → Follows pattern given → length given ≡ n → slots_of windows n ≡ given
only_list pattern n windows given made follows long =
    ext_get_or false (slots_of windows n) given (slots-long windows n ∙ sym long)
    (λ i l. made i l ∙ sym (follows i (omega (arith, slots-long windows n))))

-- the next window of the pattern, and none more
one_next_more : (pattern : ℕ → Bool) (from n : ℕ) (window : Window) (windows : List Window)
    → Spells pattern from windows → IsNextWindow pattern from n (Some window)
    → Spells pattern window.until (windows ++ window ∷ [])
one_next_more pattern from n window windows h next =
    let up_to : Spells pattern window.from windows = then_none pattern from window.from windows h next.not_before
    next.none_before in
    then_all pattern window.from window.until windows (windows ++ window ∷ []) up_to
    (one_window windows window.from window.until up_to.fit next.some) next.every

no_next_more : (pattern : ℕ → Bool) (from n : ℕ) (windows : List Window) → from ≤ n → Spells pattern from windows
    → IsNextWindow pattern from n None → Spells pattern n windows
no_next_more pattern from n windows l h none = then_none pattern from n windows h l none

-- the windows up to m, and the next one among n slots
pub record SpellsToNext (pattern : ℕ → Bool) (n : ℕ) (windows : List Window) (next : Option Window) : Type 0 where
  pub m : ℕ
  pub spells : Spells pattern m windows
  pub in_slots : m ≤ n
  pub is_next : IsNextWindow pattern m n next

-- how many slots are left from the begin of the next window on
abbrev pub left_from : ℕ → Option Window → ℕ
left_from n None = 0
left_from n (Some window) = n - window.from

pub one_more_spelled : (pattern : ℕ → Bool) (n : ℕ) (windows : List Window) (next after : Option Window)
    (window : Window) → SpellsToNext pattern n windows next → next ≡ Some window
    → IsNextWindow pattern window.until n after → SpellsToNext pattern n (windows ++ window ∷ []) after
one_more_spelled pattern n windows next after window h e g =
    let is : IsNextWindow pattern h.m n (Some window) = subst (IsNextWindow pattern h.m n) e h.is_next in
    record {
      m = window.until;
      spells = one_next_more pattern h.m n window windows h.spells is;
      in_slots = is.in_slots;
      is_next = g;
    }

pub all_spelled : (pattern : ℕ → Bool) (n : ℕ) (windows : List Window) (next : Option Window)
    → SpellsToNext pattern n windows next → next ≡ None → Spells pattern n windows
all_spelled pattern n windows next h e = no_next_more pattern h.m n windows h.in_slots h.spells
    (subst (IsNextWindow pattern h.m n) e h.is_next)
