-- The lists of several cores.
use Rattle.std.proofs.Common.{◌≡◌, ℕ, ◌+◌, ◌-◌, ◌<◌, ◌≤◌, List, [], length, set, get_or, sym, ◌∙◌, ap, arith, subst, inl, inr, Vec, Global}
use Rattle.std.proofs.lemmas.Bool.{cases_eq, cases_lt}
use Rattle.std.proofs.lemmas.List.{get_or-set_same, get_or-set_other}
use Rattle.std.proofs.lemmas.Option.{slice_get_past}
use Rattle.slot_model.specs.Slots.{sum_below}
use Rattle.slot_model.proofs.Sums.{sum_below-lt}
use Rattle.trace_file.specs.declared.event.Event.{Event}
use Rattle.rtds_sim.specs.declared.switches.TheConstants.{NEVER}
use Rattle.rtds_sim.specs.inner.Lists.{list_at}
use Rattle.rtds_sim.proofs.CoreLists.{list_here, list_there}
use Rattle.rtds_sim.specs.inner.Soonest.{moment_of, next_moment}
use Rattle.rtds_sim.proofs.Merging.{AreMoments}

-- one list more is emptied
pub empty_more : (lists : List (Vec Event Global)) (i : ℕ) (new : Vec Event Global) → i < length lists → new.items ≡ []
    → ((c : ℕ) → c < i → list_at lists c ≡ []) → (c : ℕ) → c < i + 1 → list_at (set lists i new) c ≡ []
empty_more lists i new l none so_far c b = elim (cases_eq c i) [
  | inl e ↦ ap (list_at (set lists i new)) e ∙ (list_here lists i new l ∙ none)
  | inr ne ↦ list_there lists i c new ne ∙ so_far c (omega arith)
]

-- a core with a moment has an event
pub has_event : (events : List Event) (told : ℕ) → next_moment events told < NEVER → told < length events
has_event events told l = elim (cases_lt told (length events)) [
  | inl b ↦ b
  | inr b ↦ absurd (omega (arith, ap moment_of (slice_get_past events told b)))
]

-- the moments behind an event
pub moments_more : (lists : List (Vec Event Global)) (told moments : List ℕ) (n d place moment : ℕ)
    → AreMoments lists told moments n → d < length told → d < length moments
    → moment ≡ next_moment (list_at lists d) place → AreMoments lists (set told d place) (set moments d moment) n
moments_more lists told moments n d place moment are in_told in_moments is c l = elim (cases_eq c d) [
  | inl e ↦
      subst
      (λ (z : ℕ). get_or (set moments d moment) z 0 ≡ next_moment (list_at lists z) (get_or (set told d place) z 0))
      (sym e)
      (get_or-set_same moments d moment 0 in_moments
      ∙ (is ∙ sym (ap (next_moment (list_at lists d)) (get_or-set_same told d place 0 in_told))))
  | inr ne ↦
      get_or-set_other moments d c moment 0 ne
      ∙ (are c l ∙ sym (ap (next_moment (list_at lists c)) (get_or-set_other told d c place 0 ne)))
]

-- how many events are left
abbrev pub left_of : List (Vec Event Global) → List ℕ → ℕ → ℕ
left_of lists told n = sum_below (λ c. length (list_at lists c) - get_or told c 0) n

pub left_less : (lists : List (Vec Event Global)) (told : List ℕ) (n d : ℕ) → d < n → d < length told
    → get_or told d 0 < length (list_at lists d)
    → left_of lists (set told d (get_or told d 0 + 1)) n < left_of lists told n
left_less lists told n d in_n in_told l =
    let more : List ℕ = set told d (get_or told d 0 + 1) in
    let here : get_or more d 0 ≡ get_or told d 0 + 1 = get_or-set_same told d (get_or told d 0 + 1) 0 in_told in
    let each : (c : ℕ) → c < n
    → length (list_at lists c) - get_or more c 0 ≤ length (list_at lists c) - get_or told c 0
    = λ c k. elim (cases_eq c d) [
      | inl e ↦
          subst (λ (z : ℕ). length (list_at lists z) - get_or more z 0 ≤ length (list_at lists z) - get_or told z 0)
          (sym e) (omega (arith, here))
      | inr ne ↦ omega (arith, get_or-set_other told d c (get_or told d 0 + 1) 0 ne)
    ] in
    omega (
      arith,
      sum_below-lt (λ c. length (list_at lists c) - get_or more c 0)
          (λ c. length (list_at lists c) - get_or told c 0) d n 1 each in_n (omega (arith, here)),
    )
