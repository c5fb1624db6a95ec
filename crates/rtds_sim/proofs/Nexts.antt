-- What one core tells next.
use Rattle.std.proofs.Common.{◌≡◌, ◌⊎◌, ℕ, zero, suc, ◌+◌, ◌-◌, ◌<◌, ◌≤◌, List, [], ◌∷◌, ◌++◌, length, Option, Some, None, refl, sym, ◌∙◌, ap, arith, inl, inr, append_assoc, append-nil}
use Rattle.std.specs.Prelude.{slice_get}
use Rattle.std.proofs.lemmas.Bool.{cases_eq, cases_lt}
use Rattle.std.proofs.lemmas.List.{length_push}
use Rattle.std.proofs.lemmas.Option.{slice_get_past}
use Rattle.trace_file.specs.declared.event.Event.{Event}
use Rattle.rtds_sim.specs.declared.switches.TheConstants.{NEVER}
use Rattle.rtds_trace.specs.Printed.{push_some, gathered, moment_of_slot}
use Rattle.rtds_sim.specs.inner.Telling.{AreAtSlots}
use Rattle.rtds_sim.specs.inner.Soonest.{moment_of, next_moment}
use Rattle.rtds_trace.proofs.Gathered.{gathered-suc, gathered-rest, push_behind}

-- what is gathered first, and then what is gathered from i on
pub gathered-split : {X : Type 0} (g : ℕ → Option X) (i r : ℕ)
    → gathered g (i + r) ≡ gathered g i ++ gathered (λ z. g (i + z)) r
unfolding gathered
gathered-split g i zero = ap (gathered g) (let e : i + 0 ≡ i = omega arith in e) ∙ sym (append-nil (gathered g i))
gathered-split g i (suc r) =
    ap (gathered g) (let e : i + suc r ≡ suc (i + r) = omega arith in e)
    ∙ (ap (λ xs. push_some xs (g (i + r))) (gathered-split g i r)
    ∙ sym (push_behind (gathered g i) (gathered (λ z. g (i + z)) r) (g (i + r))))

-- the first thing that is told from slot s on is told at slot i
pub record HasNext (g : ℕ → Option Event) (s m i : ℕ) (event : Event) : Type 0 where
  pub from : s ≤ i
  pub within : i < m
  pub is : g i ≡ Some event
  pub none : (z : ℕ) → s ≤ z → z < i → g z ≡ None

abbrev pub HasNone : (ℕ → Option Event) → ℕ → ℕ → Type 0
HasNone g s m = (z : ℕ) → s ≤ z → z < m → g z ≡ None

abbrev pub NextIn : (ℕ → Option Event) → ℕ → ℕ → Type 0
NextIn g s m = HasNone g s m ⊎ ((i : ℕ) × (event : Event) × HasNext g s m i event)

next_more : (g : ℕ → Option Event) (s m : ℕ) → NextIn g s m → (o : Option Event) → g m ≡ o → NextIn g s (suc m)
next_more g s m (inr next) o e =
    inr (
      next.0,
      next.1,
      record { from = next.2.from; within = omega (arith, next.2.within); is = next.2.is; none = next.2.none },
    )
next_more g s m (inl none) None e =
    inl (λ z a b. elim (cases_eq z m) [ inl q ↦ ap g q ∙ e | inr ne ↦ none z a (omega arith) ])
next_more g s m (inl none) (Some event) e = elim (cases_lt m s) [
  | inl l ↦ inl (λ z a b. absurd (omega arith))
  | inr l ↦ inr (m, event, record { from = l; within = omega arith; is = e; none = none })
]

-- either nothing more is told, or there is a first slot at which something is
pub next_in : (g : ℕ → Option Event) (s m : ℕ) → NextIn g s m
next_in g s zero = inl (λ z a b. absurd (omega arith))
next_in g s (suc m) = next_more g s m (next_in g s m) (g m) refl

slice_get_behind : {X : Type 0} (p : List X) (y : X) (q : List X) → slice_get (p ++ y ∷ q) (length p) ≡ Some y
slice_get_behind [] y q = refl
slice_get_behind (x ∷ p) y q = slice_get_behind p y q

-- up to the next event
pub to_next : (g : ℕ → Option Event) (s m i : ℕ) (event : Event) → HasNext g s m i event
    → gathered g (suc i) ≡ gathered g s ++ event ∷ []
to_next g s m i event next =
    gathered-suc g i
    ∙ (ap (λ o. push_some (gathered g i) o) next.is
    ∙ ap (λ xs. xs ++ event ∷ []) (gathered-rest g s i next.from next.none))

pub count_more : (g : ℕ → Option Event) (s m i : ℕ) (event : Event) → HasNext g s m i event
    → length (gathered g (suc i)) ≡ length (gathered g s) + 1
count_more g s m i event next = ap (λ xs. length xs) (to_next g s m i event next) ∙ length_push (gathered g s) event

-- it stands in the list behind those that are told
pub next_at : (g : ℕ → Option Event) (s m i : ℕ) (event : Event) → HasNext g s m i event
    → slice_get (gathered g m) (length (gathered g s)) ≡ Some event
next_at g s m i event next =
    let r : ℕ = m - suc i in
    let rest : List Event = gathered (λ z. g (suc i + z)) r in
    let all : gathered g m ≡ gathered g s ++ event ∷ rest =
    ap (gathered g) (let e : m ≡ suc i + r = omega (arith, next.within) in e)
    ∙ (gathered-split g (suc i) r
    ∙ (ap (λ xs. xs ++ rest) (to_next g s m i event next) ∙ append_assoc (gathered g s) (event ∷ []) rest)) in
    ap (λ xs. slice_get xs (length (gathered g s))) all ∙ slice_get_behind (gathered g s) event rest

pub none_at : (g : ℕ → Option Event) (s m : ℕ) → s ≤ m → HasNone g s m
    → slice_get (gathered g m) (length (gathered g s)) ≡ None
none_at g s m l none =
    ap (λ xs. slice_get xs (length (gathered g s))) (gathered-rest g s m l none)
    ∙ slice_get_past (gathered g s) (length (gathered g s)) (omega arith)

-- the moment of the next event of what g tells, where it is told up to slot s
abbrev pub moment_next : (ℕ → Option Event) → ℕ → ℕ → ℕ
moment_next g s m = next_moment (gathered g m) (length (gathered g s))

module _ (f : ℕ → ℕ → Option Event) (at_slots : AreAtSlots f) (x c m s : ℕ) (in_slots : s ≤ m) where
  -- the next event stands at its slot
  pub moment_at : (i : ℕ) (event : Event) → HasNext (λ z. f (x + z) c) s m i event
      → moment_next (λ z. f (x + z) c) s m ≡ moment_of_slot (x + i)
  moment_at i event next = ap moment_of (next_at (λ z. f (x + z) c) s m i event next) ∙ at_slots (x + i) c event next.is

  -- nothing is told before
  pub none_before : (z : ℕ) → s ≤ z → z < m → moment_of_slot (x + z) < moment_next (λ z. f (x + z) c) s m
      → f (x + z) c ≡ None
  none_before z a b l = elim (next_in (λ z. f (x + z) c) s m) [
    | inl none ↦ none z a b
    | inr next ↦ next.2.none z a (omega (arith, moment_at next.0 next.1 next.2))
  ]

  -- nor at all where no moment is left
  pub none_ever : moment_next (λ z. f (x + z) c) s m ≡ NEVER → HasNone (λ z. f (x + z) c) s m
  none_ever never = elim (next_in (λ z. f (x + z) c) s m) [
    | inl none ↦ none
    | inr next ↦ absurd (omega (arith, moment_at next.0 next.1 next.2))
  ]

  -- and else there is a next event
  pub next_here : moment_next (λ z. f (x + z) c) s m < NEVER
      → (i : ℕ) × (event : Event) × HasNext (λ z. f (x + z) c) s m i event
  next_here some = elim (next_in (λ z. f (x + z) c) s m) [
    | inl none ↦ absurd (omega (arith, ap moment_of (none_at (λ z. f (x + z) c) s m in_slots none)))
    | inr next ↦ next
  ]
