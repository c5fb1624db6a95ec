-- What several cores tell, one event after another.
use Rattle.std.proofs.Common.{◌≡◌, ℕ, zero, suc, ◌+◌, ◌<◌, ◌≤◌, cond, ltb, List, [], ◌∷◌, ◌++◌, length, get_or, Option, Some, None, refl, sym, ◌∙◌, ap, arith, subst, inl, inr, append_assoc, append-nil, Vec, Global}
use Rattle.std.specs.Prelude.{slice_get}
use Rattle.std.proofs.lemmas.Bool.{cases_eq, cases_lt, cond-true, cond-false, lt-ltb, le-ltb}
use Rattle.std.proofs.lemmas.Option.{same_Some}
use Rattle.trace_file.specs.declared.event.Event.{Event}
use Rattle.trace_file.specs.Taker.{Took}
use Rattle.rtds_trace.specs.Printed.{push_some, gathered, moment_of_slot}
use Rattle.rtds_sim.specs.inner.Lists.{list_at}
use Rattle.rtds_sim.specs.inner.Telling.{told_on, told_by, AreAtSlots, AreTold}
use Rattle.rtds_sim.specs.inner.Soonest.{next_moment, AreNever, IsSoonest}
use Rattle.rtds_trace.proofs.Gathered.{gathered-zero, gathered-suc, gathered-rest, gathered-none, took_nothing, took_same, took_more}
use Rattle.rtds_sim.proofs.Nexts.{HasNext, moment_next, next_at, count_more, moment_at, none_before, none_ever, next_here}

pub told_by-zero : (f : ℕ → ℕ → Option Event) (x n : ℕ) → told_by f x n 0 ≡ []
unfolding told_by
told_by-zero f x n = refl

pub told_by-suc : (f : ℕ → ℕ → Option Event) (x n m : ℕ)
    → told_by f x n (suc m) ≡ told_by f x n m ++ gathered (f (x + m)) n
unfolding told_by
told_by-suc f x n m = refl

-- nothing more where nothing is told
told_by-rest : (f : ℕ → ℕ → Option Event) (x n j i : ℕ) → j ≤ i
    → ((z c : ℕ) → j ≤ z → z < i → c < n → f (x + z) c ≡ None) → told_by f x n i ≡ told_by f x n j
told_by-rest f x n j zero l none = ap (told_by f x n) (let e : 0 ≡ j = omega arith in e)
told_by-rest f x n j (suc i) l none = elim (cases_eq j (suc i)) [
  | inl e ↦ ap (told_by f x n) (sym e)
  | inr ne ↦
      told_by-suc f x n i
      ∙ (ap (λ es. told_by f x n i ++ es) (gathered-none (f (x + i)) n (λ c k. none i c (omega arith) (omega arith) k))
      ∙ (append-nil (told_by f x n i) ∙ told_by-rest f x n j i (omega arith) (λ z c a b k. none z c a (omega arith) k)))
]

-- how many slots of core c are told, where those below j are, and those of the first k cores at j
unfoldable pub slots_told : ℕ → ℕ → ℕ → ℕ
slots_told j k c = cond (ltb c k) (suc j) j

pub slots_first : (j k c : ℕ) → c < k → slots_told j k c ≡ suc j
unfolding slots_told
slots_first j k c l = cond-true {A = ℕ} (ltb c k) (suc j) j (lt-ltb c k l)

pub slots_last : (j k c : ℕ) → k ≤ c → slots_told j k c ≡ j
unfolding slots_told
slots_last j k c l = cond-false {A = ℕ} (ltb c k) (suc j) j (le-ltb c k l)

-- (j, k) comes no later than (i, d), in the order of slots, and at one slot of cores
slots_later : (j k i d c : ℕ) → j ≤ i → (j ≡ i → k ≤ d) → slots_told j k c ≤ slots_told i d c
slots_later j k i d c l same = elim (cases_lt c k) [
  | inl a ↦ elim (cases_lt c d) [
    | inl b ↦ omega (arith, slots_first j k c a, slots_first i d c b)
    | inr b ↦ elim (cases_lt j i) [
      | inl lt ↦ omega (arith, slots_first j k c a, slots_last i d c b)
      | inr ge ↦ absurd (let e : j ≡ i = omega arith in omega (arith, same e))
    ]
  ]
  | inr a ↦ elim (cases_lt c d) [
    | inl b ↦ omega (arith, slots_last j k c a, slots_first i d c b)
    | inr b ↦ omega (arith, slots_last j k c a, slots_last i d c b)
  ]
]

slots_least : (j k c : ℕ) → j ≤ slots_told j k c
slots_least j k c =
    elim (cases_lt c k) [ inl a ↦ omega (arith, slots_first j k c a) | inr a ↦ omega (arith, slots_last j k c a) ]

slots_most : (j k c : ℕ) → slots_told j k c ≤ suc j
slots_most j k c =
    elim (cases_lt c k) [ inl a ↦ omega (arith, slots_first j k c a) | inr a ↦ omega (arith, slots_last j k c a) ]

slots_within : (j k c m : ℕ) → j ≤ m → (0 < k → j < m) → slots_told j k c ≤ m
slots_within j k c m l begun = elim (cases_lt c k) [
  | inl a ↦ omega (arith, slots_first j k c a, begun (omega arith))
  | inr a ↦ omega (arith, slots_last j k c a)
]

-- one core more
slots_more : (i d c : ℕ) → (c ≡ d → ⊥) → slots_told i (suc d) c ≡ slots_told i d c
slots_more i d c ne = elim (cases_lt c d) [
  | inl a ↦ slots_first i (suc d) c (omega arith) ∙ sym (slots_first i d c a)
  | inr a ↦ slots_last i (suc d) c (omega arith) ∙ sym (slots_last i d c a)
]

-- what is told at the first j slots, and by the first k cores at the slot behind them
abbrev pub told_part : (ℕ → ℕ → Option Event) → ℕ → ℕ → ℕ → ℕ → List Event
told_part f x n j k = told_by f x n j ++ gathered (f (x + j)) k

-- nothing is told from (j, k) on before (i, d)
abbrev pub NoneFrom : (ℕ → ℕ → Option Event) → ℕ → ℕ → ℕ → ℕ → ℕ → ℕ → Type 0
NoneFrom f x n j k i d = (z c : ℕ) → c < n → slots_told j k c ≤ z → z < slots_told i d c → f (x + z) c ≡ None

-- at a later slot
part_later : (f : ℕ → ℕ → Option Event) (x n j k i d : ℕ) → k ≤ n → d ≤ n → j < i → NoneFrom f x n j k i d
    → told_part f x n i d ≡ told_part f x n j k
part_later f x n j k i d in_k in_d l none =
    let own : gathered (f (x + i)) d ≡ []
    = gathered-none (f (x + i)) d
    (λ c b. none i c (omega arith) (omega (arith, slots_most j k c)) (omega (arith, slots_first i d c b))) in
    let between : told_by f x n i ≡ told_by f x n (suc j)
    = told_by-rest f x n (suc j) i (omega arith)
    (λ z c a b e. none z c e (omega (arith, slots_most j k c)) (omega (arith, slots_least i d c))) in
    let rest : gathered (f (x + j)) n ≡ gathered (f (x + j)) k
    = gathered-rest (f (x + j)) k n in_k
    (λ c a b. none j c b (omega (arith, slots_last j k c a)) (omega (arith, slots_least i d c))) in
    ap (λ es. told_by f x n i ++ es) own
    ∙ (append-nil (told_by f x n i) ∙ (between ∙ (told_by-suc f x n j ∙ ap (λ es. told_by f x n j ++ es) rest)))

-- at the same slot
part_same : (f : ℕ → ℕ → Option Event) (x n j k d : ℕ) → k ≤ d → d ≤ n → NoneFrom f x n j k j d
    → told_part f x n j d ≡ told_part f x n j k
part_same f x n j k d l in_d none =
    ap (λ es. told_by f x n j ++ es) (gathered-rest (f (x + j)) k d l
    (λ c a b. none j c (omega arith) (omega (arith, slots_last j k c a)) (omega (arith, slots_first j d c b))))

part_rest : (f : ℕ → ℕ → Option Event) (x n j k i d : ℕ) → k ≤ n → d ≤ n → j ≤ i → (j ≡ i → k ≤ d)
    → NoneFrom f x n j k i d → told_part f x n i d ≡ told_part f x n j k
part_rest f x n j k i d in_k in_d l same none = elim (cases_eq j i) [
  | inl e ↦
      ap (λ (z : ℕ). told_part f x n z d) (sym e)
      ∙ part_same f x n j k d (same e) in_d (subst (λ (z : ℕ). NoneFrom f x n j k z d) (sym e) none)
  | inr ne ↦ part_later f x n j k i d in_k in_d (omega arith) none
]

-- one event more
part_more : (f : ℕ → ℕ → Option Event) (x n i d : ℕ) (event : Event) → f (x + i) d ≡ Some event
    → told_part f x n i (suc d) ≡ told_part f x n i d ++ event ∷ []
part_more f x n i d event is =
    ap (λ es. told_by f x n i ++ es) (gathered-suc (f (x + i)) d ∙ ap (λ o. push_some (gathered (f (x + i)) d) o) is)
    ∙ sym (append_assoc (told_by f x n i) (gathered (f (x + i)) d) (event ∷ []))

-- of each list as much is told as its core tells before (j, k)
pub record ToldTo {A : Type 0} (has_taken : A → A → List Event → Type 0) (old now : A) (f : ℕ → ℕ → Option Event)
    (x m n : ℕ) (told : List ℕ) (j k : ℕ) : Type 0 where
  pub in_cores : k ≤ n
  pub in_slots : j ≤ m
  pub begun : 0 < k → j < m
  pub counts : (c : ℕ) → c < n → get_or told c 0 ≡ length (told_on (λ y. f y c) x (slots_told j k c))
  pub took : Took has_taken old now (told_part f x n j k)

abbrev pub ToldSome : {A : Type 0} → (A → A → List Event → Type 0) → A → A → (ℕ → ℕ → Option Event) → ℕ → ℕ → ℕ → List ℕ
    → Type 0
ToldSome has_taken old now f x m n told = (j : ℕ) × (k : ℕ) × ToldTo has_taken old now f x m n told j k

-- the moments are those of the next events
abbrev pub AreMoments : List (Vec Event Global) → List ℕ → List ℕ → ℕ → Type 0
AreMoments lists told moments n = (c : ℕ) → c < n → get_or moments c 0 ≡ next_moment (list_at lists c) (get_or told c 0)

module _ {A : Type 0} (has_taken : A → A → List Event → Type 0) where
  -- at first
  pub told_none : (a : A) (f : ℕ → ℕ → Option Event) (x m n : ℕ) (told : List ℕ)
      → ((c : ℕ) → c < n → get_or told c 0 ≡ 0) → ToldSome has_taken a a f x m n told
  told_none a f x m n told none = (
    0,
    0,
    record {
      in_cores = omega arith;
      in_slots = omega arith;
      begun = λ l. absurd (omega arith);
      counts =
          λ c l. none c l
          ∙ sym (ap (λ (s : ℕ). length (told_on (λ y. f y c) x s)) (slots_last 0 0 c (omega arith))
          ∙ ap (λ es. length es) (gathered-zero (λ i. f (x + i) c)));
      took =
          took_same has_taken a a [] (told_part f x n 0 0)
          (sym (ap (λ es. es ++ gathered (f (x + 0)) 0) (told_by-zero f x n) ∙ gathered-zero (f (x + 0))))
          (took_nothing has_taken a);
    },
  )

  module _ (f : ℕ → ℕ → Option Event) (at_slots : AreAtSlots f) (x m n : ℕ) (lists : List (Vec Event Global))
      (are_told : AreTold f x m n lists) (told moments : List ℕ) (are_moments : AreMoments lists told moments n)
      (old now : A) where
    -- the moment of a core, by what it tells
    moment_is : (j k : ℕ) → ToldTo has_taken old now f x m n told j k → (c : ℕ) → c < n
        → get_or moments c 0 ≡ moment_next (λ z. f (x + z) c) (slots_told j k c) m
    moment_is j k so_far c l =
        are_moments c l
        ∙ (ap (λ es. next_moment es (get_or told c 0)) (are_told c l)
        ∙ ap (next_moment (gathered (λ z. f (x + z) c) m)) (so_far.counts c l))

    -- nothing is told before the event that is soonest
    none_sooner : (j k : ℕ) → ToldTo has_taken old now f x m n told j k → (i d : ℕ) → i < m → IsSoonest moments n d
        → get_or moments d 0 ≡ moment_of_slot (x + i) → NoneFrom f x n j k i d
    none_sooner j k so_far i d l soonest moment z c in_n a b =
        let in_slots : slots_told j k c ≤ m = slots_within j k c m so_far.in_slots so_far.begun in
        let own = moment_is j k so_far c in_n in
        elim (cases_lt c d) [
          | inl lt ↦
              none_before f at_slots x c m (slots_told j k c) in_slots z a (omega (arith, slots_first i d c lt))
              (omega (arith, soonest.before c lt, own, slots_first i d c lt))
          | inr ge ↦
              none_before f at_slots x c m (slots_told j k c) in_slots z a (omega (arith, slots_last i d c ge))
              (omega (arith, soonest.behind c ge in_n, own, slots_last i d c ge))
        ]

    -- at last
    pub told_all : ToldSome has_taken old now f x m n told → AreNever moments n
        → Took has_taken old now (told_by f x n m)
    told_all so never =
        let j : ℕ = so.0 in
        let k : ℕ = so.1 in
        let so_far : ToldTo has_taken old now f x m n told j k = so.2 in
        let none : NoneFrom f x n j k m 0 = λ z c l a b.
        none_ever f at_slots x c m (slots_told j k c) (slots_within j k c m so_far.in_slots so_far.begun)
        (sym (moment_is j k so_far c l) ∙ never c l) z a (omega (arith, slots_last m 0 c (omega arith))) in
        let all : told_part f x n m 0 ≡ told_part f x n j k
        = part_rest f x n j k m 0 so_far.in_cores (omega arith) so_far.in_slots
        (λ e. elim (cases_lt 0 k) [ inl l ↦ absurd (omega (arith, so_far.begun l)) | inr l ↦ l ]) none in
        took_same has_taken old now (told_part f x n j k) (told_by f x n m)
        (sym all ∙ (ap (λ es. told_by f x n m ++ es) (gathered-zero (f (x + m))) ∙ append-nil (told_by f x n m)))
        so_far.took

    -- one event more
    pub told_one : ToldSome has_taken old now f x m n told → (d : ℕ) → IsSoonest moments n d → (event : Event)
        → slice_get (list_at lists d) (get_or told d 0) ≡ Some event → (new : A) → Took has_taken now new (event ∷ [])
        → (more : List ℕ) → get_or more d 0 ≡ get_or told d 0 + 1
        → ((c : ℕ) → (c ≡ d → ⊥) → get_or more c 0 ≡ get_or told c 0) → ToldSome has_taken old new f x m n more
    told_one so d soonest event is new took more here others =
        let j : ℕ = so.0 in
        let k : ℕ = so.1 in
        let so_far : ToldTo has_taken old now f x m n told j k = so.2 in
        let s : ℕ = slots_told j k d in
        let in_slots : s ≤ m = slots_within j k d m so_far.in_slots so_far.begun in
        let own = moment_is j k so_far d soonest.is_core in
        let found = next_here f at_slots x d m s in_slots (omega (arith, soonest.some, own)) in
        let i : ℕ = found.0 in
        let next : HasNext (λ z. f (x + z) d) s m i found.1 = found.2 in
        let moment : get_or moments d 0 ≡ moment_of_slot (x + i)
        = own ∙ moment_at f at_slots x d m s in_slots i found.1 next in
        let none : NoneFrom f x n j k i d = none_sooner j k so_far i d next.within soonest moment in
        let listed : slice_get (list_at lists d) (get_or told d 0) ≡ Some found.1 =
        ap (λ es. slice_get es (get_or told d 0)) (are_told d soonest.is_core)
        ∙ (ap (slice_get (gathered (λ z. f (x + z) d) m)) (so_far.counts d soonest.is_core)
        ∙ next_at (λ z. f (x + z) d) s m i found.1 next) in
        let same : found.1 ≡ event = same_Some found.1 event (sym listed ∙ is) in
        let later : j ≤ i = omega (arith, slots_least j k d, next.from) in
        let order : j ≡ i → k ≤ d
        = λ e. elim (cases_lt d k) [ inl l ↦ absurd (omega (arith, slots_first j k d l, next.from)) | inr l ↦ l ] in
        let part : told_part f x n j k ++ event ∷ [] ≡ told_part f x n i (suc d) =
        sym (part_more f x n i d event (next.is ∙ ap Some same)
        ∙ ap (λ es. es ++ event ∷ [])
        (part_rest f x n j k i d so_far.in_cores (omega (arith, soonest.is_core)) later order none)) in (
          i,
          suc d,
          record {
            in_cores = omega (arith, soonest.is_core);
            in_slots = omega (arith, next.within);
            begun = λ l. next.within;
            counts = λ c l. elim (cases_eq c d) [
              | inl e ↦
                  subst (λ (z : ℕ). get_or more z 0 ≡ length (told_on (λ y. f y z) x (slots_told i (suc d) z)))
                  (sym e)
                  (here
                  ∙ (ap (λ (z : ℕ). z + 1) (so_far.counts d soonest.is_core)
                  ∙ (sym (count_more (λ z. f (x + z) d) s m i found.1 next)
                  ∙ ap (λ (z : ℕ). length (told_on (λ y. f y d) x z))
                  (sym (slots_first i (suc d) d (omega arith))))))
              | inr ne ↦
                  others c ne
                  ∙ (so_far.counts c l
                  ∙ sym (ap (λ (z : ℕ). length (told_on (λ y. f y c) x z)) (slots_more i d c ne)
                  ∙ ap (λ es. length es) (gathered-rest (λ z. f (x + z) c) (slots_told j k c)
                  (slots_told i d c) (slots_later j k i d c later order)
                  (λ z a b. none z c l a b))))
            ];
            took =
                took_same has_taken old new (told_part f x n j k ++ event ∷ []) (told_part f x n i (suc d)) part
                (took_more has_taken old now new (told_part f x n j k) (event ∷ []) so_far.took took);
          },
        )
