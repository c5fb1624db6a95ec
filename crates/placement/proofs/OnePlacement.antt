-- Guests are placed in one way, or there is one fault, but for want of memory.
use Rattle.std.proofs.Common.{◌≡◌, ◌≢◌, ℕ, zero, suc, ◌<◌, List, [], ◌∷◌, length, take, refl, sym, ◌∙◌, ap, subst, inl, inr, arith}
use Rattle.std.proofs.lemmas.Bool.{cases_lt}
use Rattle.tree_model.specs.View.{PartView, SystemView}
use Rattle.tree_model.specs.System.{IsSystem}
use Rattle.tree_model.specs.declared.plan.Refusal.{Refusal}
use Rattle.tree_model.specs.Admission.{FirstRefusal}
use Rattle.tree_model.proofs.Unique.{never_both, one_refusal}
use Rattle.admission_session.specs.Leaves.{with_guest}
use Rattle.admission_session.specs.Answers.{IsAdmitted}
use Rattle.admission_session.proofs.MadeSystems.{new_leaf_is}
use Rattle.placement.specs.declared.fault.PlaceFault.{PlaceFault}
use Rattle.placement.specs.declared.fault.PlaceFault.TheVariants.{Refused as Refuses, BadGuest, Unplaced, NoMemory}
use Rattle.placement.specs.Placement.{IsFirstFit, IsPlaced}
use Rattle.placement.specs.Answers.{guest_at, IsBadGuest, IsUnplaced, PlaceFails, StopsAt}

-- a guest has one first fit
one_fit : (sys : SystemView) (guest : PartView) (c d : ℕ) → IsFirstFit sys guest c → IsFirstFit sys guest d → c ≡ d
one_fit sys guest c d p q = elim (cases_lt c d) [
  | inl before ↦ absurd (q.before c before p.admitted)
  | inr not_before ↦ elim (cases_lt d c) [
    | inl behind ↦ absurd (p.before d behind q.admitted)
    | inr not_behind ↦ omega (arith, not_before, not_behind)
  ]
]

pub one_placed : (sys : SystemView) (guests : List PartView) (a b : SystemView) → IsPlaced sys guests a
    → IsPlaced sys guests b → a ≡ b
one_placed sys [] a b p q = p ∙ sym q
one_placed sys (guest ∷ later) a b p q =
    one_placed (with_guest sys guest p.0) later a b p.2
    (subst (λ (c : ℕ). IsPlaced (with_guest sys guest c) later b) (sym (one_fit sys guest p.0 q.0 p.1 q.1)) q.2)

-- guests stand on the cores of the system, and make a system
pub placed_is : (sys : SystemView) → IsSystem sys → (guests : List PartView) (placed : SystemView)
    → IsPlaced sys guests placed → IsSystem placed
placed_is sys is [] placed e = subst IsSystem (sym e) is
placed_is sys is (guest ∷ later) placed h =
    placed_is (with_guest sys guest h.0) (new_leaf_is sys is guest h.0 h.1.new h.1.is_core) later placed h.2

pub placed_cores : (sys : SystemView) (guests : List PartView) (placed : SystemView) → IsPlaced sys guests placed
    → placed.cores ≡ sys.cores
placed_cores sys [] placed e = ap (λ (s : SystemView). s.cores) e
placed_cores sys (guest ∷ later) placed h = placed_cores (with_guest sys guest h.0) later placed h.2

-- where guests are placed, each has its first fit in the system that those before it make
record PlacedAt (sys : SystemView) (guests : List PartView) (i : ℕ) : Type 0 where
  now : SystemView
  before : IsPlaced sys (take i guests) now
  core : ℕ
  fit : IsFirstFit now (guest_at guests i) core

placed_at : (sys : SystemView) (guests : List PartView) (placed : SystemView) (i : ℕ) → i < length guests
    → IsPlaced sys guests placed → PlacedAt sys guests i
placed_at sys [] placed i l h = absurd (omega (arith, l))
placed_at sys (guest ∷ later) placed zero l h = record { now = sys; before = refl; core = h.0; fit = h.1 }
placed_at sys (guest ∷ later) placed (suc i) l h =
    let next = placed_at (with_guest sys guest h.0) later placed i (omega (arith, l)) h.2 in
    record { now = next.now; before = (h.0, h.1, next.before); core = next.core; fit = next.fit }

-- so no fault of that guest
abbrev IsNoFit : (SystemView → PartView → Type 0) → Type 0
IsNoFit Fault = (sys : SystemView) (guest : PartView) (c : ℕ) → IsFirstFit sys guest c → Fault sys guest → ⊥

bad_is_no_fit : IsNoFit IsBadGuest
bad_is_no_fit sys guest c fit bad = bad fit.new

unplaced_is_no_fit : IsNoFit IsUnplaced
unplaced_is_no_fit sys guest c fit unplaced = unplaced.1 c fit.is_core fit.admitted

never_stops : (Fault : SystemView → PartView → Type 0) → IsNoFit Fault
    → (sys : SystemView) (guests : List PartView) (placed : SystemView) (i : ℕ) → IsPlaced sys guests placed
    → StopsAt sys guests i Fault → ⊥
never_stops Fault none sys guests placed i h stop =
    let at = placed_at sys guests placed i stop.is_guest h in
    none at.now (guest_at guests i) at.core at.fit (subst (λ (s : SystemView). Fault s (guest_at guests i))
    (one_placed sys (take i guests) stop.now at.now stop.placed at.before) stop.fault)

-- nor one of an earlier guest than that at which they stop
take_take : (guests : List PartView) (i j : ℕ) → i < j → take i (take j guests) ≡ take i guests
take_take guests zero j l = refl
take_take guests (suc i) zero l = absurd (omega (arith, l))
take_take [] (suc i) (suc j) l = refl
take_take (guest ∷ later) (suc i) (suc j) l =
    ap (λ (z : List PartView). guest ∷ z) (take_take later i j (omega (arith, l)))

guest_in_take : (guests : List PartView) (i j : ℕ) → i < j → guest_at (take j guests) i ≡ guest_at guests i
guest_in_take guests i zero l = absurd (omega (arith, l))
guest_in_take [] i (suc j) l = refl
guest_in_take (guest ∷ later) zero (suc j) l = refl
guest_in_take (guest ∷ later) (suc i) (suc j) l = guest_in_take later i j (omega (arith, l))

length_taken : (guests : List PartView) (i j : ℕ) → i < j → i < length guests → i < length (take j guests)
length_taken guests i zero l m = absurd (omega (arith, l))
length_taken [] i (suc j) l m = absurd (omega (arith, m))
length_taken (guest ∷ later) zero (suc j) l m = omega arith
length_taken (guest ∷ later) (suc i) (suc j) l m =
    let n = length_taken later i j (omega (arith, l)) (omega (arith, m)) in omega (arith, n)

never_before : (Fault Other : SystemView → PartView → Type 0) → IsNoFit Fault
    → (sys : SystemView) (guests : List PartView) (i j : ℕ) → i < j → StopsAt sys guests i Fault
    → StopsAt sys guests j Other → ⊥
never_before Fault Other none sys guests i j l first second =
    never_stops Fault none sys (take j guests) second.now i second.placed (record {
      admitted = first.admitted;
      is_guest = length_taken guests i j l first.is_guest;
      now = first.now;
      placed = subst (λ (gs : List PartView). IsPlaced sys gs first.now) (sym (take_take guests i j l)) first.placed;
      fault = subst (λ (g : PartView). Fault first.now g) (sym (guest_in_take guests i j l)) first.fault;
    })

same_stop : (Fault Other : SystemView → PartView → Type 0) → IsNoFit Fault → IsNoFit Other
    → (sys : SystemView) (guests : List PartView) (i j : ℕ) → StopsAt sys guests i Fault → StopsAt sys guests j Other
    → i ≡ j
same_stop Fault Other none nor sys guests i j first second = elim (cases_lt i j) [
  | inl before ↦ absurd (never_before Fault Other none sys guests i j before first second)
  | inr not_before ↦ elim (cases_lt j i) [
    | inl behind ↦ absurd (never_before Other Fault nor sys guests j i behind second first)
    | inr not_behind ↦ omega (arith, not_before, not_behind)
  ]
]

-- a guest that may be no leaf is not one that fits nowhere
never_bad_unplaced : (sys : SystemView) (guests : List PartView) (i j : ℕ) → StopsAt sys guests i IsBadGuest
    → StopsAt sys guests j IsUnplaced → ⊥
never_bad_unplaced sys guests i j bad unplaced =
    let same : i ≡ j = same_stop IsBadGuest IsUnplaced bad_is_no_fit unplaced_is_no_fit sys guests i j bad unplaced in
    let there : StopsAt sys guests i IsUnplaced
    = subst (λ (k : ℕ). StopsAt sys guests k IsUnplaced) (sym same) unplaced in
    let now : bad.now ≡ there.now = one_placed sys (take i guests) bad.now there.now bad.placed there.placed in
    subst (λ (s : SystemView). IsBadGuest s (guest_at guests i)) now bad.fault there.fault.0

never_refused : (sys : SystemView) → IsSystem sys → (r : Refusal) → FirstRefusal sys r → IsAdmitted sys → ⊥
never_refused sys is r first admitted = never_both sys is admitted.0 r admitted.1 first

-- where they are placed there is no fault
pub never_placed_fails : (sys : SystemView) → IsSystem sys → (guests : List PartView) (placed : SystemView)
    → IsAdmitted sys → IsPlaced sys guests placed → (fault : PlaceFault) → fault ≢ NoMemory
    → PlaceFails sys guests fault → ⊥
never_placed_fails sys is guests placed admitted h (Refuses r) real fails = never_refused sys is r fails admitted
never_placed_fails sys is guests placed admitted h (BadGuest i) real fails =
    never_stops IsBadGuest bad_is_no_fit sys guests placed i h fails
never_placed_fails sys is guests placed admitted h (Unplaced i) real fails =
    never_stops IsUnplaced unplaced_is_no_fit sys guests placed i h fails
never_placed_fails sys is guests placed admitted h NoMemory real fails = real refl

-- and of two faults both are one
pub one_place_fault : (sys : SystemView) → IsSystem sys → (guests : List PartView) (a b : PlaceFault) → a ≢ NoMemory
    → b ≢ NoMemory → PlaceFails sys guests a → PlaceFails sys guests b → a ≡ b
one_place_fault sys is guests NoMemory b x y p q = absurd (x refl)
one_place_fault sys is guests (Refuses r) NoMemory x y p q = absurd (y refl)
one_place_fault sys is guests (BadGuest i) NoMemory x y p q = absurd (y refl)
one_place_fault sys is guests (Unplaced i) NoMemory x y p q = absurd (y refl)
one_place_fault sys is guests (Refuses r) (Refuses s) x y p q = ap Refuses (one_refusal sys is r s p q)
one_place_fault sys is guests (Refuses r) (BadGuest j) x y p q = absurd (never_refused sys is r p q.admitted)
one_place_fault sys is guests (Refuses r) (Unplaced j) x y p q = absurd (never_refused sys is r p q.admitted)
one_place_fault sys is guests (BadGuest i) (Refuses s) x y p q = absurd (never_refused sys is s q p.admitted)
one_place_fault sys is guests (BadGuest i) (BadGuest j) x y p q =
    ap BadGuest (same_stop IsBadGuest IsBadGuest bad_is_no_fit bad_is_no_fit sys guests i j p q)
one_place_fault sys is guests (BadGuest i) (Unplaced j) x y p q = absurd (never_bad_unplaced sys guests i j p q)
one_place_fault sys is guests (Unplaced i) (Refuses s) x y p q = absurd (never_refused sys is s q p.admitted)
one_place_fault sys is guests (Unplaced i) (BadGuest j) x y p q = absurd (never_bad_unplaced sys guests j i q p)
one_place_fault sys is guests (Unplaced i) (Unplaced j) x y p q =
    ap Unplaced (same_stop IsUnplaced IsUnplaced unplaced_is_no_fit unplaced_is_no_fit sys guests i j p q)
