-- A workload that is a witness: each VCPU of a core starts in its first period, blocks a slot
-- later, and wakes at r, so that a period of each ends with v's that begins there. Its rows stand
-- slot by slot, and at each slot in the order of the file.
use Rattle.std.proofs.Common.{◌≡◌, ◌≢◌, ◌⊎◌, ℕ, zero, suc, ◌+◌, ◌*◌, ◌-◌, ◌/◌, ◌%◌, ◌<◌, ◌≤◌, ◌==◌, Bool, true, false, cond, not, ◌&&◌, ◌||◌, nat_le, List, length, get_or, map, Option, Some, refl, sym, ◌∙◌, ap, arith, subst, inl, inr, eq-eqb, eqb-true, le-leb}
use Rattle.std.specs.Prelude.{is_some}
use Rattle.std.proofs.Math.Nat.{mul-le-mul_right}
use Rattle.std.proofs.lemmas.Nat.{le-div}
use Rattle.std.proofs.lemmas.Bool.{cases_eq, cases_lt, cases_Bool, cond-true, cond-false, and_from, and_parts, and_left, lt-leb, both_ways}
use Rattle.std.proofs.lemmas.Bool.Decides.{nat_tests}
use Rattle.std.proofs.lemmas.List.{length-map, get_or-map}
use Rattle.slot_model.specs.declared.task.TheConstants.{LIMIT}
use Rattle.slot_model.specs.Slots.{count_below, places_where}
use Rattle.slot_model.proofs.Places.{length-places_where, counted_below, stands_at}
use Rattle.slot_model.proofs.Runs.{count_below-mono}
use Rattle.tree_model.specs.declared.place.Place.TheVariants.{Core}
use Rattle.tree_model.specs.View.{SystemView}
use Rattle.tree_model.specs.System.{part_at}
use Rattle.tree_model.specs.Tree.{is_child}
use Rattle.tree_model.specs.Plans.{IsPlan}
use Rattle.trace_file.specs.Periods.{begins}
use Rattle.trace_file.proofs.Known.{child_vcpu}
use Rattle.trace_file.specs.Rules.{is_vcpu}
use Rattle.release_file.specs.declared.workload.Wake.{Wake as Row}
use Rattle.release_file.specs.declared.workload.WakeKind.{WakeKind}
use Rattle.release_file.specs.declared.workload.WakeKind.TheVariants.{Start, Wake, Block}
use Rattle.release_file.specs.Workload.{row_at, last_row, is_of, is_start, starts, is_by, is_block, blocks, slot_of, is_started, is_blocked_at, start_of, may_follow, IsWorkload}
use Rattle.rtds_model.specs.Giving.{IsStartedOn}
use Rattle.rtds_queues.proofs.Membership.{IsPlace, is_place}
use Rattle.csv_rows.proofs.Last.{last_is, none_below}
use Rattle.rtds_model.specs.Demand.{later}
use Rattle.isolation.specs.Keeping.{PeriodsUpTo}
use Rattle.rtds_model.proofs.Demands.{quotient_is}
use Rattle.rtds_model.proofs.Windows.{later_itself}
use Rattle.isolation.proofs.Short.{WakesWith, IsWitness}

and_no : (b : Bool) → (b && false) ≡ false
and_no true = refl
and_no false = refl

differs : (u w : ℕ) → u ≢ w → (u == w) ≡ false
differs u w ne = elim (cases_Bool (u == w)) [ inl b ↦ absurd (ne (eqb-true u w b)) | inr b ↦ b ]

-- one of three numbers
none_of : (x a b d : ℕ) → x ≢ a → x ≢ b → x ≢ d → (x == a || (x == b || x == d)) ≡ false
none_of x a b d na nb nd = grind (arith, nat_tests)

one_of : (x a b d : ℕ) → (x == a || (x == b || x == d)) ≡ true → (x ≡ a) ⊎ ((x ≡ b) ⊎ (x ≡ d))
one_of x a b d h = elim (cases_eq x a) [
  | inl e ↦ inl e
  | inr na ↦ elim (cases_eq x b) [
    | inl e ↦ inr (inl e)
    | inr nb ↦ elim (cases_eq x d) [
      | inl e ↦ inr (inr e)
      | inr nd ↦ absurd (both_ways _ (none_of x a b d na nb nd) h)
    ]
  ]
]

is_first : (x a b d : ℕ) → x ≡ a → (x == a || (x == b || x == d)) ≡ true
is_first x a b d e = grind (arith, nat_tests)

is_second : (x a b d : ℕ) → x ≡ b → (x == a || (x == b || x == d)) ≡ true
is_second x a b d e = grind (arith, nat_tests)

is_third : (x a b d : ℕ) → x ≡ d → (x == a || (x == b || x == d)) ≡ true
is_third x a b d e = grind (arith, nat_tests)

module _ (sys : SystemView) (budgets : List ℕ) (plan : IsPlan sys budgets) (c v longest : ℕ) (lv : v < length sys.parts)
    (cv : is_child sys (Core c) v ≡ true) (up_to : PeriodsUpTo sys c longest) (in_limit : 2 * longest ≤ LIMIT) where
  abbrev m : ℕ
  m = length sys.parts

  abbrev period : ℕ → ℕ
  period u = (part_at sys u).period

  -- a VCPU of the core
  pub record Stands (u : ℕ) : Type 0 where
    pub is_part : u < m
    pub on_core : is_child sys (Core c) u ≡ true

  some_period : (u : ℕ) → u < m → 1 ≤ period u
  some_period u l = omega (arith, plan.some_budget u l, plan.in_period u l)

  -- twice its longest period
  abbrev pub r : ℕ
  r = longest + longest

  abbrev due : ℕ → ℕ
  due u = r + period v - later v u

  abbrev first : ℕ → ℕ
  first u = due u % period u

  first_in : (u : ℕ) → u < m → first u < period u
  first_in u l = let p : 1 ≤ period u = some_period u l in omega arith

  early : (u : ℕ) → Stands u → suc (first u) ≤ longest
  early u s = omega (arith, first_in u s.is_part, up_to u s.is_part s.on_core)

  some_longest : 1 ≤ longest
  some_longest = omega (arith, some_period v lv, up_to v lv cv)

  in_step : (u : ℕ) → u < m → begins (period u) (first u) (due u / period u) ≡ due u
  in_step u l = let p : 1 ≤ period u = some_period u l in omega arith

  -- whether VCPU u has a row at slot x, and what it is
  abbrev has_at : ℕ → ℕ → Bool
  has_at u x = is_child sys (Core c) u && (x == first u || (x == suc (first u) || x == r))

  abbrev kind : ℕ → ℕ → WakeKind
  kind u x = cond (x == first u) Start (cond (x == suc (first u)) Block Wake)

  abbrev mk : ℕ → ℕ → WakeKind → Row
  mk at vcpu what = record { at = at; vcpu = vcpu; what = what }

  kind_start : (u : ℕ) → kind u (first u) ≡ Start
  kind_start u =
      cond-true {A = WakeKind} (first u == first u) Start (cond (first u == suc (first u)) Block Wake)
      (eq-eqb (first u) (first u) refl)

  kind_later : (u x : ℕ) → x ≢ first u → kind u x ≡ cond (x == suc (first u)) Block Wake
  kind_later u x ne =
      cond-false {A = WakeKind} (x == first u) Start (cond (x == suc (first u)) Block Wake) (differs x (first u) ne)

  kind_block : (u : ℕ) → kind u (suc (first u)) ≡ Block
  kind_block u =
      kind_later u (suc (first u)) (λ e. omega arith)
      ∙ cond-true {A = WakeKind} (suc (first u) == suc (first u)) Block Wake
      (eq-eqb (suc (first u)) (suc (first u)) refl)

  kind_wake : (u x : ℕ) → suc (first u) < x → kind u x ≡ Wake
  kind_wake u x l =
      kind_later u x (λ e. omega arith)
      ∙ cond-false {A = WakeKind} (x == suc (first u)) Block Wake (differs x (suc (first u)) (λ e. omega arith))

  no_start : (u x : ℕ) → first u < x → is_start (kind u x) ≡ false
  no_start u x l = ap is_start (kind_later u x (λ e. omega arith)) ∙ either (x == suc (first u))
    where
      either : (b : Bool) → is_start (cond b Block Wake) ≡ false
      either true = refl
      either false = refl

  -- by its slot and its VCPU each row has a number
  abbrev number : ℕ → ℕ → ℕ
  number u x = x * m + u

  slot_is : (u x : ℕ) → u < m → number u x / m ≡ x
  slot_is u x l = quotient_is x m u (number u x) l refl

  vcpu_is : (u x : ℕ) → u < m → number u x % m ≡ u
  vcpu_is u x l = omega (arith, ap (λ (z : ℕ). z * m) (slot_is u x l))

  abbrev has : ℕ → Bool
  has k = has_at (k % m) (k / m)

  abbrev row_of : ℕ → Row
  row_of k = mk (k / m) (k % m) (kind (k % m) (k / m))

  abbrev all : ℕ
  all = suc r * m

  abbrev numbers : List ℕ
  numbers = places_where has all

  pub rows : List Row
  rows = map row_of numbers

  rows-long : length rows ≡ length numbers
  unfolding rows
  rows-long = length-map numbers row_of

  abbrev key : ℕ → ℕ
  key i = get_or numbers i 0

  abbrev slot : ℕ → ℕ
  slot i = key i / m

  abbrev vcpu : ℕ → ℕ
  vcpu i = key i % m

  row_is : (i : ℕ) → i < length rows → row_at rows i ≡ mk (slot i) (vcpu i) (kind (vcpu i) (slot i))
  unfolding rows
  row_is i l = get_or-map row_of numbers i 0 (mk 0 0 Start) (omega (arith, rows-long))

  at_is : (i : ℕ) → i < length rows → (row_at rows i).at ≡ slot i
  at_is i l = ap (λ (row : Row). row.at) (row_is i l)

  of_is : (i : ℕ) → i < length rows → (row_at rows i).vcpu ≡ vcpu i
  of_is i l = ap (λ (row : Row). row.vcpu) (row_is i l)

  -- each row is one of the three of a VCPU of the core
  record IsRow (i : ℕ) : Type 0 where
    stands : Stands (vcpu i)
    when : (slot i ≡ first (vcpu i)) ⊎ ((slot i ≡ suc (first (vcpu i))) ⊎ (slot i ≡ r))

  some_part : 1 ≤ m
  some_part = omega (arith, lv)

  place : (i : ℕ) → i < length rows → IsPlace has all i (key i)
  place i l = is_place has all i 0 (omega (arith, rows-long))

  is_row : (i : ℕ) → i < length rows → IsRow i
  is_row i l =
      let p
      = and_parts (is_child sys (Core c) (vcpu i))
      (slot i == first (vcpu i) || (slot i == suc (first (vcpu i)) || slot i == r)) (place i l).passes_it in
      record {
        stands = record { is_part = (let q : 1 ≤ m = some_part in omega arith); on_core = p.0 };
        when = one_of (slot i) (first (vcpu i)) (suc (first (vcpu i))) r p.1;
      }

  by_r : (i : ℕ) → i < length rows → slot i ≤ r
  by_r i l =
      let h : IsRow i = is_row i l in
      elim h.when [
        | inl e ↦
            omega (arith, e, early (vcpu i) h.stands)
        | inr o ↦
            elim o [ inl e ↦ omega (arith, e, early (vcpu i) h.stands) | inr e ↦ omega (arith, e) ]
      ]

  from_first : (i : ℕ) → i < length rows → first (vcpu i) ≤ slot i
  from_first i l =
      let h : IsRow i = is_row i l in
      elim h.when [
        | inl e ↦
            omega (arith, e)
        | inr o ↦
            elim o [ inl e ↦ omega (arith, e) | inr e ↦ omega (arith, e, early (vcpu i) h.stands) ]
      ]

  -- behind its block a VCPU has a row at r alone
  at_last : (i : ℕ) → i < length rows → suc (first (vcpu i)) < slot i → slot i ≡ r
  at_last i l h =
      elim (is_row i l).when
      [ inl e ↦ absurd (omega (arith, e)) | inr o ↦ elim o [ inl e ↦ absurd (omega (arith, e)) | inr e ↦ e ] ]

  -- the numbers rise, and so do the slots
  rising : (i j : ℕ) → i < j → j < length rows → key i < key j
  rising i j l k = elim (cases_lt (key i) (key j)) [
    | inl h ↦ h
    | inr h ↦
        absurd
        (omega (arith, count_below-mono has (key j) (key i) h, (place i (omega arith)).counted, (place j k).counted))
  ]

  no_earlier : (i j : ℕ) → i < j → j < length rows → slot i ≤ slot j
  no_earlier i j l k = let q : 1 ≤ m = some_part in le-div (slot i) (key j) m q (omega (arith, rising i j l k))

  -- two rows of one VCPU stand at two slots
  apart : (i j : ℕ) → i < j → j < length rows → vcpu i ≡ vcpu j → slot i < slot j
  apart i j l k same = elim (cases_lt (slot i) (slot j)) [
    | inl h ↦ h
    | inr h ↦
        let q : 1 ≤ m = some_part in
        absurd (omega (arith, rising i j l k, same, mul-le-mul_right m h))
  ]

  in_order_of : (i j : ℕ) → i < length rows → slot i < slot j → j < length rows → i < j
  in_order_of i j l h k = elim (cases_lt i j) [
    | inl q ↦ q
    | inr q ↦ elim (cases_eq i j) [
      | inl e ↦ absurd (omega (arith, ap slot e))
      | inr ne ↦ absurd (omega (arith, no_earlier j i (omega arith) l))
    ]
  ]

  -- where the row of u at slot x stands
  record Found (u x : ℕ) : Type 0 where
    at : ℕ
    within : at < length rows
    slot_there : slot at ≡ x
    vcpu_there : vcpu at ≡ u
    is : row_at rows at ≡ mk x u (kind u x)

  find : (u x : ℕ) → u < m → x ≤ r → has_at u x ≡ true → Found u x
  find u x l h here =
      let k : ℕ = number u x in
      let inside : k < all = omega (arith, mul-le-mul_right m h) in
      let passes : has k ≡ true
      = ap (λ (z : ℕ). has_at z (k / m)) (vcpu_is u x l) ∙ (ap (has_at u) (slot_is u x l) ∙ here) in
      let i : ℕ = count_below has k in
      let stands : key i ≡ k = stands_at has k all 0 inside passes in
      let within : i < length rows
      = omega (arith, rows-long, length-places_where has all, counted_below has k all inside passes) in
      let s : slot i ≡ x = ap (λ (z : ℕ). z / m) stands ∙ slot_is u x l in
      let w : vcpu i ≡ u = ap (λ (z : ℕ). z % m) stands ∙ vcpu_is u x l in
      record {
        at = i;
        within = within;
        slot_there = s;
        vcpu_there = w;
        is =
            row_is i within ∙ (ap (λ (z : ℕ). mk z (vcpu i) (kind (vcpu i) z)) s ∙ ap (λ (z : ℕ). mk x z (kind z x)) w);
      }

  start_of_u : (u : ℕ) → Stands u → Found u (first u)
  start_of_u u s =
      find u (first u) s.is_part (omega (arith, early u s)) (and_from (is_child sys (Core c) u)
      (first u == first u || (first u == suc (first u) || first u == r)) s.on_core
      (is_first (first u) (first u) (suc (first u)) r refl))

  block_of_u : (u : ℕ) → Stands u → Found u (suc (first u))
  block_of_u u s =
      find u (suc (first u)) s.is_part (omega (arith, early u s)) (and_from (is_child sys (Core c) u)
      (suc (first u) == first u || (suc (first u) == suc (first u) || suc (first u) == r)) s.on_core
      (is_second (suc (first u)) (first u) (suc (first u)) r refl))

  wake_of_u : (u : ℕ) → Stands u → Found u r
  wake_of_u u s =
      find u r s.is_part (omega arith) (and_from (is_child sys (Core c) u)
      (r == first u || (r == suc (first u) || r == r)) s.on_core (is_third r (first u) (suc (first u)) r refl))

  -- a row that is not one of u
  other_row : (u j : ℕ) → j < length rows → (vcpu j ≡ u → ⊥) → is_of u (row_at rows j) ≡ false
  other_row u j l ne = ap (is_of u) (row_is j l) ∙ differs (vcpu j) u ne

  own_row : (u x : ℕ) → (f : Found u x) → is_of u (row_at rows f.at) ≡ true
  own_row u x f = ap (is_of u) f.is ∙ eq-eqb u u refl

  -- VCPU u's start is its only one
  last_start : (u : ℕ) (s : Stands u) → last_row (starts u) rows (length rows) ≡ Some (row_at rows (start_of_u u s).at)
  last_start u s =
      let f : Found u (first u) = start_of_u u s in
      last_is (starts u) (row_at rows) f.at (length rows) f.within
      (ap (starts u) f.is
      ∙ and_from (u == u) (is_start (kind u (first u))) (eq-eqb u u refl) (ap is_start (kind_start u)))
      (λ j lo hi. ap (starts u) (row_is j hi) ∙ elim (cases_eq (vcpu j) u) [
        | inr ne ↦ and_left (vcpu j == u) (is_start (kind (vcpu j) (slot j))) (differs (vcpu j) u ne)
        | inl e ↦
            ap (λ (b : Bool). (vcpu j == u) && b) (no_start (vcpu j) (slot j)
            (omega (arith, apart f.at j lo hi (f.vcpu_there ∙ sym e), f.slot_there, ap first e)))
            ∙ and_no (vcpu j == u)
      ])

  started : (u : ℕ) → Stands u → is_started rows u ≡ true
  started u s = ap is_some (last_start u s)

  starts_at : (u : ℕ) → Stands u → start_of rows u ≡ first u
  starts_at u s = ap slot_of (last_start u s) ∙ ap (λ (row : Row). row.at) (start_of_u u s).is

  -- it is blocked from the next slot on up to r, and not from there on
  asleep : (u x : ℕ) → Stands u → first u < x → x < r → is_blocked_at rows u x ≡ true
  asleep u x s lo hi =
      let f : Found u (suc (first u)) = block_of_u u s in
      let test : Row → Bool = λ row. is_by x row && is_of u row in
      let last : last_row test rows (length rows) ≡ Some (row_at rows f.at)
      = last_is test (row_at rows) f.at (length rows) f.within
      (ap test f.is
      ∙ and_from (nat_le (suc (first u)) x) (u == u) (le-leb (suc (first u)) x (omega arith)) (eq-eqb u u refl))
      (λ j a b. ap test (row_is j b) ∙ elim (cases_eq (vcpu j) u) [
        | inr ne ↦ ap (λ (z : Bool). nat_le (slot j) x && z) (differs (vcpu j) u ne) ∙ and_no (nat_le (slot j) x)
        | inl e ↦
            and_left (nat_le (slot j) x) (vcpu j == u) (lt-leb (slot j) x
            (omega (
              arith,
              hi,
              at_last j b
                  (omega (arith, apart f.at j a b (f.vcpu_there ∙ sym e), f.slot_there, ap first e)),
            )))
      ])
      in
      ap blocks last ∙ (ap (λ (row : Row). is_block row.what) f.is ∙ ap is_block (kind_block u))

  awake : (u x : ℕ) → Stands u → r ≤ x → is_blocked_at rows u x ≡ false
  awake u x s lo =
      let f : Found u r = wake_of_u u s in
      let test : Row → Bool = λ row. is_by x row && is_of u row in
      let last : last_row test rows (length rows) ≡ Some (row_at rows f.at)
      = last_is test (row_at rows) f.at (length rows) f.within
      (ap test f.is ∙ and_from (nat_le r x) (u == u) (le-leb r x lo) (eq-eqb u u refl))
      (λ j a b. ap test (row_is j b) ∙ elim (cases_eq (vcpu j) u) [
        | inr ne ↦ ap (λ (z : Bool). nat_le (slot j) x && z) (differs (vcpu j) u ne) ∙ and_no (nat_le (slot j) x)
        | inl e ↦ absurd (omega (arith, apart f.at j a b (f.vcpu_there ∙ sym e), f.slot_there, by_r j b))
      ])
      in
      ap blocks last
      ∙ (ap (λ (row : Row). is_block row.what) f.is
      ∙ ap is_block (kind_wake u r (omega (arith, early u s, some_longest))))

  -- the rows of a VCPU before each of its own
  abbrev Follows : ℕ → Row → Type 0
  Follows i row = may_follow (last_row (is_of row.vcpu) rows i) row.what ≡ true

  start_follows : (i : ℕ) → i < length rows → slot i ≡ first (vcpu i) → Follows i (mk (slot i) (vcpu i) Start)
  start_follows i l e =
      ap (λ (o : Option Row). may_follow o Start) (none_below (is_of (vcpu i)) (row_at rows) i
      (λ j h. other_row (vcpu i) j (omega arith)
      (λ same. omega (arith, e, apart j i h l same, from_first j (omega arith), ap first same))))

  -- behind one of its own, with no other between
  behind : (i x : ℕ) (what : WakeKind) → (l : i < length rows) → (f : Found (vcpu i) x) → x < slot i
      → ((j : ℕ) → j < length rows → vcpu j ≡ vcpu i → x < slot j → slot j < slot i → ⊥)
      → may_follow (Some (mk x (vcpu i) (kind (vcpu i) x))) what ≡ true → Follows i (mk (slot i) (vcpu i) what)
  behind i x what l f before none may =
      ap (λ (o : Option Row). may_follow o what) (last_is (is_of (vcpu i)) (row_at rows) f.at i
      (in_order_of f.at i f.within (omega (arith, f.slot_there)) l) (own_row (vcpu i) x f)
      (λ j a b. other_row (vcpu i) j (omega arith) (λ same. none j (omega arith) same
      (omega (arith, apart f.at j a (omega arith) (f.vcpu_there ∙ sym same), f.slot_there))
      (apart j i b l same))))
      ∙ (ap (λ (row : Row). may_follow (Some row) what) f.is ∙ may)

  block_follows : (i : ℕ) → i < length rows → slot i ≡ suc (first (vcpu i)) → Follows i (mk (slot i) (vcpu i) Block)
  block_follows i l e =
      behind i (first (vcpu i)) Block l (start_of_u (vcpu i) (is_row i l).stands) (omega (arith, e))
      (λ j k same a b. omega (arith, e)) (ap (λ (w : WakeKind). not (is_block w)) (kind_start (vcpu i)))

  wake_follows : (i : ℕ) → i < length rows → slot i ≡ r → Follows i (mk (slot i) (vcpu i) Wake)
  wake_follows i l e =
      behind i (suc (first (vcpu i))) Wake l (block_of_u (vcpu i) (is_row i l).stands)
      (omega (arith, e, early (vcpu i) (is_row i l).stands, some_longest))
      (λ j k same a b. omega (arith, e, at_last j k (omega (arith, a, ap first same))))
      (ap is_block (kind_block (vcpu i)))

  in_turn : (i : ℕ) → i < length rows → Follows i (row_at rows i)
  in_turn i l = subst (Follows i) (sym (row_is i l)) (elim (is_row i l).when [
    | inl e ↦
        subst (λ (w : WakeKind). Follows i (mk (slot i) (vcpu i) w))
        (sym (ap (kind (vcpu i)) e ∙ kind_start (vcpu i))) (start_follows i l e)
    | inr o ↦ elim o [
      | inl e ↦
          subst (λ (w : WakeKind). Follows i (mk (slot i) (vcpu i) w))
          (sym (ap (kind (vcpu i)) e ∙ kind_block (vcpu i))) (block_follows i l e)
      | inr e ↦
          subst (λ (w : WakeKind). Follows i (mk (slot i) (vcpu i) w))
          (sym (kind_wake (vcpu i) (slot i) (omega (arith, e, early (vcpu i) (is_row i l).stands, some_longest))))
          (wake_follows i l e)
    ]
  ])

  is_workload_row : (i : ℕ) → i < length rows → is_vcpu sys (row_at rows i).vcpu ≡ true
  is_workload_row i l =
      let s : Stands (vcpu i) = (is_row i l).stands in
      subst (λ (u : ℕ). is_vcpu sys u ≡ true) (sym (of_is i l)) (child_vcpu sys c (vcpu i) s.is_part s.on_core)

  pub is_workload : IsWorkload sys rows
  is_workload = record {
    in_limit = λ i l. omega (arith, at_is i l, by_r i l, in_limit);
    in_order = λ i l. omega (arith, at_is i (omega arith), at_is (i + 1) l, no_earlier i (i + 1) (omega arith) l);
    known = is_workload_row;
    one_a_slot =
        λ i j l k same at. omega
        (arith, at, at_is i (omega arith), at_is j k, apart i j l k (sym (of_is i (omega arith)) ∙ (same ∙ of_is j k)));
    in_turn = in_turn;
  }

  starts_on : (u : ℕ) → Stands u → IsStartedOn sys rows c u
  starts_on u s = record { is_part = s.is_part; on_core = s.on_core; started = started u s }

  wakes_with : (u : ℕ) → Stands u → WakesWith sys rows c v r u
  wakes_with u s =
      let f : start_of rows u ≡ first u = starts_at u s in
      record {
        starts = starts_on u s;
        by_then = omega (arith, f, early u s);
        number = due u / period u;
        in_step = ap (λ (z : ℕ). begins (period u) z (due u / period u)) f ∙ in_step u s.is_part;
        asleep = λ x a b k. asleep u x s (omega (arith, k, early u s, up_to u s.is_part s.on_core)) b;
      }

  stands_v : Stands v
  stands_v = record { is_part = lv; on_core = cv }

  -- v's own step, one period before its due
  own_step : (q : ℕ) → begins (period v) (first v) q ≡ due v → (k : ℕ) × (begins (period v) (first v) k ≡ r)
  own_step zero e = absurd (omega (arith, e, later_itself v, early v stands_v, some_longest))
  own_step (suc q) e = (q, omega (arith, e, later_itself v))

  pub is_witness : IsWitness sys rows c v r
  is_witness =
      let w : (k : ℕ) × (begins (period v) (first v) k ≡ r) = own_step (due v / period v) (in_step v lv) in
      record {
        starts = starts_on v stands_v;
        number = w.0;
        in_step = ap (λ (z : ℕ). begins (period v) z w.0) (starts_at v stands_v) ∙ w.1;
        all = λ u l child. wakes_with u (record { is_part = l; on_core = child });
        awake = λ u x l child lo _. awake u x (record { is_part = l; on_core = child }) lo;
      }
