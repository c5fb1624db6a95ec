-- The rows of a VCPU that starts at a slot and is blocked where it is told: its start, and a row
-- wherever that changes.
use Rattle.std.proofs.Common.{◌≡◌, ℕ, zero, suc, ◌<◌, ◌≤◌, ◌==◌, Bool, true, false, cond, not, ◌&&◌, nat_lt, Option, Some, None, refl, sym, ◌∙◌, ap, arith, subst, inl, inr, eqb-true, eq-eqb, ltb-true, lt-ltb, le-ltb}
use Rattle.std.specs.Prelude.{is_some}
use Rattle.std.proofs.lemmas.Bool.{cases_Bool, cases_eq, cases_lt, and_parts, and_from, and_left, and_right, both_ways, false≢true}
use Rattle.std.proofs.lemmas.Option.{same_Some, none-some}
use Rattle.release_file.specs.declared.workload.Wake.{Wake}
use Rattle.release_file.specs.declared.workload.WakeKind.{WakeKind}
use Rattle.release_file.specs.declared.workload.WakeKind.TheVariants.{Start, Wake as ToWake, Block}
use Rattle.release_file.specs.Workload.{is_start, blocks, may_follow}

abbrev pub row_of : ℕ → ℕ → WakeKind → Wake
row_of v at what = record { at = at; vcpu = v; what = what }

-- what a VCPU does at a slot: whether it starts there, is blocked there, and was before
abbrev pub kind : Bool → Bool → Bool → Option WakeKind
kind true now was = Some Start
kind false true false = Some Block
kind false false true = Some ToWake
kind false true true = None
kind false false false = None

-- the row of that, or the one before
abbrev pub put : ℕ → ℕ → Option WakeKind → Option Wake → Option Wake
put v x None last = last
put v x (Some what) last = Some (row_of v x what)

module _ (v : ℕ) (here : Bool) (start : ℕ) (wants : ℕ → Bool) where
  -- a VCPU, behind its start, where it is told
  abbrev pub is_blocked : ℕ → Bool
  is_blocked x = here && (nat_lt start x && wants x)

  -- before slot t: whether it has started, and whether it is blocked
  abbrev pub has_begun : ℕ → Bool
  has_begun t = here && nat_lt start t

  abbrev pub was_blocked : ℕ → Bool
  was_blocked zero = false
  was_blocked (suc x) = is_blocked x

  abbrev pub starts_now : ℕ → Bool
  starts_now x = here && x == start

  abbrev pub change : ℕ → Option WakeKind
  change x = kind (starts_now x) (is_blocked x) (was_blocked x)

  -- the last of its rows before slot t, and its start
  unfoldable pub last_of : ℕ → Option Wake
  last_of zero = None
  last_of (suc x) = put v x (change x) (last_of x)

  abbrev pub start_row : ℕ → Option Wake
  start_row t = cond (has_begun t) (Some (row_of v start Start)) None

  pub starts_behind : (x : ℕ) → starts_now x ≡ true → (has_begun (suc x) ≡ true) × (is_blocked x ≡ false)
  starts_behind x h =
      let a : (here ≡ true) × ((x == start) ≡ true) = and_parts here (x == start) h in
      let e : x ≡ start = eqb-true x start a.1 in (
        and_from here (nat_lt start (suc x)) a.0 (lt-ltb start (suc x) (omega (arith, e))),
        and_right here _ (and_left (nat_lt start x) (wants x) (le-ltb start x (omega (arith, e)))),
      )

  blocked_begun : (x y : ℕ) → x ≤ y → is_blocked x ≡ true → has_begun y ≡ true
  blocked_begun x y l h =
      let a : (here ≡ true) × ((nat_lt start x && wants x) ≡ true) = and_parts here _ h in
      let b : start < x = ltb-true start x (and_parts (nat_lt start x) (wants x) a.1).0 in
      and_from here (nat_lt start y) a.0 (lt-ltb start y (omega arith))

  was_begun : (x : ℕ) → was_blocked x ≡ true → has_begun x ≡ true
  was_begun zero h = absurd (false≢true h)
  was_begun (suc x) h = blocked_begun x (suc x) (omega arith) h

  begun_stays : (x : ℕ) → has_begun x ≡ true → has_begun (suc x) ≡ true
  begun_stays x h =
      let a : (here ≡ true) × (nat_lt start x ≡ true) = and_parts here (nat_lt start x) h in
      and_from here (nat_lt start (suc x)) a.0 (lt-ltb start (suc x) (omega (arith, ltb-true start x a.1)))

  pub stays : (x : ℕ) → starts_now x ≡ false → has_begun (suc x) ≡ has_begun x
  stays x h = elim (cases_Bool here) [
    | inr off ↦ and_left here (nat_lt start (suc x)) off ∙ sym (and_left here (nat_lt start x) off)
    | inl on ↦ elim (cases_lt start x) [
      | inl l ↦ and_from here (nat_lt start (suc x)) on (lt-ltb start (suc x) (omega arith))
          ∙ sym (and_from here (nat_lt start x) on (lt-ltb start x l))
      | inr l ↦ elim (cases_eq x start) [
        | inl e ↦ absurd (both_ways _ h (and_from here (x == start) on (eq-eqb x start e)))
        | inr ne ↦ and_right here (nat_lt start (suc x)) (le-ltb start (suc x) (omega arith))
            ∙ sym (and_right here (nat_lt start x) (le-ltb start x l))
      ]
    ]
  ]

  -- what the last row before slot t says
  pub record Stood (t : ℕ) (last : Option Wake) : Type 0 where
    pub begun : is_some last ≡ has_begun t
    pub blocked : blocks last ≡ was_blocked t

  stood_later : (x : ℕ) (last : Option Wake) → Stood x last → (s now was : Bool) → starts_now x ≡ s
      → is_blocked x ≡ now → was_blocked x ≡ was → Stood (suc x) (put v x (kind s now was) last)
  stood_later x last h true now was es en ew =
      record { begun = sym (starts_behind x es).0; blocked = sym (starts_behind x es).1 }
  stood_later x last h false true false es en ew =
      record { begun = sym (blocked_begun x (suc x) (omega arith) en); blocked = sym en }
  stood_later x last h false false true es en ew =
      record { begun = sym (begun_stays x (was_begun x ew)); blocked = sym en }
  stood_later x last h false true true es en ew =
      record { begun = h.begun ∙ sym (stays x es); blocked = h.blocked ∙ (ew ∙ sym en) }
  stood_later x last h false false false es en ew =
      record { begun = h.begun ∙ sym (stays x es); blocked = h.blocked ∙ (ew ∙ sym en) }

  pub last_stood : (t : ℕ) → Stood t (last_of t)
  unfolding last_of
  last_stood zero = record {
    begun = sym (and_right here (nat_lt start 0) (le-ltb start 0 (omega arith)));
    blocked = refl;
  }
  last_stood (suc x) =
      stood_later x (last_of x) (last_stood x) (starts_now x) (is_blocked x) (was_blocked x) refl refl refl

  -- the next row may follow on it
  fresh : (o : Option Wake) → is_some o ≡ false → may_follow o Start ≡ true
  fresh None e = refl
  fresh (Some row) e = absurd (false≢true (sym e))

  may_block : (o : Option Wake) → is_some o ≡ true → blocks o ≡ false → may_follow o Block ≡ true
  may_block None e h = absurd (false≢true e)
  may_block (Some row) e h = ap not h

  may_wake : (o : Option Wake) → blocks o ≡ true → may_follow o ToWake ≡ true
  may_wake None h = absurd (false≢true h)
  may_wake (Some row) h = h

  follows : (x : ℕ) (last : Option Wake) → Stood x last → (s now was : Bool) → starts_now x ≡ s
      → is_blocked x ≡ now → was_blocked x ≡ was → (what : WakeKind) → kind s now was ≡ Some what
      → may_follow last what ≡ true
  follows x last h true now was es en ew what e =
      let a : (here ≡ true) × ((x == start) ≡ true) = and_parts here (x == start) es in
      subst (λ k. may_follow last k ≡ true) (same_Some Start what e)
      (fresh last (h.begun ∙ and_right here (nat_lt start x) (le-ltb start x (omega (arith, eqb-true x start a.1)))))
  follows x last h false true false es en ew what e =
      subst (λ k. may_follow last k ≡ true) (same_Some Block what e)
      (may_block last (h.begun ∙ blocked_begun x x (omega arith) en) (h.blocked ∙ ew))
  follows x last h false false true es en ew what e =
      subst (λ k. may_follow last k ≡ true) (same_Some ToWake what e) (may_wake last (h.blocked ∙ ew))
  follows x last h false true true es en ew what e = absurd (none-some what e)
  follows x last h false false false es en ew what e = absurd (none-some what e)

  pub change_follows : (x : ℕ) (what : WakeKind) → change x ≡ Some what → may_follow (last_of x) what ≡ true
  change_follows x what e =
      follows x (last_of x) (last_stood x) (starts_now x) (is_blocked x) (was_blocked x) refl refl refl what e

  -- the last row one slot later
  pub last_same : (x : ℕ) → change x ≡ None → last_of (suc x) ≡ last_of x
  unfolding last_of
  last_same x e = ap (λ o. put v x o (last_of x)) e

  pub last_new : (x : ℕ) (what : WakeKind) → change x ≡ Some what → last_of (suc x) ≡ Some (row_of v x what)
  unfolding last_of
  last_new x what e = ap (λ o. put v x o (last_of x)) e

  -- its start one slot later
  pub start_same : (x : ℕ) → starts_now x ≡ false → start_row (suc x) ≡ start_row x
  start_same x e = ap (λ (b : Bool). cond b (Some (row_of v start Start)) None) (stays x e)

  pub start_new : (x : ℕ) → starts_now x ≡ true → start_row (suc x) ≡ Some (row_of v x Start)
  start_new x e =
      let a : (here ≡ true) × ((x == start) ≡ true) = and_parts here (x == start) e in
      ap (λ (b : Bool). cond b (Some (row_of v start Start)) None) (starts_behind x e).0
      ∙ ap (λ (z : ℕ). Some (row_of v z Start)) (sym (eqb-true x start a.1))

  -- a row that is a start, and one that is none
  starts_kind : (s now was : Bool) (what : WakeKind) → kind s now was ≡ Some what → is_start what ≡ s
  starts_kind true now was what e = ap is_start (sym (same_Some Start what e))
  starts_kind false true false what e = ap is_start (sym (same_Some Block what e))
  starts_kind false false true what e = ap is_start (sym (same_Some ToWake what e))
  starts_kind false true true what e = absurd (none-some what e)
  starts_kind false false false what e = absurd (none-some what e)

  pub change_starts : (x : ℕ) (what : WakeKind) → change x ≡ Some what → is_start what ≡ starts_now x
  change_starts x what e = starts_kind (starts_now x) (is_blocked x) (was_blocked x) what e

  no_kind : (s now was : Bool) → kind s now was ≡ None → s ≡ false
  no_kind true now was e = absurd (none-some Start (sym e))
  no_kind false now was e = refl

  pub change_none : (x : ℕ) → change x ≡ None → starts_now x ≡ false
  change_none x e = no_kind (starts_now x) (is_blocked x) (was_blocked x) e

  -- no change of what is no VCPU
  pub change_off : here ≡ false → (x : ℕ) → change x ≡ None
  change_off off x = off_kind (starts_now x) (is_blocked x) (was_blocked x) (and_left here (x == start) off)
      (and_left here _ off) (was_off x)
    where
      was_off : (x : ℕ) → was_blocked x ≡ false
      was_off zero = refl
      was_off (suc x) = and_left here _ off

      off_kind : (s now was : Bool) → s ≡ false → now ≡ false → was ≡ false → kind s now was ≡ None
      off_kind s now was a b c = rw (a, b, c) refl

  pub start_none : start_row 0 ≡ None
  start_none = ap (λ (b : Bool). cond b (Some (row_of v start Start)) None)
      (and_right here (nat_lt start 0) (le-ltb start 0 (omega arith)))

  pub last_none : last_of 0 ≡ None
  unfolding last_of
  last_none = refl
