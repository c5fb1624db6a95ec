-- Where a VCPU starts: a workload starts it once, and from there on it is started.
use Rattle.std.proofs.Common.{◌≡◌, ℕ, ◌<◌, ◌≤◌, true, false, ◌&&◌, List, length, Option, Some, None, refl, sym, ◌∙◌, ap, arith, subst, inl, inr, le-leb, leb-true, eqb-true}
use Rattle.std.specs.Prelude.{is_some}
use Rattle.std.proofs.lemmas.Bool.{cases_Bool, cases_order, and_from, and_parts, both_ways, false≢true}
use Rattle.tree_model.specs.View.{SystemView}
use Rattle.release_file.specs.declared.workload.Wake.{Wake as Row}
use Rattle.release_file.specs.declared.workload.WakeKind.{WakeKind}
use Rattle.release_file.specs.declared.workload.WakeKind.TheVariants.{Start, Wake, Block}
use Rattle.release_file.specs.Workload.{row_at, last_row, is_of, is_start, starts, is_by, slot_of, is_started, is_started_at, start_of, may_follow, IsWorkload}
use Rattle.csv_rows.proofs.Last.{FoundRow, some_found, some_row, last_is}

-- from its start on a VCPU is started
pub started_from : (rows : List Row) (v x : ℕ) → is_started rows v ≡ true → start_of rows v ≤ x
    → is_started_at rows v x ≡ true
started_from rows v x h z =
    let w : (row : Row) × (last_row (starts v) rows (length rows) ≡ Some row)
    × FoundRow (starts v) (row_at rows) (length rows) row
    = some_found (starts v) (row_at rows) (length rows) h in
    let at : w.0.at ≡ start_of rows v = sym (ap slot_of w.1) in
    some_row (λ row. is_by x row && starts v row) (row_at rows) (length rows) w.2.place w.2.within
    (subst (λ (r : Row). (is_by x r && starts v r) ≡ true) (sym w.2.is)
    (and_from (is_by x w.0) (starts v w.0) (le-leb w.0.at x (omega arith)) w.2.passes))

-- and one that is started at a slot is started
pub started_some : (rows : List Row) (v x : ℕ) → is_started_at rows v x ≡ true → is_started rows v ≡ true
started_some rows v x h =
    let w = some_found (λ row. is_by x row && starts v row) (row_at rows) (length rows) h in
    some_row (starts v) (row_at rows) (length rows) w.2.place w.2.within
    (subst (λ (r : Row). starts v r ≡ true) (sym w.2.is) (and_parts (is_by x w.0) (starts v w.0) w.2.passes).1)

-- a start follows on no row
start_is_first : (o : Option Row) (what : WakeKind) → is_start what ≡ true → may_follow o what ≡ true
    → is_some o ≡ false
start_is_first None what s h = refl
start_is_first (Some last) Start s h = absurd (false≢true h)
start_is_first (Some last) Wake s h = absurd (false≢true s)
start_is_first (Some last) Block s h = absurd (false≢true s)

-- of two rows of a VCPU the later one is no start
one_start : (sys : SystemView) (rows : List Row) → IsWorkload sys rows → (v i j : ℕ) → i < j → j < length rows
    → starts v (row_at rows i) ≡ true → starts v (row_at rows j) ≡ true → ⊥
one_start sys rows is v i j l m a b =
    let p = and_parts (is_of v (row_at rows i)) (is_start (row_at rows i).what) a in
    let q = and_parts (is_of v (row_at rows j)) (is_start (row_at rows j).what) b in
    let of : (row_at rows j).vcpu ≡ v = eqb-true _ _ q.0 in
    let none : is_some (last_row (is_of (row_at rows j).vcpu) rows j) ≡ false
    = start_is_first (last_row (is_of (row_at rows j).vcpu) rows j) (row_at rows j).what q.1 (is.in_turn j m) in
    both_ways _ (subst (λ (z : ℕ). is_some (last_row (is_of z) rows j) ≡ false) of none)
    (some_row (is_of v) (row_at rows) j i l p.0)

-- so one that is started at a slot starts no later
pub started_by : (sys : SystemView) (rows : List Row) → IsWorkload sys rows → (v x : ℕ) → is_started_at rows v x ≡ true
    → start_of rows v ≤ x
started_by sys rows is v x h =
    let w = some_found (λ row. is_by x row && starts v row) (row_at rows) (length rows) h in
    let p = and_parts (is_by x w.0) (starts v w.0) w.2.passes in
    let i : ℕ = w.2.place in
    let here : starts v (row_at rows i) ≡ true = subst (λ (r : Row). starts v r ≡ true) (sym w.2.is) p.1 in
    let u = some_found (starts v) (row_at rows) (length rows) (started_some rows v x h) in
    let j : ℕ = u.2.place in
    let there : starts v (row_at rows j) ≡ true = subst (λ (r : Row). starts v r ≡ true) (sym u.2.is) u.2.passes in
    elim (cases_order i j) [
      | inl e ↦
          let same : u.0 ≡ w.0 = sym u.2.is ∙ (ap (row_at rows) (sym e) ∙ w.2.is) in
          omega (arith, ap slot_of u.1, ap (λ (r : Row). r.at) same, leb-true w.0.at x p.0)
      | inr o ↦ elim o [
        | inl l ↦ absurd (one_start sys rows is v i j l u.2.within here there)
        | inr l ↦ absurd (one_start sys rows is v j i l w.2.within there here)
      ]
    ]

module _ (sys : SystemView) (rows : List Row) (workload : IsWorkload sys rows) where
  -- a VCPU starts once
  start_once : (k v n : ℕ) → k < n → n ≤ length rows → is_of v (row_at rows k) ≡ true → (row_at rows k).what ≡ Start
      → last_row (starts v) rows n ≡ Some (row_at rows k)
  start_once k v n l h of is =
      last_is (starts v) (row_at rows) k n l
      (and_from (is_of v (row_at rows k)) (is_start (row_at rows k).what) of (ap is_start is))
      (λ j a b. elim (cases_Bool (starts v (row_at rows j))) [
        | inr off ↦ off
        | inl on ↦
            let parts = and_parts (is_of v (row_at rows j)) (is_start (row_at rows j).what) on in
            absurd
            (twice (row_at rows j).what (last_row (is_of v) rows j) parts.1 (some_row (is_of v) (row_at rows) j k a of)
            (subst (λ (u : ℕ). may_follow (last_row (is_of u) rows j) (row_at rows j).what ≡ true)
            (eqb-true (row_at rows j).vcpu v parts.0) (workload.in_turn j (omega arith))))
      ])
    where
      twice : (what : WakeKind) (o : Option Row) → is_start what ≡ true → is_some o ≡ true → may_follow o what ≡ true
          → ⊥
      twice Start None a b c = false≢true b
      twice Start (Some r) a b c = false≢true c
      twice Wake o a b c = false≢true a
      twice Block o a b c = false≢true a

  pub start_is : (k v : ℕ) → k < length rows → is_of v (row_at rows k) ≡ true → (row_at rows k).what ≡ Start
      → start_of rows v ≡ (row_at rows k).at
  start_is k v l of is = ap slot_of (start_once k v (length rows) l (omega arith) of is)
