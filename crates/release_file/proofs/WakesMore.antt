-- A workload, one row later.
use Rattle.std.proofs.Common.{◌≡◌, ◌≢◌, ℕ, zero, suc, ◌+◌, ◌<◌, ◌≤◌, nat_lt, Bool, true, false, not, cond, eqb, List, [], ◌∷◌, ◌++◌, length, set, Option, Some, None, refl, sym, ◌∙◌, ap, subst, arith, inl, inr, below_more}
use Rattle.std.specs.Prelude.{is_some}
use Rattle.std.proofs.lemmas.Bool.{cases_Bool, cases_eq, and_left, and_right, and_from, eq-eqb, ne_eqb, both_ways, ltb-false, not-false}
use Rattle.std.proofs.lemmas.List.{get_or_append_left, length-set}
use Rattle.std.proofs.Math.Seq.{get_or-append_seam}
use Rattle.slot_model.specs.declared.task.TheConstants.{LIMIT}
use Rattle.csv_rows.specs.Rules.{row_of, fault_if}
use Rattle.csv_rows.proofs.Keeping.{length_more, fault_none}
use Rattle.tree_model.specs.View.{SystemView}
use Rattle.tree_model.specs.System.{IsSystem}
use Rattle.tree_model.proofs.Lists.{put_says}
use Rattle.trace_file.specs.Rules.{is_vcpu}
use Rattle.trace_file.proofs.Known.{vcpu_part}
use Rattle.release_file.specs.declared.fault.ReleaseFault.TheVariants.{Unknown, OutOfRange, BadOrder}
use Rattle.release_file.specs.declared.workload.Wake.{Wake}
use Rattle.release_file.specs.declared.workload.WakeKind.TheVariants.{Start}
use Rattle.release_file.specs.declared.wake_rows.WakeRows.{WakeRows}
use Rattle.release_file.specs.Workload.{row_at, last_row, is_of, may_follow, IsWorkload}
use Rattle.release_file.specs.WorkloadFile.{slot_before, is_at, has_row_at, turn_fault, wake_fault}
use Rattle.release_file.specs.inner.WakesTaken.{last_at, stands_at, IsBehind}
use Rattle.csv_rows.proofs.Last.{same_rows, last_below-no, last_below-suc, last_below-yes, last_below-zero, none_below, some_row}
use Rattle.release_file.proofs.Rows.{ordered}

row_same : (ws more : List Wake) (i : ℕ) → i < length ws → row_at (ws ++ more) i ≡ row_at ws i
row_same ws more i l = get_or_append_left ws more (record { at = 0; vcpu = 0; what = Start }) i l

row_last : (ws : List Wake) (w : Wake) → row_at (ws ++ w ∷ []) (length ws) ≡ w
row_last ws w = get_or-append_seam ws w [] (record { at = 0; vcpu = 0; what = Start })

last_row_same : (p : Wake → Bool) (ws more : List Wake) (n : ℕ) → n ≤ length ws
    → last_row p (ws ++ more) n ≡ last_row p ws n
last_row_same p ws more n l =
    same_rows p (row_at (ws ++ more)) (row_at ws) n (λ i m. row_same ws more i (omega (arith, m, l)))

-- the last row that passes, one row later
last_row_more : (p : Wake → Bool) (ws : List Wake) (w : Wake)
    → last_row p (ws ++ w ∷ []) (length (ws ++ w ∷ [])) ≡ cond (p w) (Some w) (last_row p ws (length ws))
last_row_more p ws w =
    ap (last_row p (ws ++ w ∷ [])) (length_more ws w)
    ∙ (last_below-suc p (row_at (ws ++ w ∷ [])) (length ws)
    ∙ (ap (λ (r : Wake). cond (p r) (Some r) (last_row p (ws ++ w ∷ []) (length ws))) (row_last ws w)
    ∙ ap (λ (o : Option Wake). cond (p w) (Some w) o) (last_row_same p ws (w ∷ []) (length ws) (omega arith))))

-- all rows are at or before the slot of the last
pub by_last : (sys : SystemView) (ws : List Wake) → IsWorkload sys ws → (x n : ℕ) → n ≤ length ws → slot_before ws n ≤ x
    → (i : ℕ) → i < n → (row_at ws i).at ≤ x
by_last sys ws w x zero l by i m = absurd (omega arith)
by_last sys ws w x (suc n) l by i m = omega (arith, by, ordered sys ws w i n (omega arith) l)

-- of rows that are not past slot x, a VCPU has one at x where its last one is
pub has_row_stands : (sys : SystemView) (ws : List Wake) → IsWorkload sys ws → (v x n : ℕ) → n ≤ length ws
    → ((i : ℕ) → i < n → (row_at ws i).at ≤ x) → has_row_at ws n v x ≡ stands_at (last_row (is_of v) ws n) x
has_row_stands sys ws w v x zero l by =
    ap is_some (last_below-zero (is_at v x) (row_at ws))
    ∙ sym (ap (λ (o : Option Wake). stands_at o x) (last_below-zero (is_of v) (row_at ws)))
has_row_stands sys ws w v x (suc n) l by = elim (cases_Bool (is_of v (row_at ws n))) [
  | inr other ↦
      ap is_some
      (last_below-no (is_at v x) (row_at ws) n (and_left (is_of v (row_at ws n)) (eqb (row_at ws n).at x) other))
      ∙ (has_row_stands sys ws w v x n (omega arith) (λ i m. by i (omega arith))
      ∙ sym (ap (λ (o : Option Wake). stands_at o x) (last_below-no (is_of v) (row_at ws) n other)))
  | inl of ↦ elim (cases_eq (row_at ws n).at x) [
    | inl at ↦
        ap is_some (last_below-yes (is_at v x) (row_at ws) n
        (and_from (is_of v (row_at ws n)) (eqb (row_at ws n).at x) of (eq-eqb (row_at ws n).at x at)))
        ∙ sym (ap (λ (o : Option Wake). stands_at o x) (last_below-yes (is_of v) (row_at ws) n of)
        ∙ eq-eqb (row_at ws n).at x at)
    | inr ne ↦
        ap is_some (none_below (is_at v x) (row_at ws) (suc n) (λ i m. and_right (is_of v (row_at ws i))
        (eqb (row_at ws i).at x) (ne_eqb (row_at ws i).at x
        (λ e. ne (
        let o = ordered sys ws w i n (omega arith) l in
        let b = by n (omega arith) in omega (arith, o, b, e))))))
        ∙ sym (ap (λ (o : Option Wake). stands_at o x) (last_below-yes (is_of v) (row_at ws) n of)
        ∙ ne_eqb (row_at ws n).at x ne)
  ]
]

-- what a row that keeps the rules says
pub record WakeKeeps (sys : SystemView) (ws : List Wake) (w : Wake) : Type 0 where
  pub in_limit : w.at ≤ LIMIT
  pub in_order : slot_before ws (length ws) ≤ w.at
  pub known : is_vcpu sys w.vcpu ≡ true
  pub alone : has_row_at ws (length ws) w.vcpu w.at ≡ false
  pub in_turn : may_follow (last_row (is_of w.vcpu) ws (length ws)) w.what ≡ true

pub wake_keeps : (sys : SystemView) (ws : List Wake) (w : Wake) → wake_fault sys ws w ≡ None → WakeKeeps sys ws w
wake_keeps sys ws w h =
    let n = length ws in
    let a : (nat_lt LIMIT w.at ≡ false) × (_ ≡ None) = fault_none (nat_lt LIMIT w.at) (OutOfRange (row_of n)) _ h in
    let b : (nat_lt w.at (slot_before ws n) ≡ false) × (_ ≡ None)
    = fault_none (nat_lt w.at (slot_before ws n)) (BadOrder (row_of n)) _ a.1 in
    let k : (not (is_vcpu sys w.vcpu) ≡ false) × (turn_fault ws w ≡ None)
    = fault_none (not (is_vcpu sys w.vcpu)) (Unknown (row_of n)) (turn_fault ws w) b.1 in
    let s : (has_row_at ws n w.vcpu w.at ≡ false) × (_ ≡ None)
    = fault_none (has_row_at ws n w.vcpu w.at) (BadOrder (row_of n)) _ k.1 in
    let t : (not (may_follow (last_row (is_of w.vcpu) ws n) w.what) ≡ false) × (_ ≡ None)
    = fault_none (not (may_follow (last_row (is_of w.vcpu) ws n) w.what)) (BadOrder (row_of n)) None s.1 in
    record {
      in_limit = ltb-false LIMIT w.at a.0;
      in_order = ltb-false w.at (slot_before ws n) b.0;
      known = not-false (is_vcpu sys w.vcpu) k.0;
      alone = s.0;
      in_turn = not-false (may_follow (last_row (is_of w.vcpu) ws n) w.what) t.0;
    }

-- what holds of each row before and of the new one
each_more : (ws : List Wake) (w : Wake) (P : ℕ → Type 0) → ((i : ℕ) → i < length ws → P i) → P (length ws) → (i : ℕ)
    → i < length (ws ++ w ∷ []) → P i
each_more ws w P old new i l = below_more P (length ws) old new i (omega (arith, l, length_more ws w))

-- so the rows with it are a workload
pub workload_more : (sys : SystemView) (ws : List Wake) (w : Wake) → IsWorkload sys ws → WakeKeeps sys ws w
    → IsWorkload sys (ws ++ w ∷ [])
workload_more sys ws w h k = record {
  in_limit =
      each_more ws w (λ i. (row_at zs i).at ≤ LIMIT)
      (λ i l. subst (λ (r : Wake). r.at ≤ LIMIT) (sym (old i l)) (h.in_limit i l))
      (subst (λ (r : Wake). r.at ≤ LIMIT) (sym new) k.in_limit);
  in_order = in_order;
  known =
      each_more ws w (λ i. is_vcpu sys (row_at zs i).vcpu ≡ true)
      (λ i l. subst (λ (r : Wake). is_vcpu sys r.vcpu ≡ true) (sym (old i l)) (h.known i l))
      (subst (λ (r : Wake). is_vcpu sys r.vcpu ≡ true) (sym new) k.known);
  one_a_slot = one_a_slot;
  in_turn = each_more ws w (λ i. may_follow (last_row (is_of (row_at zs i).vcpu) zs i) (row_at zs i).what ≡ true)
      (λ i l. subst (λ (r : Wake). may_follow (last_row (is_of r.vcpu) zs i) r.what ≡ true) (sym (old i l))
      (ap (λ (o : Option Wake). may_follow o (row_at ws i).what)
      (last_row_same (is_of (row_at ws i).vcpu) ws (w ∷ []) i (omega (arith, l))) ∙ h.in_turn i l))
      (subst (λ (r : Wake). may_follow (last_row (is_of r.vcpu) zs (length ws)) r.what ≡ true) (sym new)
      (ap (λ (o : Option Wake). may_follow o w.what)
      (last_row_same (is_of w.vcpu) ws (w ∷ []) (length ws) (omega arith)) ∙ k.in_turn));
}
  where
    zs : List Wake
    zs = ws ++ w ∷ []

    old : (i : ℕ) → i < length ws → row_at (ws ++ w ∷ []) i ≡ row_at ws i
    old i l = row_same ws (w ∷ []) i l

    new : row_at (ws ++ w ∷ []) (length ws) ≡ w
    new = row_last ws w

    in_order : (i : ℕ) → i + 1 < length (ws ++ w ∷ [])
        → (row_at (ws ++ w ∷ []) i).at ≤ (row_at (ws ++ w ∷ []) (i + 1)).at
    in_order i l = elim (cases_eq (i + 1) (length ws)) [
      | inl e ↦
          let before : (row_at (ws ++ w ∷ []) i).at ≡ (row_at ws i).at
          = ap (λ (r : Wake). r.at) (old i (omega (arith, e))) in
          let behind : (row_at (ws ++ w ∷ []) (i + 1)).at ≡ w.at
          = ap (λ (z : ℕ). (row_at (ws ++ w ∷ []) z).at) e ∙ ap (λ (r : Wake). r.at) new in
          let slot : (row_at ws i).at ≡ slot_before ws (length ws)
          = ap (slot_before ws) (let s : suc i ≡ length ws = omega (arith, e) in s) in
          omega (arith, before, behind, slot, k.in_order)
      | inr ne ↦
          let m : i + 1 < length ws = omega (arith, l, ne, length_more ws w) in
          omega (
            arith,
            ap (λ (r : Wake). r.at) (old i (omega (arith, m))),
            ap (λ (r : Wake). r.at) (old (i + 1) m),
            h.in_order i m,
          )
    ]

    one_a_slot : (i j : ℕ) → i < j → j < length (ws ++ w ∷ [])
        → (row_at (ws ++ w ∷ []) i).vcpu ≡ (row_at (ws ++ w ∷ []) j).vcpu
        → (row_at (ws ++ w ∷ []) i).at ≢ (row_at (ws ++ w ∷ []) j).at
    one_a_slot i j l m of at = elim (cases_eq j (length ws)) [
      | inl e ↦
          let there : row_at (ws ++ w ∷ []) j ≡ w = ap (row_at (ws ++ w ∷ [])) e ∙ new in
          let is : row_at (ws ++ w ∷ []) i ≡ row_at ws i = old i (omega (arith, l, e)) in
          let vcpu : (row_at ws i).vcpu ≡ w.vcpu
          = sym (ap (λ (r : Wake). r.vcpu) is) ∙ (of ∙ ap (λ (r : Wake). r.vcpu) there) in
          let slot : (row_at ws i).at ≡ w.at
          = sym (ap (λ (r : Wake). r.at) is) ∙ (at ∙ ap (λ (r : Wake). r.at) there) in
          both_ways (has_row_at ws (length ws) w.vcpu w.at) k.alone
          (some_row (is_at w.vcpu w.at) (row_at ws) (length ws) i (omega (arith, l, e))
          (and_from (is_of w.vcpu (row_at ws i)) (eqb (row_at ws i).at w.at) (eq-eqb (row_at ws i).vcpu w.vcpu vcpu)
          (eq-eqb (row_at ws i).at w.at slot)))
      | inr ne ↦
          let n : j < length ws = omega (arith, m, ne, length_more ws w) in
          let i_is : row_at (ws ++ w ∷ []) i ≡ row_at ws i = old i (omega (arith, l, n)) in
          let j_is : row_at (ws ++ w ∷ []) j ≡ row_at ws j = old j n in
          h.one_a_slot i j l n
          (sym (ap (λ (r : Wake). r.vcpu) i_is) ∙ (of ∙ ap (λ (r : Wake). r.vcpu) j_is))
          (sym (ap (λ (r : Wake). r.at) i_is) ∙ (at ∙ ap (λ (r : Wake). r.at) j_is))
    ]

-- and what is kept of them is so
pub behind_more : (a b : WakeRows) (w : Wake) → IsSystem a.sys.now → IsBehind a.wakes.items a
    → WakeKeeps a.sys.now a.wakes.items w → b.sys ≡ a.sys → b.slot ≡ w.at → b.last ≡ set a.last w.vcpu (Some w)
    → b.wakes.items ≡ a.wakes.items ++ w ∷ [] → IsBehind b.wakes.items b
behind_more a b w system h k sys slot last items = record {
  workload = rw (sys, items) (workload_more a.sys.now a.wakes.items w h.workload k);
  slot =
      slot
      ∙ sym (ap (λ (z : List Wake). slot_before z (length z)) items
      ∙ (ap (slot_before (a.wakes.items ++ w ∷ [])) (length_more a.wakes.items w)
      ∙ ap (λ (r : Wake). r.at) (row_last a.wakes.items w)));
  room = ap (λ (z : List (Option Wake)). length z) last ∙ (length-set a.last w.vcpu (Some w) ∙ h.room);
  last =
      λ v l. ap (λ (z : List (Option Wake)). last_at z v) last
      ∙ (one v l
      ∙ sym
      (ap (λ (z : List Wake). last_row (is_of v) z (length z)) items ∙ last_row_more (is_of v) a.wakes.items w));
}
  where
    part : w.vcpu < length a.sys.now.parts
    part = vcpu_part a.sys.now w.vcpu k.known

    one : (v : ℕ) → v < 512
        → last_at (set a.last w.vcpu (Some w)) v
        ≡ cond (is_of v w) (Some w) (last_row (is_of v) a.wakes.items (length a.wakes.items))
    one v l = put_says (λ o. o) before now a.last w.vcpu (Some w) None (omega (arith, h.room, part, system.few_parts))
        (sym (ap (λ (z : Bool). cond z (Some w) (before w.vcpu)) (eq-eqb w.vcpu w.vcpu refl)))
        (λ u ne. sym (ap (λ (z : Bool). cond z (Some w) (before u)) (ne_eqb w.vcpu u (λ e. ne (sym e)))))
        v (h.last v l)
      where
        before : ℕ → Option Wake
        before u = last_row (is_of u) a.wakes.items (length a.wakes.items)

        now : ℕ → Option Wake
        now u = cond (is_of u w) (Some w) (before u)

-- the rules on the turn of a VCPU, told by what is kept
pub turn_is : (a : WakeRows) (w : Wake) (m : ℕ) (stands follows : Bool) → IsBehind a.wakes.items a → a.slot ≤ w.at
    → w.vcpu < 512 → m ≡ row_of (length a.wakes.items) → stands ≡ stands_at (last_at a.last w.vcpu) w.at
    → follows ≡ may_follow (last_at a.last w.vcpu) w.what
    → turn_fault a.wakes.items w ≡ fault_if stands (BadOrder m) (fault_if (not follows) (BadOrder m) None)
turn_is a w m stands follows h order part number s f =
    let ws = a.wakes.items in
    let n = length ws in
    let there : has_row_at ws n w.vcpu w.at ≡ stands =
    has_row_stands a.sys.now ws h.workload w.vcpu w.at n (omega arith)
    (by_last a.sys.now ws h.workload w.at n (omega arith) (omega (arith, h.slot, order)))
    ∙ (ap (λ (o : Option Wake). stands_at o w.at) (sym (h.last w.vcpu part)) ∙ sym s) in
    let turn : may_follow (last_row (is_of w.vcpu) ws n) w.what ≡ follows
    = ap (λ (o : Option Wake). may_follow o w.what) (sym (h.last w.vcpu part)) ∙ sym f in
    ap (λ (z : Bool). fault_if z (BadOrder (row_of n))
    (fault_if (not (may_follow (last_row (is_of w.vcpu) ws n) w.what)) (BadOrder (row_of n)) None)) there
    ∙ (ap (λ (z : Bool). fault_if stands (BadOrder (row_of n)) (fault_if (not z) (BadOrder (row_of n)) None)) turn
    ∙ ap (λ (z : ℕ). fault_if stands (BadOrder z) (fault_if (not follows) (BadOrder z) None)) (sym number))
