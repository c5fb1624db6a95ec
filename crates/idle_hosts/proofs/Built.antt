-- A workload whose VCPUs start where it is told, and are blocked where it is told.
use Rattle.std.proofs.Common.{◌≡◌, ◌≢◌, ℕ, zero, suc, ◌<◌, ◌≤◌, ◌==◌, Bool, true, false, cond, nat_lt, List, [], ◌∷◌, ◌++◌, length, Option, Some, None, refl, sym, ◌∙◌, ap, arith, subst, inl, inr, eq-eqb, lt-ltb, le-ltb, below_more}
use Rattle.std.proofs.lemmas.Bool.{cases_Bool, cases_eq, cases_lt, and_from, and_left, and_right, ne_eqb, cond-true, cond-false, false≢true}
use Rattle.std.proofs.lemmas.List.{length_push}
use Rattle.std.proofs.lemmas.Option.{none-some}
use Rattle.std.specs.Prelude.{is_some}
use Rattle.slot_model.specs.declared.task.TheConstants.{LIMIT}
use Rattle.csv_rows.proofs.Last.{last_below-zero, none_below}
use Rattle.tree_model.specs.View.{SystemView}
use Rattle.trace_file.specs.Rules.{is_vcpu}
use Rattle.trace_file.proofs.Known.{vcpu_part}
use Rattle.release_file.specs.declared.workload.Wake.{Wake}
use Rattle.release_file.specs.declared.workload.WakeKind.{WakeKind}
use Rattle.release_file.specs.declared.workload.WakeKind.TheVariants.{Start, Wake as ToWake, Block}
use Rattle.release_file.specs.Workload.{row_at, last_row, is_of, is_start, starts, may_follow, IsWorkload}
use Rattle.release_file.specs.WorkloadFile.{slot_before, is_at}
use Rattle.release_file.proofs.WakesMore.{WakeKeeps, workload_more}
use Rattle.release_file.proofs.WakesTaking.{no_rows}
use Rattle.idle_hosts.proofs.Changes.{row_of, change, last_of, start_row, starts_now, change_follows, change_starts, change_none, change_off, last_same, last_new, last_none, start_same, start_new, start_none}
use Rattle.idle_hosts.proofs.Told.{Told, told_other, told_new, told_same, told_at, old_row, new_row}

is_a_start : (what : WakeKind) → is_start what ≡ true → Start ≡ what
is_a_start Start e = refl
is_a_start ToWake e = absurd (false≢true e)
is_a_start Block e = absurd (false≢true e)

module _ (sys : SystemView) (start : ℕ → ℕ) (wants : ℕ → ℕ → Bool) where
  -- what is told of VCPU v
  abbrev pub last_told : ℕ → ℕ → Option Wake
  last_told v = last_of v (is_vcpu sys v) (start v) (wants v)

  abbrev pub start_told : ℕ → ℕ → Option Wake
  start_told v = start_row v (is_vcpu sys v) (start v) (wants v)

  abbrev change_told : ℕ → ℕ → Option WakeKind
  change_told v = change v (is_vcpu sys v) (start v) (wants v)

  -- the rows before a slot of each VCPU
  pub record Built (seen : ℕ → ℕ) (rows : List Wake) : Type 0 where
    pub workload : IsWorkload sys rows
    pub early : (i : ℕ) → i < length rows → (row_at rows i).at < seen (row_at rows i).vcpu
    pub lasts : (v : ℕ) → Told (is_of v) (last_told v) (seen v) rows
    pub firsts : (v : ℕ) → Told (starts v) (start_told v) (seen v) rows

  built_at : (seen also : ℕ → ℕ) (rows : List Wake) → ((v : ℕ) → seen v ≡ also v) → Built seen rows → Built also rows
  built_at seen also rows e h = record {
    workload = h.workload;
    early = λ i l. omega (arith, h.early i l, e (row_at rows i).vcpu);
    lasts = λ v. told_at (is_of v) (last_told v) (seen v) (also v) rows (e v) (h.lasts v);
    firsts = λ v. told_at (starts v) (start_told v) (seen v) (also v) rows (e v) (h.firsts v);
  }

  by_slot : (seen : ℕ → ℕ) (rows : List Wake) (x : ℕ) → Built seen rows → ((v : ℕ) → seen v ≤ suc x) → (i : ℕ)
      → i < length rows → (row_at rows i).at ≤ x
  by_slot seen rows x h most i l = omega (arith, h.early i l, most (row_at rows i).vcpu)

  -- the next slot of VCPU m alone
  pub record IsNext (seen next : ℕ → ℕ) (m x : ℕ) : Type 0 where
    pub now : seen m ≡ x
    pub most : (v : ℕ) → seen v ≤ suc x
    pub later : next m ≡ suc x
    pub others : (v : ℕ) → v ≢ m → seen v ≡ next v

  most : (m x v : ℕ) → cond (nat_lt v m) (suc x) x ≤ suc x
  most m x v = elim (cases_Bool (nat_lt v m)) [
    | inl e ↦ omega (arith, cond-true {A = ℕ} (nat_lt v m) (suc x) x e)
    | inr e ↦ omega (arith, cond-false {A = ℕ} (nat_lt v m) (suc x) x e)
  ]

  next_vcpu : (m x : ℕ) → IsNext (λ v. cond (nat_lt v m) (suc x) x) (λ v. cond (nat_lt v (suc m)) (suc x) x) m x
  next_vcpu m x = record {
    now = cond-false {A = ℕ} (nat_lt m m) (suc x) x (le-ltb m m (omega arith));
    most = most m x;
    later = cond-true {A = ℕ} (nat_lt m (suc m)) (suc x) x (lt-ltb m (suc m) (omega arith));
    others = λ v ne. elim (cases_lt v m) [
      | inl l ↦
          cond-true {A = ℕ} (nat_lt v m) (suc x) x (lt-ltb v m l)
          ∙ sym (cond-true {A = ℕ} (nat_lt v (suc m)) (suc x) x (lt-ltb v (suc m) (omega arith)))
      | inr l ↦
          cond-false {A = ℕ} (nat_lt v m) (suc x) x (le-ltb v m l)
          ∙ sym (cond-false {A = ℕ} (nat_lt v (suc m)) (suc x) x (le-ltb v (suc m) (omega arith)))
    ];
  }

  no_change : (seen next : ℕ → ℕ) (rows : List Wake) (m x : ℕ) → Built seen rows → IsNext seen next m x
      → change_told m x ≡ None → Built next rows
  no_change seen next rows m x h is none = record {
    workload = h.workload;
    early = λ i l. elim (cases_eq (row_at rows i).vcpu m) [
      | inl e ↦ omega (arith, by_slot seen rows x h is.most i l, ap next e, is.later)
      | inr ne ↦ omega (arith, h.early i l, is.others (row_at rows i).vcpu ne)
    ];
    lasts = λ v. one v (is_of v) (last_told v) (h.lasts v)
        (λ e. subst (λ (u : ℕ). last_told u (suc x) ≡ last_told u x) (sym e)
        (last_same m (is_vcpu sys m) (start m) (wants m) x none));
    firsts = λ v. one v (starts v) (start_told v) (h.firsts v)
        (λ e. subst (λ (u : ℕ). start_told u (suc x) ≡ start_told u x) (sym e)
        (start_same m (is_vcpu sys m) (start m) (wants m) x
        (change_none m (is_vcpu sys m) (start m) (wants m) x none)));
  }
    where
      one : (v : ℕ) (passes : Wake → Bool) (target : ℕ → Option Wake) → Told passes target (seen v) rows
          → (v ≡ m → target (suc x) ≡ target x) → Told passes target (next v) rows
      one v passes target t same = elim (cases_eq v m) [
        | inr ne ↦ told_at passes target (seen v) (next v) rows (is.others v ne) t
        | inl e ↦
            told_at passes target (suc x) (next v) rows (sym (ap next e ∙ is.later))
            (told_same passes target x rows (by_slot seen rows x h is.most) (same e)
            (told_at passes target (seen v) x rows (ap seen e ∙ is.now) t))
      ]

  module _ (seen next : ℕ → ℕ) (rows : List Wake) (m x : ℕ) (what : WakeKind) (h : Built seen rows)
      (is : IsNext seen next m x) (some : change_told m x ≡ Some what) (limit : x ≤ LIMIT) where
    abbrev new : Wake
    new = row_of m x what

    vcpu : is_vcpu sys m ≡ true
    vcpu = elim (cases_Bool (is_vcpu sys m)) [
      | inl e ↦ e
      | inr off ↦
          absurd (none-some what (sym (change_off m (is_vcpu sys m) (start m) (wants m) off x) ∙ some))
    ]

    stands : last_row (is_of m) rows (length rows) ≡ last_told m x
    stands = (h.lasts m).last ∙ ap (last_told m) is.now

    before : (n : ℕ) → n ≤ length rows → slot_before rows n ≤ x
    before zero l = omega arith
    before (suc n) l = by_slot seen rows x h is.most n l

    keeps : WakeKeeps sys rows new
    keeps = record {
      in_limit = limit;
      in_order = before (length rows) (omega arith);
      known = vcpu;
      alone = ap is_some (none_below (is_at m x) (row_at rows) (length rows)
          (λ i l. elim (cases_eq (row_at rows i).vcpu m) [
            | inr ne ↦ and_left (is_of m (row_at rows i)) ((row_at rows i).at == x) (ne_eqb (row_at rows i).vcpu m ne)
            | inl e ↦
                and_right (is_of m (row_at rows i)) ((row_at rows i).at == x)
                (ne_eqb (row_at rows i).at x (λ q. omega (arith, h.early i l, ap seen e, is.now, q)))
          ]));
      in_turn =
          ap (λ (o : Option Wake). may_follow o what) stands
          ∙ change_follows m (is_vcpu sys m) (start m) (wants m) x what some;
    }

    one_more : (v : ℕ) (passes : Wake → Bool) (target : ℕ → Option Wake) → Told passes target (seen v) rows
        → (v ≢ m → passes new ≡ false)
        → (v ≡ m → Told passes target x rows → Told passes target (suc x) (rows ++ new ∷ []))
        → Told passes target (next v) (rows ++ new ∷ [])
    one_more v passes target t other more = elim (cases_eq v m) [
      | inr ne ↦
          told_other passes target (next v) rows new (other ne)
          (told_at passes target (seen v) (next v) rows (is.others v ne) t)
      | inl e ↦
          told_at passes target (suc x) (next v) (rows ++ new ∷ []) (sym (ap next e ∙ is.later))
          (more e (told_at passes target (seen v) x rows (ap seen e ∙ is.now) t))
    ]

    by_more : (i : ℕ) → i < length (rows ++ new ∷ []) → (row_at (rows ++ new ∷ []) i).at ≤ x
    by_more i l =
        below_more (λ i. (row_at (rows ++ new ∷ []) i).at ≤ x) (length rows)
        (λ i l. omega (arith, ap (λ (r : Wake). r.at) (old_row rows new i l), by_slot seen rows x h is.most i l))
        (omega (arith, ap (λ (r : Wake). r.at) (new_row rows new))) i (omega (arith, l, length_push rows new))

    abbrev Early : ℕ → Type 0
    Early i = (row_at (rows ++ new ∷ []) i).at < next (row_at (rows ++ new ∷ []) i).vcpu

    early_more : (i : ℕ) → i < length (rows ++ new ∷ []) → Early i
    early_more i l = below_more Early (length rows) old last i (omega (arith, l, length_push rows new))
      where
        old : (i : ℕ) → i < length rows → Early i
        old i l = subst (λ (r : Wake). r.at < next r.vcpu) (sym (old_row rows new i l))
            (elim (cases_eq (row_at rows i).vcpu m) [
              | inl e ↦ omega (arith, by_slot seen rows x h is.most i l, ap next e, is.later)
              | inr ne ↦ omega (arith, h.early i l, is.others (row_at rows i).vcpu ne)
            ])

        last : Early (length rows)
        last = subst (λ (r : Wake). r.at < next r.vcpu) (sym (new_row rows new)) (omega (arith, is.later))

    with_last : (v : ℕ) → v ≡ m → Told (is_of v) (last_told v) x rows
        → Told (is_of v) (last_told v) (suc x) (rows ++ new ∷ [])
    with_last v e t =
        told_new (is_of v) (last_told v) x rows new (eq-eqb m v (sym e)) refl
        (subst (λ (u : ℕ). last_told u (suc x) ≡ Some new) (sym e)
        (last_new m (is_vcpu sys m) (start m) (wants m) x what some)) t

    with_first : (v : ℕ) → v ≡ m → (s : Bool) → starts_now m (is_vcpu sys m) (start m) (wants m) x ≡ s
        → Told (starts v) (start_told v) x rows → Told (starts v) (start_told v) (suc x) (rows ++ new ∷ [])
    with_first v e true q t =
        told_new (starts v) (start_told v) x rows new (and_from (is_of v new) (is_start what) (eq-eqb m v (sym e))
        (change_starts m (is_vcpu sys m) (start m) (wants m) x what some ∙ q)) refl
        (subst (λ (u : ℕ). start_told u (suc x) ≡ Some new) (sym e)
        (start_new m (is_vcpu sys m) (start m) (wants m) x q
        ∙ ap (λ k. Some (row_of m x k)) (is_a_start what
        (change_starts m (is_vcpu sys m) (start m) (wants m) x what some ∙ q)))) t
    with_first v e false q t =
        told_same (starts v) (start_told v) x (rows ++ new ∷ []) by_more
        (subst (λ (u : ℕ). start_told u (suc x) ≡ start_told u x) (sym e)
        (start_same m (is_vcpu sys m) (start m) (wants m) x q))
        (told_other (starts v) (start_told v) x rows new (and_right (is_of v new) (is_start what)
        (change_starts m (is_vcpu sys m) (start m) (wants m) x what some ∙ q)) t)

    one_change : Built next (rows ++ new ∷ [])
    one_change = record {
      workload = workload_more sys rows new h.workload keeps;
      early = early_more;
      lasts = λ v. one_more v (is_of v) (last_told v) (h.lasts v) (λ ne. ne_eqb m v (λ e. ne (sym e))) (with_last v);
      firsts = λ v. one_more v (starts v) (start_told v) (h.firsts v)
          (λ ne. and_left (is_of v new) (is_start what) (ne_eqb m v (λ e. ne (sym e))))
          (λ e. with_first v e (starts_now m (is_vcpu sys m) (start m) (wants m) x) refl);
    }

  -- the rows before slot x of all, and at slot x of those below m
  abbrev seen_by : ℕ → ℕ → ℕ → ℕ
  seen_by x m v = cond (nat_lt v m) (suc x) x

  one_vcpu : (rows : List Wake) (m x : ℕ) → Built (seen_by x m) rows → x ≤ LIMIT → (o : Option WakeKind)
      → change_told m x ≡ o → (more : List Wake) × Built (seen_by x (suc m)) more
  one_vcpu rows m x h limit None none =
      (rows, no_change (seen_by x m) (seen_by x (suc m)) rows m x h (next_vcpu m x) none)
  one_vcpu rows m x h limit (Some what) some = (
    rows ++ row_of m x what ∷ [],
    one_change (seen_by x m) (seen_by x (suc m)) rows m x what h (next_vcpu m x) some limit,
  )

  vcpus_below : (x : ℕ) → x ≤ LIMIT → ((rows : List Wake) × Built (λ v. x) rows) → (m : ℕ)
      → (more : List Wake) × Built (seen_by x m) more
  vcpus_below x limit (rows, h) zero = (
    rows,
    built_at (λ v. x) (seen_by x 0) rows
        (λ v. sym (cond-false {A = ℕ} (nat_lt v 0) (suc x) x (le-ltb v 0 (omega arith)))) h,
  )
  vcpus_below x limit start_rows (suc m) =
      let (rows, h) = vcpus_below x limit start_rows m in
      one_vcpu rows m x h limit (change_told m x) refl

  -- a slot of all
  all_at : (x : ℕ) (rows : List Wake) → Built (seen_by x (length sys.parts)) rows → Built (λ v. suc x) rows
  all_at x rows h = record {
    workload = h.workload;
    early = λ i l. omega (arith, h.early i l, most (length sys.parts) x (row_at rows i).vcpu);
    lasts = λ v. one v (is_of v) (last_told v) (h.lasts v) (λ off. last_same v (is_vcpu sys v) (start v) (wants v) x
        (change_off v (is_vcpu sys v) (start v) (wants v) off x));
    firsts = λ v. one v (starts v) (start_told v) (h.firsts v)
        (λ off. start_same v (is_vcpu sys v) (start v) (wants v) x
        (change_none v (is_vcpu sys v) (start v) (wants v) x (change_off v (is_vcpu sys v) (start v) (wants v) off x)));
  }
    where
      one : (v : ℕ) (passes : Wake → Bool) (target : ℕ → Option Wake)
          → Told passes target (seen_by x (length sys.parts) v) rows
          → (is_vcpu sys v ≡ false → target (suc x) ≡ target x) → Told passes target (suc x) rows
      one v passes target t same = elim (cases_lt v (length sys.parts)) [
        | inl l ↦
            told_at passes target (seen_by x (length sys.parts) v) (suc x) rows
            (cond-true {A = ℕ} (nat_lt v (length sys.parts)) (suc x) x (lt-ltb v (length sys.parts) l)) t
        | inr l ↦
            told_same passes target x rows (by_slot (seen_by x (length sys.parts)) rows x h (most (length sys.parts) x))
            (same (elim (cases_Bool (is_vcpu sys v)) [
              | inr off ↦ off
              | inl on ↦ absurd (omega (arith, vcpu_part sys v on))
            ]))
            (told_at passes target (seen_by x (length sys.parts) v) x rows
            (cond-false {A = ℕ} (nat_lt v (length sys.parts)) (suc x) x (le-ltb v (length sys.parts) l)) t)
      ]

  -- all slots below t
  pub built : (t : ℕ) → t ≤ suc LIMIT → (rows : List Wake) × Built (λ v. t) rows
  built zero l = (
    [],
    record {
      workload = no_rows sys;
      early = λ i m. absurd (omega arith);
      lasts = λ v. record {
        last = last_below-zero (is_of v) (row_at []) ∙ sym (last_none v (is_vcpu sys v) (start v) (wants v));
        each = λ y m. absurd (omega arith);
      };
      firsts = λ v. record {
        last = last_below-zero (starts v) (row_at []) ∙ sym (start_none v (is_vcpu sys v) (start v) (wants v));
        each = λ y m. absurd (omega arith);
      };
    },
  )
  built (suc x) l =
      let (rows, h) = vcpus_below x (omega arith) (built x (omega arith)) (length sys.parts) in
      (rows, all_at x rows h)
