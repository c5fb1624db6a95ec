-- Over each number of slots there is just one run by the order of the file.
use Rattle.std.proofs.Common.{◌≡◌, ℕ, zero, suc, ◌<◌, ◌≤◌, ◌==◌, nat_lt, true, false, ◌&&◌, ◌||◌, List, [], ◌∷◌, ◌++◌, length, Option, Some, None, arith, refl, sym, ◌∙◌, ap, subst, inl, inr, lt-ltb}
use Rattle.std.proofs.lemmas.Bool.{cases_lt, cases_eq, cases_Bool, both_ways, or_parts, or_cases, and_parts, and_from}
use Rattle.std.proofs.lemmas.Bool.{ltb-true, ltb-false, eqb-true, eq-eqb}
use Rattle.std.proofs.lemmas.List.{ext_get_or, get_or_push, length_push, get_or_append_left}
use Rattle.slot_model.specs.Run.{held, holds}
use Rattle.cbs_servers.specs.Cbs.{Servers, Account, after_slot, account_from, account, is_eligible, goes_before, FileEntry, FileRun, HasFileRun, FileRunIsOnly, FileOrderIsOpen, HasRun}
use Rattle.cbs_servers.proofs.Windows.{account-zero, account-suc, eligible-is}

-- two runs that agree below x
Agree : List (Option ℕ) → List (Option ℕ) → ℕ → Type 0
Agree run other x = (y : ℕ) → y < x → held run y ≡ held other y

-- an account depends on the run below its slot alone
account_agree : (s : Servers) (run other : List (Option ℕ)) (v x : ℕ) → Agree run other x
    → account s run v x ≡ account s other v x
unfolding Agree
account_agree s run other v zero h = account-zero s run v ∙ sym (account-zero s other v)
account_agree s run other v (suc x) h =
    account-suc s run v x
    ∙ (ap (λ (o : Option ℕ). account_from s v (suc x) (after_slot (holds o v) (account s run v x))) (h x (omega arith))
    ∙ (ap (λ (a : Account). account_from s v (suc x) (after_slot (holds (held other x) v) a))
    (account_agree s run other v x (λ y l. h y (omega (arith, l)))) ∙ sym (account-suc s other v x)))

eligible_agree : (s : Servers) (run other : List (Option ℕ)) (v x : ℕ) → Agree run other x
    → is_eligible s run v x ≡ is_eligible s other v x
eligible_agree s run other v x h =
    ap (λ (a : Account). ((nat_lt v s.count && s.is_server v) && s.awake v x) && nat_lt 0 a.left)
    (account_agree s run other v x h)

before_agree : (s : Servers) (run other : List (Option ℕ)) (u v x : ℕ) → Agree run other x
    → goes_before s run x u v ≡ goes_before s other x u v
before_agree s run other u v x h =
    ap (λ (a : Account). nat_lt a.due (account s run v x).due || ((a.due == (account s run v x).due) && nat_lt u v))
    (account_agree s run other u x h)
    ∙ ap (λ (a : Account). nat_lt (account s other u x).due a.due
    || (((account s other u x).due == a.due) && nat_lt u v)) (account_agree s run other v x h)

entry_agree : (s : Servers) (run other : List (Option ℕ)) (x : ℕ) → Agree run other x → (o : Option ℕ)
    → FileEntry s run x o → FileEntry s other x o
entry_agree s run other x h o e = record {
  idle = λ q v. sym (eligible_agree s run other v x h) ∙ e.idle q v;
  named = λ v q. sym (eligible_agree s run other v x h) ∙ e.named v q;
  first = λ u v q r. sym (before_agree s run other u v x h) ∙ e.first u v q (eligible_agree s run other u x h ∙ r);
}

-- who goes before whom, by deadlines and places
not_before : (s : Servers) (run : List (Option ℕ)) (x u v : ℕ) → (account s run v x).due ≤ (account s run u x).due
    → ((account s run u x).due ≡ (account s run v x).due → v ≤ u) → goes_before s run x u v ≡ false
not_before s run x u v l tie = elim (cases_Bool (goes_before s run x u v)) [
  | inr e ↦ e
  | inl e ↦ elim (or_cases (nat_lt (account s run u x).due (account s run v x).due) _ e) [
    | inl q ↦ absurd (omega (arith, l, ltb-true _ _ q))
    | inr q ↦
        let p = and_parts ((account s run u x).due == (account s run v x).due) (nat_lt u v) q in
        absurd (omega (arith, tie (eqb-true _ _ p.0), ltb-true _ _ p.1))
  ]
]

due_least : (s : Servers) (run : List (Option ℕ)) (x u v : ℕ) → goes_before s run x u v ≡ false
    → (account s run v x).due ≤ (account s run u x).due
due_least s run x u v e = ltb-false _ _ (or_parts _ _ e).0

first_of_tie : (s : Servers) (run : List (Option ℕ)) (x u v : ℕ) → goes_before s run x u v ≡ false
    → (account s run u x).due ≡ (account s run v x).due → v ≤ u
first_of_tie s run x u v e tie = elim (cases_lt u v) [
  | inr l ↦ l
  | inl l ↦
      absurd (both_ways _ (or_parts (nat_lt (account s run u x).due (account s run v x).due)
      (((account s run u x).due == (account s run v x).due) && nat_lt u v) e).1
      (and_from _ _ (eq-eqb _ _ tie) (lt-ltb _ _ l)))
]

-- one entry
entry_only : (s : Servers) (run : List (Option ℕ)) (x : ℕ) (o p : Option ℕ) → FileEntry s run x o
    → FileEntry s run x p → o ≡ p
entry_only s run x None None e f = refl
entry_only s run x None (Some v) e f = absurd (both_ways _ (e.idle refl v) (f.named v refl))
entry_only s run x (Some u) None e f = absurd (both_ways _ (f.idle refl u) (e.named u refl))
entry_only s run x (Some u) (Some v) e f =
    let fore : goes_before s run x u v ≡ false = f.first u v refl (e.named u refl) in
    let back : goes_before s run x v u ≡ false = e.first v u refl (f.named v refl) in
    let tie : (account s run u x).due ≡ (account s run v x).due
    = omega (arith, due_least s run x u v fore, due_least s run x v u back) in
    ap (λ (z : ℕ). Some z)
    (let q : u ≡ v = omega (arith, first_of_tie s run x u v fore tie, first_of_tie s run x v u back (sym tie)) in q)

runs_agree : (s : Servers) (n : ℕ) (run other : List (Option ℕ)) → FileRun s n run → FileRun s n other → (x : ℕ)
    → x ≤ n → Agree run other x
unfolding Agree
runs_agree s n run other a b zero l y m = absurd (omega (arith, m))
runs_agree s n run other a b (suc x) l y m =
    let h : (z : ℕ) → z < x → held run z ≡ held other z = runs_agree s n run other a b x (omega (arith, l)) in
    elim (cases_lt y x) [
      | inl q ↦ h y q
      | inr q ↦
          let e : y ≡ x = omega (arith, m, q) in
          subst (λ (z : ℕ). held run z ≡ held other z) (sym e)
          (entry_only s other x (held run x) (held other x)
          (entry_agree s run other x h (held run x) (a.each x (omega (arith, l)))) (b.each x (omega (arith, l))))
    ]

pub file_run_is_only : FileRunIsOnly
unfolding Agree
file_run_is_only s n run other a b =
    ext_get_or None run other (a.long ∙ sym b.long) (λ x l. runs_agree s n run other a b n (omega arith) x
    (omega (arith, l, a.long)))

-- of the first m places the eligible one that goes first, or that none is eligible
data First (s : Servers) (run : List (Option ℕ)) (x m : ℕ) : Type 0 where
  none : ((v : ℕ) → v < m → is_eligible s run v x ≡ false) → First s run x m
  one : (v : ℕ) → v < m → is_eligible s run v x ≡ true
      → ((u : ℕ) → u < m → is_eligible s run u x ≡ true → goes_before s run x u v ≡ false) → First s run x m

-- one place more, which is eligible
first_more : (s : Servers) (run : List (Option ℕ)) (x m : ℕ) → is_eligible s run m x ≡ true → First s run x m
    → First s run x (suc m)
first_more s run x m e (none h) =
    one m (omega arith) e (λ u l g. elim (cases_eq u m) [
      | inl q ↦ not_before s run x u m (omega (arith, ap (λ (w : ℕ). (account s run w x).due) q))
          (λ _. omega (arith, q))
      | inr ne ↦ absurd (both_ways _ (h u (omega (arith, l, ne))) g)
    ])
first_more s run x m e (one v lv i h) = elim (cases_lt (account s run m x).due (account s run v x).due) [
  | inl less ↦
      one m (omega arith) e (λ u l g. elim (cases_eq u m) [
        | inl q ↦
            not_before s run x u m (omega (arith, ap (λ (w : ℕ). (account s run w x).due) q)) (λ _. omega (arith, q))
        | inr ne ↦
            let k : (account s run v x).due ≤ (account s run u x).due
            = due_least s run x u v (h u (omega (arith, l, ne)) g) in
            not_before s run x u m (omega (arith, k, less)) (λ q. absurd (omega (arith, k, less, q)))
      ])
  | inr more ↦
      one v (omega (arith, lv)) i (λ u l g. elim (cases_eq u m) [
        | inl q ↦
            not_before s run x u v (omega (arith, more, ap (λ (w : ℕ). (account s run w x).due) q))
            (λ _. omega (arith, lv, q))
        | inr ne ↦ h u (omega (arith, l, ne)) g
      ])
]

-- or is not
first_same : (s : Servers) (run : List (Option ℕ)) (x m : ℕ) → is_eligible s run m x ≡ false → First s run x m
    → First s run x (suc m)
first_same s run x m e (none h) =
    none (λ v l. elim (cases_eq v m) [
      | inl q ↦ subst (λ (w : ℕ). is_eligible s run w x ≡ false) (sym q) e
      | inr ne ↦ h v (omega (arith, l, ne))
    ])
first_same s run x m e (one v lv i h) =
    one v (omega (arith, lv)) i (λ u l g. elim (cases_eq u m) [
      | inl q ↦ absurd (both_ways _ (subst (λ (w : ℕ). is_eligible s run w x ≡ false) (sym q) e) g)
      | inr ne ↦ h u (omega (arith, l, ne)) g
    ])

first_of : (s : Servers) (run : List (Option ℕ)) (x m : ℕ) → First s run x m
first_of s run x zero = none (λ v l. absurd (omega (arith, l)))
first_of s run x (suc m) = elim (cases_Bool (is_eligible s run m x)) [
  | inl e ↦ first_more s run x m e (first_of s run x m)
  | inr e ↦ first_same s run x m e (first_of s run x m)
]

entry_of : (s : Servers) (run : List (Option ℕ)) (x : ℕ) → First s run x s.count → (o : Option ℕ) × FileEntry s run x o
entry_of s run x (none h) = (
  None,
  record {
    idle = λ z v. elim (cases_Bool (is_eligible s run v x)) [
      | inr e ↦ e
      | inl e ↦ absurd (both_ways _ (h v (eligible-is s run v x e).0.below) e)
    ];
    named = λ v z. absurd (cc);
    first = λ u v z g. absurd (cc);
  },
)
entry_of s run x (one w lw i h) = (
  Some w,
  record {
    idle = λ z v. absurd (cc);
    named = λ v z. let q : w ≡ v = cc in subst (λ (y : ℕ). is_eligible s run y x ≡ true) q i;
    first = λ u v z g.
        let q : w ≡ v = cc in
        subst (λ (y : ℕ). goes_before s run x u y ≡ false) q (h u (eligible-is s run u x g).0.below g);
  },
)

-- a run with one more entry agrees with it up to its end
longer_agrees : (run : List (Option ℕ)) (o : Option ℕ) (x : ℕ) → x ≤ length run → Agree run (run ++ o ∷ []) x
unfolding Agree
longer_agrees run o x l y m = sym (get_or_append_left run (o ∷ []) None y (omega (arith, l, m)))

pub has_file_run : HasFileRun
has_file_run s zero = ([], record { long = refl; each = λ x l. absurd (omega (arith, l)) })
has_file_run s (suc n) =
    let (run, r) = has_file_run s n in
    let (o, e) = entry_of s run n (first_of s run n s.count) in (
      run ++ o ∷ [],
      record {
        long = omega (arith, length_push run o, r.long);
        each = λ x l. elim (cases_eq x n) [
          | inl q ↦
              subst (λ (y : ℕ). FileEntry s (run ++ o ∷ []) y (held (run ++ o ∷ []) y)) (sym q)
              (subst (FileEntry s (run ++ o ∷ []) n) (sym (get_or_push run o None n r.long))
              (entry_agree s run (run ++ o ∷ []) n (longer_agrees run o n (omega (arith, r.long))) o e))
          | inr ne ↦
              subst (FileEntry s (run ++ o ∷ []) x)
              (sym (get_or_append_left run (o ∷ []) None x (omega (arith, l, ne, r.long))))
              (entry_agree s run (run ++ o ∷ []) x (longer_agrees run o x (omega (arith, l, ne, r.long))) (held run x)
              (r.each x (omega (arith, l, ne))))
        ];
      },
    )

pub file_order_is_open : FileOrderIsOpen
file_order_is_open s n run r = record {
  long = r.long;
  each = λ x l. record {
    idle = (r.each x l).idle;
    named = (r.each x l).named;
    first = λ u v z g. due_least s run x u v ((r.each x l).first u v z g);
  };
}

pub has_run : HasRun
has_run s n = let (run, r) = has_file_run s n in (run, file_order_is_open s n run r)
