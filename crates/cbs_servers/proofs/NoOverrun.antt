-- Where no server runs past its budget, the grants tell the accounts, and the runs are the same.
use Rattle.std.proofs.Common.{◌≡◌, ℕ, zero, suc, ◌+◌, ◌-◌, ◌*◌, ◌/◌, ◌<◌, ◌≤◌, ◌==◌, nat_lt, nat_le, Bool, true, false, if◌then◌else◌, ◌&&◌, ◌||◌, List, Option, arith, refl, sym, ◌∙◌, ap, subst, inl, inr, lt-ltb, le-ltb, le-leb, mul-le-mul_right}
use Rattle.std.proofs.lemmas.Bool.{cases_lt, cases_eq, cases_Bool, and_parts, and_from, or_parts, or_left, cond-true, cond-false, leb-true, leb-false, ltb-false, eqb-true, eq-eqb}
use Rattle.slot_model.specs.Run.{held, holds}
use Rattle.slot_model.proofs.Runs.{holds-is}
use Rattle.cbs_servers.specs.Cbs.{Servers, IsServer, Account, renewed, is_renewed, comes_back, brought_back, at_moment, after_slot, no_account, account_from, wakes, account, is_eligible, CbsRun}
use Rattle.cbs_servers.specs.Giving.{AreServers}
use Rattle.cbs_servers.specs.Overrun.{Grant, no_grant, whole_grant, is_used_up, times_granted, granted_more, caught_up, at_deadline, is_given_up, at_wake, grant_at, grant_after, grant, is_awake, has_left, may_run, no_overrun, OverrunRun, NoneOverIsCbs, TellsAccount, GrantsAreAccounts}
use Rattle.cbs_servers.proofs.Windows.{account-zero, account-suc, eligible-is}
use Rattle.cbs_servers.proofs.OverrunSteps.{whole_again}
use Rattle.cbs_servers.proofs.LateByOthers.{grant-zero, grant-suc, awake-is, left-is, may-is}

tells_whole : (budget period x : ℕ) → TellsAccount (renewed budget period x) (whole_grant budget period x)
tells_whole budget period x = record { due_is = refl; left_is = omega arith }

-- where nothing is left, and the deadline is not ahead
module _ (budget period x : ℕ) (a : Account) (g : Grant) (o : 1 ≤ budget) (tells : TellsAccount a g) (none : a.left ≡ 0)
    (here : a.due ≤ x) where
  abbrev more : Grant
  more = granted_more budget period g

  once : times_granted budget g ≡ 1
  once =
      let nothing : g.used - g.granted ≡ 0 = omega (arith, tells.left_is, none) in
      let e : (g.used - g.granted) / budget ≡ 0 = omega (arith, nothing, o) in
      ap (λ (n : ℕ). suc n) e

  more_due : more.due ≡ a.due + period
  more_due = omega (arith, tells.due_is, ap (λ (n : ℕ). n * period) once)

  more_granted : more.granted ≡ budget
  more_granted = omega (arith, tells.left_is, none, ap (λ (n : ℕ). n * budget) once)

  past_too : a.due + period < x → caught_up budget period x more ≡ whole_grant budget period x
  past_too l = cond-true {A = Grant} _ _ _ (lt-ltb more.due x (omega (arith, more_due, l)))

  not_past : x ≤ a.due + period → caught_up budget period x more ≡ more
  not_past l = cond-false {A = Grant} _ _ _ (le-ltb more.due x (omega (arith, more_due, l)))

  -- asleep or awake all along
  tells_back : TellsAccount (brought_back budget period x a) (caught_up budget period x more)
  tells_back = elim (cases_lt (a.due + period) x) [
    | inl l ↦
        subst (TellsAccount (brought_back budget period x a)) (sym (past_too l))
        (record {
          due_is = sym (cond-true {A = ℕ} (nat_lt (a.due + period) x) (x + period) (a.due + period) (lt-ltb _ _ l));
          left_is = omega arith;
        })
    | inr l ↦
        subst (TellsAccount (brought_back budget period x a)) (sym (not_past l))
        (record {
          due_is =
              more_due
              ∙ sym (cond-false {A = ℕ} (nat_lt (a.due + period) x) (x + period) (a.due + period) (le-ltb _ _ l));
          left_is = omega (arith, more_granted);
        })
  ]

  -- what is not given up at a wake-up has its deadline just there
  at_just : x < more.due → (more.granted - more.used) * period ≤ (more.due - x) * budget → a.due ≡ x
  at_just l m = elim (cases_lt a.due x) [
    | inr q ↦ omega (arith, q, here)
    | inl q ↦
        let short : suc (more.due - x) ≤ period = omega (arith, more_due, q, l) in
        let all : more.granted - more.used ≡ budget = omega (arith, more_granted) in
        absurd (omega (
          arith,
          m,
          o,
          mul-le-mul_right budget short,
          ap (λ (n : ℕ). n * period) all,
        ))
  ]

  -- at a wake-up
  tells_new : 1 ≤ period → TellsAccount (renewed budget period x)
      (at_wake budget period x true (caught_up budget period x more))
  tells_new r = elim (cases_lt (a.due + period) x) [
    | inl l ↦
        subst (TellsAccount (renewed budget period x))
        (sym (ap (at_wake budget period x true) (past_too l) ∙ whole_again budget period x true o r))
        (tells_whole budget period x)
    | inr l ↦
        subst (λ (h : Grant). TellsAccount (renewed budget period x) (at_wake budget period x true h))
        (sym (not_past l))
        (elim (cases_Bool (is_given_up budget period x more)) [
          | inl e ↦
              subst (TellsAccount (renewed budget period x)) (sym (cond-true {A = Grant} _ _ _ e))
              (tells_whole budget period x)
          | inr e ↦
              let q = or_parts (nat_le more.due x)
              (nat_lt ((more.due - x) * budget) ((more.granted - more.used) * period)) e in
              let at : a.due ≡ x = at_just (leb-false _ _ q.0) (ltb-false _ _ q.1) in
              subst (TellsAccount (renewed budget period x)) (sym (cond-false {A = Grant} _ _ _ e))
              (record { due_is = omega (arith, more_due, at); left_is = omega (arith, more_granted) })
        ])
  ]

  used_up : is_used_up x g ≡ true
  used_up =
      and_from _ _ (le-leb g.granted g.used (omega (arith, tells.left_is, none)))
      (le-leb g.due x (omega (arith, tells.due_is, here)))

  tells_used_up : (w : Bool) → 1 ≤ period → TellsAccount (at_moment budget period x w a) (grant_at budget period x w g)
  tells_used_up true r =
      subst (λ (b : Account). TellsAccount b (grant_at budget period x true g))
      (sym (cond-true {A = Account} _ _ _ (or_left (nat_le a.due x) _ (le-leb _ _ here))))
      (subst (λ (h : Grant). TellsAccount (renewed budget period x) (at_wake budget period x true h))
      (sym (cond-true {A = Grant} _ _ _ used_up)) (tells_new r))
  tells_used_up false r =
      subst (λ (b : Account). TellsAccount b (grant_at budget period x false g))
      (sym (cond-true {A = Account} _ _ _ (and_from _ _ (eq-eqb a.left 0 none) (le-leb _ _ here))))
      (subst (TellsAccount (brought_back budget period x a)) (sym (cond-true {A = Grant} _ _ _ used_up)) tells_back)

-- where something is left, or the deadline is ahead
module _ (budget period x : ℕ) (a : Account) (g : Grant) (tells : TellsAccount a g)
    (not_here : a.left ≡ 0 → a.due ≤ x → ⊥) where
  not_used_up : at_deadline budget period x g ≡ g
  not_used_up = elim (cases_Bool (is_used_up x g)) [
    | inr e ↦ cond-false {A = Grant} _ _ _ e
    | inl e ↦
        let p = and_parts (nat_le g.granted g.used) (nat_le g.due x) e in
        absurd (not_here (omega (arith, leb-true _ _ p.0, tells.left_is))
        (omega (arith, leb-true _ _ p.1, tells.due_is)))
  ]

  not_back : comes_back x a ≡ false
  not_back = elim (cases_Bool (comes_back x a)) [
    | inr e ↦ e
    | inl e ↦
        let p = and_parts (a.left == 0) (nat_le a.due x) e in
        absurd (not_here (eqb-true _ _ p.0) (leb-true _ _ p.1))
  ]

  same_test : is_given_up budget period x g ≡ is_renewed budget period x a
  same_test =
      ap (λ (d : ℕ). nat_le d x || nat_lt ((d - x) * budget) ((g.granted - g.used) * period)) tells.due_is
      ∙ ap (λ (l : ℕ). nat_le a.due x || nat_lt ((a.due - x) * budget) (l * period))
      (let e : g.granted - g.used ≡ a.left = omega (arith, tells.left_is) in e)

  tells_stays : TellsAccount (if comes_back x a then brought_back budget period x a else a) g
  tells_stays = subst (λ (b : Account). TellsAccount b g) (sym (cond-false {A = Account} _ _ _ not_back)) tells

  tells_woken : TellsAccount (at_moment budget period x true a) (at_wake budget period x true g)
  tells_woken = elim (cases_Bool (is_renewed budget period x a)) [
    | inl e ↦
        subst (λ (b : Account). TellsAccount b (at_wake budget period x true g))
        (sym (cond-true {A = Account} _ _ _ e))
        (subst (TellsAccount (renewed budget period x)) (sym (cond-true {A = Grant} _ _ _ (same_test ∙ e)))
        (tells_whole budget period x))
    | inr e ↦
        subst (λ (b : Account). TellsAccount b (at_wake budget period x true g))
        (sym (cond-false {A = Account} _ _ _ e))
        (subst (TellsAccount (if comes_back x a then brought_back budget period x a else a))
        (sym (cond-false {A = Grant} _ _ _ (same_test ∙ e))) tells_stays)
  ]

  tells_other : (w : Bool) → TellsAccount (at_moment budget period x w a) (grant_at budget period x w g)
  tells_other true =
      subst (λ (h : Grant). TellsAccount (at_moment budget period x true a) (at_wake budget period x true h))
      (sym not_used_up) tells_woken
  tells_other false =
      subst (TellsAccount (at_moment budget period x false a)) (sym not_used_up) tells_stays

tells_moment : (budget period x : ℕ) (w : Bool) (a : Account) (g : Grant) → 1 ≤ budget → 1 ≤ period → TellsAccount a g
    → TellsAccount (at_moment budget period x w a) (grant_at budget period x w g)
tells_moment budget period x w a g o r tells = elim (cases_eq a.left 0) [
  | inr some ↦ tells_other budget period x a g tells (λ z _. some z) w
  | inl none ↦ elim (cases_lt x a.due) [
    | inl ahead ↦ tells_other budget period x a g tells (λ _ l. omega (arith, ahead, l)) w
    | inr here ↦ tells_used_up budget period x a g o tells none here w r
  ]
]

tells_slot : (runs : Bool) (a : Account) (g : Grant) → (runs ≡ true → 1 ≤ a.left) → TellsAccount a g
    → TellsAccount (after_slot runs a) (grant_after runs g)
tells_slot true a g h tells =
    let some = h refl in record { due_is = tells.due_is; left_is = omega (arith, tells.left_is, some) }
tells_slot false a g h tells = record { due_is = tells.due_is; left_is = omega (arith, tells.left_is) }

-- so in each slot of a run in which who has a slot has something left
tells_at : (s : Servers) → AreServers s → (n : ℕ) (run : List (Option ℕ)) (v : ℕ) → IsServer s v
    → ((y : ℕ) → y < n → holds (held run y) v ≡ true → TellsAccount (account s run v y) (grant s run v y)
    → 1 ≤ (account s run v y).left)
    → (x : ℕ) → x ≤ n → TellsAccount (account s run v x) (grant s run v x)
tells_at s servers n run v is ran zero l =
    subst (λ (a : Account). TellsAccount a (grant s run v 0)) (sym (account-zero s run v))
    (subst (TellsAccount (account_from s v 0 no_account)) (sym (grant-zero s run v))
    (tells_moment (s.budget v) (s.period v) 0 (wakes s v 0) no_account no_grant (servers.some v is)
    (omega (arith, servers.some v is, servers.within v is)) (record { due_is = refl; left_is = refl })))
tells_at s servers n run v is ran (suc x) l =
    let before : TellsAccount (account s run v x) (grant s run v x)
    = tells_at s servers n run v is ran x (omega (arith, l)) in
    let a : Account = after_slot (holds (held run x) v) (account s run v x) in
    let g : Grant = grant_after (holds (held run x) v) (grant s run v x) in
    subst (λ (b : Account). TellsAccount b (grant s run v (suc x))) (sym (account-suc s run v x))
    (subst (TellsAccount (account_from s v (suc x) a)) (sym (grant-suc s run v x))
    (tells_moment (s.budget v) (s.period v) (suc x) (wakes s v (suc x)) a g (servers.some v is)
    (omega (arith, servers.some v is, servers.within v is))
    (tells_slot (holds (held run x) v) (account s run v x) (grant s run v x) (λ e. ran x l e before) before)))

pub grants_are_accounts : GrantsAreAccounts
grants_are_accounts s n run v x servers r is l =
    tells_at s servers n run v is (λ y m e _. (eligible-is s run v y ((r.each y m).named v (holds-is _ _ e))).2) x l

grants_are_accounts_over : (s : Servers) (n : ℕ) (run : List (Option ℕ)) (v x : ℕ) → AreServers s
    → OverrunRun s no_overrun n run → IsServer s v → x ≤ n → TellsAccount (account s run v x) (grant s run v x)
grants_are_accounts_over s n run v x servers r is l =
    tells_at s servers n run v is
    (λ y m e tells.
    omega (arith, (may-is s no_overrun run v y ((r.each y m).named v (holds-is _ _ e))).2, tells.left_is)) x l

-- so the tests and the deadlines of both are the same
module _ (s : Servers) (run : List (Option ℕ)) (x : ℕ)
    (tells : (v : ℕ) → IsServer s v → TellsAccount (account s run v x) (grant s run v x)) where
  same_left : (v : ℕ) → IsServer s v
      → nat_lt (grant s run v x).used (grant s run v x).granted ≡ nat_lt 0 (account s run v x).left
  same_left v is = elim (cases_lt 0 (account s run v x).left) [
    | inl l ↦
        lt-ltb (grant s run v x).used (grant s run v x).granted (omega (arith, l, (tells v is).left_is)) ∙ sym
        (lt-ltb _ _ l)
    | inr l ↦
        le-ltb (grant s run v x).used (grant s run v x).granted (omega (arith, l, (tells v is).left_is)) ∙ sym
        (le-ltb _ _ l)
  ]

  same_eligible : (v : ℕ) → has_left s run v x ≡ is_eligible s run v x
  same_eligible v = elim (cases_Bool (is_awake s v x)) [
    | inl e ↦ ap (λ (b : Bool). is_awake s v x && b) (same_left v (awake-is s v x e).0)
    | inr e ↦
        ap (λ (b : Bool). b && nat_lt (grant s run v x).used (grant s run v x).granted) e
        ∙ sym (ap (λ (b : Bool). b && nat_lt 0 (account s run v x).left) e)
  ]

  eligible_may : (v : ℕ) → is_eligible s run v x ≡ true → may_run s no_overrun run v x ≡ true
  eligible_may v e =
      let p = and_parts (is_awake s v x) (nat_lt 0 (account s run v x).left) e in
      let q = eligible-is s run v x e in
      and_from _ _ p.0
      (lt-ltb (grant s run v x).used ((grant s run v x).granted + 0) (omega (arith, (tells v q.0).left_is, q.2)))

  may_eligible : (v : ℕ) → may_run s no_overrun run v x ≡ true → is_eligible s run v x ≡ true
  may_eligible v e =
      let p = and_parts (is_awake s v x) (nat_lt (grant s run v x).used ((grant s run v x).granted + 0)) e in
      let q = may-is s no_overrun run v x e in
      and_from _ _ p.0 (lt-ltb 0 (account s run v x).left (omega (arith, (tells v q.0).left_is, q.2)))

over_is_cbs : (s : Servers) (n : ℕ) (run : List (Option ℕ)) → AreServers s → OverrunRun s no_overrun n run
    → CbsRun s n run
over_is_cbs s n run servers r = record {
  long = r.long;
  each = λ x l.
      let tells : (v : ℕ) → IsServer s v → TellsAccount (account s run v x) (grant s run v x)
      = λ v is. grants_are_accounts_over s n run v x servers r is (omega (arith, l)) in
      record {
        idle = λ z v. sym (same_eligible s run x tells v) ∙ (r.each x l).idle z v;
        named = λ v z. may_eligible s run x tells v ((r.each x l).named v z);
        first = λ u v z g.
            let is_u = (eligible-is s run u x g).0 in
            let is_v = (may-is s no_overrun run v x ((r.each x l).named v z)).0 in
            omega (
              arith,
              (r.each x l).first u v z (same_eligible s run x tells u ∙ g),
              (tells u is_u).due_is,
              (tells v is_v).due_is,
            );
      };
}

pub cbs_is_over : (s : Servers) (n : ℕ) (run : List (Option ℕ)) → AreServers s → CbsRun s n run
    → OverrunRun s no_overrun n run
cbs_is_over s n run servers r = record {
  long = r.long;
  each = λ x l.
      let tells : (v : ℕ) → IsServer s v → TellsAccount (account s run v x) (grant s run v x)
      = λ v is. grants_are_accounts s n run v x servers r is (omega (arith, l)) in
      record {
        idle = λ z v. same_eligible s run x tells v ∙ (r.each x l).idle z v;
        named = λ v z. eligible_may s run x tells v ((r.each x l).named v z);
        first = λ u v z g.
            let is_u = (left-is s run u x g).0 in
            let is_v = (eligible-is s run v x ((r.each x l).named v z)).0 in
            omega (
              arith,
              (r.each x l).first u v z (sym (same_eligible s run x tells u) ∙ g),
              (tells u is_u).due_is,
              (tells v is_v).due_is,
            );
      };
}

pub none_over_is_cbs : NoneOverIsCbs
none_over_is_cbs s n run servers = (over_is_cbs s n run servers, cbs_is_over s n run servers)
