-- What the account of a server keeps, and what a server had of a window of a run.
use Rattle.std.proofs.Common.{◌≡◌, ℕ, zero, suc, ◌+◌, ◌<◌, ◌≤◌, nat_lt, leb, Bool, true, false, cond, ◌&&◌, List, get_or, Option, None, arith, refl, sym, ◌∙◌, ap, subst, inl, inr, le-leb}
use Rattle.std.proofs.lemmas.Bool.{cases_lt, and_parts, cond-true, cond-false, ltb-true, lt-leb}
use Rattle.slot_model.specs.Slots.{count_below}
use Rattle.slot_model.specs.Run.{held, holds}
use Rattle.slot_model.proofs.Sums.{sum_below-zero, sum_below-suc}
use Rattle.slot_model.proofs.Counts.{count_stretch}
use Rattle.cbs_servers.specs.Cbs.{Servers, IsServer, Account, after_slot, wakes, no_account, account_from, account, is_eligible}
use Rattle.cbs_servers.specs.Giving.{AreServers}
use Rattle.cbs_servers.proofs.Steps.{Turn, renews, returns, stays, turn}

pub account-zero : (s : Servers) (run : List (Option ℕ)) (v : ℕ)
    → account s run v 0 ≡ account_from s v 0 no_account
unfolding account
account-zero s run v = refl

pub account-suc : (s : Servers) (run : List (Option ℕ)) (v x : ℕ)
    → account s run v (suc x) ≡ account_from s v (suc x) (after_slot (holds (held run x) v) (account s run v x))
unfolding account
account-suc s run v x = refl

-- what is left is never more than the budget
pub after_slot-le : (runs : Bool) (a : Account) → (after_slot runs a).left ≤ a.left
after_slot-le true a = omega arith
after_slot-le false a = omega arith

at_moment-le : (budget period x : ℕ) (wakes : Bool) (a b : Account) → Turn budget period x wakes a b → a.left ≤ budget
    → b.left ≤ budget
at_moment-le budget period x wakes a b (renews y why e) l = omega (arith, ap (λ (z : Account). z.left) e)
at_moment-le budget period x wakes a b (returns none here e) l = omega (arith, ap (λ (z : Account). z.left) e)
at_moment-le budget period x wakes a b (stays h u e) l = omega (arith, ap (λ (z : Account). z.left) e)

pub left-le : (s : Servers) (run : List (Option ℕ)) (v x : ℕ) → (account s run v x).left ≤ s.budget v
left-le s run v zero =
    subst (λ (a : Account). a.left ≤ s.budget v) (sym (account-zero s run v))
    (at_moment-le (s.budget v) (s.period v) 0 (wakes s v 0) no_account _
    (turn (s.budget v) (s.period v) 0 (wakes s v 0) no_account) (omega arith))
left-le s run v (suc x) =
    let a : Account = after_slot (holds (held run x) v) (account s run v x) in
    let m : a.left ≤ s.budget v = omega (
      arith,
      after_slot-le (holds (held run x) v)
          (account s run v x),
      left-le s run v x,
    ) in
    subst (λ (b : Account). b.left ≤ s.budget v) (sym (account-suc s run v x))
    (at_moment-le (s.budget v) (s.period v) (suc x) (wakes s v (suc x)) a _
    (turn (s.budget v) (s.period v) (suc x) (wakes s v (suc x)) a) m)

-- where nothing is left behind the events of a moment, the deadline is still to come
turned-comes : (budget period x : ℕ) (wakes : Bool) (a b : Account) → 1 ≤ budget → Turn budget period x wakes a b
    → b.left ≡ 0 → x < b.due
turned-comes budget period x wakes a b o (renews y why e) z = absurd (omega (arith, ap (λ (c : Account). c.left) e, o))
turned-comes budget period x wakes a b o (returns none here e) z =
    absurd (omega (arith, ap (λ (c : Account). c.left) e, o))
turned-comes budget period x wakes a b o (stays k u e) z = elim (cases_lt x a.due) [
  | inl l ↦ omega (arith, l, ap (λ (c : Account). c.due) e)
  | inr l ↦ absurd (u (ap (λ (c : Account). c.left) (sym e) ∙ z) l)
]

pub comes : (s : Servers) → AreServers s → (run : List (Option ℕ)) (v : ℕ) → IsServer s v → (x : ℕ)
    → (account s run v x).left ≡ 0 → x < (account s run v x).due
comes s servers run v is zero =
    subst (λ (a : Account). a.left ≡ 0 → 0 < a.due) (sym (account-zero s run v))
    (turned-comes (s.budget v) (s.period v) 0 (wakes s v 0) no_account _ (servers.some v is)
    (turn (s.budget v) (s.period v) 0 (wakes s v 0) no_account))
comes s servers run v is (suc x) =
    let a : Account = after_slot (holds (held run x) v) (account s run v x) in
    subst (λ (b : Account). b.left ≡ 0 → suc x < b.due) (sym (account-suc s run v x))
    (turned-comes (s.budget v) (s.period v) (suc x) (wakes s v (suc x)) a _ (servers.some v is)
    (turn (s.budget v) (s.period v) (suc x) (wakes s v (suc x)) a))

-- what the window from t on has of the run, and what server v had of it before y
abbrev pub seen : ℕ → List (Option ℕ) → ℕ → Option ℕ
seen t run y = cond (leb t y) (get_or run y None) None

abbrev pub got : ℕ → List (Option ℕ) → ℕ → ℕ → ℕ
got t run v y = count_below (λ z. holds (seen t run z) v) y

pub got_none : (t : ℕ) (run : List (Option ℕ)) (v y : ℕ) → y ≤ t → got t run v y ≡ 0
got_none t run v y l =
    let e : 0 + y ≡ y = omega arith in
    omega (
      arith,
      ap (λ (z : ℕ). got t run v z) e,
      count_stretch (λ z. holds (seen t run z) v) false 0 y
          (λ z _ m. ap (λ (o : Option ℕ). holds o v) (cond-false {A = Option ℕ} (leb t z) _ _
          (lt-leb _ _ (omega arith)))),
      sum_below-zero (λ z. cond (holds (seen t run z) v) 1 0),
    )

pub got_next : (t : ℕ) (run : List (Option ℕ)) (v y : ℕ) → t ≤ y
    → got t run v (suc y) ≡ got t run v y + cond (holds (get_or run y None) v) 1 0
got_next t run v y l =
    sum_below-suc (λ z. cond (holds (seen t run z) v) 1 0) y
    ∙ ap (λ (o : Option ℕ). got t run v y + cond (holds o v) 1 0)
    (cond-true {A = Option ℕ} (leb t y) _ _ (le-leb _ _ l))

-- what the test says
pub eligible-is : (s : Servers) (run : List (Option ℕ)) (v y : ℕ) → is_eligible s run v y ≡ true
    → IsServer s v × (s.awake v y ≡ true) × (1 ≤ (account s run v y).left)
eligible-is s run v y e =
    let p = and_parts ((nat_lt v s.count && s.is_server v) && s.awake v y) (nat_lt 0 (account s run v y).left) e in
    let q = and_parts (nat_lt v s.count && s.is_server v) (s.awake v y) p.0 in
    let o = and_parts (nat_lt v s.count) (s.is_server v) q.0 in
    (record { below = ltb-true _ _ o.0; is_one = o.1 }, q.1, ltb-true _ _ p.1)

-- a server is up at a moment where it is awake in the slot from there on or in the slot before
pub data IsUp (s : Servers) (v x : ℕ) : Type 0 where
  now : s.awake v x ≡ true → IsUp s v x
  before : (y : ℕ) → x ≡ suc y → s.awake v y ≡ true → IsUp s v x
