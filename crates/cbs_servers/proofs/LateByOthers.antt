-- A server is late by no more than what the others run past their budgets.
use Rattle.std.proofs.Common.{◌≡◌, ◌⊎◌, ℕ, zero, suc, ◌+◌, ◌-◌, ◌*◌, ◌<◌, ◌≤◌, nat_lt, leb, Bool, true, false, not, cond, ◌&&◌, List, get_or, Option, Some, None, arith, refl, sym, ◌∙◌, ap, subst, inl, inr, le-leb, leb-true, lt-ltb, mul-le-mul_left, mul-le-mul_right}
use Rattle.std.proofs.Math.Nat.{le_of_mul-le-mul_right}
use Rattle.std.proofs.lemmas.Bool.{cases_lt, cases_Bool, and_parts, and_from, and_right, both_ways, false≢true, cond-true, ltb-true}
use Rattle.slot_model.specs.Slots.{sum_below, count_below}
use Rattle.slot_model.specs.Run.{held, holds}
use Rattle.slot_model.proofs.Sums.{sum_below-lt, sum_below-add, sum_below-mul}
use Rattle.slot_model.proofs.Runs.{back_to, holds-is}
use Rattle.slot_model.proofs.Served.{served_le}
use Rattle.slot_model.proofs.Counts.{count_stretch}
use Rattle.cbs_servers.specs.Cbs.{Servers, IsServer, wakes}
use Rattle.cbs_servers.specs.Giving.{AreServers, SharesFit}
use Rattle.cbs_servers.specs.Overrun.{Grant, no_grant, grant_at, grant_after, grant_of, grant, is_awake, has_left, may_run, OverrunRun, LateByOthers}
use Rattle.cbs_servers.proofs.OverrunSteps.{Owes, untouched, within, past, Fair, Nearly, slot_owes, Moves, moves, moment_owes, fair_moves, nearly_ran}
use Rattle.cbs_servers.proofs.Windows.{seen, got, got_none, got_next, IsUp, now, before}

pub grant-zero : (s : Servers) (run : List (Option ℕ)) (v : ℕ)
    → grant s run v 0 ≡ grant_at (s.budget v) (s.period v) 0 (wakes s v 0) no_grant
unfolding grant_of
grant-zero s run v = refl

pub grant-suc : (s : Servers) (run : List (Option ℕ)) (v x : ℕ)
    → grant s run v (suc x)
    ≡ grant_at (s.budget v) (s.period v) (suc x) (wakes s v (suc x))
    (grant_after (holds (held run x) v) (grant s run v x))
unfolding grant_of
grant-suc s run v x = refl

-- what tests say
pub awake-is : (s : Servers) (v x : ℕ) → is_awake s v x ≡ true → IsServer s v × (s.awake v x ≡ true)
awake-is s v x e =
    let q = and_parts (nat_lt v s.count && s.is_server v) (s.awake v x) e in
    let o = and_parts (nat_lt v s.count) (s.is_server v) q.0 in
    (record { below = ltb-true _ _ o.0; is_one = o.1 }, q.1)

pub left-is : (s : Servers) (run : List (Option ℕ)) (v x : ℕ) → has_left s run v x ≡ true
    → IsServer s v × (s.awake v x ≡ true) × ((grant s run v x).used < (grant s run v x).granted)
left-is s run v x e =
    let p = and_parts (is_awake s v x) (nat_lt (grant s run v x).used (grant s run v x).granted) e in
    let a = awake-is s v x p.0 in
    (a.0, a.1, ltb-true _ _ p.1)

pub may-is : (s : Servers) (over : ℕ → ℕ) (run : List (Option ℕ)) (v x : ℕ) → may_run s over run v x ≡ true
    → IsServer s v × (s.awake v x ≡ true) × ((grant s run v x).used < (grant s run v x).granted + over v)
may-is s over run v x e =
    let p = and_parts (is_awake s v x) (nat_lt (grant s run v x).used ((grant s run v x).granted + over v)) e in
    let a = awake-is s v x p.0 in
    (a.0, a.1, ltb-true _ _ p.1)

-- a slot that goes to a deadline up to d
record Early (s : Servers) (run : List (Option ℕ)) (d y : ℕ) : Type 0 where
  server : ℕ
  holds_it : get_or run y None ≡ Some server
  by : (grant s run server y).due ≤ d

is_early : (s : Servers) (run : List (Option ℕ)) (d y : ℕ) → (o : Option ℕ) → get_or run y None ≡ o
    → Early s run d y ⊎ (Early s run d y → ⊥)
is_early s run d y None e = inr (λ h. let q = sym h.holds_it ∙ e in (cc))
is_early s run d y (Some u) e = elim (cases_lt d (grant s run u y).due) [
  | inr l ↦ inl (record { server = u; holds_it = e; by = l })
  | inl l ↦ inr (λ h.
      let q : h.server ≡ u = cc (h.holds_it, e) in
      let m : (grant s run u y).due ≤ d = subst (λ (z : ℕ). (grant s run z y).due ≤ d) q h.by in
      omega arith)
]

late_slot : (s : Servers) (over : ℕ → ℕ) (n : ℕ) (run : List (Option ℕ)) → OverrunRun s over n run → (d y : ℕ) → y < n
    → (Early s run d y → ⊥) → (o : Option ℕ) → get_or run y None ≡ o → (u : ℕ) → has_left s run u y ≡ true
    → d < (grant s run u y).due
late_slot s over n run r d y l not_early None e u h = absurd (false≢true (sym ((r.each y l).idle e u) ∙ h))
late_slot s over n run r d y l not_early (Some w) e u h = elim (cases_lt d (grant s run w y).due) [
  | inl q ↦ omega (arith, (r.each y l).first u w e h)
  | inr q ↦ absurd (not_early (record { server = w; holds_it = e; by = q }))
]

record Window (s : Servers) (over : ℕ → ℕ) (n : ℕ) (run : List (Option ℕ)) (d t x : ℕ) : Type 0 where
  is_run : OverrunRun s over n run
  in_order : t ≤ x
  in_run : x ≤ n
  busy : (y : ℕ) → t ≤ y → y < x → Early s run d y
  not_before : (y : ℕ) → suc y ≡ t → Early s run d y → ⊥
  quiet : (y u : ℕ) → suc y ≡ t → has_left s run u y ≡ true → d < (grant s run u y).due

the_window : (s : Servers) (over : ℕ → ℕ) (n : ℕ) (run : List (Option ℕ)) → OverrunRun s over n run → (d x : ℕ)
    → x ≤ n → (t : ℕ) × Window s over n run d t x
the_window s over n run r d x l =
    let b : (t : ℕ) × (t ≤ x) × ((y : ℕ) → t ≤ y → y < x → Early s run d y)
    × ((y : ℕ) → suc y ≡ t → Early s run d y → ⊥)
    = back_to (Early s run d) (λ y. is_early s run d y (get_or run y None) refl) x in (
      b.0,
      record {
        is_run = r;
        in_order = b.1;
        in_run = l;
        busy = b.2;
        not_before = b.3;
        quiet = λ y u e h.
            late_slot s over n run r d y (let q : y < n = omega (arith, b.1) in q) (b.3 y e) (get_or run y None) refl
            u h;
      },
    )

module _ (s : Servers) (servers : AreServers s) (over : ℕ → ℕ) (n : ℕ) (run : List (Option ℕ))
    (r : OverrunRun s over n run) (v : ℕ) (is : IsServer s v) where
  some_period : 1 ≤ s.period v
  some_period = omega (arith, servers.some v is, servers.within v is)

  -- where it has a slot, it may
  ran-is : (x : ℕ) → x < n → holds (held run x) v ≡ true
      → (s.awake v x ≡ true) × ((grant s run v x).used < (grant s run v x).granted + over v)
  ran-is x l e = let p = may-is s over run v x ((r.each x l).named v (holds-is _ _ e)) in (p.1, p.2)

  fair : (x : ℕ) → x ≤ n → Fair (s.budget v) (over v) x (grant s run v x)
  fair zero l =
      subst (Fair (s.budget v) (over v) 0) (sym (grant-zero s run v))
      (fair_moves (s.budget v) (s.period v) (over v) 0 (wakes s v 0) no_grant _ (servers.some v is)
      (record { most = omega arith; used_up_to = omega arith })
      (moves (s.budget v) (s.period v) 0 (wakes s v 0) no_grant (servers.some v is) some_period))
  fair (suc x) l =
      let g : Grant = grant_after (holds (held run x) v) (grant s run v x) in
      subst (Fair (s.budget v) (over v) (suc x)) (sym (grant-suc s run v x))
      (fair_moves (s.budget v) (s.period v) (over v) (suc x) (wakes s v (suc x)) g _ (servers.some v is)
      (nearly_ran (s.budget v) (over v) x (holds (held run x) v) (grant s run v x) (λ e. (ran-is x l e).1)
      (fair x (omega arith)))
      (moves (s.budget v) (s.period v) (suc x) (wakes s v (suc x)) g (servers.some v is) some_period))

  before_moment : (x : ℕ) → x < n → Nearly (s.budget v) (over v) (grant_after (holds (held run x) v) (grant s run v x))
  before_moment x l =
      nearly_ran (s.budget v) (over v) x (holds (held run x) v) (grant s run v x) (λ e. (ran-is x l e).1)
      (fair x (omega arith))

module _ (s : Servers) (servers : AreServers s) (over : ℕ → ℕ) (n : ℕ) (run : List (Option ℕ)) (d t x : ℕ)
    (w : Window s over n run d t x) (v : ℕ) (is : IsServer s v) where
  abbrev OwesAt : ℕ → Bool → Grant → Type 0
  OwesAt have up g = Owes (s.budget v) (s.period v) t d (over v) have up g

  -- from a slot of the window to the next, where it is awake there, or counts as awake since it was
  -- before
  next_owes : (y : ℕ) → y < n → t ≤ suc y → (have : ℕ) (next : Bool)
      → (next && not (s.awake v y)) ≡ wakes s v (suc y)
      → OwesAt have (s.awake v y) (grant_after (holds (held run y) v) (grant s run v y))
      → OwesAt have next (grant s run v (suc y))
  next_owes y ly l have next e h =
      let g : Grant = grant_after (holds (held run y) v) (grant s run v y) in
      subst (OwesAt have next) (sym (grant-suc s run v y))
      (moment_owes (s.budget v) (s.period v) t d (over v) have (suc y) (s.awake v y) next g _ l
      (before_moment s servers over n run w.is_run v is y ly)
      (subst (λ (b : Bool). Moves (s.budget v) (s.period v) (suc y) b g
      (grant_at (s.budget v) (s.period v) (suc y) (wakes s v (suc y)) g)) (sym e)
      (moves (s.budget v) (s.period v) (suc y) (wakes s v (suc y)) g (servers.some v is)
      (some_period s servers over n run w.is_run v is))) h)

  may_run_by : (y : ℕ) → t ≤ y → y < x → holds (get_or run y None) v ≡ true
      → (s.awake v y ≡ true) × ((grant s run v y).due ≤ d)
  may_run_by y l m e =
      let o : get_or run y None ≡ Some v = holds-is _ _ e in
      let b = w.busy y l m in
      let q : b.server ≡ v = cc (b.holds_it, o) in (
        (ran-is s servers over n run w.is_run v is y (omega (arith, w.in_run)) e).0,
        subst (λ (u : ℕ). (grant s run u y).due ≤ d) q b.by,
      )

  -- before the window: one that is awake by d has nothing left and did not run, and its deadline is
  -- to come
  before_owes : (y : ℕ) → suc y ≡ t → y < n
      → OwesAt 0 (s.awake v y) (grant_after (holds (held run y) v) (grant s run v y))
  before_owes y e ly = elim (cases_lt d (grant s run v y).due) [
    | inl l ↦ untouched refl (λ _. l)
    | inr l ↦ elim (cases_Bool (s.awake v y)) [
      | inr asleep ↦ untouched refl (λ u. absurd (both_ways _ asleep u))
      | inl up ↦
          let none : (grant s run v y).granted ≤ (grant s run v y).used
          = elim (cases_lt (grant s run v y).used (grant s run v y).granted) [
            | inr q ↦ q
            | inl q ↦
                absurd (let c = w.quiet y v e
                (and_from _ _ (and_from _ _ (and_from _ _ (lt-ltb _ _ is.below) is.is_one) up) (lt-ltb _ _ q)) in
                omega arith)
          ] in
          let not_run : holds (held run y) v ≡ false = elim (cases_Bool (holds (held run y) v)) [
            | inr q ↦ q
            | inl q ↦ absurd (w.not_before y e (record { server = v; holds_it = holds-is _ _ q; by = l }))
          ] in
          let f = (fair s servers over n run w.is_run v is y (omega arith)).comes none in
          subst (λ (b : Bool). OwesAt 0 (s.awake v y) (grant_after b (grant s run v y))) (sym not_run)
          (within l (omega (
            arith,
            mul-le-mul_right (s.period v) none,
            mul-le-mul_right (s.budget v) (let q : t ≤ (grant s run v y).due = omega arith in q),
            ap (λ (z : ℕ). z * s.period v) (
                let q : (grant s run v y).used + 0 ≡ (grant s run v y).used = omega arith in q),
          )))
    ]
  ]

  owes_at : (y : ℕ) → t ≤ y → y ≤ x → OwesAt (got t run v y) (s.awake v y) (grant s run v y)
  owes_at zero l m =
      subst (OwesAt (got t run v 0) (s.awake v 0)) (sym (grant-zero s run v))
      (moment_owes (s.budget v) (s.period v) t d (over v) (got t run v 0) 0 false (s.awake v 0) no_grant _ l
      (record { most = omega arith; used_up_to = omega arith })
      (moves (s.budget v) (s.period v) 0 (wakes s v 0) no_grant (servers.some v is)
      (some_period s servers over n run w.is_run v is))
      (untouched (got_none t run v 0 (omega arith)) (λ e. absurd (false≢true e))))
  owes_at (suc y) l m = elim (cases_lt y t) [
    | inl q ↦
        subst (λ (have : ℕ). OwesAt have (s.awake v (suc y)) (grant s run v (suc y)))
        (sym (got_none t run v (suc y) (omega arith)))
        (next_owes y (omega (arith, w.in_run)) l 0 (s.awake v (suc y)) refl
        (before_owes y (omega arith) (omega (arith, w.in_run))))
    | inr q ↦
        subst (λ (have : ℕ). OwesAt have (s.awake v (suc y)) (grant s run v (suc y)))
        (sym (got_next t run v y q))
        (next_owes y (omega (arith, w.in_run)) l (got t run v y + cond (holds (held run y) v) 1 0)
        (s.awake v (suc y)) refl
        (slot_owes (s.budget v) (s.period v) t d (over v) (got t run v y) (s.awake v y) (holds (held run y) v)
        (grant s run v y) (may_run_by y q (omega arith)) (owes_at y q (omega arith))))
  ]

  -- one that was awake in the slot before counts as awake
  owes_on : (y : ℕ) → t ≤ suc y → suc y ≤ x → s.awake v y ≡ true
      → OwesAt (got t run v (suc y)) true (grant s run v (suc y))
  owes_on y l m u = elim (cases_lt y t) [
    | inl q ↦
        subst (λ (have : ℕ). OwesAt have true (grant s run v (suc y)))
        (sym (got_none t run v (suc y) (omega arith)))
        (next_owes y (omega (arith, w.in_run)) l 0 true (no_wake u)
        (before_owes y (omega arith) (omega (arith, w.in_run))))
    | inr q ↦
        subst (λ (have : ℕ). OwesAt have true (grant s run v (suc y)))
        (sym (got_next t run v y q))
        (next_owes y (omega (arith, w.in_run)) l (got t run v y + cond (holds (held run y) v) 1 0) true (no_wake u)
        (slot_owes (s.budget v) (s.period v) t d (over v) (got t run v y) (s.awake v y) (holds (held run y) v)
        (grant s run v y) (may_run_by y q (omega arith)) (owes_at y q (omega arith))))
  ]
    where
      no_wake : s.awake v y ≡ true → (true && not (s.awake v y)) ≡ wakes s v (suc y)
      no_wake e = ap not e ∙ sym (and_right (s.awake v (suc y)) (not (s.awake v y)) (ap not e))

  owes_up : IsUp s v x → OwesAt (got t run v x) true (grant s run v x)
  owes_up (now u) =
      subst (λ (b : Bool). OwesAt (got t run v x) b (grant s run v x)) u (owes_at x w.in_order (omega arith))
  owes_up (before y e u) =
      subst (λ (z : ℕ). OwesAt (got t run v z) true (grant s run v z)) (sym e)
      (owes_on y (omega (arith, w.in_order)) (omega arith) u)

-- what is no server had nothing
not_seen : (s : Servers) (over : ℕ → ℕ) (n : ℕ) (run : List (Option ℕ)) (d t x : ℕ) → Window s over n run d t x
    → (u : ℕ) → s.is_server u ≡ false → (y : ℕ) → y ≤ x → got t run u y ≡ 0
not_seen s over n run d t x w u other zero l = got_none t run u 0 (omega arith)
not_seen s over n run d t x w u other (suc y) l = elim (cases_lt y t) [
  | inl q ↦ got_none t run u (suc y) (omega arith)
  | inr q ↦ elim (cases_Bool (holds (get_or run y None) u)) [
    | inr e ↦
        omega (
          arith,
          got_next t run u y q,
          ap (λ (c : Bool). cond {A = ℕ} c 1 0) e,
          not_seen s over n run d t x w u other y (omega arith),
        )
    | inl e ↦
        let p = (may-is s over run u y ((w.is_run.each y (omega (arith, w.in_run))).named u (holds-is _ _ e))).0 in
        absurd (both_ways _ other p.is_one)
  ]
]

all_got : (s : Servers) (over : ℕ → ℕ) (n : ℕ) (run : List (Option ℕ)) (d t x : ℕ) → Window s over n run d t x
    → x ≤ t + sum_below (λ v. got t run v x) s.count
all_got s over n run d t x w =
    let e : t + (x - t) ≡ x = omega (arith, w.in_order) in
    omega (
      arith,
      served_le (seen t run) (λ y. leb t y) (λ v. true) s.count x each,
      count_stretch (λ y. leb t y) true t (x - t) (λ y l m. le-leb t y l),
      ap (count_below (λ y. leb t y)) e,
    )
  where
    each : (y : ℕ) → y < x → leb t y ≡ true → (i : ℕ) × (i < s.count) × (seen t run y ≡ Some i) × (true ≡ true)
    each y l q =
        let b = w.busy y (leb-true _ _ q) l in (
          b.server,
          (may-is s over run b.server y ((w.is_run.each y
              (omega (arith, w.in_run))).named b.server b.holds_it)).0.below,
          cond-true {A = Option ℕ} (leb t y) _ _ q ∙ b.holds_it,
          refl,
        )

-- shares in whole slots, with what was too much
in_shares : (budget period t d had more c m : ℕ) → 1 ≤ budget → c * period ≡ m * budget
    → had * period + t * budget ≤ d * budget + more * period → had * m + c * t ≤ c * d + more * m
in_shares budget period t d had more c m some e h =
    le_of_mul-le-mul_right {m = had * m + c * t} {n = c * d + more * m} {k = budget}
    (let p : c * (had * period + t * budget) ≤ c * (d * budget + more * period) = mul-le-mul_left c h in
    omega (arith, p, ap (λ (z : ℕ). had * z) e, ap (λ (z : ℕ). more * z) e)) some

had_by : (budget period t d over had : ℕ) (up : Bool) (g : Grant) → t ≤ d → g.used ≤ g.granted + over
    → Owes budget period t d over had up g → had * period + t * budget ≤ d * budget + over * period
had_by budget period t d over had up g l f (untouched z h) =
    omega (arith, mul-le-mul_right budget l, ap (λ (n : ℕ). n * period) z)
had_by budget period t d over had up g l f (within m h) =
    omega (arith, h, mul-le-mul_right budget m, mul-le-mul_right period f)
had_by budget period t d over had up g l f (past m h) = h

had_of : (budget period t d over had : ℕ) (up : Bool) (g : Grant) → up ≡ true → g.used < g.granted → g.due ≡ d
    → Owes budget period t d over had up g → (had + (g.granted - g.used)) * period + t * budget ≤ d * budget
had_of budget period t d over had up g u some e (untouched z h) = absurd (let q = h u in omega arith)
had_of budget period t d over had up g u some e (within m h) =
    let f : (g.granted - g.used) * period + g.used * period ≡ g.granted * period
    = (let q : (g.granted - g.used) + g.used ≡ g.granted = omega arith in omega
    (arith, ap (λ (n : ℕ). n * period) q)) in
    omega (arith, h, f, ap (λ (n : ℕ). n * budget) e)
had_of budget period t d over had up g u some e (past m h) = absurd (omega arith)

none_shares : (t d had more c m : ℕ) → t ≤ d → had ≡ 0 → had * m + c * t ≤ c * d + more * m
none_shares t d had more c m l z = omega (arith, mul-le-mul_left c l, ap (λ (n : ℕ). n * m) z)

last_sum : (c left own others m t x d total : ℕ) → 1 ≤ m → c ≤ m → t ≤ d → x ≤ t + total
    → total * m + c * t + (left + own) * m ≤ c * d + others * m → x + left + own ≤ d + others
last_sum c left own others m t x d total some fit l sum h =
    let e : t + (d - t) ≡ d = omega arith in
    let p : c * (d - t) ≤ m * (d - t) = mul-le-mul_right (d - t) fit in
    let q : (total + left + own) * m ≤ ((d - t) + others) * m = omega (arith, h, p, ap (λ (z : ℕ). c * z) e) in
    omega (arith, le_of_mul-le-mul_right {m = total + left + own} {n = (d - t) + others} {k = m} q some)

-- at each moment at which it is up
pub late_at : (s : Servers) → AreServers s → SharesFit s → (over : ℕ → ℕ) (n : ℕ) (run : List (Option ℕ))
    → OverrunRun s over n run → (v x : ℕ) → x ≤ n → IsServer s v → (grant s run v x).used < (grant s run v x).granted
    → IsUp s v x
    → x + ((grant s run v x).granted - (grant s run v x).used) + over v
    ≤ (grant s run v x).due + sum_below over s.count
late_at s servers shares over n run r v x l is some up =
    let g : Grant = grant s run v x in
    let d : ℕ = g.due in
    let left : ℕ = g.granted - g.used in
    let (t, w) = the_window s over n run r d x (omega arith) in
    let own : (got t run v x + left) * s.period v + t * s.budget v ≤ d * s.budget v
    = had_of (s.budget v) (s.period v) t d (over v) (got t run v x) true g refl some refl
    (owes_up s servers over n run d t x w v is up) in
    let begins : t ≤ d
    = le_of_mul-le-mul_right {m = t} {n = d} {k = s.budget v}
    (let q : t * s.budget v ≤ d * s.budget v = omega (arith, own) in q) (servers.some v is) in
    let each : (u : ℕ) → u < s.count
    → got t run u x * shares.slots + shares.share u * t ≤ shares.share u * d + over u * shares.slots
    = λ u m. elim (cases_Bool (s.is_server u)) [
      | inr other ↦
          none_shares t d (got t run u x) (over u) (shares.share u) shares.slots begins
          (not_seen s over n run d t x w u other x (omega arith))
      | inl served ↦
          let iu : IsServer s u = record { below = m; is_one = served } in
          in_shares (s.budget u) (s.period u) t d (got t run u x) (over u) (shares.share u) shares.slots
          (servers.some u iu) (shares.shares u iu)
          (had_by (s.budget u) (s.period u) t d (over u) (got t run u x) (s.awake u x) (grant s run u x) begins
          (fair s servers over n run r u iu x (omega arith)).used_up_to
          (owes_at s servers over n run d t x w u iu x w.in_order (omega arith)))
    ] in
    let mine : (got t run v x * shares.slots + shares.share v * t) + (left + over v) * shares.slots
    ≤ shares.share v * d + over v * shares.slots
    = (let q = in_shares (s.budget v) (s.period v) t d (got t run v x + left) 0 (shares.share v) shares.slots
    (servers.some v is) (shares.shares v is) (omega (arith, own)) in omega (arith, q)) in
    let total : sum_below (λ u. got t run u x * shares.slots + shares.share u * t) s.count
    + (left + over v) * shares.slots
    ≤ sum_below (λ u. shares.share u * d + over u * shares.slots) s.count
    = sum_below-lt (λ u. got t run u x * shares.slots + shares.share u * t)
    (λ u. shares.share u * d + over u * shares.slots) v s.count ((left + over v) * shares.slots) each is.below mine in
    last_sum (sum_below shares.share s.count) left (over v) (sum_below over s.count) shares.slots t x d
    (sum_below (λ u. got t run u x) s.count) shares.some shares.fit begins (all_got s over n run d t x w)
    (omega (
      arith,
      total,
      sum_below-add (λ u. got t run u x * shares.slots) (λ u. shares.share u * t) s.count,
      sum_below-mul (λ u. got t run u x) shares.slots s.count,
      sum_below-mul shares.share t s.count,
      sum_below-add (λ u. shares.share u * d) (λ u. over u * shares.slots) s.count,
      sum_below-mul shares.share d s.count,
      sum_below-mul over shares.slots s.count,
    ))

pub late_by_others : LateByOthers
late_by_others s over n run v x servers shares r l h =
    let (is, up, some) = left-is s run v x h in
    late_at s servers shares over n run r v x (omega arith) is some (now up)
