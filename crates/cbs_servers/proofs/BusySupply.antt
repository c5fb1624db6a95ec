-- What a server has over a window in which it is awake: no less than the supply bound of a periodic
-- resource of its budget and period.
use Rattle.std.proofs.Common.{◌≡◌, ℕ, zero, suc, ◌+◌, ◌-◌, ◌*◌, ◌/◌, ◌%◌, ◌<◌, ◌≤◌, ltb, Bool, true, false, cond, List, get_or, Option, None, arith, refl, ◌∙◌, ap, inl, inr, lt-ltb, le-ltb, add-zero, add-suc, mul-le-mul_left, mul-le-mul_right}
use Rattle.std.proofs.lemmas.Bool.{cases_lt, cases_eq, cond-true, cond-false}
use Rattle.slot_model.specs.Slots.{count_below}
use Rattle.slot_model.specs.Bound.{sbf}
use Rattle.slot_model.specs.Run.{holds}
use Rattle.slot_model.proofs.Sums.{sum_below-zero, sum_below-suc}
use Rattle.slot_model.proofs.Counts.{count_stretch}
use Rattle.slot_model.proofs.PeriodicSupply.{sbf_at}
use Rattle.cbs_servers.specs.Cbs.{Servers, IsServer, account, CbsRun}
use Rattle.cbs_servers.specs.Giving.{AreServers, SharesFit}
use Rattle.cbs_servers.proofs.Windows.{got, got_none, got_next, left-le, comes, IsUp, now, before}
use Rattle.cbs_servers.proofs.Accounts.{Sound, GoesOn, sound, in_time, goes_on}
use Rattle.cbs_servers.proofs.Counted.{window_has, part_has}

-- The slots of a periodic resource whose period ends at the server's deadline: before the window
-- the part of the budget that is used, at the front of the period; then the window; then every
-- slot.
abbrev virtual : ℕ → ℕ → List (Option ℕ) → ℕ → ℕ → ℕ → ℕ → Bool
virtual front early run v a b z =
    cond (ltb z front) (ltb z early) (cond (ltb (a + (z - front)) b) (holds (get_or run (a + (z - front)) None) v) true)

module _ (front early : ℕ) (run : List (Option ℕ)) (v a b : ℕ) (le : early ≤ front) (order : a ≤ b) where
  abbrev F : ℕ → ℕ
  F z = count_below (virtual front early run v a b) z

  at_front : F front ≡ early
  at_front =
      let e : early + (front - early) ≡ front = omega arith in
      omega (
        arith,
        ap F e,
        count_stretch (virtual front early run v a b) false early (front - early)
            (λ z l m. cond-true {A = Bool} _ _ _ (lt-ltb z front (omega arith)) ∙ le-ltb z early l),
        count_stretch (virtual front early run v a b) true 0 early
            (λ z l m. cond-true {A = Bool} _ _ _ (lt-ltb z front (omega arith)) ∙ lt-ltb z early (omega arith)),
        ap F (let q : 0 + early ≡ early = omega arith in q),
        sum_below-zero (λ z. cond (virtual front early run v a b z) 1 0),
      )

  in_window : (m : ℕ) → a + m ≤ b → F (front + m) ≡ early + got a run v (a + m)
  in_window zero l =
      omega (arith, at_front, ap F (add-zero front), got_none a run v (a + 0) (omega arith))
  in_window (suc m) l =
      let here : virtual front early run v a b (front + m) ≡ holds (get_or run (a + m) None) v
      = cond-false {A = Bool} _ _ _ (le-ltb (front + m) front (omega arith))
      ∙ (cond-true {A = Bool} _ _ _ (lt-ltb (a + ((front + m) - front)) b (omega arith))
      ∙ ap (λ (z : ℕ). holds (get_or run (a + z) None) v) (let q : (front + m) - front ≡ m = omega arith in q)) in
      omega (
        arith,
        ap F (add-suc front m),
        sum_below-suc (λ z. cond (virtual front early run v a b z) 1 0) (front + m),
        ap (λ (c : Bool). cond {A = ℕ} c 1 0) here,
        in_window m (omega arith),
        ap (got a run v) (add-suc a m),
        got_next a run v (a + m) (omega arith),
      )

  past_window : (x y : ℕ) → front + (b - a) ≤ x → F (x + y) ≡ F x + y
  past_window x y l =
      count_stretch (virtual front early run v a b) true x y
      (λ z lz _. cond-false {A = Bool} _ _ _ (le-ltb z front (omega arith))
      ∙ cond-false {A = Bool} _ _ _ (le-ltb (a + (z - front)) b (omega arith)))

module _ (s : Servers) (servers : AreServers s) (shares : SharesFit s) (n : ℕ) (run : List (Option ℕ))
    (r : CbsRun s n run) (v : ℕ) (is : IsServer s v) (a b : ℕ) (order : a < b) (in_run : b ≤ n)
    (awake : (z : ℕ) → a ≤ z → z < b → s.awake v z ≡ true) where
  abbrev period : ℕ
  period = s.period v

  abbrev budget : ℕ
  budget = s.budget v

  some_period : 1 ≤ period
  some_period = omega (arith, servers.some v is, servers.within v is)

  abbrev due : ℕ
  due = (account s run v a).due

  abbrev left : ℕ
  left = (account s run v a).left

  abbrev front : ℕ
  front = a + period - due

  abbrev early : ℕ
  early = budget - left

  -- how the window begins
  record Begins : Type 0 where
    ahead : a < due
    front_is : front + due ≡ a + period
    early_is : early + left ≡ budget
    fits : early ≤ front

  begins : Begins
  begins =
      let h : Sound budget period a (account s run v a) = sound s servers run v is a in
      let i = in_time s servers shares n run r v is a (omega arith) (now (awake a (omega arith) order)) in
      let m = left-le s run v a in
      let q : a < due = elim (cases_eq left 0) [ inl z ↦ comes s servers run v is a z | inr ne ↦ omega (arith, i) ] in
      record {
        ahead = q;
        front_is = omega (arith, h.near);
        early_is = omega (arith, m);
        fits = omega (arith, h.near, h.used, m);
      }

  abbrev count : ℕ → ℕ
  count = F front early run v a b begins.fits (let q : a ≤ b = omega arith in q)

  -- it is up at each moment of the window behind its begin
  is_up : (y : ℕ) → a < y → y ≤ b → IsUp s v y
  is_up zero l m = absurd (omega arith)
  is_up (suc y) l m = before y refl (awake y (omega arith) (omega arith))

  -- at a deadline within the window each budget up to there was given
  exact : (k : ℕ) → due + k * period ≤ b → count (suc k * period) ≡ suc k * budget
  exact k l =
      let y : ℕ = due + k * period in
      let ay : a < y = omega (arith, begins.ahead) in
      let g : GoesOn budget period y (got a run v y) (account s run v a) (account s run v y)
      = goes_on s servers shares n run r v is a y (omega arith) (omega arith) (λ z lz mz. awake z lz (omega arith)) in
      let h : Sound budget period y (account s run v y) = sound s servers run v is y in
      let i = in_time s servers shares n run r v is y (omega arith) (is_up y ay l) in
      let m = left-le s run v y in
      let p : g.passed ≡ suc k = elim (cases_lt k g.passed) [
        | inr low ↦
            let c : g.passed * period ≤ k * period = mul-le-mul_right period low in
            absurd (omega (arith, g.due_is, i, c, comes s servers run v is y (omega (arith, g.due_is, i, c))))
        | inl high ↦ elim (cases_lt (suc k) g.passed) [
          | inr same ↦ omega arith
          | inl more ↦
              let c : suc (suc k) * period ≤ g.passed * period = mul-le-mul_right period more in
              absurd (omega (arith, g.due_is, h.near, c, servers.some v is, servers.within v is))
        ]
      ] in
      let e : (suc k) * period ≡ front + (y - a) = omega (arith, begins.front_is, ay) in
      omega (
        arith,
        ap count e,
        in_window front early run v a b begins.fits (omega arith) (y - a) (omega arith),
        ap (got a run v) (let q : a + (y - a) ≡ y = omega arith in q),
        g.had_is,
        g.due_is,
        ap (λ (z : ℕ). z * budget) p,
        ap (λ (z : ℕ). z * period) p,
        h.used,
        m,
        begins.early_is,
      )

  -- at one behind it no less, if all slots behind it are given
  enough : (k : ℕ) → b < due + k * period → suc k * budget ≤ count (suc k * period)
  enough k l =
      let g : GoesOn budget period b (got a run v b) (account s run v a) (account s run v b)
      = goes_on s servers shares n run r v is a b (omega arith) in_run awake in
      let i = in_time s servers shares n run r v is b in_run (is_up b order (omega arith)) in
      let m = left-le s run v b in
      let e : (suc k) * period ≡ (front + (b - a)) + (due + k * period - b) = omega
      (arith, begins.front_is, begins.ahead) in
      let total : count (suc k * period) ≡ (early + got a run v b) + (due + k * period - b)
      = omega (
        arith,
        ap count e,
        past_window front early run v a b begins.fits (omega arith) (front + (b - a)) (due + k * period - b)
            (omega arith),
        in_window front early run v a b begins.fits (omega arith) (b - a) (omega arith),
        ap (got a run v) (let q : a + (b - a) ≡ b = omega arith in q),
      ) in
      elim (cases_lt k g.passed) [
        | inl high ↦
            let c : suc k * budget ≤ g.passed * budget = mul-le-mul_right budget high in
            omega (arith, total, g.had_is, m, begins.early_is, c)
        | inr low ↦
            let c : (k - g.passed) * budget ≤ (k - g.passed) * period = mul-le-mul_left (k - g.passed)
            (servers.within v is) in
            let f : g.passed + (k - g.passed) ≡ k = omega arith in
            omega (
              arith,
              total,
              g.had_is,
              g.due_is,
              i,
              begins.early_is,
              c,
              ap (λ (z : ℕ). z * period) f,
              ap (λ (z : ℕ). z * budget) f,
            )
      ]

  at_least : (k : ℕ) → suc k * budget ≤ count (suc k * period)
  at_least k = elim (cases_lt b (due + k * period)) [
    | inl l ↦ enough k l
    | inr l ↦ omega (arith, exact k l)
  ]

  gives : (k : ℕ) → count (k * period) + budget ≤ count (k * period + period)
  gives zero =
      omega (
        arith,
        at_least 0,
        ap count (let q : 0 * period + period ≡ suc 0 * period = omega arith in q),
        ap count (let q : 0 * period ≡ 0 = omega arith in q),
        sum_below-zero (λ z. cond (virtual front early run v a b z) 1 0),
      )
  gives (suc j) = elim (cases_lt b (due + j * period)) [
    | inr l ↦
        omega (
          arith,
          exact j l,
          at_least (suc j),
          ap count (let q : suc j * period + period ≡ suc (suc j) * period = omega arith in q),
        )
    | inl l ↦
        omega (
          arith,
          past_window front early run v a b begins.fits (omega arith) (suc j * period) period
              (omega (arith, begins.front_is, begins.ahead)),
          servers.within v is,
        )
  ]

  pub supplied : sbf period budget (b - a) ≤ got a run v b
  supplied =
      omega (
        arith,
        window_has (virtual front early run v a b) period budget some_period (servers.within v is) gives front
            (front + (b - a)) (omega arith),
        at_front front early run v a b begins.fits (omega arith),
        in_window front early run v a b begins.fits (omega arith) (b - a) (omega arith),
        ap (got a run v) (let q : a + (b - a) ≡ b = omega arith in q),
        ap (sbf period budget) (let e : (front + (b - a)) - front ≡ b - a = omega arith in e),
      )

  -- where its budget is new at the begin
  pub supplied_fresh : left ≡ budget → due ≡ a + period
      → sbf period budget ((b - a) + (period - budget)) ≤ got a run v b
  supplied_fresh whole far =
      let t : ℕ = b - a in
      let some : 1 ≤ period = some_period in
      let q : ℕ = t / period in
      let m : ℕ = t % period in
      let lm : m < period = omega arith in
      let e : t ≡ q * period + m = omega arith in
      let no_front : front ≡ 0 = omega arith in
      let no_early : early ≡ 0 = omega arith in
      omega (
        arith,
        ap (sbf period budget) (
            let w : t + (period - budget) ≡ (period - budget) + (q * period + m) = omega (arith, e) in w),
        sbf_at period budget q m lm,
        part_has (virtual front early run v a b) period budget some_period (servers.within v is) gives q m
            (omega arith),
        whole_periods q,
        ap count (let w : q * period + m ≡ front + (b - a) = omega (arith, e, no_front) in w),
        in_window front early run v a b begins.fits (omega arith) (b - a) (omega arith),
        ap (got a run v) (let w : a + (b - a) ≡ b = omega arith in w),
        no_early,
      )
    where
      whole_periods : (k : ℕ) → k * budget ≤ count (k * period)
      whole_periods zero = omega arith
      whole_periods (suc k) = at_least k

  -- where the window ends at the deadline, it gives just what was left
  pub given_left : due ≡ b → got a run v b ≡ left
  given_left at =
      omega (
        arith,
        exact 0 (omega arith),
        ap count (let w : suc 0 * period ≡ front + (b - a) = omega (arith, begins.front_is, begins.ahead) in w),
        in_window front early run v a b begins.fits (omega arith) (b - a) (omega arith),
        ap (got a run v) (let w : a + (b - a) ≡ b = omega arith in w),
        begins.early_is,
      )
