-- What the account of a server keeps at each moment, and how it goes on while the server is awake.
use Rattle.std.proofs.Common.{◌≡◌, ℕ, zero, suc, ◌+◌, ◌*◌, ◌<◌, ◌≤◌, Bool, true, false, not, cond, List, Option, arith, refl, sym, ap, subst, inl, inr}
use Rattle.std.proofs.lemmas.Bool.{cases_eq, and_right, both_ways}
use Rattle.slot_model.specs.Run.{held, holds}
use Rattle.cbs_servers.specs.Cbs.{Servers, IsServer, Account, after_slot, wakes, no_account, account, CbsRun}
use Rattle.cbs_servers.specs.Giving.{AreServers, SharesFit}
use Rattle.cbs_servers.proofs.Steps.{Turn, renews, returns, stays, turn, next_at, next_near}
use Rattle.cbs_servers.proofs.Windows.{account-zero, account-suc, got, got_none, got_next, comes, IsUp}
use Rattle.cbs_servers.proofs.NeverLate.{ran, on_time, late_nowhere}

-- at a moment: its deadline is at most a period away, and what it has used of its budget it has
-- used since a period before its deadline, so that this much of the period is over
pub record Sound (budget period x : ℕ) (a : Account) : Type 0 where
  pub near : a.due ≤ x + period
  pub used : a.due + budget ≤ x + period + a.left

sound_turn : (budget period x : ℕ) (w : Bool) (a b : Account) → Turn budget period x w a b
    → Sound budget period x a → Sound budget period x b
sound_turn budget period x w a b (renews y why e) h =
    subst (Sound budget period x) (sym e) (record { near = omega arith; used = omega arith })
sound_turn budget period x w a b (returns none here e) h =
    let l = next_near period x a.due here in
    subst (Sound budget period x) (sym e) (record { near = l; used = omega (arith, l) })
sound_turn budget period x w a b (stays k u e) h = subst (Sound budget period x) (sym e) h

-- a slot
sound_slot : (budget period x : ℕ) (runs : Bool) (a : Account) → Sound budget period x a
    → Sound budget period (suc x) (after_slot runs a)
sound_slot budget period x false a h = record { near = omega (arith, h.near); used = omega (arith, h.used) }
sound_slot budget period x true a h = record { near = omega (arith, h.near); used = omega (arith, h.used) }

pub sound : (s : Servers) → AreServers s → (run : List (Option ℕ)) (v : ℕ) → IsServer s v → (x : ℕ)
    → Sound (s.budget v) (s.period v) x (account s run v x)
sound s servers run v is zero =
    subst (Sound (s.budget v) (s.period v) 0) (sym (account-zero s run v))
    (sound_turn (s.budget v) (s.period v) 0 (wakes s v 0) no_account _
    (turn (s.budget v) (s.period v) 0 (wakes s v 0) no_account)
    (record { near = omega arith; used = omega (arith, servers.within v is) }))
sound s servers run v is (suc x) =
    let a : Account = after_slot (holds (held run x) v) (account s run v x) in
    subst (Sound (s.budget v) (s.period v) (suc x)) (sym (account-suc s run v x))
    (sound_turn (s.budget v) (s.period v) (suc x) (wakes s v (suc x)) a _
    (turn (s.budget v) (s.period v) (suc x) (wakes s v (suc x)) a)
    (sound_slot (s.budget v) (s.period v) x (holds (held run x) v) (account s run v x)
    (sound s servers run v is x)))

-- how far the account of a server that stays awake has come since a moment at which it was first,
-- having had so many slots since: so many of its deadlines have passed, and each brought a budget
pub record GoesOn (budget period x have : ℕ) (first a : Account) : Type 0 where
  pub passed : ℕ
  pub due_is : a.due ≡ first.due + passed * period
  pub had_is : have + a.left ≡ first.left + passed * budget

-- one slot and one moment on, without a wake-up
on_step : (budget period x have : ℕ) (runs w : Bool) (first a b : Account) → w ≡ false → (runs ≡ true → 1 ≤ a.left)
    → ((after_slot runs a).left ≡ 0 → suc x ≤ (after_slot runs a).due)
    → Turn budget period (suc x) w (after_slot runs a) b
    → GoesOn budget period x have first a
    → GoesOn budget period (suc x) (have + cond runs 1 0) first b
on_step budget period x have runs w first a b e m n (renews y why f) g = absurd (both_ways _ e y)
on_step budget period x have true w first a b e m n (returns none here f) g =
    let q = m refl in
    let at : a.due ≡ suc x = omega (arith, n none, here) in
    record {
      passed = suc g.passed;
      due_is = omega (arith, g.due_is, ap (λ (c : Account). c.due) f, next_at period (suc x) a.due at);
      had_is = omega (arith, none, g.had_is, ap (λ (c : Account). c.left) f);
    }
on_step budget period x have false w first a b e m n (returns none here f) g =
    let at : a.due ≡ suc x = omega (arith, n none, here) in
    record {
      passed = suc g.passed;
      due_is = omega (arith, g.due_is, ap (λ (c : Account). c.due) f, next_at period (suc x) a.due at);
      had_is = omega (arith, none, g.had_is, ap (λ (c : Account). c.left) f);
    }
on_step budget period x have true w first a b e m n (stays k u f) g =
    let q = m refl in
    record {
      passed = g.passed;
      due_is = omega (arith, g.due_is, ap (λ (c : Account). c.due) f);
      had_is = omega (arith, g.had_is, ap (λ (c : Account). c.left) f);
    }
on_step budget period x have false w first a b e m n (stays k u f) g =
    record {
      passed = g.passed;
      due_is = omega (arith, g.due_is, ap (λ (c : Account). c.due) f);
      had_is = omega (arith, g.had_is, ap (λ (c : Account). c.left) f);
    }

module _ (s : Servers) (servers : AreServers s) (shares : SharesFit s) (n : ℕ) (run : List (Option ℕ))
    (r : CbsRun s n run) (v : ℕ) (is : IsServer s v) where
  -- a moment at which it is up is no later than its deadline, with room for what is left
  pub in_time : (x : ℕ) → x ≤ n → IsUp s v x → x + (account s run v x).left ≤ (account s run v x).due
  in_time x l up = elim (cases_eq (account s run v x).left 0) [
    | inl z ↦ omega (arith, comes s servers run v is x z)
    | inr ne ↦ late_nowhere s servers shares n run r v is x l (omega arith) up
  ]

  -- over a window in which it is awake
  pub goes_on : (a : ℕ) → (y : ℕ) → a ≤ y → y ≤ n → ((z : ℕ) → a ≤ z → z < y → s.awake v z ≡ true)
      → GoesOn (s.budget v) (s.period v) y (got a run v y) (account s run v a) (account s run v y)
  goes_on a zero l m awake =
      let e : a ≡ 0 = omega arith in
      record {
        passed = 0;
        due_is = omega (arith, ap (λ (z : ℕ). (account s run v z).due) e);
        had_is = omega (arith, got_none a run v 0 (omega arith), ap (λ (z : ℕ). (account s run v z).left) e);
      }
  goes_on a (suc y) l m awake = elim (cases_eq a (suc y)) [
    | inl e ↦
        record {
          passed = 0;
          due_is = omega (arith, ap (λ (z : ℕ). (account s run v z).due) e);
          had_is =
              omega (arith, got_none a run v (suc y) (omega arith), ap (λ (z : ℕ). (account s run v z).left) e);
        }
    | inr ne ↦
        let l' : a ≤ y = omega arith in
        let u : s.awake v y ≡ true = awake y l' (omega arith) in
        subst (λ (have : ℕ). GoesOn (s.budget v) (s.period v) (suc y) have (account s run v a)
        (account s run v (suc y)))
        (sym (got_next a run v y l'))
        (subst (GoesOn (s.budget v) (s.period v) (suc y) (got a run v y + cond (holds (held run y) v) 1 0)
        (account s run v a)) (sym (account-suc s run v y))
        (on_step (s.budget v) (s.period v) y (got a run v y) (holds (held run y) v) (wakes s v (suc y))
        (account s run v a) (account s run v y) _ (and_right (s.awake v (suc y)) (not (s.awake v y)) (ap not u))
        (λ e. (ran s servers shares n run r v is y (omega arith) e).0)
        (on_time s servers shares n run r v is y (omega arith))
        (turn (s.budget v) (s.period v) (suc y) (wakes s v (suc y))
        (after_slot (holds (held run y) v) (account s run v y)))
        (goes_on a y l' (omega arith) (λ z lz mz. awake z lz (omega arith)))))
  ]
