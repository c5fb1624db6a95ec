-- What the run gives, in the words of the specs.
use Rattle.std.proofs.Common.{◌≡◌, ℕ, suc, ◌+◌, ◌-◌, ◌*◌, ◌≤◌, leb, nat_le, Bool, true, false, not, cond, ◌&&◌, List, get_or, Option, None, arith, refl, sym, ◌∙◌, ap, inl, inr}
use Rattle.std.proofs.lemmas.Bool.{cases_lt, cases_eq, and_right, both_ways}
use Rattle.slot_model.specs.Bound.{sbf}
use Rattle.slot_model.specs.Run.{held, holds}
use Rattle.slot_model.proofs.Counts.{count_same}
use Rattle.slot_model.proofs.PeriodicSupply.{sbf_start, sbf_at}
use Rattle.cbs_servers.specs.Cbs.{Account, after_slot, wakes, account}
use Rattle.cbs_servers.specs.Giving.{slots_had, NeverShort, GivesWhatIsLeft, GivesBusy, GivesFresh}
use Rattle.cbs_servers.proofs.Steps.{Turn, renews, returns, stays, turn}
use Rattle.cbs_servers.proofs.Windows.{account-suc, comes, seen, got, now, before}
use Rattle.cbs_servers.proofs.NeverLate.{late_nowhere}
use Rattle.cbs_servers.proofs.Accounts.{in_time}
use Rattle.cbs_servers.proofs.BusySupply.{supplied, supplied_fresh, given_left}

-- what is seen of a run from a on are the slots of its window
seen_slot : (v : ℕ) (b : Bool) (o : Option ℕ) → holds (cond b o None) v ≡ (b && holds o v)
seen_slot v true o = refl
seen_slot v false o = refl

got_counts : (run : List (Option ℕ)) (v a b : ℕ) → got a run v b ≡ slots_had run v a b
got_counts run v a b =
    count_same (λ z. holds (seen a run z) v) (λ x. nat_le a x && holds (held run x) v) b
    (λ z l. seen_slot v (leb a z) (get_or run z None))

pub gives_busy : GivesBusy
gives_busy s n run v servers shares r is a b l m awake = elim (cases_eq a b) [
  | inl e ↦
      omega (
        arith,
        ap (sbf (s.period v) (s.budget v)) (let q : b - a ≡ 0 = omega arith in q),
        sbf_start (s.period v) (s.budget v) (omega (arith, servers.some v is, servers.within v is))
            (servers.within v is),
      )
  | inr ne ↦
      omega (arith, supplied s servers shares n run r v is a b (omega arith) m awake, got_counts run v a b)
]

pub gives_fresh : GivesFresh
gives_fresh s n run v servers shares r is a b l m awake new = elim (cases_eq a b) [
  | inl e ↦
      omega (
        arith,
        ap (sbf (s.period v) (s.budget v))
            (let q : (b - a) + (s.period v - s.budget v) ≡ (s.period v - s.budget v) + (0 * s.period v + 0)
            = omega arith in q),
        sbf_at (s.period v) (s.budget v) 0 0 (omega (arith, servers.some v is, servers.within v is)),
      )
  | inr ne ↦
      omega (
        arith,
        supplied_fresh s servers shares n run r v is a b (omega arith) m awake (ap (λ (c : Account). c.left) new)
            (ap (λ (c : Account). c.due) new),
        got_counts run v a b,
      )
]

pub gives_what_is_left : GivesWhatIsLeft
gives_what_is_left s n run v servers shares r is a l u m awake = elim (cases_lt a (account s run v a).due) [
  | inl q ↦
      sym (got_counts run v a (account s run v a).due)
      ∙ given_left s servers shares n run r v is a (account s run v a).due q m awake refl
  | inr q ↦
      absurd (let h = in_time s servers shares n run r v is a (omega arith) (now u) in
      elim (cases_eq (account s run v a).left 0) [
        | inl z ↦ omega (arith, comes s servers run v is a z)
        | inr ne ↦ omega (arith, h)
      ])
]

pub never_short : NeverShort
never_short s n run v servers shares r is x l u at = elim
    (cases_eq (after_slot (holds (held run x) v) (account s run v x)).left 0) [
      | inl z ↦ z
      | inr ne ↦
          let a : Account = after_slot (holds (held run x) v) (account s run v x) in
          let d : a.due ≡ suc x = after_slot-due (holds (held run x) v) (account s run v x) ∙ at in
          let w : wakes s v (suc x) ≡ false = and_right (s.awake v (suc x)) (not (s.awake v x)) (ap not u) in
          let e : account s run v (suc x) ≡ a = account-suc s run v x ∙ stays_so (s.budget v) (s.period v) (suc x)
          (wakes s v (suc x)) a _ w (omega arith)
          (turn (s.budget v) (s.period v) (suc x) (wakes s v (suc x)) a) in
          absurd (omega (
            arith,
            late_nowhere s servers shares n run r v is (suc x) l (omega (arith, ap (λ (c : Account). c.left) e))
                (before x refl u),
            ap (λ (c : Account). c.left) e,
            ap (λ (c : Account). c.due) e,
            d,
          ))
    ]
  where
    after_slot-due : (runs : Bool) (a : Account) → (after_slot runs a).due ≡ a.due
    after_slot-due true a = refl
    after_slot-due false a = refl

    stays_so : (budget period y : ℕ) (w : Bool) (a b : Account) → w ≡ false → 1 ≤ a.left → Turn budget period y w a b
        → b ≡ a
    stays_so budget period y w a b e some (renews f why g) = absurd (both_ways _ e f)
    stays_so budget period y w a b e some (returns z at g) = absurd (omega arith)
    stays_so budget period y w a b e some (stays k f g) = g
