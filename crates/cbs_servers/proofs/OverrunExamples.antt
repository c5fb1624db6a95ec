-- Worked grants of a server of 2 slots in 10, and runs of two servers that may run over by one
-- slot.
use Rattle.std.proofs.Common.{◌≡◌, ℕ, zero, suc, ◌+◌, ◌-◌, ◌≤◌, true, false, List, [], ◌∷◌, Option, Some, refl, sym, ◌∙◌, subst, arith, le-ltb, lit≤}
use Rattle.std.proofs.lemmas.Bool.{false≢true, and_left}
use Rattle.slot_model.specs.Slots.{sum_below}
use Rattle.cbs_servers.specs.Overrun.{Grant, no_grant, grant_at, grant_after, grant_of, grant, has_left, may_run, OverrunEntry}
use Rattle.cbs_servers.proofs.Examples.{two}

abbrev has : ℕ → ℕ → ℕ → Grant
has due granted used = record { due = due; granted = granted; used = used }

-- At its deadline a server that used its budget has a new one. One that used a slot too many has a
-- slot less, and one that used a whole budget too many has that of the period behind the next one.
granted_at_the_deadline : (grant_at 2 10 10 false (has 10 2 2) ≡ has 20 2 0) ×
    (grant_at 2 10 10 false (has 10 2 3) ≡ has 20 1 0)
    × (grant_at 2 10 10 false (has 10 2 4) ≡ has 30 2 0)
granted_at_the_deadline = (refl, refl, refl)

not_before_it : grant_at 2 10 9 false (has 10 2 3) ≡ has 10 2 3
not_before_it = refl

-- one that is used up behind its deadline has its next grant then, or a new one where that is past
granted_behind_it : (grant_at 2 10 20 false (has 10 2 3) ≡ has 20 1 0) ×
    (grant_at 2 10 21 false (has 10 2 3) ≡ has 31 2 0)
granted_behind_it = (refl, refl)

-- A wake-up keeps what is within its share, also of a grant that is overrun. So a slot too many is
-- owed still behind the deadline.
kept_at_a_wake_up : (grant_at 2 10 5 true (has 10 2 1) ≡ has 10 2 1) × (grant_at 2 10 5 true (has 10 2 3) ≡ has 10 2 3)
    × (grant_at 2 10 12 true (has 10 2 3) ≡ has 20 1 0)
kept_at_a_wake_up = (refl, refl, refl)

given_up_at_a_wake_up : (grant_at 2 10 6 true (has 10 2 1) ≡ has 16 2 0) ×
    (grant_at 2 10 12 true (has 10 2 1) ≡ has 22 2 0)
given_up_at_a_wake_up = (refl, refl)

starts_with_a_whole_one : grant_at 2 10 3 true no_grant ≡ has 13 2 0
starts_with_a_whole_one = refl

a_slot_is_used : (grant_after true (has 10 2 2) ≡ has 10 2 3) × (grant_after false (has 10 2 2) ≡ has 10 2 2)
a_slot_is_used = (refl, refl)

-- each may run over by one slot
abbrev by_one : ℕ → ℕ
by_one v = 1

-- Of servers of 2 in 4 and 2 in 8 the first has had its budget in slots 0 and 1. It may go on in
-- slot 2, since the other is due later, and not in slot 3.
abbrev run : List (Option ℕ)
run = Some 0 ∷ Some 0 ∷ Some 0 ∷ []

let_on : (has_left (two 2 4 2 8) run 0 2 ≡ false) × (may_run (two 2 4 2 8) by_one run 0 2 ≡ true)
    × (may_run (two 2 4 2 8) by_one run 0 3 ≡ false)
unfolding grant_of
let_on = (refl, refl, refl)

it_may_hold_the_slot : OverrunEntry (two 2 4 2 8) by_one run 2 (Some 0)
unfolding grant_of
it_may_hold_the_slot = record {
  idle = λ e v. absurd (cc);
  named = λ v e. let q : 0 ≡ v = cc in subst (λ (z : ℕ). may_run (two 2 4 2 8) by_one run z 2 ≡ true) q refl;
  first = λ u v e h.
      let q : 0 ≡ v = cc in
      subst (λ (z : ℕ). (grant (two 2 4 2 8) run z 2).due ≤ (grant (two 2 4 2 8) run u 2).due) q (sooner u h);
}
  where
    sooner : (u : ℕ) → has_left (two 2 4 2 8) run u 2 ≡ true
        → (grant (two 2 4 2 8) run 0 2).due ≤ (grant (two 2 4 2 8) run u 2).due
    sooner zero h = lit≤ tt
    sooner (suc zero) h = lit≤ tt
    sooner (suc (suc u)) h =
        absurd (false≢true (sym (and_left _ _ (and_left _ _ (and_left _ _ (le-ltb (suc (suc u)) 2 (omega arith)))))
        ∙ h))

-- not where the other is due sooner and has something left
not_before_the_other : OverrunEntry (two 2 8 2 4) by_one run 2 (Some 0) → ⊥
unfolding grant_of
not_before_the_other e = let l : 8 ≤ 4 = e.first 1 0 refl refl in omega (arith, l)

-- Of two servers of 2 in 4 the second has 2 left with one slot to go: just as much too late as the
-- first ran over.
late_by_the_other : (3 + ((grant (two 2 4 2 4) run 1 3).granted - (grant (two 2 4 2 4) run 1 3).used)) + by_one 1
    ≡ (grant (two 2 4 2 4) run 1 3).due + sum_below by_one 2
unfolding grant_of sum_below
late_by_the_other = refl
