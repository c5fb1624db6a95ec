-- Worked accounts of a server of 2 slots in 10, and entries of runs of two and three servers. A
-- definition that says otherwise breaks one of these.
use Rattle.std.proofs.Common.{◌≡◌, ℕ, zero, suc, ◌+◌, ◌*◌, ◌≤◌, true, false, nat_lt, nat_le, ◌||◌, List, [], ◌∷◌, Option, Some, None, refl, sym, subst, arith, le-ltb, lit<, lit≤}
use Rattle.std.proofs.lemmas.Bool.{false≢true}
use Rattle.slot_model.specs.Slots.{sum_below}
use Rattle.slot_model.specs.Bound.{sbf}
use Rattle.cbs_servers.specs.Cbs.{Servers, IsServer, Account, at_moment, after_slot, account, is_eligible, CbsEntry, FileEntry, goes_before}
use Rattle.cbs_servers.specs.Giving.{SharesFit, slots_had}

abbrev has : ℕ → ℕ → Account
has left due = record { left = left; due = due }

-- A wake-up before the deadline. One slot is left, due at 10: at 5 that is just the share of the 5
-- slots up to there, and is kept; at 6 it is more than the share of 4, and the account is renewed.
kept_at_its_share : at_moment 2 10 5 true (has 1 10) ≡ has 1 10
kept_at_its_share = refl

kept_below_its_share : at_moment 2 10 4 true (has 1 10) ≡ has 1 10
kept_below_its_share = refl

renewed_above_its_share : at_moment 2 10 6 true (has 1 10) ≡ has 2 16
renewed_above_its_share = refl

-- one at the deadline or behind it renews, whatever is left
renewed_at_the_deadline : (at_moment 2 10 10 true (has 1 10) ≡ has 2 20) ×
    (at_moment 2 10 10 true (has 0 10) ≡ has 2 20)
renewed_at_the_deadline = (refl, refl)

renewed_behind_it : (at_moment 2 10 12 true (has 1 10) ≡ has 2 22) × (at_moment 2 10 12 true (has 0 10) ≡ has 2 22)
renewed_behind_it = (refl, refl)

-- a server whose budget is used up gains nothing by a wake-up before its deadline
throttled : at_moment 2 10 5 true (has 0 10) ≡ has 0 10
throttled = refl

-- it has its budget again at its deadline, and no slot sooner, with no wake-up
comes_back_at_the_deadline : (at_moment 2 10 9 false (has 0 10) ≡ has 0 10) ×
    (at_moment 2 10 10 false (has 0 10) ≡ has 2 20)
comes_back_at_the_deadline = (refl, refl)

-- one that is used up behind its deadline comes back with the next deadline, as long as that is not
-- past, and else a period from then
comes_back_behind_it : (at_moment 2 10 13 false (has 0 10) ≡ has 2 20) × (at_moment 2 10 20 false (has 0 10) ≡ has 2 20)
    × (at_moment 2 10 21 false (has 0 10) ≡ has 2 31)
comes_back_behind_it = (refl, refl, refl)

-- without a wake-up what is left stays, also behind the deadline
stays_without_a_wake_up : (at_moment 2 10 6 false (has 1 10) ≡ has 1 10) ×
    (at_moment 2 10 12 false (has 1 10) ≡ has 1 10)
stays_without_a_wake_up = (refl, refl)

-- a slot costs one where the server has the core
a_slot_costs_one : (after_slot true (has 2 10) ≡ has 1 10) × (after_slot false (has 2 10) ≡ has 2 10)
a_slot_costs_one = (refl, refl)

-- one server, which sleeps in the slots from a on and before b
abbrev sleeps : ℕ → ℕ → Servers
sleeps a b = record {
  count = 1;
  is_server = λ v. true;
  budget = λ v. 2;
  period = λ v. 10;
  awake = λ v x. nat_lt x a || nat_le b x;
}

-- it runs in slot 0, and sleeps from slot 1 on
abbrev one_slot : List (Option ℕ)
one_slot = Some 0 ∷ None ∷ None ∷ None ∷ None ∷ None ∷ []

starts_with_a_new_account : account (sleeps 1 5) one_slot 0 0 ≡ has 2 10
unfolding account
starts_with_a_new_account = refl

starts_so_later : account (sleeps 0 3) [] 0 3 ≡ has 2 13
unfolding account
starts_so_later = refl

asleep_it_keeps_its_account : account (sleeps 1 5) one_slot 0 4 ≡ has 1 10
unfolding account
asleep_it_keeps_its_account = refl

wakes_at_its_share : account (sleeps 1 5) one_slot 0 5 ≡ has 1 10
unfolding account
wakes_at_its_share = refl

wakes_above_its_share : account (sleeps 1 6) one_slot 0 6 ≡ has 2 16
unfolding account
wakes_above_its_share = refl

-- it is used up after slot 1 and sleeps then: its budget comes back at 10, awake from 5 on or not
abbrev two_slots : List (Option ℕ)
two_slots =
    Some 0 ∷ Some 0 ∷ None ∷ None ∷ None ∷ None ∷ None ∷ None ∷ None ∷ None ∷ None ∷ None ∷ []

throttled_awake : (account (sleeps 2 5) two_slots 0 5 ≡ has 0 10) × (is_eligible (sleeps 2 5) two_slots 0 9 ≡ false)
    × (account (sleeps 2 5) two_slots 0 10 ≡ has 2 20)
unfolding account
throttled_awake = (refl, refl, refl)

throttled_asleep : (account (sleeps 2 30) two_slots 0 9 ≡ has 0 10) × (account (sleeps 2 30) two_slots 0 10 ≡ has 2 20)
    × (is_eligible (sleeps 2 30) two_slots 0 10 ≡ false)
unfolding account
throttled_asleep = (refl, refl, refl)

abbrev pub pick : ℕ → ℕ → ℕ → ℕ
pick a b zero = a
pick a b (suc v) = b

-- two servers that are always awake
abbrev pub two : (b p c q : ℕ) → Servers
two b p c q = record {
  count = 2;
  is_server = λ v. true;
  budget = pick b c;
  period = pick p q;
  awake = λ v x. true;
}

-- of servers of 2 in 8 and 3 in 4 the second goes first: it is due sooner, with more left
the_earlier_deadline : CbsEntry (two 2 8 3 4) [] 0 (Some 1)
unfolding account
the_earlier_deadline = record {
  idle = λ e v. absurd (cc);
  named = λ v e. let q : 1 ≡ v = cc in subst (λ (z : ℕ). is_eligible (two 2 8 3 4) [] z 0 ≡ true) q refl;
  first = λ u v e h.
      let q : 1 ≡ v = cc in
      subst (λ (z : ℕ). (account (two 2 8 3 4) [] z 0).due ≤ (account (two 2 8 3 4) [] u 0).due) q (least u);
}
  where
    least : (u : ℕ) → (account (two 2 8 3 4) [] 1 0).due ≤ (account (two 2 8 3 4) [] u 0).due
    least zero = lit≤ tt
    least (suc u) = lit≤ tt

not_the_later_one : CbsEntry (two 2 8 3 4) [] 0 (Some 0) → ⊥
unfolding account
not_the_later_one e = let l : 8 ≤ 4 = e.first 1 0 refl refl in omega (arith, l)

-- a core is not idle while one of them is eligible
not_idle : CbsEntry (two 2 8 3 4) [] 0 None → ⊥
unfolding account
not_idle e = false≢true (sym (e.idle refl 0))

-- of two with one deadline either may go first, but by the order of the file the first does
tie_is_open : (o : ℕ) → o ≤ 1 → CbsEntry (two 2 4 2 4) [] 0 (Some o)
unfolding account
tie_is_open o l = record {
  idle = λ e v. absurd (cc);
  named = λ v e. let q : o ≡ v = cc in subst (λ (z : ℕ). is_eligible (two 2 4 2 4) [] z 0 ≡ true) q (eligible o l);
  first = λ u v e h. omega (arith, due u, due v);
}
  where
    eligible : (v : ℕ) → v ≤ 1 → is_eligible (two 2 4 2 4) [] v 0 ≡ true
    eligible zero m = refl
    eligible (suc zero) m = refl
    eligible (suc (suc v)) m = absurd (omega (arith, m))

    due : (v : ℕ) → (account (two 2 4 2 4) [] v 0).due ≡ 4
    due zero = refl
    due (suc v) = refl

the_first_in_the_file : FileEntry (two 2 4 2 4) [] 0 (Some 0)
unfolding account
the_first_in_the_file = record {
  idle = λ e v. absurd (cc);
  named = λ v e. let q : 0 ≡ v = cc in subst (λ (z : ℕ). is_eligible (two 2 4 2 4) [] z 0 ≡ true) q refl;
  first = λ u v e h. let q : 0 ≡ v = cc in subst (λ (z : ℕ). goes_before (two 2 4 2 4) [] 0 u z ≡ false) q (never u);
}
  where
    never : (u : ℕ) → goes_before (two 2 4 2 4) [] 0 u 0 ≡ false
    never zero = refl
    never (suc u) = le-ltb (suc u) 0 (omega arith)

not_the_second : FileEntry (two 2 4 2 4) [] 0 (Some 1) → ⊥
unfolding account
not_the_second e = false≢true (sym (e.first 0 1 refl refl))

-- In the run 0 0 1 1 1 1 0 0 of these two, in which the tie at 4 goes to the second, server 0 has
-- nothing in the 4 slots from 2 on, and one in 5 from there: just the bound. From its new account
-- at 4 on it has nothing in 2 slots, and one in 3.
abbrev tied : List (Option ℕ)
tied = Some 0 ∷ Some 0 ∷ Some 1 ∷ Some 1 ∷ Some 1 ∷ Some 1 ∷ Some 0 ∷ Some 0 ∷ []

accounts_at_the_tie : (account (two 2 4 2 4) tied 0 4 ≡ has 2 8) × (account (two 2 4 2 4) tied 1 4 ≡ has 2 8)
unfolding account
accounts_at_the_tie = (refl, refl)

no_more_than_the_bound : (slots_had tied 0 2 6 ≡ sbf 4 2 4) × (slots_had tied 0 2 7 ≡ sbf 4 2 5)
    × (slots_had tied 0 2 7 ≡ 1)
unfolding sum_below
no_more_than_the_bound = (refl, refl, refl)

no_more_from_a_new_account : (slots_had tied 0 4 6 ≡ sbf 4 2 (2 + 2)) × (slots_had tied 0 4 7 ≡ sbf 4 2 (3 + 2))
unfolding sum_below
no_more_from_a_new_account = (refl, refl)

-- 3 of 4 slots and 1 of 4 fit on a core, and 3 of 4 and 2 of 4 do not
shares_that_fit : SharesFit (two 3 4 1 4)
unfolding sum_below
shares_that_fit = record {
  slots = 4;
  share = pick 3 1;
  some = lit≤ tt;
  shares = shares;
  fit = lit≤ tt;
}
  where
    shares : (v : ℕ) → IsServer (two 3 4 1 4) v
        → pick 3 1 v * pick 4 4 v ≡ 4 * pick 3 1 v
    shares zero is = refl
    shares (suc v) is = refl

shares_that_do_not : SharesFit (two 3 4 2 4) → ⊥
unfolding sum_below
shares_that_do_not f =
    let a : f.share 0 * 4 ≡ f.slots * 3 = f.shares 0 (record { below = lit< tt; is_one = refl }) in
    let b : f.share 1 * 4 ≡ f.slots * 2 = f.shares 1 (record { below = lit< tt; is_one = refl }) in
    let c : (0 + f.share 0) + f.share 1 ≤ f.slots = f.fit in
    omega (arith, f.some, a, b, c)

-- On a core that is overfull, as three servers of each slot make it, the third is late: it has what
-- was due at 1 in slot 2, and then a new account due at 4.
abbrev three : Servers
three = record { count = 3; is_server = λ v. true; budget = λ v. 1; period = λ v. 1; awake = λ v x. true }

abbrev late : List (Option ℕ)
late = Some 0 ∷ Some 1 ∷ Some 2 ∷ []

the_third_is_late : (account three late 2 2 ≡ has 1 1) × (account three late 2 3 ≡ has 1 4)
unfolding account
the_third_is_late = (refl, refl)

-- and the second, used up in slot 1, has its next deadline at 2
the_second_is_late : (account three late 1 1 ≡ has 1 1) × (account three late 1 2 ≡ has 1 2)
unfolding account
the_second_is_late = (refl, refl)
