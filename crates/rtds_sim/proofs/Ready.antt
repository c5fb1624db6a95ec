-- Accounts that go on.
use Rattle.std.proofs.Common.{◌≡◌, ◌⊎◌, ℕ, ◌+◌, ◌-◌, ◌<◌, ◌≤◌, Bool, true, false, cond, ◌==◌, nat_lt, List, length, set, Option, Some, refl, sym, ◌∙◌, ap, arith, subst, inl, inr, eq-eqb, lt-ltb, le-ltb}
use Rattle.std.proofs.lemmas.Bool.{cases_Bool, cases_eq, cases_lt, ne_eqb}
use Rattle.slot_model.specs.Run.{holds}
use Rattle.rtds_queues.specs.declared.account.Account.{Account}
use Rattle.rtds_queues.specs.Accounts.{account_at, renewed, using, had_budget, had_slots, begun}
use Rattle.rtds_queues.proofs.Setting.{account_here, account_there}
use Rattle.rtds_sim.specs.inner.Accounts.{gone_on, used_more, IsSound}

-- what has no core uses no slots
pub not_used : (a : Account) (has : Bool) (slots : ℕ) → has ≡ false → used_more a has slots ≡ a
not_used a true slots e = cc
not_used a false slots e = refl

-- so where one VCPU had some, each has had its own
pub only_used : (accounts now : List Account) (v u slots : ℕ) (o : Option ℕ) → o ≡ Some v → v < length accounts
    → now ≡ set accounts v (had_slots (account_at accounts v) slots)
    → account_at now u ≡ used_more (account_at accounts u) (holds o u) slots
only_used accounts now v u slots o e l is =
    ap (λ (xs : List Account). account_at xs u) is
    ∙ (elim (cases_eq u v) [
      | inl same ↦
          subst (λ (z : ℕ). account_at (set accounts v (had_slots (account_at accounts v) slots)) z
          ≡ used_more (account_at accounts z) (holds (Some v) z) slots) (sym same)
          (account_here accounts v (had_slots (account_at accounts v) slots) l
          ∙ sym (ap (λ (q : Bool). used_more (account_at accounts v) q slots) (eq-eqb v v refl)))
      | inr ne ↦
          account_there accounts v u (had_slots (account_at accounts v) slots) ne
          ∙ sym (not_used (account_at accounts u) (holds (Some v) u) slots (ne_eqb v u (λ q. ne (sym q))))
    ]
    ∙ sym (ap (λ (p : Option ℕ). used_more (account_at accounts u) (holds p u) slots) e))

-- slots had change no period
pub used_period : (a : Account) (has : Bool) (slots : ℕ) → (used_more a has slots).period ≡ a.period
used_period a true slots = go (nat_lt slots a.left)
  where
    go : (q : Bool) → (cond q (using a slots) (had_budget a)).period ≡ a.period
    go true = refl
    go false = refl
used_period a false slots = refl

-- an account that has gone on is one with the slots that it had, whose period may have ended
pub gone_is : (a : Account) (has : Bool) (slots to : ℕ) → begun (used_more a has slots) to ≡ gone_on a has slots to
gone_is a true slots to = go (nat_lt slots a.left)
  where
    go : (q : Bool) → begun (cond q (using a slots) (had_budget a)) to
        ≡ cond (to == a.until) (renewed a (to + a.period)) (cond q (using a slots) (had_budget a))
    go true = refl
    go false = refl
gone_is a false slots to = refl

-- and it is sound
pub sound_gone : (a : Account) (has : Bool) (x to : ℕ) → IsSound x a → x < to → IsSound to (gone_on a has (to - x) to)
sound_gone a has x to h l = go (cases_Bool (to == a.until)) has (cases_lt (to - x) a.left)
  where
    go : ((to == a.until) ≡ true) ⊎ ((to == a.until) ≡ false) → (has : Bool) → (to - x < a.left) ⊎ (a.left ≤ to - x)
        → IsSound to (gone_on a has (to - x) to)
    go (inl e) has _ =
        subst (λ (q : Bool). IsSound to (cond q (renewed a (to + a.period)) (used_more a has (to - x)))) (sym e)
        (record { numbers = h.numbers; few = omega arith; some_left = h.numbers.some_budget })
    go (inr e) false _ =
        subst (λ (q : Bool). IsSound to (cond q (renewed a (to + a.period)) a)) (sym e)
        (record { numbers = h.numbers; few = omega (arith, h.few, l); some_left = h.some_left })
    go (inr e) true (inl less) =
        rw (e, lt-ltb (to - x) a.left less)
        (record { numbers = h.numbers; few = omega (arith, h.few, l); some_left = omega (arith, less) })
    go (inr e) true (inr more) =
        rw (e, le-ltb (to - x) a.left more)
        (record { numbers = h.numbers; few = omega (arith, h.few, l); some_left = h.numbers.some_budget })
