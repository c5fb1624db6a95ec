-- A core that runs by itself, from change to change.
use Rattle.std.proofs.Common.{◌≡◌, ◌==◌, ℕ, zero, suc, ◌+◌, ◌-◌, ◌<◌, ◌≤◌, nat_lt, Bool, true, false, cond, List, ◌++◌, append-nil, length, Option, Some, None, refl, sym, ◌∙◌, ap, arith, subst}
use Rattle.slot_model.specs.Run.{held, holds}
use Rattle.tree_model.specs.declared.place.Place.TheVariants.{Core}
use Rattle.tree_model.specs.View.{SystemView}
use Rattle.tree_model.specs.Tree.{is_child}
use Rattle.tree_model.specs.Plans.{IsPlan}
use Rattle.trace_file.specs.declared.event.Event.{Event}
use Rattle.release_file.specs.declared.workload.Wake.{Wake as Row}
use Rattle.rtds_queues.specs.declared.account.Account.{Account}
use Rattle.rtds_queues.specs.Accounts.{account_at, renewed, using, had_budget}
use Rattle.rtds_queues.specs.Vcpus.{IsChoice, NoEndBefore}
use Rattle.rtds_sim.specs.declared.host_core.HostCore.{HostCore}
use Rattle.rtds_sim.specs.inner.Accounts.{part_of, InTurn, gone_on, HasNumbers, IsAccount, AreOn}
use Rattle.rtds_trace.specs.Printed.{AreBefore, push_some, holder_before, holder_left, on_core_at, switch_to, switch_on}
use Rattle.rtds_sim.specs.inner.Running.{IsUnderway, HasRun}
use Rattle.rtds_sim.specs.inner.Telling.{told_on}
use Rattle.rtds_sim.proofs.Entering.{choice_entry}
use Rattle.rtds_trace.proofs.Gathered.{gathered-zero}
use Rattle.rtds_sim.proofs.Members.{by_part, by_part_at, each_part, holds_part, held_part, part_of_same, SameNumbers, of_same, choice_by}
use Rattle.rtds_model.proofs.Runs.{entry_unique}
use Rattle.rtds_sim.proofs.Steady.{IsNext, taken_by, alike, gone_accounts}
use Rattle.rtds_sim.proofs.Telling.{told_more}
use Rattle.rtds_sim.proofs.Visits.{left_before, switch_quiet}

-- how core c stands as slot t comes, when it has run from slot x on
pub record StandsAt (sys : SystemView) (budgets : List ℕ) (rows : List Row) (c : ℕ) (run : List (Option ℕ))
    (x to k t : ℕ) (core : HostCore) (before told : List Event) : Type 0 where
  pub are : AreOn sys budgets rows c run t k core.vcpus
  pub left_is : t < to → part_of core.vcpus core.holder ≡ holder_left rows run t
  pub before_is : x < t → part_of core.vcpus core.holder ≡ holder_before run t
  pub told_is : told ≡ before ++ told_on (λ y. switch_on rows run y c) x (t - x)

-- at first
pub stands_first : (sys : SystemView) (budgets : List ℕ) (rows : List Row) (n c : ℕ) (run : List (Option ℕ))
    (x to k : ℕ) (core : HostCore) (before : List Event)
    → IsUnderway sys budgets rows n c run x to k core → StandsAt sys budgets rows c run x to k x core before before
stands_first sys budgets rows n c run x to k core before u = record {
  are = u.are;
  left_is = λ l. u.holder_is;
  before_is = λ l. absurd (omega (arith, l));
  told_is =
      sym (ap (λ (es : List Event). before ++ es) (ap (told_on (λ y. switch_on rows run y c) x)
      (let e : x - x ≡ 0 = omega arith in e) ∙ gathered-zero (λ i. switch_on rows run (x + i) c))
      ∙ append-nil before);
}

-- at last
pub stands_last : (sys : SystemView) (budgets : List ℕ) (rows : List Row) (c : ℕ) (run : List (Option ℕ))
    (x to k t : ℕ) (core : HostCore)
    (before told : List Event) → x < to → t ≡ to → StandsAt sys budgets rows c run x to k t core before told
    → HasRun sys budgets rows c run x to k core before told
stands_last sys budgets rows c run x to k t core before told l e h =
    subst (λ (y : ℕ). HasRun sys budgets rows c run x y k core before told) e
    (record {
      stands = record { are = h.are; holder_is = h.before_is (omega (arith, l, e)) };
      told_is = h.told_is;
    })

-- an account that goes on keeps its numbers
pub gone_numbers : (a : Account) (has : Bool) (slots to : ℕ) → SameNumbers a (gone_on a has slots to)
gone_numbers a has slots to = go (to == a.until) has (nat_lt slots a.left)
  where
    go : (ended has less : Bool) → SameNumbers a (cond ended (renewed a (to + a.period))
        (cond has (cond less (using a slots) (had_budget a)) a))
    go true has less = record { part = refl; period = refl; budget = refl; extra = refl }
    go false true true = record { part = refl; period = refl; budget = refl; extra = refl }
    go false true false = record { part = refl; period = refl; budget = refl; extra = refl }
    go false false less = record { part = refl; period = refl; budget = refl; extra = refl }

-- from slot t, at which the core goes on to the VCPU that goes first, to slot u, before which
-- nothing changes on it
module _ (sys : SystemView) (budgets : List ℕ) (plan : IsPlan sys budgets) (rows : List Row) (n c : ℕ)
    (run : List (Option ℕ)) (x to k : ℕ) (first : HostCore)
    (underway : IsUnderway sys budgets rows n c run x to k first)
    (t u : ℕ) (l : x ≤ t) (m : t < u) (in_time : u ≤ to) (old : HostCore) (before told : List Event)
    (at : StandsAt sys budgets rows c run x to k t old before told) (turn : InTurn old.vcpus) (holder : Option ℕ)
    (chosen : IsChoice old.vcpus holder) (bound : NoEndBefore old.vcpus u)
    (in_budget : (v : ℕ) → holder ≡ Some v → u ≤ t + (account_at old.vcpus v).left)
  where
    taken : AreBefore rows k (suc t)
    taken = taken_by rows k x to t underway.taken underway.rows_later l (omega (arith, m, in_time))

    abbrev its : ℕ → Account
    its = by_part old.vcpus

    of_part : (P : ℕ → Account → Type 0) → ((v : ℕ) → v < length old.vcpus
        → P (account_at old.vcpus v).part (account_at old.vcpus v)) → (q : ℕ) → q < length sys.parts
        → is_child sys (Core c) q ≡ true → P q (its q)
    of_part P each q lq child =
        let place = at.are.of.all q lq child in each_part old.vcpus turn P each q place.0 place.1

    numbers : (q : ℕ) → q < length sys.parts → is_child sys (Core c) q ≡ true → HasNumbers sys budgets q (its q)
    numbers = of_part (HasNumbers sys budgets) at.are.of.numbers

    are : (q : ℕ) → q < length sys.parts → is_child sys (Core c) q ≡ true
        → IsAccount sys budgets rows run q t k (its q)
    are = of_part (λ q a. IsAccount sys budgets rows run q t k a) at.are.each

    chosen_is : part_of old.vcpus holder ≡ held run t
    chosen_is =
        entry_unique sys budgets rows c run t (part_of old.vcpus holder) (held run t)
        (choice_entry sys budgets rows c run t k taken plan its numbers are (part_of old.vcpus holder)
        (choice_by sys budgets c old.vcpus at.are.of turn holder chosen))
        (underway.is_run.each t (omega (arith, m, in_time, underway.fits)))

    next : IsNext sys budgets rows c run t k its (part_of old.vcpus holder) u
    next = record {
      taken = taken;
      numbers = numbers;
      are = are;
      holder_is = chosen_is;
      later = m;
      rows_later = λ i a b. omega (arith, underway.rows_later i a b, in_time);
      in_period = of_part (λ q a. u ≤ a.until) bound;
      in_budget = held_part old.vcpus turn (λ a. u ≤ t + a.left) holder chosen.within in_budget;
    }

    same : (z : ℕ) → t ≤ z → z < u → held run z ≡ held run t
    same =
        alike sys budgets plan rows n c run underway.is_run t k its (part_of old.vcpus holder) u next
        (omega (arith, in_time, underway.fits))

    before_same : (y : ℕ) → t < y → y ≤ u → holder_before run y ≡ held run t
    before_same zero a b = absurd (omega (arith, a))
    before_same (suc y) a b = same y (omega (arith, a)) (omega (arith, b))

    quiet : (y : ℕ) → t < y → y < u → switch_on rows run y c ≡ None
    quiet y a b =
        switch_quiet sys budgets rows n c run underway.is_run x k to underway.fits underway.taken underway.rows_later y
        (omega (arith, l, a)) (omega (arith, b, in_time))
        (before_same y a (omega (arith, b)) ∙ sym (same y (omega (arith, a)) b))

    -- the accounts at slot u
    module _ (now : List Account) (long : length now ≡ length old.vcpus)
        (gone : (v : ℕ) → v < length old.vcpus → account_at now v
        ≡ gone_on (account_at old.vcpus v) (holds holder v) (u - t) u)
      where
        same_numbers : (v : ℕ) → v < length old.vcpus → SameNumbers (account_at old.vcpus v) (account_at now v)
        same_numbers v lv =
            subst (SameNumbers (account_at old.vcpus v)) (sym (gone v lv))
            (gone_numbers (account_at old.vcpus v) (holds holder v) (u - t) u)

        gone_of_part : (v : ℕ) → v < length old.vcpus → (q : ℕ) → (account_at old.vcpus v).part ≡ q
            → gone_on (its q) (holds (part_of old.vcpus holder) q) (u - t) u ≡ account_at now v
        gone_of_part v lv q e =
            ap (λ (a : Account). gone_on a (holds (part_of old.vcpus holder) q) (u - t) u)
            (by_part_at old.vcpus turn q v (record { is_vcpu = lv; part_is = e }))
            ∙ (ap (λ (b : Bool). gone_on (account_at old.vcpus v) b (u - t) u)
            (ap (holds (part_of old.vcpus holder)) (sym e) ∙ holds_part old.vcpus turn holder chosen.within v lv)
            ∙ sym (gone v lv))

        gone_on_core : AreOn sys budgets rows c run u k now
        gone_on_core = record {
          of = of_same old.vcpus now long same_numbers sys budgets c at.are.of;
          each = λ v lv.
              let lo : v < length old.vcpus = omega (arith, lv, long) in
              let q : ℕ = (account_at old.vcpus v).part in
              subst (λ (p : ℕ). IsAccount sys budgets rows run p u k (account_at now v)) (sym (same_numbers v lo).part)
              (subst (λ (a : Account). IsAccount sys budgets rows run q u k a) (gone_of_part v lo q refl)
              (gone_accounts sys budgets plan rows n c run underway.is_run t k its (part_of old.vcpus holder) u next
              (omega (arith, in_time, underway.fits)) q (at.are.of.parts v lo) (at.are.of.on_core v lo)));
        }

        pub stands_on : (core : HostCore) → core.vcpus ≡ now → core.holder ≡ holder → (telling : List Event)
            → telling ≡ push_some told (on_core_at c t (switch_to (part_of old.vcpus old.holder)
            (part_of old.vcpus holder)))
            → StandsAt sys budgets rows c run x to k u core before telling
        stands_on core vcpus kept telling told_now =
            let held_is : part_of core.vcpus core.holder ≡ holder_before run u
            = ap (part_of core.vcpus) kept
            ∙ (ap (λ (xs : List Account). part_of xs holder) vcpus
            ∙ (part_of_same old.vcpus now holder (λ v e. (same_numbers v (chosen.within v e)).part)
            ∙ (chosen_is ∙ sym (before_same u m (omega arith))))) in
            record {
              are = subst (AreOn sys budgets rows c run u k) (sym vcpus) gone_on_core;
              left_is =
                  λ more. held_is
                  ∙ sym (left_before sys budgets rows n c run underway.is_run x k to underway.fits underway.taken
                  underway.rows_later u (omega (arith, l, m)) more);
              before_is = λ _. held_is;
              told_is = told_now ∙ (ap (λ (o : Option Event). push_some told o)
                  (ap (λ (o : Option ℕ). on_core_at c t (switch_to o (part_of old.vcpus holder)))
                  (at.left_is (omega (arith, m, in_time)))
                  ∙ ap (λ (o : Option ℕ). on_core_at c t (switch_to (holder_left rows run t) o)) chosen_is)
                  ∙ told_more (λ y. switch_on rows run y c) x t u before told l m quiet at.told_is);
            }
