-- Rows at one slot, taken one after the other.
use Rattle.std.proofs.Common.{◌≡◌, ◌≢◌, ℕ, suc, ◌+◌, ◌*◌, ◌-◌, ◌/◌, ◌<◌, ◌≤◌, Bool, true, false, ◌&&◌, List, length, Option, refl, sym, ◌∙◌, ap, arith, subst, inl, inr, eq-eqb, ne_eqb}
use Rattle.std.specs.Prelude.{is_some}
use Rattle.std.proofs.lemmas.Bool.{cases_eq, and_from, and_right}
use Rattle.std.proofs.Math.Nat.{div-eq_of_lt, zero-div}
use Rattle.slot_model.specs.Run.{held, holds}
use Rattle.tree_model.specs.View.{SystemView}
use Rattle.tree_model.specs.System.{part_at}
use Rattle.tree_model.specs.Tree.{budget_at}
use Rattle.tree_model.specs.Plans.{IsPlan}
use Rattle.trace_file.specs.Periods.{begins, count_between}
use Rattle.rtds_queues.specs.declared.account.Account.{Account}
use Rattle.release_file.specs.declared.workload.Wake.{Wake as Row}
use Rattle.release_file.specs.declared.workload.WakeKind.{WakeKind}
use Rattle.release_file.specs.declared.workload.WakeKind.TheVariants.{Start, Wake, Block}
use Rattle.release_file.specs.Workload.{row_at, is_of, is_start, starts, is_block, blocks, start_of, IsWorkload}
use Rattle.rtds_model.specs.Rtds.{period_number, period_from, used}
use Rattle.rtds_queues.specs.Accounts.{account_at}
use Rattle.rtds_sim.specs.inner.Accounts.{left_of, row_taken, TakesRow, HasNumbers, IsInPeriod, IsAccount, AreOn}
use Rattle.rtds_sim.proofs.Members.{of_same}
use Rattle.rtds_sim.proofs.TakenRows.{takes_numbers}
use Rattle.csv_rows.proofs.Last.{last_below-no, last_below-yes}
use Rattle.rtds_model.proofs.Starts.{start_is}
use Rattle.rtds_model.proofs.Counts.{none_between}

-- without slots all of a budget is left
pub all_left : (budget : ℕ) → 1 ≤ budget → left_of 0 budget ≡ budget
all_left budget some = omega (arith, some)

module _ (sys : SystemView) (budgets : List ℕ) (rows : List Row) (workload : IsWorkload sys rows) where
  -- the row of another VCPU
  other_account : (run : List (Option ℕ)) (u x k : ℕ) (a : Account) → (row_at rows k).vcpu ≢ u
      → IsAccount sys budgets rows run u x k a → IsAccount sys budgets rows run u x (suc k) a
  other_account run u x k a ne h =
      let no : is_of u (row_at rows k) ≡ false = ne_eqb (row_at rows k).vcpu u ne in
      record {
        started =
            h.started
            ∙ ap is_some (sym (last_below-no (starts u) (row_at rows) k
            (ap (λ (b : Bool). b && is_start (row_at rows k).what) no)));
        blocked = h.blocked ∙ ap blocks (sym (last_below-no (is_of u) (row_at rows) k no));
        in_period = h.in_period;
      }

  start_account : (run : List (Option ℕ)) (v x k : ℕ) (a : Account) → HasNumbers sys budgets v a
      → 1 ≤ (part_at sys v).period → 1 ≤ budget_at budgets v → k < length rows → (row_at rows k).at ≡ x
      → is_of v (row_at rows k) ≡ true
      → (row_at rows k).what ≡ Start
      → IsAccount sys budgets rows run v x (suc k)
      (row_taken Start ((row_at rows k).at + a.period) a)
  start_account run v x k a n some budget l at of is =
      let f : start_of rows v ≡ x = start_is sys rows workload k v l of is ∙ at in
      let number : period_number (part_at sys v).period (start_of rows v) x ≡ 0
      = ap (λ (z : ℕ). (x - z) / (part_at sys v).period) f
      ∙ (ap (λ (z : ℕ). z / (part_at sys v).period) (let e : x - x ≡ 0 = omega arith in e)
      ∙ div-eq_of_lt some) in
      let from : period_from sys rows v x ≡ x
      = ap (λ (n : ℕ). begins (part_at sys v).period (start_of rows v) n) number
      ∙ (let e : start_of rows v + 0 * (part_at sys v).period ≡ x = omega arith in e) in
      let first : begins (part_at sys v).period (start_of rows v) (suc 0) ≡ (row_at rows k).at + a.period
      = omega (arith, at, f, n.period_is) in
      let none : used sys rows run v x ≡ 0
      = ap (λ (a : ℕ). count_between (λ y. holds (held run y) v) a x) from
      ∙ none_between (λ y. holds (held run y) v) x in
      record {
        started =
            sym (ap is_some (last_below-yes (starts v) (row_at rows) k
            (and_from (is_of v (row_at rows k)) (is_start (row_at rows k).what) of (ap is_start is))));
        blocked = sym (ap blocks (last_below-yes (is_of v) (row_at rows) k of) ∙ ap is_block is);
        in_period =
            λ on. record {
              until_is =
                  sym (ap (λ (n : ℕ). begins (part_at sys v).period (start_of rows v) (suc n)) number ∙ first);
              level_is = sym (ap (λ (g : ℕ). g / budget_at budgets v) none ∙ zero-div (budget_at budgets v));
              left_is =
                  n.budget_is
                  ∙ sym (ap (λ (g : ℕ). left_of g (budget_at budgets v)) none ∙ all_left (budget_at budgets v) budget);
              begun = omega (arith, at, n.period_is);
              not_over = omega (arith, at, some, n.period_is);
            };
      }

  change_account : (run : List (Option ℕ)) (v x k : ℕ) (b : Bool) (a : Account) → is_of v (row_at rows k) ≡ true
      → is_start (row_at rows k).what ≡ false → is_block (row_at rows k).what ≡ b
      → IsAccount sys budgets rows run v x k a
      → IsAccount sys budgets rows run v x (suc k) (record a { blocked = b })
  change_account run v x k b a of not_start is h = record {
    started =
        h.started
        ∙ ap is_some (sym (last_below-no (starts v) (row_at rows) k
        (and_right (is_of v (row_at rows k)) (is_start (row_at rows k).what) not_start)));
    blocked = sym (ap blocks (last_below-yes (is_of v) (row_at rows) k of) ∙ is);
    in_period =
        λ on. let p : IsInPeriod sys budgets rows run v x a
        = h.in_period on in record
        { until_is = p.until_is; level_is = p.level_is; left_is = p.left_is; begun = p.begun; not_over = p.not_over };
  }

  own_account : (run : List (Option ℕ)) (v x k : ℕ) (a : Account) → HasNumbers sys budgets v a
      → 1 ≤ (part_at sys v).period → 1 ≤ budget_at budgets v → k < length rows → (row_at rows k).at ≡ x
      → is_of v (row_at rows k) ≡ true
      → IsAccount sys budgets rows run v x k a → (what : WakeKind) → (row_at rows k).what ≡ what
      → IsAccount sys budgets rows run v x (suc k)
      (row_taken what ((row_at rows k).at + a.period) a)
  own_account run v x k a n some budget l at of h Start is = start_account run v x k a n some budget l at of is
  own_account run v x k a n some budget l at of h Wake is =
      change_account run v x k false a of (ap is_start is) (ap is_block is) h
  own_account run v x k a n some budget l at of h Block is =
      change_account run v x k true a of (ap is_start is) (ap is_block is) h

  -- one row more
  pub on_taken : (c : ℕ) (run : List (Option ℕ)) (x k : ℕ) (old new : List Account) → IsPlan sys budgets
      → k < length rows → (row_at rows k).at ≡ x → TakesRow (row_at rows k) old new
      → AreOn sys budgets rows c run x k old → AreOn sys budgets rows c run x (suc k) new
  on_taken c run x k old new plan l at takes h = record {
    of = of_same old new takes.one_each (takes_numbers (row_at rows k) old new takes) sys budgets c h.of;
    each = λ v lv.
        let lo : v < length old = omega (arith, lv, takes.one_each) in
        let q : ℕ = (account_at old v).part in
        let a : Account = account_at old v in
        let p : q < length sys.parts = h.of.parts v lo in
        subst (λ (z : ℕ). IsAccount sys budgets rows run z x (suc k) (account_at new v))
        (sym (takes_numbers (row_at rows k) old new takes v lo).part)
        (elim (cases_eq q (row_at rows k).vcpu) [
          | inl e ↦
              subst (λ (z : Account). IsAccount sys budgets rows run q x (suc k) z) (sym (takes.own v lo e))
              (own_account run q x k a (h.of.numbers v lo)
              (omega (arith, plan.some_budget q p, plan.in_period q p)) (plan.some_budget q p) l at
              (eq-eqb (row_at rows k).vcpu q (sym e))
              (h.each v lo) (row_at rows k).what refl)
          | inr ne ↦
              subst (λ (z : Account). IsAccount sys budgets rows run q x (suc k) z) (sym (takes.other v lo ne))
              (other_account run q x k a (λ e. ne (sym e)) (h.each v lo))
        ]);
  }
