-- What the accounts say at a slot whose rows are taken: who is eligible, and who goes first.
use Rattle.std.proofs.Common.{◌≡◌, ◌==◌, ℕ, suc, ◌*◌, ◌/◌, ◌<◌, ◌≤◌, nat_lt, Bool, true, not, ◌&&◌, ◌||◌, List, length, Option, sym, ◌∙◌, ap, arith, inl, inr, eq-eqb, ltb-true, lt-ltb, le-ltb}
use Rattle.std.proofs.Math.Nat.{div-eq_of_lt}
use Rattle.std.proofs.lemmas.Bool.{cases_Bool, cases_lt, both_ways, and_parts, ne_eqb}
use Rattle.tree_model.specs.declared.place.Place.TheVariants.{Core}
use Rattle.tree_model.specs.View.{SystemView}
use Rattle.tree_model.specs.System.{part_at}
use Rattle.tree_model.specs.Tree.{is_child, budget_at}
use Rattle.tree_model.specs.Plans.{IsPlan}
use Rattle.rtds_queues.specs.declared.account.Account.{Account}
use Rattle.release_file.specs.declared.workload.Wake.{Wake as Row}
use Rattle.release_file.specs.Workload.{is_started_at, is_blocked_at}
use Rattle.rtds_model.specs.Rtds.{used, level_at, deadline_at, can_run, is_eligible, goes_before, RtdsEntry}
use Rattle.rtds_queues.specs.Keys.{goes_first}
use Rattle.rtds_queues.specs.Accounts.{account_eligible, goes_ahead}
use Rattle.rtds_sim.specs.inner.Accounts.{HasNumbers, IsInPeriod, IsAccount}
use Rattle.rtds_trace.specs.Printed.{AreBefore}
use Rattle.rtds_sim.proofs.Members.{IsChoiceBy}
use Rattle.rtds_trace.proofs.Rows.{started_by, blocked_by}

-- a VCPU has budget left where it has not had it once
pub none_had : (slots budget : ℕ) → 1 ≤ budget → nat_lt slots budget ≡ ((slots / budget) == 0)
none_had slots budget some = elim (cases_lt slots budget) [
  | inl l ↦ lt-ltb slots budget l ∙ sym (eq-eqb (slots / budget) 0 (div-eq_of_lt l))
  | inr m ↦
      le-ltb slots budget m
      ∙ sym (ne_eqb (slots / budget) 0 (λ e. omega (arith, m, some, ap (λ (z : ℕ). z * budget) e)))
]

module _ (sys : SystemView) (budgets : List ℕ) (rows : List Row) (c : ℕ) (run : List (Option ℕ)) (x k : ℕ)
    (taken : AreBefore rows k (suc x)) (plan : IsPlan sys budgets) (its : ℕ → Account)
    (numbers : (v : ℕ) → v < length sys.parts → is_child sys (Core c) v ≡ true → HasNumbers sys budgets v (its v))
    (are : (v : ℕ) → v < length sys.parts → is_child sys (Core c) v ≡ true
    → IsAccount sys budgets rows run v x k (its v)) where
  abbrev on_this : ℕ → Type 0
  on_this v = (v < length sys.parts) × (is_child sys (Core c) v ≡ true)

  account_on : (v : ℕ) → on_this v → IsAccount sys budgets rows run v x k (its v)
  account_on v on = are v on.0 on.1

  -- Bool algebra
  eligible_same : (p child started blocked left extra started' blocked' left' extra' : Bool) → p ≡ true → child ≡ true
      → started ≡ started' → blocked ≡ blocked' → extra ≡ extra' → (started ≡ true → left ≡ left') →
      (((p && child) && (started' && not blocked')) && (left' || extra'))
      ≡ ((started && not blocked) && (left || extra))
  eligible_same p child started blocked left extra started' blocked' left' extra' hp hc hs hb he hl = grind arith

  -- the account tells who is eligible
  eligible_is : (v : ℕ) → on_this v → is_eligible sys budgets rows c run v x ≡ account_eligible (its v)
  eligible_is v on =
      let h : IsAccount sys budgets rows run v x k (its v) = account_on v on in
      eligible_same (nat_lt v (length sys.parts)) (is_child sys (Core c) v) (its v).started
      (its v).blocked ((its v).level == 0)
      (its v).extra (is_started_at rows v x) (is_blocked_at rows v x)
      (nat_lt (used sys rows run v x) (budget_at budgets v)) (part_at sys v).extra
      (lt-ltb v (length sys.parts) on.0) on.1 (h.started ∙ sym (started_by rows v x k taken))
      (h.blocked ∙ sym (blocked_by rows v x k taken))
      (numbers v on.0 on.1).extra_is
      (λ s. ap (λ (g : ℕ). g == 0) (h.in_period s).level_is
      ∙ sym (none_had (used sys rows run v x) (budget_at budgets v) (plan.some_budget v on.0)))

  eligible_on : (v : ℕ) → is_eligible sys budgets rows c run v x ≡ true → on_this v
  eligible_on v e =
      let p
      = and_parts (nat_lt v (length sys.parts)) (is_child sys (Core c) v)
      (and_parts (nat_lt v (length sys.parts) && is_child sys (Core c) v)
      (is_started_at rows v x && not (is_blocked_at rows v x))
      (and_parts (can_run sys rows c v x)
      (nat_lt (used sys rows run v x) (budget_at budgets v) || (part_at sys v).extra) e).0).0 in
      (ltb-true v (length sys.parts) p.0, p.1)

  -- and in which order
  rank_numbers : (v : ℕ) → on_this v → account_eligible (its v) ≡ true
      → ((its v).level ≡ level_at sys budgets rows run v x) × ((its v).until ≡ deadline_at sys rows v x)
  rank_numbers v on e =
      let s : (its v).started ≡ true
      = (and_parts (its v).started (not (its v).blocked)
      (and_parts ((its v).started && not (its v).blocked) (((its v).level == 0) || (its v).extra) e).0).0 in
      let h : IsInPeriod sys budgets rows run v x (its v) = (account_on v on).in_period s in
      (h.level_is, h.until_is)

  before_is : (u v : ℕ) → on_this u → on_this v → account_eligible (its u) ≡ true → account_eligible (its v) ≡ true
      → goes_ahead (its u) u (its v) v ≡ goes_before sys budgets rows run x u v
  before_is u v lu lv eu ev =
      let a = rank_numbers u lu eu in
      let b = rank_numbers v lv ev in
      ap (λ (l : ℕ). goes_first l (its u).until u (its v).level (its v).until v) a.0
      ∙ (ap (λ (d : ℕ). goes_first (level_at sys budgets rows run u x) d u (its v).level (its v).until v) a.1
      ∙ (ap (λ (l : ℕ). goes_first (level_at sys budgets rows run u x) (deadline_at sys rows u x) u l
      (its v).until v) b.0
      ∙ ap (λ (d : ℕ). goes_first (level_at sys budgets rows run u x) (deadline_at sys rows u x) u
      (level_at sys budgets rows run v x) d v) b.1))

  -- so the choice is the entry
  pub choice_entry : (o : Option ℕ) → IsChoiceBy sys c its o → RtdsEntry sys budgets rows c run x o
  choice_entry o h = record {
    idle = λ q v. elim (cases_Bool (is_eligible sys budgets rows c run v x)) [
      | inr e ↦ e
      | inl e ↦
          let on : on_this v = eligible_on v e in
          absurd (both_ways _ (h.idle q v on.0 on.1) (sym (eligible_is v on) ∙ e))
    ];
    named = λ v q. eligible_is v (h.within v q) ∙ h.named v q;
    first = λ u v q e.
        let on : on_this u = eligible_on u e in
        let eligible : account_eligible (its u) ≡ true = sym (eligible_is u on) ∙ e in
        sym (before_is u v on (h.within v q) eligible (h.named v q)) ∙ h.first u v q on.0 on.1 eligible;
  }
