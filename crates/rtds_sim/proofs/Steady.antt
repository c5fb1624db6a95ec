-- From one change to the next each core keeps its VCPU.
use Rattle.std.proofs.Common.{◌≡◌, ℕ, zero, suc, ◌+◌, ◌*◌, ◌-◌, ◌/◌, ◌%◌, ◌<◌, ◌≤◌, ◌==◌, nat_lt, Bool, true, false, not, cond, ◌&&◌, ◌||◌, List, length, Option, Some, refl, sym, ◌∙◌, ap, arith, subst, inl, inr, eqb-true, eq-eqb, ltb-true, lt-ltb, le-ltb}
use Rattle.std.proofs.lemmas.Nat.{div-mul-add}
use Rattle.std.proofs.Math.Nat.{div-eq_of_lt, zero-div}
use Rattle.std.proofs.lemmas.Bool.{cases_eq, cases_lt, cases_Bool, both_ways, and_parts, cond-true, cond-false}
use Rattle.slot_model.specs.Run.{held, holds}
use Rattle.slot_model.proofs.Runs.{holds-is}
use Rattle.tree_model.specs.declared.place.Place.TheVariants.{Core}
use Rattle.tree_model.specs.View.{SystemView}
use Rattle.tree_model.specs.System.{part_at}
use Rattle.tree_model.specs.Tree.{is_child, budget_at}
use Rattle.trace_file.specs.Periods.{begins, count_between}
use Rattle.trace_file.proofs.Counting.{between_alike}
use Rattle.rtds_queues.specs.declared.account.Account.{Account}
use Rattle.release_file.specs.declared.workload.Wake.{Wake as Row}
use Rattle.tree_model.specs.Plans.{IsPlan}
use Rattle.release_file.specs.Workload.{is_started_at, is_blocked_at, start_of}
use Rattle.rtds_model.specs.Rtds.{period_number, period_from, used, level_at, deadline_at, can_run, is_eligible, goes_before, RtdsEntry, CoreRun}
use Rattle.rtds_queues.specs.Keys.{goes_first}
use Rattle.rtds_trace.specs.Printed.{AreBefore}
use Rattle.rtds_queues.specs.Accounts.{renewed, using, had_budget}
use Rattle.rtds_sim.specs.inner.Accounts.{used_more, gone_on, left_of, HasNumbers, IsInPeriod, IsAccount}
use Rattle.rtds_sim.specs.inner.Running.{RowsFrom}
use Rattle.rtds_model.proofs.Runs.{entry_unique}
use Rattle.rtds_model.proofs.Counts.{none_between}
use Rattle.rtds_sim.proofs.Taking.{all_left}
use Rattle.rtds_trace.proofs.Rows.{started_by, blocked_by}

-- budgets are had as often, until one is had once more
pub same_quotient : (g m b : ℕ) → 1 ≤ b → m < b - g % b → (g + m) / b ≡ g / b
same_quotient g m b some l =
    let e : g + m ≡ (g / b) * b + (g % b + m) = omega arith in
    ap (λ (z : ℕ). z / b) e ∙ div-mul-add (g / b) b (g % b + m) (omega arith)

pub lt_same : (g m b : ℕ) → 1 ≤ b → m < b - g % b → nat_lt (g + m) b ≡ nat_lt g b
lt_same g m b some l = elim (cases_lt g b) [
  | inl h ↦
      let z : g / b ≡ 0 = div-eq_of_lt h in
      let e : g % b ≡ g = omega (arith, ap (λ (q : ℕ). q * b) z) in
      lt-ltb (g + m) b (omega arith) ∙ sym (lt-ltb g b h)
  | inr h ↦ le-ltb (g + m) b (omega arith) ∙ sym (le-ltb g b h)
]

-- and where one is had once more, they are had once more often
pub whole_level : (g slots b : ℕ) → 1 ≤ b → slots ≡ b - g % b → (g + slots) / b ≡ suc (g / b)
whole_level g slots b some exact =
    let e : g + slots ≡ suc (g / b) * b + 0 = omega (arith, exact, some) in
    ap (λ (z : ℕ). z / b) e ∙ div-mul-add (suc (g / b)) b 0 some

-- slots had change neither where it is nor when its period ends
pub started_more : (a : Account) (has : Bool) (slots : ℕ) → (used_more a has slots).started ≡ a.started
started_more a true slots = ends (nat_lt slots a.left)
  where
    ends : (q : Bool) → (cond q (using a slots) (had_budget a)).started ≡ a.started
    ends true = refl
    ends false = refl
started_more a false slots = refl

pub blocked_more : (a : Account) (has : Bool) (slots : ℕ) → (used_more a has slots).blocked ≡ a.blocked
blocked_more a true slots = ends (nat_lt slots a.left)
  where
    ends : (q : Bool) → (cond q (using a slots) (had_budget a)).blocked ≡ a.blocked
    ends true = refl
    ends false = refl
blocked_more a false slots = refl

pub until_more : (a : Account) (has : Bool) (slots : ℕ) → (used_more a has slots).until ≡ a.until
until_more a true slots = ends (nat_lt slots a.left)
  where
    ends : (q : Bool) → (cond q (using a slots) (had_budget a)).until ≡ a.until
    ends true = refl
    ends false = refl
until_more a false slots = refl

-- a slot of the same period
pub number_same : (period f x y : ℕ) → begins period f (period_number period f x) ≤ x → x ≤ y
    → y < begins period f (period_number period f x) + period → period_number period f y ≡ period_number period f x
number_same period f x y lo l hi =
    let q : ℕ = (x - f) / period in
    let e : y - f ≡ q * period + (y - (f + q * period)) = omega arith in
    ap (λ (z : ℕ). z / period) e ∙ div-mul-add q period (y - (f + q * period)) (omega arith)

-- the first slot of the next one
number_next : (period f x y : ℕ) → 1 ≤ period → y ≡ begins period f (period_number period f x) + period
    → period_number period f y ≡ suc (period_number period f x)
number_next period f x y some e =
    let q : ℕ = (x - f) / period in
    let e' : y - f ≡ suc q * period + 0 = omega arith in
    ap (λ (z : ℕ). z / period) e' ∙ div-mul-add (suc q) period 0 some

-- what is known of core c at slot x, whose rows are taken and whose VCPU has it, and of a later
-- slot
pub record IsNext (sys : SystemView) (budgets : List ℕ) (rows : List Row) (c : ℕ) (run : List (Option ℕ)) (x k : ℕ)
    (its : ℕ → Account) (holder : Option ℕ) (to : ℕ) : Type 0 where
  pub taken : AreBefore rows k (suc x)
  pub numbers : (v : ℕ) → v < length sys.parts → is_child sys (Core c) v ≡ true → HasNumbers sys budgets v (its v)
  pub are : (v : ℕ) → v < length sys.parts → is_child sys (Core c) v ≡ true
      → IsAccount sys budgets rows run v x k (its v)
  pub holder_is : holder ≡ held run x
  pub later : x < to
  pub rows_later : RowsFrom rows k to
  pub in_period : (v : ℕ) → v < length sys.parts → is_child sys (Core c) v ≡ true → to ≤ (its v).until
  pub in_budget : (v : ℕ) → holder ≡ Some v → to ≤ x + (its v).left

-- no row comes from slot x on and before a later one
pub taken_by : (rows : List Row) (k x to y : ℕ) → AreBefore rows k (suc x) → RowsFrom rows k to → x ≤ y → y < to
    → AreBefore rows k (suc y)
taken_by rows k x to y taken rows_later l m =
    record {
      in_rows = taken.in_rows;
      past = λ i h. omega (arith, taken.past i h);
      to_come = λ i a b. omega (arith, rows_later i a b);
    }

module _ (sys : SystemView) (budgets : List ℕ) (plan : IsPlan sys budgets) (rows : List Row) (n c : ℕ)
    (run : List (Option ℕ)) (is : CoreRun sys budgets rows n c run)
    (x k : ℕ) (its : ℕ → Account) (holder : Option ℕ) (to : ℕ)
    (next : IsNext sys budgets rows c run x k its holder to) where
  taken_at : (y : ℕ) → x ≤ y → y < to → AreBefore rows k (suc y)
  taken_at y l m = taken_by rows k x to y next.taken next.rows_later l m

  -- the run holds at each slot from x on and before y what it holds at x
  abbrev AlikeTo : ℕ → Type 0
  AlikeTo y = (z : ℕ) → x ≤ z → z < y → held run z ≡ held run x

  runs_same : (v y : ℕ) → x ≤ y → y < to → can_run sys rows c v y ≡ can_run sys rows c v x
  runs_same v y l m =
      let s : is_started_at rows v y ≡ is_started_at rows v x
      = started_by rows v y k (taken_at y l m) ∙ sym (started_by rows v x k next.taken) in
      let b : is_blocked_at rows v y ≡ is_blocked_at rows v x
      = blocked_by rows v y k (taken_at y l m) ∙ sym (blocked_by rows v x k next.taken) in
      ap (λ (s : Bool). (nat_lt v (length sys.parts) && is_child sys (Core c) v) && (s && not (is_blocked_at rows v y)))
      s
      ∙ ap (λ (b : Bool). (nat_lt v (length sys.parts) && is_child sys (Core c) v)
      && (is_started_at rows v x && not b)) b

  -- a VCPU that can run, and its account
  record Runs (v : ℕ) : Type 0 where
    is_part : v < length sys.parts
    child : is_child sys (Core c) v ≡ true
    started : (its v).started ≡ true
    in_period : IsInPeriod sys budgets rows run v x (its v)

  runs_is : (v : ℕ) → can_run sys rows c v x ≡ true → Runs v
  runs_is v h =
      let p
      = and_parts (nat_lt v (length sys.parts) && is_child sys (Core c) v)
      (is_started_at rows v x && not (is_blocked_at rows v x)) h in
      let q = and_parts (nat_lt v (length sys.parts)) (is_child sys (Core c) v) p.0 in
      let l : v < length sys.parts = ltb-true v (length sys.parts) q.0 in
      let a : IsAccount sys budgets rows run v x k (its v) = next.are v l q.1 in
      let s : (its v).started ≡ true
      = a.started
      ∙ (sym (started_by rows v x k next.taken)
      ∙ (and_parts (is_started_at rows v x) (not (is_blocked_at rows v x)) p.1).0) in
      record { is_part = l; child = q.1; started = s; in_period = a.in_period s }

  from_same : (v y : ℕ) → x ≤ y → y < to → Runs v
      → period_number (part_at sys v).period (start_of rows v) y
      ≡ period_number (part_at sys v).period (start_of rows v) x
  from_same v y l m r =
      number_same (part_at sys v).period (start_of rows v) x y
      (omega (arith, r.in_period.until_is, r.in_period.begun)) l
      (omega (arith, m, r.in_period.until_is, next.in_period v r.is_part r.child))

  -- what it had by y
  used_is : (v y : ℕ) → x ≤ y → y < to → AlikeTo y → Runs v
      → used sys rows run v y ≡ used sys rows run v x + cond (holds (held run x) v) (y - x) 0
  used_is v y l m alike r =
      let e : x + (y - x) ≡ y = omega arith in
      let p : ℕ → Bool = λ z. holds (held run z) v in
      ap (λ (q : ℕ). count_between p (begins (part_at sys v).period (start_of rows v) q) y) (from_same v y l m r)
      ∙ (ap (λ (z : ℕ). count_between p (period_from sys rows v x) z) (sym e)
      ∙ between_alike p (holds (held run x) v) (period_from sys rows v x) x (y - x)
      (omega (arith, r.in_period.until_is, r.in_period.begun))
      (λ z i j. ap (λ (o : Option ℕ). holds o v) (alike z i (omega arith))))

  record Same (v y : ℕ) : Type 0 where
    level : level_at sys budgets rows run v y ≡ level_at sys budgets rows run v x
    deadline : deadline_at sys rows v y ≡ deadline_at sys rows v x
    left : nat_lt (used sys rows run v y) (budget_at budgets v) ≡ nat_lt (used sys rows run v x) (budget_at budgets v)

  same_by : (v y m : ℕ) → x ≤ y → y < to → Runs v → used sys rows run v y ≡ used sys rows run v x + m
      → m < budget_at budgets v - used sys rows run v x % budget_at budgets v → Same v y
  same_by v y m l t r e left = record {
    level =
        ap (λ (g : ℕ). g / budget_at budgets v) e
        ∙ same_quotient (used sys rows run v x) m (budget_at budgets v) (plan.some_budget v r.is_part) left;
    deadline = ap (λ (q : ℕ). begins (part_at sys v).period (start_of rows v) (suc q)) (from_same v y l t r);
    left =
        ap (λ (g : ℕ). nat_lt g (budget_at budgets v)) e
        ∙ lt_same (used sys rows run v x) m (budget_at budgets v) (plan.some_budget v r.is_part) left;
  }

  same_at : (v y : ℕ) → x ≤ y → y < to → AlikeTo y → Runs v → Same v y
  same_at v y l t alike r = elim (cases_Bool (holds (held run x) v)) [
    | inl b ↦
        let left : to ≤ x + (its v).left
        = next.in_budget v (next.holder_is ∙ holds-is (held run x) v b) in
        let its : (its v).left ≡ left_of (used sys rows run v x) (budget_at budgets v)
        = r.in_period.left_is in
        same_by v y (y - x) l t r (used_is v y l t alike r
        ∙ ap (λ (z : ℕ). used sys rows run v x + z) (cond-true {A = ℕ} (holds (held run x) v) (y - x) 0 b))
        (omega arith)
    | inr b ↦
        let some : 1 ≤ budget_at budgets v = plan.some_budget v r.is_part in
        same_by v y 0 l t r (used_is v y l t alike r
        ∙ ap (λ (z : ℕ). used sys rows run v x + z) (cond-false {A = ℕ} (holds (held run x) v) (y - x) 0 b))
        (omega arith)
  ]

  eligible_same : (v y : ℕ) → x ≤ y → y < to → AlikeTo y
      → is_eligible sys budgets rows c run v y ≡ is_eligible sys budgets rows c run v x
  eligible_same v y l t alike = elim (cases_Bool (can_run sys rows c v x)) [
    | inr b ↦
        ap (λ (q : Bool). q && (nat_lt (used sys rows run v y) (budget_at budgets v) || (part_at sys v).extra))
        (runs_same v y l t ∙ b)
        ∙ sym
        (ap (λ (q : Bool). q && (nat_lt (used sys rows run v x) (budget_at budgets v) || (part_at sys v).extra)) b)
    | inl b ↦
        let s : Same v y = same_at v y l t alike (runs_is v b) in
        ap (λ (q : Bool). q && (nat_lt (used sys rows run v y) (budget_at budgets v) || (part_at sys v).extra))
        (runs_same v y l t)
        ∙ ap (λ (q : Bool). can_run sys rows c v x && (q || (part_at sys v).extra)) s.left
  ]

  before_same : (u v y : ℕ) → Same u y → Same v y
      → goes_before sys budgets rows run y u v ≡ goes_before sys budgets rows run x u v
  before_same u v y a b =
      ap (λ (l : ℕ). goes_first l (deadline_at sys rows u y) u (level_at sys budgets rows run v y)
      (deadline_at sys rows v y) v) a.level
      ∙ (ap (λ (d : ℕ). goes_first (level_at sys budgets rows run u x) d u (level_at sys budgets rows run v y)
      (deadline_at sys rows v y) v) a.deadline
      ∙ (ap (λ (l : ℕ). goes_first (level_at sys budgets rows run u x) (deadline_at sys rows u x) u l
      (deadline_at sys rows v y) v) b.level
      ∙ ap (λ (d : ℕ). goes_first (level_at sys budgets rows run u x) (deadline_at sys rows u x) u
      (level_at sys budgets rows run v x) d v) b.deadline))

  eligible_runs : (v : ℕ) → is_eligible sys budgets rows c run v x ≡ true → Runs v
  eligible_runs v h =
      runs_is v (and_parts (can_run sys rows c v x)
      (nat_lt (used sys rows run v x) (budget_at budgets v) || (part_at sys v).extra) h).0

  entry_same : (y : ℕ) → x ≤ y → y < to → AlikeTo y → (o : Option ℕ) → RtdsEntry sys budgets rows c run x o
      → RtdsEntry sys budgets rows c run y o
  entry_same y l t alike o e = record {
    idle = λ q v. eligible_same v y l t alike ∙ e.idle q v;
    named = λ v q. eligible_same v y l t alike ∙ e.named v q;
    first = λ u v q h.
        let eu : is_eligible sys budgets rows c run u x ≡ true = sym (eligible_same u y l t alike) ∙ h in
        before_same u v y (same_at u y l t alike (eligible_runs u eu))
        (same_at v y l t alike (eligible_runs v (e.named v q))) ∙ e.first u v q eu;
  }

  alike_to : to ≤ n → (m : ℕ) → x + m ≤ to → AlikeTo (x + m)
  alike_to fits zero l z a b = absurd (omega arith)
  alike_to fits (suc m) l z a b = elim (cases_lt z (x + m)) [
    | inl h ↦ alike_to fits m (omega arith) z a h
    | inr h ↦
        let e : z ≡ x + m = omega arith in
        let before : AlikeTo (x + m) = alike_to fits m (omega arith) in
        let entry : RtdsEntry sys budgets rows c run x (held run x) = is.each x (omega (arith, next.later)) in
        subst (λ (y : ℕ). held run y ≡ held run x) (sym e)
        (entry_unique sys budgets rows c run (x + m) (held run (x + m)) (held run x) (is.each (x + m) (omega arith))
        (entry_same (x + m) (omega arith) (omega arith) before (held run x) entry))
  ]

  -- the core keeps its VCPU
  pub alike : to ≤ n → (z : ℕ) → x ≤ z → z < to → held run z ≡ held run x
  alike fits z a b = alike_to fits (to - x) (omega (arith, next.later)) z a (omega (arith, next.later))

  -- the account of a VCPU at the next slot, by whether its period ends there and whether it has its
  -- core
  ended_account : (v : ℕ) → v < length sys.parts → (r : List (Option ℕ)) (a : Account)
      → HasNumbers sys budgets v a → IsAccount sys budgets rows r v x k a → a.started ≡ true → to ≡ a.until
      → IsAccount sys budgets rows r v to k (renewed a (to + a.period))
  ended_account v l r a n h on end =
      let p : IsInPeriod sys budgets rows r v x a = h.in_period on in
      let some : 1 ≤ (part_at sys v).period = omega (arith, plan.some_budget v l, plan.in_period v l) in
      let number : period_number (part_at sys v).period (start_of rows v) to
      ≡ suc (period_number (part_at sys v).period (start_of rows v) x)
      = number_next (part_at sys v).period (start_of rows v) x to some (omega (arith, end, p.until_is)) in
      let from : period_from sys rows v to ≡ to
      = ap (λ (q : ℕ). begins (part_at sys v).period (start_of rows v) q) number ∙ sym (end ∙ p.until_is) in
      let none : used sys rows r v to ≡ 0
      = ap (λ (b : ℕ). count_between (λ y. holds (held r y) v) b to) from
      ∙ none_between (λ y. holds (held r y) v) to in
      record {
        started = h.started;
        blocked = h.blocked;
        in_period =
            λ _. record {
              until_is = omega (arith, from, n.period_is);
              level_is = sym (ap (λ (g : ℕ). g / budget_at budgets v) none ∙ zero-div (budget_at budgets v));
              left_is =
                  n.budget_is
                  ∙ sym (ap (λ (g : ℕ). left_of g (budget_at budgets v)) none
                  ∙ all_left (budget_at budgets v) (plan.some_budget v l));
              begun = omega (arith, n.period_is);
              not_over = omega (arith, some, n.period_is);
            };
      }

  -- a period that goes on
  record GoesOn (v : ℕ) (r : List (Option ℕ)) (a : Account) (more : ℕ) : Type 0 where
    end_is : a.until ≡ deadline_at sys rows v to
    count_is : used sys rows r v to ≡ used sys rows r v x + more
    near : a.until ≤ to + (part_at sys v).period

  goes_on : (v : ℕ) (r : List (Option ℕ)) → ((z : ℕ) → x ≤ z → z < to → held r z ≡ held r x) → (a : Account)
      → IsInPeriod sys budgets rows r v x a → to < a.until → GoesOn v r a (cond (holds (held r x) v) (to - x) 0)
  goes_on v r same a p below =
      let e : x + (to - x) ≡ to = omega (arith, next.later) in
      let number : period_number (part_at sys v).period (start_of rows v) to
      ≡ period_number (part_at sys v).period (start_of rows v) x
      = number_same (part_at sys v).period (start_of rows v) x to (omega (arith, p.until_is, p.begun))
      (omega (arith, next.later)) (omega (arith, p.until_is, below)) in
      let count : count_between (λ z. holds (held r z) v) (period_from sys rows v x) (x + (to - x))
      ≡ count_between (λ z. holds (held r z) v) (period_from sys rows v x) x
      + cond (holds (held r x) v) (to - x) 0
      =
      between_alike (λ z. holds (held r z) v) (holds (held r x) v) (period_from sys rows v x) x (to - x)
      (omega (arith, p.until_is, p.begun))
      (λ z i j. ap (λ (o : Option ℕ). holds o v) (same z i (omega (arith, next.later)))) in
      record {
        end_is =
            p.until_is
            ∙ sym (ap (λ (q : ℕ). begins (part_at sys v).period (start_of rows v) (suc q)) number);
        count_is =
            ap (λ (q : ℕ). count_between (λ z. holds (held r z) v)
            (begins (part_at sys v).period (start_of rows v) q) to) number
            ∙ (ap (λ (z : ℕ). count_between (λ z. holds (held r z) v) (period_from sys rows v x) z)
            (sym e) ∙ count);
        near = omega (arith, p.begun, next.later);
      }

  -- what is had of a budget, and what is left of it
  had_is : (a : Account) (g slots b : ℕ) → 1 ≤ b → a.budget ≡ b → a.level ≡ g / b → a.left ≡ left_of g b
      → slots ≤ a.left
      → ((used_more a true slots).level ≡ (g + slots) / b) × ((used_more a true slots).left ≡ left_of (g + slots) b)
  had_is a g slots b some budget level left most = elim (cases_lt slots a.left) [
    | inl l ↦
        let same : (g + slots) / b ≡ g / b = same_quotient g slots b some (omega (arith, l, left)) in
        let is : nat_lt slots a.left ≡ true = lt-ltb slots a.left l in
        let rest : a.left - slots ≡ left_of (g + slots) b
        = omega (arith, left, l, some, ap (λ (z : ℕ). z * b) same) in (
          ap (λ (q : Bool). (cond q (using a slots) (had_budget a)).level) is
              ∙ (level ∙ sym same),
          ap (λ (q : Bool). (cond q (using a slots) (had_budget a)).left) is ∙ rest,
        )
    | inr m ↦
        let whole : (g + slots) / b ≡ suc (g / b) = whole_level g slots b some (omega (arith, m, most, left)) in
        let is : nat_lt slots a.left ≡ false = le-ltb slots a.left m in
        let rest : a.budget ≡ left_of (g + slots) b
        = budget ∙ omega (arith, left, m, most, some, ap (λ (z : ℕ). z * b) whole) in (
          ap (λ (q : Bool). (cond q (using a slots) (had_budget a)).level) is
              ∙ (ap suc level ∙ sym whole),
          ap (λ (q : Bool). (cond q (using a slots) (had_budget a)).left) is ∙ rest,
        )
  ]

  going_account : (v : ℕ) → v < length sys.parts → (r : List (Option ℕ))
      → ((z : ℕ) → x ≤ z → z < to → held r z ≡ held r x) → (a : Account) (has : Bool) → has ≡ holds (held r x) v
      → (has ≡ true → to ≤ x + a.left) → HasNumbers sys budgets v a
      → IsAccount sys budgets rows r v x k a → (a.started ≡ true → to < a.until)
      → IsAccount sys budgets rows r v to k (used_more a has (to - x))
  going_account v l r same a true is_has most n h below =
      let b : ℕ = budget_at budgets v in
      record {
        started = started_more a true (to - x) ∙ h.started;
        blocked = blocked_more a true (to - x) ∙ h.blocked;
        in_period = λ on.
            let on_before : a.started ≡ true = sym (started_more a true (to - x)) ∙ on in
            let p : IsInPeriod sys budgets rows r v x a = h.in_period on_before in
            let end : (used_more a true (to - x)).until ≡ a.until = until_more a true (to - x) in
            let on_it = goes_on v r same a p (below on_before) in
            let used_to : used sys rows r v to ≡ used sys rows r v x + (to - x)
            = on_it.count_is
            ∙ ap (λ (q : Bool). used sys rows r v x + cond q (to - x) 0) (sym is_has) in
            let had = had_is a (used sys rows r v x) (to - x) b (plan.some_budget v l) n.budget_is p.level_is p.left_is
            (omega (arith, most refl)) in
            record {
              until_is = end ∙ on_it.end_is;
              level_is = had.0 ∙ sym (ap (λ (g : ℕ). g / b) used_to);
              left_is = had.1 ∙ sym (ap (λ (g : ℕ). left_of g b) used_to);
              begun = omega (arith, end, on_it.near);
              not_over = omega (arith, end, below on_before);
            };
      }
  going_account v l r same a false is_has most n h below = record {
    started = h.started;
    blocked = h.blocked;
    in_period = λ on.
        let p : IsInPeriod sys budgets rows r v x a = h.in_period on in
        let on_it = goes_on v r same a p (below on) in
        let used_to : used sys rows r v to ≡ used sys rows r v x
        = on_it.count_is
        ∙ (ap (λ (q : Bool). used sys rows r v x + cond q (to - x) 0) (sym is_has)
        ∙ (let e : used sys rows r v x + 0 ≡ used sys rows r v x = omega arith in e)) in
        record {
          until_is = on_it.end_is;
          level_is = p.level_is ∙ sym (ap (λ (g : ℕ). g / budget_at budgets v) used_to);
          left_is = p.left_is ∙ sym (ap (λ (g : ℕ). left_of g (budget_at budgets v)) used_to);
          begun = on_it.near;
          not_over = below on;
        };
  }

  gone_account : (v : ℕ) → v < length sys.parts → (r : List (Option ℕ))
      → ((z : ℕ) → x ≤ z → z < to → held r z ≡ held r x) → (a : Account) (has : Bool) → has ≡ holds (held r x) v
      → (has ≡ true → to ≤ x + a.left) → HasNumbers sys budgets v a
      → IsAccount sys budgets rows r v x k a → to ≤ a.until
      → IsAccount sys budgets rows r v to k (gone_on a has (to - x) to)
  gone_account v l r same a has is_has most n h in_period =
      elim (cases_Bool (to == a.until)) [
        | inl e ↦
            subst (λ (z : Account). IsAccount sys budgets rows r v to k z)
            (sym (ap (λ (q : Bool). cond q (renewed a (to + a.period)) (used_more a has (to - x))) e))
            (elim (cases_Bool a.started) [
              | inl on ↦ ended_account v l r a n h on (eqb-true to a.until e)
              | inr off ↦ record {
                started = h.started;
                blocked = h.blocked;
                in_period = λ on. absurd (both_ways a.started off on);
              }
            ])
        | inr e ↦
            subst (λ (z : Account). IsAccount sys budgets rows r v to k z)
            (sym (ap (λ (q : Bool). cond q (renewed a (to + a.period)) (used_more a has (to - x))) e))
            (going_account v l r same a has is_has most n h (λ on. elim (cases_eq to a.until) [
              | inl q ↦ absurd (both_ways _ e (eq-eqb to a.until q))
              | inr ne ↦ omega (arith, in_period, ne)
            ]))
      ]

  -- the accounts of the core at the next slot
  pub gone_accounts : to ≤ n → (v : ℕ) → v < length sys.parts → is_child sys (Core c) v ≡ true
      → IsAccount sys budgets rows run v to k (gone_on (its v) (holds holder v) (to - x) to)
  gone_accounts fits v l child =
      gone_account v l run (alike fits) (its v) (holds holder v)
      (ap (λ (o : Option ℕ). holds o v) next.holder_is) (λ has. next.in_budget v (holds-is holder v has))
      (next.numbers v l child) (next.are v l child) (next.in_period v l child)
