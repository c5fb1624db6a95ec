-- A run of a core serves by deadline on level 0.
use Rattle.std.proofs.Common.{◌≡◌, ℕ, ◌+◌, ◌<◌, ◌≤◌, Bool, true, false, ◌||◌, nat_lt, length, Option, Some, None, refl, sym, ◌∙◌, ap, arith, inl, inr, lt-ltb}
use Rattle.std.proofs.Math.Nat.{div-eq_of_lt}
use Rattle.std.proofs.lemmas.Nat.{le-div}
use Rattle.std.proofs.lemmas.Bool.{cases_lt, both_ways, and_from, and_parts}
use Rattle.slot_model.specs.Run.{held}
use Rattle.tree_model.specs.System.{part_at}
use Rattle.rtds_model.specs.Rtds.{deadline_at, used, level_at, is_eligible}
use Rattle.rtds_queues.specs.Keys.{goes_first}
use Rattle.rtds_model.specs.Demand.{later}
use Rattle.rtds_model.proofs.Windows.{ServesByDeadline}
use Rattle.rtds_model.proofs.Goes.{Goes, place_goes}
use Rattle.rtds_model.proofs.Setting.{Setting, IsCoreRun, period, budget, start, on, able, on_is, on_from, Runs, runs_is}

-- of a VCPU at a slot: the slots that it has had in its period, its level, its deadline, and
-- whether it is eligible
abbrev pub used_in : Setting → ℕ → ℕ → ℕ
used_in s u x = used s.sys s.rows s.run u x

abbrev pub level_in : Setting → ℕ → ℕ → ℕ
level_in s u x = level_at s.sys s.budgets s.rows s.run u x

abbrev pub deadline_in : Setting → ℕ → ℕ → ℕ
deadline_in s u x = deadline_at s.sys s.rows u x

abbrev pub eligible_in : Setting → ℕ → ℕ → Bool
eligible_in s u x = is_eligible s.sys s.budgets s.rows s.core s.run u x

-- the run goes by an order
pub record RunBy (sooner : ℕ → ℕ → ℕ → ℕ → ℕ → ℕ → Bool) (s : Setting) : Type 0 where
  pub idle : (x : ℕ) → x < s.slots → held s.run x ≡ None → (v : ℕ) → eligible_in s v x ≡ false
  pub named : (x v : ℕ) → x < s.slots → held s.run x ≡ Some v → eligible_in s v x ≡ true
  pub first : (x u v : ℕ) → x < s.slots → held s.run x ≡ Some v → eligible_in s u x ≡ true
      → sooner (level_in s u x) (deadline_in s u x) u (level_in s v x) (deadline_in s v x) v ≡ false

-- what holds a slot can run there
pub holder_runs : {sooner : ℕ → ℕ → ℕ → ℕ → ℕ → ℕ → Bool} (s : Setting) → RunBy sooner s → (x u : ℕ) → x < s.slots
    → held s.run x ≡ Some u → Runs s u x
holder_runs s is x u l e =
    runs_is s u x
    (and_parts (able s u x) (nat_lt (used_in s u x) (budget s u) || (part_at s.sys u).extra) (is.named x u l e)).0

-- it serves by deadline
abbrev pub Serves : (ℕ → ℕ → ℕ) → Setting → Type 0
Serves tie s =
    ServesByDeadline tie (length s.sys.parts) s.slots (period s) (budget s) (start s) (on s) (able s) s.run

module _ (s : Setting) {sooner : ℕ → ℕ → ℕ → ℕ → ℕ → ℕ → Bool} {tie : ℕ → ℕ → ℕ} (goes : Goes sooner tie)
    (is : RunBy sooner s) where
  eligible_from : (u x : ℕ) → able s u x ≡ true → used_in s u x < budget s u → eligible_in s u x ≡ true
  eligible_from u x a l =
      and_from (able s u x) (nat_lt (used_in s u x) (budget s u) || (part_at s.sys u).extra) a
      (ap (λ (b : Bool). b || (part_at s.sys u).extra) (lt-ltb _ _ l))

  record IsChosen (x w u : ℕ) : Type 0 where
    has_budget : used_in s u x < budget s u
    no_later : deadline_in s u x + tie w u ≤ deadline_in s w x

  -- one with budget left that can run lets no other go first but one with budget left and no later
  -- deadline
  is_chosen : (x w u : ℕ) → x < s.slots → able s w x ≡ true → used_in s w x < budget s w → held s.run x ≡ Some u
      → IsChosen x w u
  is_chosen x w u l a h e =
      let not_before = is.first x w u l e (eligible_from w x a h) in
      let some : 1 ≤ budget s u = s.plan.some_budget u (holder_runs s is x u l e).started_on.is_part in
      let zero_w : level_in s w x ≡ 0 = div-eq_of_lt h in
      elim (cases_lt (used_in s u x) (budget s u)) [
        | inr q ↦
            absurd (both_ways _ not_before (goes.by_level (level_in s w x) (deadline_in s w x) w (level_in s u x)
            (deadline_in s u x) u (omega (arith, zero_w, le-div 1 (used_in s u x) (budget s u) some (omega arith)))))
        | inl q ↦ record {
          has_budget = q;
          no_later = elim (cases_lt (deadline_in s w x) (deadline_in s u x + tie w u)) [
            | inr d ↦ d
            | inl d ↦
                let zero_u : level_in s u x ≡ 0 = div-eq_of_lt q in
                absurd (both_ways _ not_before (goes.by_end (level_in s w x) (deadline_in s w x) w (level_in s u x)
                (deadline_in s u x) u (zero_w ∙ sym zero_u) d))
          ];
        }
      ]

  chosen : (x w : ℕ) → x < s.slots → able s w x ≡ true → used_in s w x < budget s w
      → (u : ℕ) × (held s.run x ≡ Some u) × (used_in s u x < budget s u)
      × (deadline_in s u x + tie w u ≤ deadline_in s w x)
  chosen x w l a h = go (held s.run x) refl
    where
      go : (o : Option ℕ) → held s.run x ≡ o
          → (u : ℕ) × (held s.run x ≡ Some u) × (used_in s u x < budget s u)
          × (deadline_in s u x + tie w u ≤ deadline_in s w x)
      go None e = absurd (both_ways _ (is.idle x l e w) (eligible_from w x a h))
      go (Some u) e = let c : IsChosen x w u = is_chosen x w u l a h e in (u, e, c.has_budget, c.no_later)

  pub serves : Serves tie s
  serves = record {
    tie_few = goes.tie_few;
    tie_itself = goes.tie_itself;
    tie_in_turn = goes.tie_in_turn;
    some_budget = λ u o. s.plan.some_budget u (on_is s u o).is_part;
    in_period = λ u o. s.plan.in_period u (on_is s u o).is_part;
    of_core = λ x u l e. (holder_runs s is x u l e).started_on.is_part;
    is_on = λ x u l e. on_from s u (holder_runs s is x u l e).started_on;
    is_started = λ x u l e. (holder_runs s is x u l e).by_then;
    chosen = chosen;
  }

-- the run of the core goes by the order of the file
pub by_place : (s : Setting) → IsCoreRun s → RunBy goes_first s
by_place s is =
    record {
      idle = λ x l e. (is.each x l).idle e;
      named = λ x v l e. (is.each x l).named v e;
      first = λ x u v l e h. (is.each x l).first u v e h;
    }

pub serves_by_place : (s : Setting) → IsCoreRun s → Serves later s
serves_by_place s is = serves s place_goes (by_place s is)
