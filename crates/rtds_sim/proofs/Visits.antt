-- What a visit of a slot tells, and that nothing is told until the next one.
use Rattle.std.proofs.Common.{◌≡◌, ℕ, zero, suc, ◌<◌, ◌≤◌, Bool, true, false, not, cond, ◌&&◌, List, [], length, Option, Some, None, refl, sym, ◌∙◌, ap, arith, inl, inr, eq-eqb, eqb-true, ◌==◌}
use Rattle.std.proofs.lemmas.Bool.{cases_lt, and_parts, not-true}
use Rattle.std.proofs.lemmas.Option.{none-some}
use Rattle.slot_model.specs.Run.{held}
use Rattle.tree_model.specs.View.{SystemView}
use Rattle.trace_file.specs.declared.event.What.TheVariants.{Stop, Run}
use Rattle.rtds_queues.specs.Accounts.{account_at}
use Rattle.rtds_sim.specs.declared.host_core.HostCore.{HostCore}
use Rattle.release_file.specs.declared.workload.Wake.{Wake as Row}
use Rattle.release_file.specs.Workload.{is_started_at, is_blocked_at}
use Rattle.rtds_model.specs.Rtds.{can_run, CoreRun}
use Rattle.rtds_sim.specs.inner.Running.{RowsFrom, Stands}
use Rattle.rtds_trace.specs.Printed.{gathered, on_at, on_core_at, switch_to, holder_before, is_blocked_one, holder_left, row_event_at, switch_on, AreBefore}
use Rattle.rtds_sim.specs.inner.Accounts.{part_of, holder_of, is_blocked_in, gives_up, core_left, IsReady}
use Rattle.rtds_model.proofs.Runs.{eligible_runs}
use Rattle.rtds_trace.proofs.Gathered.{gathered-none}
use Rattle.rtds_trace.proofs.Rows.{row_none, blocked_by}
use Rattle.rtds_sim.proofs.Steady.{taken_by}

-- a core that keeps its VCPU tells nothing
pub switch_none : (o : Option ℕ) → switch_to o o ≡ None
switch_none None = refl
switch_none (Some v) = ap (λ (b : Bool). cond b None (Some (Run v))) (eq-eqb v v refl)

-- and one that tells nothing keeps it
pub no_switch : (c x : ℕ) (holder next : Option ℕ) → on_core_at c x (switch_to holder next) ≡ None → holder ≡ next
no_switch c x None None e = refl
no_switch c x (Some u) None e = absurd (none-some (on_at c x Stop) (sym e))
no_switch c x None (Some v) e = absurd (none-some (on_at c x (Run v)) (sym e))
no_switch c x (Some u) (Some v) e = go (u == v) refl e
  where
    go : (b : Bool) → (u == v) ≡ b → on_core_at c x (cond b None (Some (Run v))) ≡ None → Some u ≡ Some v
    go true same q = ap Some (eqb-true u v same)
    go false same q = absurd (none-some (on_at c x (Run v)) (sym q))

-- where no row comes at x, what has a core when x comes is not blocked there
pub none_blocks : (sys : SystemView) (budgets : List ℕ) (rows : List Row) (n c : ℕ) (run : List (Option ℕ))
    → CoreRun sys budgets rows n c run → (x k : ℕ) → AreBefore rows k x → AreBefore rows k (suc x) → x < n
    → is_blocked_one rows x (holder_before run x) ≡ false
none_blocks sys budgets rows n c run is zero k before after l = refl
none_blocks sys budgets rows n c run is (suc y) k before after l = go (held run y) refl
  where
    go : (o : Option ℕ) → held run y ≡ o → is_blocked_one rows (suc y) o ≡ false
    go None e = refl
    go (Some v) e =
        let h : can_run sys rows c v y ≡ true
        = eligible_runs sys budgets rows c run v y ((is.each y (omega arith)).named v e) in
        let q
        = and_parts (is_started_at rows v y) (not (is_blocked_at rows v y))
        (and_parts _ (is_started_at rows v y && not (is_blocked_at rows v y)) h).1 in
        blocked_by rows v (suc y) k after ∙ (sym (blocked_by rows v y k before) ∙ not-true (is_blocked_at rows v y) q.1)

-- a slot at which no row comes, behind one whose rows are taken
before_by : (rows : List Row) (k x to : ℕ) → AreBefore rows k (suc x) → RowsFrom rows k to → (y : ℕ) → x < y → y < to
    → AreBefore rows k y
before_by rows k x to taken later zero a b = absurd (omega arith)
before_by rows k x to taken later (suc y) a b = taken_by rows k x to y taken later (omega arith) (omega arith)

module _ (sys : SystemView) (budgets : List ℕ) (rows : List Row) (n c : ℕ) (run : List (Option ℕ))
    (is : CoreRun sys budgets rows n c run) (x k to : ℕ) (fits : to ≤ n) (taken : AreBefore rows k (suc x))
    (later : RowsFrom rows k to) where
  blocks_none : (y : ℕ) → x < y → y < to → is_blocked_one rows y (holder_before run y) ≡ false
  blocks_none y a b =
      none_blocks sys budgets rows n c run is y k (before_by rows k x to taken later y a b)
      (taken_by rows k x to y taken later (omega arith) b) (omega (arith, fits))

  -- so at such a slot no core stops, and each still has what it had
  pub stops_none : (y : ℕ) → x < y → y < to
      → cond (is_blocked_one rows y (holder_before run y)) (Some (on_at c y Stop)) None ≡ None
  stops_none y a b = ap (λ (q : Bool). cond q (Some (on_at c y Stop)) None) (blocks_none y a b)

  pub left_before : (y : ℕ) → x < y → y < to → holder_left rows run y ≡ holder_before run y
  left_before y a b = ap (λ (q : Bool). cond q None (holder_before run y)) (blocks_none y a b)

  -- and nothing is told where it holds what it held at the slot before
  pub switch_quiet : (y : ℕ) → x < y → y < to → holder_before run y ≡ held run y → switch_on rows run y c ≡ None
  switch_quiet y a b same =
      ap (λ (o : Option ℕ). on_core_at c y (switch_to o (held run y))) (left_before y a b ∙ same)
      ∙ ap (on_core_at c y) (switch_none (held run y))

-- nor is any row
pub rows_none : (sys : SystemView) (rows : List Row) (x k to : ℕ) → AreBefore rows k (suc x) → RowsFrom rows k to
    → (y : ℕ) → x < y → y < to → gathered (row_event_at sys rows y) (length rows) ≡ []
rows_none sys rows x k to taken later y a b =
    gathered-none (row_event_at sys rows y) (length rows) (λ i l. row_none sys rows y i
    (λ e. elim (cases_lt i k) [ inl h ↦ omega (arith, e, taken.past i h) | inr h ↦ omega (arith, e, later i h l) ]))

-- a core whose VCPU blocks stops
module _ (sys : SystemView) (budgets : List ℕ) (rows : List Row) (c : ℕ) (run : List (Option ℕ)) (x k : ℕ)
    (taken : AreBefore rows k (suc x)) (core : HostCore) (stands : Stands sys budgets rows c run x k core)
    (held_in : (v : ℕ) → core.holder ≡ Some v → v < length core.vcpus)
  where
    blocked_is : (o : Option ℕ) → ((v : ℕ) → o ≡ Some v → v < length core.vcpus)
        → is_blocked_in core.vcpus o ≡ is_blocked_one rows x (part_of core.vcpus o)
    blocked_is None h = refl
    blocked_is (Some v) h =
        (stands.are.each v (h v refl)).blocked ∙ sym (blocked_by rows (account_at core.vcpus v).part x k taken)

    pub gives_up_is : gives_up core ≡ is_blocked_one rows x (holder_before run x)
    gives_up_is = blocked_is core.holder held_in ∙ ap (is_blocked_one rows x) stands.holder_is

    pub left_is : holder_of (core_left core) ≡ holder_left rows run x
    left_is =
        left_by (gives_up core)
        ∙ (ap (λ (q : Bool). cond q None (part_of core.vcpus core.holder)) gives_up_is
        ∙ ap (λ (o : Option ℕ). cond (is_blocked_one rows x (holder_before run x)) None o) stands.holder_is)
      where
        left_by : (b : Bool)
            → holder_of (cond b (record core { holder = None }) core)
            ≡ cond b None (part_of core.vcpus core.holder)
        left_by true = refl
        left_by false = refl

-- a core that stops keeps its VCPUs
pub left_vcpus : (core : HostCore) → (core_left core).vcpus ≡ core.vcpus
left_vcpus core = go (gives_up core)
  where
    go : (b : Bool) → (cond b (record core { holder = None }) core).vcpus ≡ core.vcpus
    go true = refl
    go false = refl

-- and stands ready
pub left_ready : (time : ℕ) (core : HostCore) → IsReady time core → IsReady time (core_left core)
left_ready time core h = go (gives_up core)
  where
    go : (b : Bool) → IsReady time (cond b (record core { holder = None }) core)
    go true = record {
      sound = h.sound;
      in_turn = h.in_turn;
      ends = h.ends;
      holder = λ v e. absurd (none-some v e);
    }
    go false = h
