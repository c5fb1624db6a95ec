-- What is kept in a run is kept in its trace, and what is short in it is short there.
use Rattle.std.proofs.Common.{◌≡◌, ℕ, suc, ◌+◌, ◌*◌, ◌/◌, ◌<◌, ◌≤◌, nat_le, true, false, List, length, Option, Some, refl, sym, ◌∙◌, ap, arith, subst, eq-eqb, le-leb}
use Rattle.std.proofs.lemmas.Bool.{and_from}
use Rattle.slot_model.specs.declared.task.TheConstants.{LIMIT}
use Rattle.tree_model.specs.declared.place.Parent.{Parent}
use Rattle.tree_model.specs.declared.place.Place.TheVariants.{Core}
use Rattle.tree_model.specs.View.{SystemView}
use Rattle.tree_model.specs.System.{part_at, IsSystem}
use Rattle.tree_model.specs.Tree.{is_child, budget_at, run_at}
use Rattle.tree_model.specs.Plans.{IsPlan}
use Rattle.trace_file.specs.declared.event.Event.{Event}
use Rattle.trace_file.specs.Events.{start_of as trace_start, end_of}
use Rattle.trace_file.specs.Periods.{period_of, budget_of, blocked, begins, count_between, is_clear, got_in as trace_got, IsShort}
use Rattle.trace_file.proofs.Counting.{between_none, between_alike_to}
use Rattle.release_file.specs.declared.workload.Wake.{Wake}
use Rattle.release_file.specs.Workload.{start_of, is_blocked_at, IsWorkload}
use Rattle.rtds_model.specs.Rtds.{RtdsRun}
use Rattle.rtds_trace.specs.Printed.{core_of, printed}
use Rattle.rtds_model.specs.Giving.{ServersFit}
use Rattle.trace_file.proofs.Moments.{child_parent}
use Rattle.rtds_model.proofs.Runs.{rtds_run, rtds_run-is}
use Rattle.rtds_trace.proofs.Traced.{end_is, blocked_is, StartedAt, started_at, trace_starts, begins_is, got_whole}
use Rattle.isolation.specs.Keeping.{IsAwakeLast, got_in, KeepsBudget, IsBreakable, IsExposed}
use Rattle.isolation.specs.InTrace.{IsAwakeInTrace, KeepsInTrace, CanBeShort, IsExposedInTrace}

module _ (sys : SystemView) (system : IsSystem sys) (budgets : List ℕ) (plan : IsPlan sys budgets) (rows : List Wake)
    (workload : IsWorkload sys rows) (n : ℕ) (runs : List (List (Option ℕ))) (is : RtdsRun sys budgets rows n runs)
    (fits : n ≤ LIMIT) where
  abbrev events : List Event
  events = printed sys rows runs n

  -- a VCPU that is not blocked in the last slots of a period of the trace is not blocked in the run
  awake_last : (c v t f k : ℕ) → v < length sys.parts → is_child sys (Core c) v ≡ true
      → IsAwakeInTrace sys events v f k t → IsAwakeLast sys rows n c v k t
  awake_last c v t f k l child h =
      let s : StartedAt sys system budgets plan rows workload n runs is fits v f
      = started_at sys system budgets plan rows workload n runs is fits v f h.started in
      let end : end_of events ≡ n * 1000 = end_is sys system budgets plan rows workload n runs is fits in
      let to : begins (period_of sys v) f (suc k) ≡ begins (part_at sys v).period (start_of rows v) (suc k) * 1000
      = begins_is sys system budgets plan rows workload n runs is fits v f (suc k) s in
      let in_run : begins (part_at sys v).period (start_of rows v) (suc k) ≤ n
      = omega (arith, h.in_trace, end, to) in
      record {
        starts = record { is_part = l; on_core = child; started = s.started };
        in_run = in_run;
        awake = λ x lo hi.
            let slot : x * 1000 / 1000 ≡ x = omega arith in
            ap (is_blocked_at rows v) (sym slot)
            ∙ (sym (blocked_is sys system budgets plan rows workload n runs is fits (x * 1000)
            (omega (arith, hi, in_run)) v)
            ∙ h.awake (x * 1000) (omega (arith, lo, to)) (omega (arith, hi, to)));
      }

  kept : (c v t f k : ℕ) → c < length sys.cores → v < length sys.parts → is_child sys (Core c) v ≡ true
      → KeepsBudget sys budgets c v t → IsAwakeInTrace sys events v f k t
      → budget_of budgets v ≤ trace_got sys events v f k
  kept c v t f k lc l child keeps h =
      let s : StartedAt sys system budgets plan rows workload n runs is fits v f
      = started_at sys system budgets plan rows workload n runs is fits v f h.started in
      let a : IsAwakeLast sys rows n c v k t = awake_last c v t f k l child h in
      let enough : budget_at budgets v ≤ got_in sys rows (run_at runs c) v k
      = keeps rows n (run_at runs c) k workload (is.cores c lc) a in
      let here : got_in sys rows (run_at runs (core_of (part_at sys v).parent)) v k
      ≡ got_in sys rows (run_at runs c) v k
      = ap (λ (p : Parent). got_in sys rows (run_at runs (core_of p)) v k) (child_parent sys c v child) in
      omega (
        arith,
        enough,
        here,
        got_whole sys system budgets plan rows workload n runs is fits v f k s a.in_run,
      )

  -- and a period that is short in the run, in which its VCPU never blocks, is judged and short in
  -- the trace
  short : (c v k : ℕ) → c < length sys.cores → 1 ≤ (part_at sys v).period
      → IsAwakeLast sys rows n c v k (part_at sys v).period
      → got_in sys rows (run_at runs c) v k < budget_at budgets v
      → IsShort sys budgets events v (start_of rows v * 1000) k
  short c v k lc some a less =
      let P : ℕ = (part_at sys v).period in
      let F : ℕ = start_of rows v in
      let f : ℕ = F * 1000 in
      let started : trace_start events v ≡ Some f
      = trace_starts sys system budgets plan rows workload n runs is fits v a.starts.started
      (omega (arith, a.in_run, some)) in
      let s : StartedAt sys system budgets plan rows workload n runs is fits v f
      = started_at sys system budgets plan rows workload n runs is fits v f started in
      let end : end_of events ≡ n * 1000 = end_is sys system budgets plan rows workload n runs is fits in
      let from : begins (period_of sys v) f k ≡ begins P F k * 1000
      = begins_is sys system budgets plan rows workload n runs is fits v f k s in
      let to : begins (period_of sys v) f (suc k) ≡ begins P F (suc k) * 1000
      = begins_is sys system budgets plan rows workload n runs is fits v f (suc k) s in
      let next : begins P F (suc k) ≡ begins P F k + P = omega arith in
      let lo : ℕ = begins (period_of sys v) f k in
      let hi : ℕ = begins (period_of sys v) f (suc k) in
      let clear : (x : ℕ) → lo ≤ x → x < hi → blocked events v x ≡ false
      = λ x b d. blocked_is sys system budgets plan rows workload n runs is fits x (omega (arith, d, to, a.in_run)) v
      ∙ a.awake (x / 1000) (omega (arith, b, from, next)) (omega (arith, d, to)) in
      let none : count_between (blocked events v) lo hi ≡ 0
      = omega (
        arith,
        between_alike_to (blocked events v) false lo lo hi (omega arith) (omega (arith, from, to, next)) clear,
        between_none (blocked events v) lo lo (omega arith),
      ) in
      let here : got_in sys rows (run_at runs (core_of (part_at sys v).parent)) v k
      ≡ got_in sys rows (run_at runs c) v k
      = ap (λ (p : Parent). got_in sys rows (run_at runs (core_of p)) v k) (child_parent sys c v a.starts.on_core) in
      record {
        period = record {
          is_part = a.starts.is_part;
          started = started;
          in_trace = omega (arith, from, end, a.in_run, next, some);
        };
        judged =
            and_from (nat_le hi (end_of events)) (is_clear (blocked events v) (period_of sys v) f k)
            (le-leb hi (end_of events) (omega (arith, to, end, a.in_run)))
            (eq-eqb (count_between (blocked events v) lo hi) 0 none);
        short = omega (
          arith,
          less,
          here,
          got_whole sys system budgets plan rows workload n runs is fits v f k s a.in_run,
        );
      }

-- so of each trace
pub keeps_in_trace : (sys : SystemView) → IsSystem sys → (budgets : List ℕ) → IsPlan sys budgets → (c v t : ℕ)
    → c < length sys.cores → v < length sys.parts → is_child sys (Core c) v ≡ true → KeepsBudget sys budgets c v t
    → KeepsInTrace sys budgets v t
keeps_in_trace sys system budgets plan c v t lc l child keeps rows n events f k workload few trace h =
    subst (λ (es : List Event). budget_of budgets v ≤ trace_got sys es v f k) (sym trace.2)
    (kept sys system budgets plan rows workload n trace.0 trace.1 (omega (arith, few.1)) c v t f k lc l child keeps
    (subst (λ (es : List Event). IsAwakeInTrace sys es v f k t) trace.2 h))

pub can_be_short : (sys : SystemView) → IsSystem sys → (budgets : List ℕ) → IsPlan sys budgets → (c v most : ℕ)
    → c < length sys.cores → most ≤ 1000000 → IsBreakable sys budgets c v most → CanBeShort sys budgets v
can_be_short sys system budgets plan c v most lc few b =
    let l : v < length sys.parts = b.awake.starts.is_part in
    let some : 1 ≤ (part_at sys v).period = omega (arith, plan.some_budget v l, plan.in_period v l) in
    let in_limit : b.slots ≤ LIMIT = omega (arith, few, b.few_slots) in
    record {
      rows = b.rows;
      slots = b.slots;
      number = b.number;
      is_workload = b.is_workload;
      run_length = (omega (arith, b.awake.in_run, some), omega (arith, few, b.few_slots));
      some_trace = (
        printed sys b.rows (rtds_run sys budgets b.rows b.slots) b.slots,
        (rtds_run sys budgets b.rows b.slots, rtds_run-is sys budgets b.rows b.slots, refl),
      );
      short = λ events trace. (
        start_of b.rows v * 1000,
        subst (λ (es : List Event). IsShort sys budgets es v (start_of b.rows v * 1000) b.number) (sym trace.2)
            (short sys system budgets plan b.rows b.is_workload b.slots trace.0 trace.1 in_limit c v b.number lc some
            b.awake (b.short (run_at trace.0 c) (trace.1.cores c lc))),
      );
    }

pub exposed_in_trace : (sys : SystemView) → IsSystem sys → (budgets : List ℕ) → IsPlan sys budgets → (c v : ℕ)
    → c < length sys.cores → ServersFit sys budgets c → IsExposed sys budgets c v → IsExposedInTrace sys budgets c v
exposed_in_trace sys system budgets plan c v lc fit exposed longest up_to few =
    can_be_short sys system budgets plan c v (3 * longest) lc few
    (exposed longest fit up_to (omega (arith, few)))
