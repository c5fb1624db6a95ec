-- A VCPU that is isolated is spared in traces, too.
use Rattle.std.proofs.Common.{◌≡◌, ℕ, suc, min, ◌*◌, ◌/◌, ◌<◌, ◌≤◌, Bool, true, not, ◌&&◌, List, length, Option, Some, sym, ◌∙◌, ap, arith, subst}
use Rattle.slot_model.specs.declared.task.TheConstants.{LIMIT}
use Rattle.tree_model.specs.declared.place.Parent.{Parent}
use Rattle.tree_model.specs.declared.place.Place.TheVariants.{Core}
use Rattle.tree_model.specs.View.{SystemView}
use Rattle.tree_model.specs.System.{part_at, IsSystem}
use Rattle.tree_model.specs.Tree.{is_child, run_at}
use Rattle.tree_model.specs.Plans.{IsPlan}
use Rattle.trace_file.specs.declared.event.Event.{Event}
use Rattle.trace_file.specs.Events.{start_of as start_in, end_of, has_core_at}
use Rattle.trace_file.specs.Periods.{period_of, blocked, running, begins, count_between}
use Rattle.trace_file.proofs.Moments.{child_parent}
use Rattle.release_file.specs.declared.workload.Wake.{Wake}
use Rattle.release_file.specs.Workload.{start_of, is_blocked_at, IsWorkload}
use Rattle.rtds_model.specs.Rtds.{CoreRun, RtdsRun}
use Rattle.rtds_trace.specs.Printed.{printed}
use Rattle.rtds_trace.proofs.Traced.{scaled, end_is, blocked_is, has_core, StartedAt, started_at, begins_is}
use Rattle.halting.specs.Stolen.{is_stolen, stolen_in}
use Rattle.isolated_guests.specs.Spared.{has_slot, IsSparedInRuns, IsSparedInTrace, IsolatedAreSparedInTraces}
use Rattle.isolated_guests.proofs.Spared.{core_within, spared_by_place}

module _ (sys : SystemView) (system : IsSystem sys) (budgets : List ℕ) (plan : IsPlan sys budgets) (rows : List Wake)
    (workload : IsWorkload sys rows) (n : ℕ) (runs : List (List (Option ℕ))) (is : RtdsRun sys budgets rows n runs)
    (fits : n ≤ LIMIT) where
  abbrev events : List Event
  events = printed sys rows runs n

  module _ (c v : ℕ) (lc : c < length sys.cores) (l : v < length sys.parts) (child : is_child sys (Core c) v ≡ true)
    where
      abbrev by_slot : ℕ → Bool
      by_slot = is_stolen (is_blocked_at rows v) (has_slot (run_at runs c) v)

      abbrev by_moment : ℕ → Bool
      by_moment = is_stolen (blocked events v) (running sys events v)

      same_at : (m : ℕ) → m < n * 1000 → by_moment m ≡ by_slot (m / 1000)
      same_at m h =
          ap (λ (b : Bool). not b && not (running sys events v m))
          (blocked_is sys system budgets plan rows workload n runs is fits m h v)
          ∙ ap (λ (b : Bool). not (is_blocked_at rows v (m / 1000)) && not b)
          (ap (λ (p : Parent). has_core_at p events v m) (child_parent sys c v child)
          ∙ has_core sys system budgets plan rows workload n runs is fits m h c v lc)

      spared : (f : ℕ) → IsSparedInRuns CoreRun sys budgets c v → start_in events v ≡ Some f
          → IsSparedInTrace sys budgets events v f
      spared f in_runs h k =
          let P : ℕ = (part_at sys v).period in
          let F : ℕ = start_of rows v in
          let s : StartedAt sys system budgets plan rows workload n runs is fits v f
          = started_at sys system budgets plan rows workload n runs is fits v f h in
          let from : begins (period_of sys v) f k ≡ begins P F k * 1000
          = begins_is sys system budgets plan rows workload n runs is fits v f k s in
          let E : ℕ = min (begins P F (suc k)) n in
          let until : min (begins (period_of sys v) f (suc k)) (end_of events) ≡ E * 1000
          = omega (
            arith,
            begins_is sys system budgets plan rows workload n runs is fits v f (suc k) s,
            end_is sys system budgets plan rows workload n runs is fits,
          ) in
          let same : stolen_in (blocked events v) (running sys events v) (period_of sys v) f (end_of events) k
          ≡ stolen_in (is_blocked_at rows v) (has_slot (run_at runs c) v) P F n k * 1000
          = ap (λ (z : ℕ). count_between by_moment z (min (begins (period_of sys v) f (suc k)) (end_of events))) from
          ∙ (ap (λ (z : ℕ). count_between by_moment (begins P F k * 1000) z) until
          ∙ scaled by_moment by_slot (begins P F k) E (λ m b. same_at m (omega (arith, b)))) in
          omega (
            arith,
            same,
            in_runs rows n (run_at runs c) workload (is.cores c lc)
                (record { is_part = l; on_core = child; started = s.started }) k,
          )

pub isolated_are_spared_in_traces : IsolatedAreSparedInTraces
isolated_are_spared_in_traces sys budgets c v t system plan l child by rows n events f workload length_is trace h =
    subst (λ (es : List Event). IsSparedInTrace sys budgets es v f) (sym trace.2)
    (spared sys system budgets plan rows workload n trace.0 trace.1 (omega (arith, length_is.1)) c v
    (core_within sys system c v l child) l child f (spared_by_place sys budgets plan c v t by)
    (subst (λ (es : List Event). start_in es v ≡ Some f) trace.2 h))
