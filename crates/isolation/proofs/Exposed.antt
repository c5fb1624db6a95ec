-- What each answer means.
use Rattle.std.proofs.Common.{◌≡◌, ℕ, ◌+◌, ◌<◌, true, List, length, arith, subst, eqb-true}
use Rattle.std.proofs.lemmas.Bool.{false≢true}
use Rattle.tree_model.specs.declared.place.Parent.{Parent}
use Rattle.tree_model.specs.declared.place.Parent.TheVariants.{Core as core_parent, Part as part_parent}
use Rattle.tree_model.specs.declared.place.Place.TheVariants.{Core}
use Rattle.tree_model.specs.View.{SystemView}
use Rattle.tree_model.specs.System.{part_at, IsSystem, Stands}
use Rattle.tree_model.specs.Tree.{is_child, place_of, same_place, run_at}
use Rattle.tree_model.specs.Plans.{IsPlan}
use Rattle.trace_file.specs.Periods.{begins}
use Rattle.release_file.specs.Workload.{start_of}
use Rattle.rtds_model.specs.Giving.{ServersFit}
use Rattle.rtds_model.proofs.Runs.{rtds_run, rtds_run-is}
use Rattle.isolation.specs.declared.isolation.Isolation.{Isolation}
use Rattle.isolation.specs.declared.isolation.Isolation.TheVariants.{Isolated, ByTies, ByBlock}
use Rattle.rtds_model.specs.Demand.{later}
use Rattle.isolation.specs.Demand.{AsksTooMuch}
use Rattle.isolation.specs.Keeping.{IsExposed}
use Rattle.isolation.specs.Answer.{IsIsolation, Means, MeansInTrace}
use Rattle.isolation.proofs.Least.{in_file_order}
use Rattle.rtds_model.proofs.Setting.{setting}
use Rattle.isolation.proofs.Isolated.{keeps, keeps_openly}
use Rattle.isolation.proofs.Short.{IsWitness, short_period}
use Rattle.isolation.proofs.Breaking.{r, rows, is_workload, is_witness}
use Rattle.isolation.proofs.InTrace.{keeps_in_trace, exposed_in_trace}

-- the core of a VCPU is one of the system
pub core_of_child : (sys : SystemView) → IsSystem sys → (c v : ℕ) → v < length sys.parts
    → is_child sys (Core c) v ≡ true → c < length sys.cores
core_of_child sys is c v l child = go (part_at sys v).parent child (is.parents v l)
  where
    go : (p : Parent) → same_place (place_of p) (Core c) ≡ true → Stands sys v p → c < length sys.cores
    go (core_parent d) h stands = subst (λ (z : ℕ). z < length sys.cores) (eqb-true d c h) stands
    go (part_parent q) h stands = absurd (false≢true h)

exposed : (sys : SystemView) → IsSystem sys → (budgets : List ℕ) → IsPlan sys budgets → (c v : ℕ) → v < length sys.parts
    → is_child sys (Core c) v ≡ true → AsksTooMuch later sys budgets c v → IsExposed sys budgets c v
exposed sys is_sys budgets plan c v lv cv too_much longest fit up_to in_limit =
    let from : ℕ = r sys budgets plan c v longest lv cv up_to in_limit in
    let P : ℕ = (part_at sys v).period in
    let slots : ℕ = from + P in
    let all_rows = rows sys budgets plan c v longest lv cv up_to in_limit in
    let workload = is_workload sys budgets plan c v longest lv cv up_to in_limit in
    let w : IsWitness sys all_rows c v from = is_witness sys budgets plan c v longest lv cv up_to in_limit in
    let start : begins P (start_of all_rows v) w.number ≡ from = w.in_step in
    record {
      rows = all_rows;
      slots = slots;
      number = w.number;
      is_workload = workload;
      few_slots = omega (arith, up_to v lv cv);
      awake = record {
        starts = w.starts;
        in_run = omega (arith, start);
        awake = λ x lo hi. w.awake v x lv cv (omega (arith, start)) (omega (arith, start));
      };
      some_run = (
        run_at (rtds_run sys budgets all_rows slots) c,
        (rtds_run-is sys budgets all_rows slots).cores c (core_of_child sys is_sys c v lv cv),
      );
      short =
          λ run is. short_period (setting sys budgets plan all_rows workload slots c run) is v from fit (omega arith) w
          too_much;
    }

pub means : (sys : SystemView) → IsSystem sys → (budgets : List ℕ) → IsPlan sys budgets → (c v : ℕ)
    → v < length sys.parts → is_child sys (Core c) v ≡ true → (answer : Isolation) → IsIsolation sys budgets c v answer
    → Means sys budgets c v answer
means sys is_sys budgets plan c v lv cv (Isolated last) h = (
  keeps_openly sys budgets plan c v last h.isolated,
  keeps sys budgets plan c v last (in_file_order sys budgets plan c v last h.isolated),
)
means sys is_sys budgets plan c v lv cv (ByTies last) h = keeps sys budgets plan c v last h.1.isolated
means sys is_sys budgets plan c v lv cv ByBlock h = exposed sys is_sys budgets plan c v lv cv h

-- and in traces
pub means_in_trace : (sys : SystemView) → IsSystem sys → (budgets : List ℕ) → IsPlan sys budgets → (c v : ℕ)
    → v < length sys.parts → is_child sys (Core c) v ≡ true → ServersFit sys budgets c → (answer : Isolation)
    → IsIsolation sys budgets c v answer → MeansInTrace sys budgets c v answer
means_in_trace sys is_sys budgets plan c v lv cv fit (Isolated last) h =
    keeps_in_trace sys is_sys budgets plan c v last (core_of_child sys is_sys c v lv cv) lv cv
    (keeps sys budgets plan c v last (in_file_order sys budgets plan c v last h.isolated))
means_in_trace sys is_sys budgets plan c v lv cv fit (ByTies last) h =
    keeps_in_trace sys is_sys budgets plan c v last (core_of_child sys is_sys c v lv cv) lv cv
    (keeps sys budgets plan c v last h.1.isolated)
means_in_trace sys is_sys budgets plan c v lv cv fit ByBlock h =
    exposed_in_trace sys is_sys budgets plan c v (core_of_child sys is_sys c v lv cv) fit
    (exposed sys is_sys budgets plan c v lv cv h)
