-- In the runs of a core a VCPU that is isolated is spared.
use Rattle.std.proofs.Common.{◌≡◌, ℕ, suc, min, max, ◌+◌, ◌<◌, ◌≤◌, Bool, true, false, not, ◌&&◌, nat_lt, List, length, Some, None, refl, arith, subst, inl, inr, ltb-true, lt-ltb}
use Rattle.std.proofs.lemmas.Bool.{cases_lt, and_parts, and_from, not-true}
use Rattle.std.proofs.lemmas.Bool.Decides.{nat_tests}
use Rattle.std.proofs.lemmas.List.{get_or_past}
use Rattle.slot_model.specs.Run.{held}
use Rattle.slot_model.proofs.FirstRuns.{none_some}
use Rattle.tree_model.specs.declared.place.Parent.{Parent}
use Rattle.tree_model.specs.declared.place.Place.TheVariants.{Core}
use Rattle.tree_model.specs.View.{SystemView}
use Rattle.tree_model.specs.System.{Stands, IsSystem}
use Rattle.tree_model.specs.Tree.{is_child}
use Rattle.tree_model.specs.Plans.{IsPlan}
use Rattle.trace_file.specs.Periods.{begins, count_between}
use Rattle.trace_file.proofs.Moments.{child_parent}
use Rattle.trace_file.proofs.Counting.{between_none}
use Rattle.release_file.specs.Workload.{is_blocked_at}
use Rattle.rtds_queues.specs.Keys.{goes_first}
use Rattle.rtds_model.specs.Rtds.{level_at, deadline_at, CoreRun}
use Rattle.rtds_model.specs.Demand.{later}
use Rattle.rtds_model.specs.Giving.{IsStartedOn}
use Rattle.rtds_model.proofs.Counts.{between_split, between_le}
use Rattle.rtds_model.proofs.Goes.{Goes, place_goes}
use Rattle.rtds_model.proofs.Setting.{Setting, setting, period, budget, start, here, on, able, on_is, on_from, runs_from}
use Rattle.rtds_model.proofs.Serving.{RunBy, by_place, serves}
use Rattle.rtds_model.proofs.Windows.{ServesByDeadline}
use Rattle.isolation.specs.Demand.{no_tie, IsIsolatedBy}
use Rattle.isolation.specs.Open.{goes_sooner, OpenRun}
use Rattle.isolation.proofs.Isolated.{open_goes, by_open}
use Rattle.halting.specs.Stolen.{is_stolen, stolen_in}
use Rattle.isolated_guests.specs.Spared.{has_slot, IsSpared, IsSparedInRuns, FileOrderIsOpen, IsolatedAreSpared}
use Rattle.isolated_guests.proofs.Stolen.{is_kept_off, kept_off_few}

-- a core on which a part stands
pub core_within : (sys : SystemView) → IsSystem sys → (c q : ℕ) → q < length sys.parts
    → is_child sys (Core c) q ≡ true → c < length sys.cores
core_within sys system c q l child =
    subst (λ (p : Parent). Stands sys q p) (child_parent sys c q child) (system.parents q l)

-- what does not go first does not go sooner
not_sooner : (l d p l' d' p' : ℕ) → goes_first l d p l' d' p' ≡ false → goes_sooner l d p l' d' p' ≡ false
not_sooner l d p l' d' p' h = grind (arith, nat_tests)

pub file_order_is_open : FileOrderIsOpen
file_order_is_open sys budgets rows n c run is =
    record {
      long = is.long;
      each = λ x l. record {
        idle = (is.each x l).idle;
        named = (is.each x l).named;
        first = λ u v e h. not_sooner (level_at sys budgets rows run u x) (deadline_at sys rows u x) u
            (level_at sys budgets rows run v x) (deadline_at sys rows v x) v ((is.each x l).first u v e h);
      };
    }

module _ (s : Setting) (long : length s.run ≡ s.slots) {sooner : ℕ → ℕ → ℕ → ℕ → ℕ → ℕ → Bool} {tie : ℕ → ℕ → ℕ}
    (goes : Goes sooner tie) (is : RunBy sooner s) where
  -- able within the run alone
  abbrev able_within : ℕ → ℕ → Bool
  able_within u x = able s u x && nat_lt x s.slots

  -- past the end of the run nobody is able, and nothing is held
  longer : (e : ℕ)
      → ServesByDeadline tie (length s.sys.parts) e (period s) (budget s) (start s) (on s) able_within s.run
  longer e =
      let r = serves s goes is in
      let inside : (x u : ℕ) → held s.run x ≡ Some u → x < s.slots = λ x u h. elim (cases_lt x s.slots) [
        | inl l ↦ l
        | inr l ↦ absurd (none_some (held s.run x) u (get_or_past s.run x None (omega (arith, long))) h)
      ] in
      record {
        tie_few = r.tie_few;
        tie_itself = r.tie_itself;
        tie_in_turn = r.tie_in_turn;
        some_budget = r.some_budget;
        in_period = r.in_period;
        of_core = λ x u l h. r.of_core x u (inside x u h) h;
        is_on = λ x u l h. r.is_on x u (inside x u h) h;
        is_started = λ x u l h. r.is_started x u (inside x u h) h;
        chosen =
            λ x w l a h. let p = and_parts (able s w x) (nat_lt x s.slots) a in
            r.chosen x w (ltb-true x s.slots p.1) p.0 h;
      }

  module _ (v k : ℕ) (starts : IsStartedOn s.sys s.rows s.core v) where
    abbrev from : ℕ
    from = begins (period s v) (start s v) k

    abbrev end : ℕ
    end = begins (period s v) (start s v) (suc k)

    abbrev stolen : ℕ → Bool
    stolen = is_stolen (is_blocked_at s.rows v) (has_slot s.run v)

    abbrev kept_off : ℕ → Bool
    kept_off = is_kept_off (longer (max s.slots end)) v

    -- a slot of a period that is stolen from v
    is_able : (x : ℕ) → from ≤ x → x < s.slots → stolen x ≡ true → kept_off x ≡ true
    is_able x lo hi e =
        let p = and_parts (not (is_blocked_at s.rows v x)) (not (has_slot s.run v x)) e in
        and_from (able_within v x) (not (has_slot s.run v x))
        (and_from (able s v x) (nat_lt x s.slots)
        (runs_from s v x starts (omega arith) (not-true (is_blocked_at s.rows v x) p.0)) (lt-ltb x s.slots hi)) p.1

    spared_in : (t : ℕ) → IsIsolatedBy tie s.sys s.budgets s.core v t
        → stolen_in (is_blocked_at s.rows v) (has_slot s.run v) (period s v) (start s v) s.slots k + budget s v
        ≤ period s v
    spared_in t by =
        let all : count_between kept_off from end + budget s v ≤ period s v
        = kept_off_few (longer (max s.slots end)) (here s) (λ u e. (on_is s u e).on_core) v k t starts.is_part
        (on_from s v starts) (omega arith) by.in_period by.enough in
        elim (cases_lt s.slots from) [
          | inl l ↦
              omega (
                arith,
                between_none stolen from (min end s.slots) (omega arith),
                s.plan.in_period v starts.is_part,
              )
          | inr l ↦
              omega (
                arith,
                all,
                between_le stolen kept_off from (min end s.slots) (λ x lo hi q. is_able x lo (omega arith) q),
                between_split kept_off from (min end s.slots) end (omega arith) (omega arith),
              )
        ]

  pub spared : (v t : ℕ) → IsIsolatedBy tie s.sys s.budgets s.core v t → IsStartedOn s.sys s.rows s.core v
      → IsSpared s.sys s.budgets s.rows s.slots s.run v
  spared v t by starts k = spared_in v k starts t by

pub spared_openly : (sys : SystemView) (budgets : List ℕ) → IsPlan sys budgets → (c v t : ℕ)
    → IsIsolatedBy no_tie sys budgets c v t → IsSparedInRuns OpenRun sys budgets c v
spared_openly sys budgets plan c v t by rows n run is_workload is starts =
    let s : Setting = setting sys budgets plan rows is_workload n c run in
    spared s is.long open_goes (by_open s is) v t by starts

pub spared_by_place : (sys : SystemView) (budgets : List ℕ) → IsPlan sys budgets → (c v t : ℕ)
    → IsIsolatedBy later sys budgets c v t → IsSparedInRuns CoreRun sys budgets c v
spared_by_place sys budgets plan c v t by rows n run is_workload is starts =
    let s : Setting = setting sys budgets plan rows is_workload n c run in
    spared s is.long place_goes (by_place s is) v t by starts

pub isolated_are_spared : IsolatedAreSpared
isolated_are_spared sys budgets c v t plan =
    (spared_openly sys budgets plan c v t, spared_by_place sys budgets plan c v t)
