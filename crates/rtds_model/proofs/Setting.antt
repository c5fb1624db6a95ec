-- A core in its setting: the VCPUs under a plan, a workload, and a run of the core over some slots.
use Rattle.std.proofs.Common.{◌≡◌, ℕ, ◌≤◌, Bool, true, false, not, ◌&&◌, nat_lt, List, length, Option, ap, ltb-true, lt-ltb}
use Rattle.std.proofs.lemmas.Bool.{and_from, and_parts}
use Rattle.tree_model.specs.declared.place.Place.TheVariants.{Core}
use Rattle.tree_model.specs.View.{SystemView}
use Rattle.tree_model.specs.System.{part_at}
use Rattle.tree_model.specs.Tree.{is_child, budget_at}
use Rattle.tree_model.specs.Plans.{IsPlan}
use Rattle.release_file.specs.declared.workload.Wake.{Wake}
use Rattle.release_file.specs.Workload.{is_started, is_started_at, is_blocked_at, start_of, IsWorkload}
use Rattle.rtds_model.specs.Rtds.{can_run, CoreRun}
use Rattle.rtds_model.specs.Giving.{IsStartedOn}
use Rattle.rtds_model.proofs.Starts.{started_from, started_some, started_by}

pub record Setting : Type 0 where
  pub sys : SystemView
  pub budgets : List ℕ
  pub plan : IsPlan sys budgets
  pub rows : List Wake
  pub is_workload : IsWorkload sys rows
  pub slots : ℕ
  pub core : ℕ
  pub run : List (Option ℕ)

abbrev pub setting : (sys : SystemView) (budgets : List ℕ) → IsPlan sys budgets → (rows : List Wake)
    → IsWorkload sys rows → ℕ → ℕ → List (Option ℕ) → Setting
setting sys budgets plan rows is_workload n c run =
    record {
      sys = sys;
      budgets = budgets;
      plan = plan;
      rows = rows;
      is_workload = is_workload;
      slots = n;
      core = c;
      run = run;
    }

-- the run is that of the core
abbrev pub IsCoreRun : Setting → Type 0
IsCoreRun s = CoreRun s.sys s.budgets s.rows s.slots s.core s.run

-- of a VCPU: its numbers, where it starts, whether it is one of the core, and of those that start
-- there, and whether it can run at a slot
abbrev pub period : Setting → ℕ → ℕ
period s u = (part_at s.sys u).period

abbrev pub budget : Setting → ℕ → ℕ
budget s u = budget_at s.budgets u

abbrev pub start : Setting → ℕ → ℕ
start s u = start_of s.rows u

abbrev pub here : Setting → ℕ → Bool
here s u = is_child s.sys (Core s.core) u

abbrev pub on : Setting → ℕ → Bool
on s u = (nat_lt u (length s.sys.parts) && here s u) && is_started s.rows u

abbrev pub able : Setting → ℕ → ℕ → Bool
able s u x = can_run s.sys s.rows s.core u x

pub on_is : (s : Setting) (u : ℕ) → on s u ≡ true → IsStartedOn s.sys s.rows s.core u
on_is s u o =
    let p = and_parts (nat_lt u (length s.sys.parts) && here s u) (is_started s.rows u) o in
    let q = and_parts (nat_lt u (length s.sys.parts)) (here s u) p.0 in
    record { is_part = ltb-true u (length s.sys.parts) q.0; on_core = q.1; started = p.1 }

pub on_from : (s : Setting) (u : ℕ) → IsStartedOn s.sys s.rows s.core u → on s u ≡ true
on_from s u h =
    and_from (nat_lt u (length s.sys.parts) && here s u) (is_started s.rows u)
    (and_from (nat_lt u (length s.sys.parts)) (here s u) (lt-ltb u (length s.sys.parts) h.is_part) h.on_core) h.started

-- what can run is on, and has started
pub record Runs (s : Setting) (u x : ℕ) : Type 0 where
  pub started_on : IsStartedOn s.sys s.rows s.core u
  pub by_then : start s u ≤ x
  pub awake : not (is_blocked_at s.rows u x) ≡ true

pub runs_is : (s : Setting) (u x : ℕ) → able s u x ≡ true → Runs s u x
runs_is s u x h =
    let p
    = and_parts (nat_lt u (length s.sys.parts) && here s u)
    (is_started_at s.rows u x && not (is_blocked_at s.rows u x)) h in
    let c = and_parts (nat_lt u (length s.sys.parts)) (here s u) p.0 in
    let q = and_parts (is_started_at s.rows u x) (not (is_blocked_at s.rows u x)) p.1 in
    record {
      started_on =
          record {
            is_part = ltb-true u (length s.sys.parts) c.0;
            on_core = c.1;
            started = started_some s.rows u x q.0;
          };
      by_then = started_by s.sys s.rows s.is_workload u x q.0;
      awake = q.1;
    }

pub runs_from : (s : Setting) (u x : ℕ) → IsStartedOn s.sys s.rows s.core u → start s u ≤ x
    → is_blocked_at s.rows u x ≡ false → able s u x ≡ true
runs_from s u x h l b =
    and_from (nat_lt u (length s.sys.parts) && here s u)
    (is_started_at s.rows u x && not (is_blocked_at s.rows u x))
    (and_from (nat_lt u (length s.sys.parts)) (here s u) (lt-ltb u (length s.sys.parts) h.is_part) h.on_core)
    (and_from (is_started_at s.rows u x) (not (is_blocked_at s.rows u x)) (started_from s.rows u x h.started l)
    (ap not b))
