-- `steal FILE TRACE`: what it answers of the time that is stolen from VCPUs, and what that means to
-- their guests.
use Rattle.std.specs.Prelude.{◌≡◌, ℕ, ◌<◌, true, ◌++◌, List, length, Option, Some}
use Rattle.slot_model.specs.Slots.{sum_below}
use Rattle.slot_model.specs.declared.job.Job.{Job}
use Rattle.tree_model.specs.declared.place.Place.TheVariants.{Core}
use Rattle.tree_model.specs.View.{SystemView}
use Rattle.tree_model.specs.System.{is_leaf_at}
use Rattle.tree_model.specs.Tree.{is_child}
use Rattle.trace_file.specs.declared.event.Event.{Event}
use Rattle.trace_file.specs.Events.{start_of}
use Rattle.halting.specs.Halting.{NoneLost}
use Rattle.isolated_guests.specs.Spared.{IsSparedInTrace}
use Rattle.isolated_guests.specs.Traces.{tasks_in_trace, IsGuestInTrace, LeafPasses}
use Rattle.auditor.specs.declared.steal.StealFinding.{StealFinding}
use Rattle.auditor.specs.declared.steal.StealFinding.TheVariants.{Yes as Kept, Denied}
use Rattle.auditor.specs.declared.steal.StealTally.{StealTally}
use Rattle.auditor.specs.Steal.{IsStealFinding, AreStealTallies, NoneDenied, steal_tally_at}
use Rattle.rt_report.specs.Steal.{steal_finding_text, steal_lines, steal_text}
use Rattle.command_frame.specs.declared.status.Status.{Status}
use Rattle.command_frame.specs.declared.status.Status.TheVariants.{Yes, No}
use Rattle.command_frame.specs.CommandSpec.{CommandSpec}
use Rattle.command_frame.specs.Answer.{Contents, Saying}
use Rattle.command_frame.specs.OverFiles.{OnRead}
use Rattle.trace_commands.specs.Audit.{tracing, over_trace, OnEvents, TraceMeans}

-- yes where no period is denied
abbrev pub steal_status : StealFinding → Status
steal_status (Kept periods) = Yes
steal_status (Denied v from stolen) = No

-- the text tells the finding, and what is counted of each VCPU
pub record IsToldSteal (sys : SystemView) (budgets : List ℕ) (events : List Event)
    (status : Status) (text : List ℕ) : Type 0 where
  pub finding : StealFinding
  pub found : IsStealFinding sys budgets events finding
  pub tallies : List StealTally
  pub counted : AreStealTallies sys budgets events tallies
  pub status_is : status ≡ steal_status finding
  pub told : text ≡ steal_text sys budgets finding tallies

-- the answer to a system and the bytes of a trace
abbrev pub Steals : SystemView → Saying
Steals = OnRead tracing (OnEvents IsToldSteal)

-- in no period of a VCPU that starts more is stolen from it than the period has beyond its budget
abbrev pub AllAreSpared : SystemView → List ℕ → List Event → Type 0
AllAreSpared sys budgets events =
    (v f : ℕ) → v < length sys.parts → start_of events v ≡ Some f
    → IsSparedInTrace sys budgets events v f

-- each leaf that stands on a core, and passes its test under its budget, loses no job up to the end
-- of the trace, where it is blocked only at moments at which none of its jobs is pending: for each
-- legal release in nanoseconds, counted from its start, and whatever scheduler made the trace
abbrev pub LeavesKeep : SystemView → List ℕ → List Event → Type 0
LeavesKeep sys budgets events =
    (c v f : ℕ) (jobs : List Job) (own_run : List (Option ℕ)) → v < length sys.parts
    → is_child sys (Core c) v ≡ true → is_leaf_at sys v ≡ true → LeafPasses sys budgets v
    → start_of events v ≡ Some f → IsGuestInTrace sys events v f jobs own_run
    → NoneLost (tasks_in_trace sys v) jobs own_run

-- Yes means: no period of a VCPU that starts is denied. Where none is, the answer is yes; and then
-- all are spared, and leaves keep their deadlines. The text tells the finding, and what is counted
-- of each VCPU; and on yes the periods that the second line counts are those that the lines of the
-- VCPUs tell as kept.
pub record TellsSteal (sys : SystemView) (budgets : List ℕ) (events : List Event)
    (status : Status) (text : List ℕ) : Type 0 where
  pub only : status ≡ Yes → NoneDenied sys budgets events
  pub always : NoneDenied sys budgets events → status ≡ Yes
  pub spared : status ≡ Yes → AllAreSpared sys budgets events
  pub where_spared : AllAreSpared sys budgets events → status ≡ Yes
  pub keeps : status ≡ Yes → LeavesKeep sys budgets events
  pub finding : StealFinding
  pub found : IsStealFinding sys budgets events finding
  pub tallies : List StealTally
  pub counted : AreStealTallies sys budgets events tallies
  pub told : text ≡ steal_finding_text sys budgets finding ++ steal_lines sys 0 tallies
  pub on_yes : status ≡ Yes → let kept = sum_below (λ v. (steal_tally_at tallies v).kept)
      (length sys.parts) in
      finding ≡ Kept kept

abbrev pub StealMeans : Contents → Status → List ℕ → Type 0
StealMeans = TraceMeans TellsSteal

-- what there is to say of the command
abbrev pub the_steal : (file trace : List ℕ) → CommandSpec
the_steal = over_trace IsToldSteal StealMeans
