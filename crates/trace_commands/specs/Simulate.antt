-- `simulate FILE RELEASES PATTERN SLOTS`: what it answers, and what its yes and no mean.
use Rattle.std.specs.Prelude.{◌≡◌, ℕ, Bool, true, false, List, Option}
use Rattle.csv_rows.specs.Reading.{records_of}
use Rattle.slot_model.specs.declared.job.Job.{Job}
use Rattle.tree_model.specs.View.{SystemView}
use Rattle.tree_model.specs.Admission.{Assigned}
use Rattle.tree_model.specs.FirstTree.{FirstTree}
use Rattle.release_file.specs.declared.fault.ReleaseFault.{ReleaseFault}
use Rattle.release_file.specs.ReleaseFile.{SpellsReleases, IsReleasesFault, release_rows}
use Rattle.server_sched.specs.declared.supplies.Pattern.{Pattern}
use Rattle.server_sched.specs.Patterns.{pattern_supplies}
use Rattle.tree_spans.specs.TreeCounts.{CountsView, no_node_misses, AreTreeCounts, NoneMisses}
use Rattle.rt_report.specs.declared.fault.FileFault.TheVariants.{Release}
use Rattle.rt_report.specs.Simulate.{simulate_text}
use Rattle.command_frame.specs.declared.status.Status.{Status}
use Rattle.command_frame.specs.declared.status.Status.TheVariants.{Yes, No}
use Rattle.command_frame.specs.CommandSpec.{CommandSpec, IsVerdict}
use Rattle.command_frame.specs.Answer.{Contents, Saying, IfNo, IfSystem}
use Rattle.command_frame.specs.Attempt.{Attempt}
use Rattle.command_frame.specs.Budgets.{OnAssigned, AssignedOrNone}
use Rattle.command_frame.specs.OverFiles.{OnRead, over_pair}
use Rattle.command_frame.specs.SecondFile.{reading_as}
use Rattle.command_frame.specs.TwoFiles.{SpellsSystem}

-- the bytes of the second file spell the jobs of each part, or have a first fault
abbrev pub releasing : SystemView → List ℕ → Attempt (List (List Job)) ReleaseFault
releasing sys bytes = reading_as Release (SpellsReleases sys (records_of bytes))
    (IsReleasesFault sys (release_rows (records_of bytes)))

-- the runs of the cores and the parts are the first run of the tree over n slots of the pattern
abbrev pub RunsFirst : SystemView → Pattern → ℕ → List (List Job) → List ℕ →
    List (List (Option ℕ)) → List (List (Option ℕ)) → Type 0
RunsFirst sys pattern n jobs budgets core_runs part_runs =
    FirstTree sys budgets n (pattern_supplies sys pattern n) jobs core_runs part_runs

-- yes where no node has a miss
abbrev pub kept_status : Bool → Status
kept_status true = Yes
kept_status false = No

-- the text tells what is counted of the first run of the tree
pub record IsSimulated (pattern : Pattern) (n : ℕ) (sys : SystemView) (jobs : List (List Job))
    (budgets : List ℕ) (status : Status) (text : List ℕ) : Type 0 where
  pub core_runs : List (List (Option ℕ))
  pub part_runs : List (List (Option ℕ))
  pub first : RunsFirst sys pattern n jobs budgets core_runs part_runs
  pub counts : CountsView
  pub counted : AreTreeCounts sys budgets n (pattern_supplies sys pattern n) jobs core_runs
      part_runs counts
  pub status_is : status ≡ kept_status (no_node_misses counts)
  pub told : text ≡ simulate_text sys counts

-- the answer to a system and its jobs, and to a system and the bytes of its releases
abbrev pub SimulatesJobs : Pattern → ℕ → SystemView → List (List Job) → Status → List ℕ → Type 0
SimulatesJobs pattern n sys jobs =
    OnAssigned sys (λ budgets. IsSimulated pattern n sys jobs budgets)

abbrev pub Simulates : Pattern → ℕ → SystemView → Saying
Simulates pattern n = OnRead releasing (SimulatesJobs pattern n)

-- the files spell this system and these jobs, these budgets are assigned to it, and these runs are
-- its first run
pub record IsSimulationOf (pattern : Pattern) (n : ℕ) (contents : Contents) (sys : SystemView)
    (jobs : List (List Job)) (budgets : List ℕ)
    (core_runs part_runs : List (List (Option ℕ))) : Type 0 where
  pub spelled : SpellsSystem contents sys (λ bytes. SpellsReleases sys (records_of bytes) jobs)
  pub assigned : Assigned sys budgets
  pub first : RunsFirst sys pattern n jobs budgets core_runs part_runs

-- Yes means: no job of any node misses in the first run of the tree. Where none does, the answer
-- is yes.
pub record TellsNoMiss (sys : SystemView) (n : ℕ) (jobs : List (List Job)) (budgets : List ℕ)
    (core_runs part_runs : List (List (Option ℕ))) (status : Status) : Type 0 where
  pub only : status ≡ Yes → NoneMisses sys budgets n jobs core_runs part_runs
  pub always : NoneMisses sys budgets n jobs core_runs part_runs → status ≡ Yes

-- what an answer means: no also means that there are budgets, or that the first part that has none
-- is told
pub record SimulateMeans (pattern : Pattern) (n : ℕ) (contents : Contents) (status : Status)
    (text : List ℕ) : Type 0 where
  pub tells : (sys : SystemView) (jobs : List (List Job)) (budgets : List ℕ)
      (core_runs part_runs : List (List (Option ℕ)))
      → IsSimulationOf pattern n contents sys jobs budgets core_runs part_runs
      → TellsNoMiss sys n jobs budgets core_runs part_runs status
  pub unassigned : IfSystem contents (λ sys. IfNo status (AssignedOrNone sys text))

-- what there is to say of the command
abbrev pub the_simulate : (file releases : List ℕ) → Pattern → (slots : ℕ) → CommandSpec
the_simulate file releases pattern slots =
    over_pair releasing (SimulatesJobs pattern slots) (SimulateMeans pattern slots)
    (λ contents. IsVerdict) file releases
