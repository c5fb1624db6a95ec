-- `isolate FILE`: what it answers, and what its yes and no mean to who lets guests block.
use Rattle.std.specs.Prelude.{◌≡◌, ◌⊎◌, ℕ, ◌≤◌, Bool, true, false, if◌then◌else◌, List, length, All, ⊤}
use Rattle.slot_model.specs.declared.job.Job.{Job}
use Rattle.slot_model.specs.declared.task.TheConstants.{LIMIT}
use Rattle.tree_model.specs.View.{SystemView}
use Rattle.tree_model.specs.Admission.{Admitted, Assigned}
use Rattle.compose_tree.specs.Keeping.{Keeping}
use Rattle.rtds_sim.specs.Fault.{AllRtds, IsFirstOther}
use Rattle.rtds_model.specs.Giving.{ServersFit}
use Rattle.isolation.specs.declared.isolation.Isolation.{Isolation}
use Rattle.isolation.specs.declared.isolation.Isolation.TheVariants.{Isolated, ByTies, ByBlock}
use Rattle.isolation.specs.declared.vcpus.PartIsolation.{PartIsolation}
use Rattle.isolation.specs.Keeping.{KeepsBudget, KeepsOpenly, IsExposed}
use Rattle.isolation.specs.InTrace.{KeepsInTrace, IsExposedInTrace}
use Rattle.isolation.specs.Answers.{own_core, AreIsolations, are_isolated}
use Rattle.isolation.specs.Short.{AllIsolated}
use Rattle.isolation.specs.declared.budgets.CoreBudgets.{CoreBudgets}
use Rattle.isolation.specs.Budgets.{AreCoreBudgets}
use Rattle.isolated_guests.specs.Spared.{IsSparedInTraces}
use Rattle.isolated_guests.specs.Guests.{HostsKeep}
use Rattle.isolated_guests.specs.Answered.{LineKeeps}
use Rattle.idle_hosts.specs.Hosts.{AreStarts, AreLegalOnCores, IdleHost}
use Rattle.rt_report.specs.Fault.{not_rtds_text}
use Rattle.rt_report.specs.Isolation.{isolation_text}
use Rattle.command_frame.specs.declared.status.Status.{Status}
use Rattle.command_frame.specs.declared.status.Status.TheVariants.{Yes, No, BadFile}
use Rattle.command_frame.specs.Attempt.{Attempt, OnAttempt}
use Rattle.command_frame.specs.Budgets.{OnAdmitted, IsTrulyOverfull}
use Rattle.command_frame.specs.CommandSpec.{CommandSpec}
use Rattle.command_frame.specs.OverFiles.{over_system_ending}
use Rattle.trace_commands.specs.Rtds.{IsVerdictOfRun}

-- over cores that are all full and under earliest deadline first, what each part on a core keeps,
-- and the budgets and the shortest period of each such core; else the first core that is not
-- refuses
pub record IsolatesAll (sys : SystemView) (budgets : List ℕ) (rows : List PartIsolation)
    (cores : List CoreBudgets) : Type 0 where
  pub all : AllRtds sys (length sys.cores)
  pub isolations : AreIsolations sys budgets rows
  pub sums : AreCoreBudgets sys budgets cores

abbrev pub isolating : SystemView → List ℕ → Attempt (List PartIsolation × List CoreBudgets) ℕ
isolating sys budgets = record {
  Gives = λ lists. IsolatesAll sys budgets lists.0 lists.1;
  Refuses = IsFirstOther sys;
  status_of = λ c. BadFile;
  text_of = λ c. not_rtds_text sys c;
}

-- the text tells them, and it is yes where each is isolated however ties are broken
abbrev pub isolation_status : List PartIsolation → Status
isolation_status rows = if are_isolated rows then Yes else No

pub record IsToldIsolation (sys : SystemView) (lists : List PartIsolation × List CoreBudgets)
    (status : Status) (text : List ℕ) : Type 0 where
  pub status_is : status ≡ isolation_status lists.0
  pub told : text ≡ isolation_text sys lists.0 lists.1

-- the answer to a system, whose budgets are those that admit it
abbrev pub Isolates : SystemView → Status → List ℕ → Type 0
Isolates sys = OnAdmitted sys (λ budgets.
    OnAttempt (isolating sys budgets) (IsToldIsolation sys))

-- What a line means of part v of core c, under the budgets with which `rtds` runs the system.
-- `isolated`: over every workload, v has its budget in each period in whose last slots, so many, it
-- is not blocked: in each run, of any length, however it breaks ties, in that which goes by the
-- order of the file, and in the trace of `rtds`, judged or not. `by=ties`: so it is in the run by
-- the order of the file and in the trace. `by=block`: over some workload v is short in a period in
-- which it never blocks, in its run over no more than three of the longest periods of the core, if
-- two of them are in the limit of a file. If 1,000,000 slots have room for three, the trace of
-- `rtds` over some workload shows such a period, judged and short.
abbrev pub LineMeans : SystemView → List ℕ → ℕ → ℕ → Isolation → Type 0
LineMeans sys budgets c v (Isolated last) =
    KeepsInTrace sys budgets v last × KeepsOpenly sys budgets c v last
    × KeepsBudget sys budgets c v last
LineMeans sys budgets c v (ByTies last) =
    KeepsInTrace sys budgets v last × KeepsBudget sys budgets c v last
LineMeans sys budgets c v ByBlock =
    ServersFit sys budgets c × IsExposed sys budgets c v × IsExposedInTrace sys budgets c v

-- A line that says isolated, in any order of ties or in that of the file, also means: in the trace
-- that `rtds` writes of any workload, in no period of v more is stolen from it than the period has
-- beyond its budget, as `steal` counts it.
abbrev pub LineSpares : SystemView → List ℕ → ℕ → Isolation → Type 0
LineSpares sys budgets v (Isolated last) = IsSparedInTraces sys budgets v
LineSpares sys budgets v (ByTies last) = IsSparedInTraces sys budgets v
LineSpares sys budgets v ByBlock = ⊤

-- for all starts and legal releases, over as many slots as a workload may reach, there is a host
-- whose leaves on cores halt exactly where they have nothing to do
abbrev pub HasIdleHosts : SystemView → List ℕ → Type 0
HasIdleHosts sys budgets =
    (starts : List ℕ) (n : ℕ) (jobs : List (List Job)) → AreStarts sys starts → n ≤ LIMIT →
    AreLegalOnCores sys budgets jobs → IdleHost sys budgets starts n jobs

-- What the line of a core means: the sum of its budgets is no more than its shortest period exactly
-- where each part on it is isolated, however ties are broken.
abbrev pub IsShortWhereIsolated : SystemView → List ℕ → CoreBudgets → Type 0
IsShortWhereIsolated sys budgets row =
    (row.budgets ≤ row.shortest → AllIsolated sys budgets row.core)
    × (AllIsolated sys budgets row.core → row.budgets ≤ row.shortest)

-- A line for each part on a core, in file order, and behind them one for each such core; and what
-- each line means. These are also the budgets that `rtds` takes, and under them each node keeps its
-- deadlines by itself over any supply of its kind (`each_node`). What a line means for a guest that
-- halts stands beside what it means for its slots (`means`): where it is isolated, no job of it is
-- lost in any run in which it halts only where none of its jobs is pending. Of a guest that halts
-- while one is, nothing is said but of slots. On yes so it is of each part on a core (`on_yes`).
-- Hosts whose guests halt so exist for each release (`idle_hosts`).
pub record TellsIsolations (sys : SystemView) (text : List ℕ) (all : Bool) : Type 0 where
  pub budgets : List ℕ
  pub admitted : Admitted sys budgets
  pub assigned : Assigned sys budgets
  pub each_node : Keeping sys budgets
  pub all_rtds : AllRtds sys (length sys.cores)
  pub rows : List PartIsolation
  pub isolations : AreIsolations sys budgets rows
  pub means : All (λ (row : PartIsolation).
      LineMeans sys budgets (own_core sys row.part) row.part row.isolation
      × LineKeeps sys budgets (own_core sys row.part) row.part row.isolation
      × LineSpares sys budgets row.part row.isolation) rows
  pub cores : List CoreBudgets
  pub sums : AreCoreBudgets sys budgets cores
  pub where_short : All (IsShortWhereIsolated sys budgets) cores
  pub all_isolated : are_isolated rows ≡ all
  pub on_yes : all ≡ true → HostsKeep sys budgets
  pub idle_hosts : HasIdleHosts sys budgets
  pub told : text ≡ isolation_text sys rows cores

-- what an answer to a system means: yes, that each part on a core is isolated; no, that it is not
-- admitted, or that some part is not; of a wide one nothing is claimed
abbrev pub IsolateMeans : SystemView → Status → List ℕ → Type 0
IsolateMeans sys Yes text = TellsIsolations sys text true
IsolateMeans sys No text = IsTrulyOverfull sys text ⊎ TellsIsolations sys text false
IsolateMeans sys _ text = ⊤

-- what there is to say of the command
abbrev pub the_isolate : List ℕ → CommandSpec
the_isolate = over_system_ending Isolates IsolateMeans IsVerdictOfRun
