-- `interface FILE PART DEADLINE`: what it answers, and what its yes and no mean to who gives a
-- guest its budget early in each period.
use Rattle.std.specs.Prelude.{◌≡◌, ◌⊎◌, ℕ, ◌<◌, ◌≤◌, List, ⊤}
use Rattle.slot_model.specs.declared.sched.Short.{Short}
use Rattle.slot_model.specs.Bound.{sbf_by, IsShortfall}
use Rattle.slot_model.specs.Supply.{GivesByDeadline}
use Rattle.slot_model.specs.Order.{before_of}
use Rattle.slot_model.specs.Miss.{NoJobLost, MustMiss}
use Rattle.least_budget.specs.declared.answers.Least.{Least}
use Rattle.least_budget.specs.declared.answers.Least.TheVariants.{Budget, Over, Wide as TooWide}
use Rattle.edp_supply.specs.Least.{IsLeastExplicit}
use Rattle.tree_model.specs.declared.place.Place.TheVariants.{Part}
use Rattle.tree_model.specs.declared.plan.Refusal.TheVariants.{Overfull, Wide as NodeWide}
use Rattle.tree_model.specs.View.{SystemView}
use Rattle.tree_model.specs.System.{part_at, own_tasks_at}
use Rattle.tree_model.specs.NamedLeaf.{IsLeafNamed}
use Rattle.rt_report.specs.declared.fault.FileFault.TheVariants.{BadDeadline}
use Rattle.rt_report.specs.Fault.{fault_text}
use Rattle.rt_report.specs.Interface.{interface_text}
use Rattle.rt_report.specs.Refusal.{refusal_text}
use Rattle.command_frame.specs.declared.status.Status.{Status}
use Rattle.command_frame.specs.declared.status.Status.TheVariants.{Yes, No, Wide, BadFile}
use Rattle.command_frame.specs.CommandSpec.{CommandSpec}
use Rattle.command_frame.specs.OverFiles.{over_system_ending}
use Rattle.command_frame.specs.NamedLeaf.{HasNoLeaf, OnLeaf, IsVerdictUnless}

-- the status and the text that tell the least budget of leaf q by a deadline, or that it has none
abbrev pub least_status : Least → Status
least_status (Budget budget) = Yes
least_status (Over short) = No
least_status TooWide = Wide

abbrev pub least_text : SystemView → ℕ → ℕ → Least → List ℕ
least_text sys q deadline (Budget budget) = interface_text (part_at sys q) deadline budget
least_text sys q deadline (Over short) = refusal_text sys (Overfull (Part q) short)
least_text sys q deadline TooWide = refusal_text sys (NodeWide (Part q))

-- the text tells the least budget with which the tasks of leaf q pass over the resource of its
-- period and this deadline
pub record IsInterface (sys : SystemView) (q deadline : ℕ) (status : Status) (text : List ℕ)
    : Type 0 where
  pub answer : Least
  pub least : IsLeastExplicit (part_at sys q).sched (own_tasks_at sys q) (part_at sys q).period
      deadline answer
  pub status_is : status ≡ least_status answer
  pub told : text ≡ least_text sys q deadline answer

-- the deadline passes the period of leaf q, or this is its interface
pub record AtDeadline (sys : SystemView) (deadline q : ℕ) (status : Status) (text : List ℕ)
    : Type 0 where
  pub past : (part_at sys q).period < deadline →
      (status ≡ BadFile) × (text ≡ fault_text BadDeadline 1)
  pub within : deadline ≤ (part_at sys q).period → IsInterface sys q deadline status text

-- the answer to a system
abbrev pub Interfaces : List ℕ → ℕ → SystemView → Status → List ℕ → Type 0
Interfaces part deadline sys = OnLeaf sys part (AtDeadline sys deadline)

-- over every list that gives leaf q this budget by the deadline in each of its periods, and for
-- every legal release of its tasks: no job is lost in any permitted run
abbrev pub KeepsBy : SystemView → ℕ → ℕ → ℕ → Type 0
KeepsBy sys q deadline budget =
    let part = part_at sys q in
    let tasks = own_tasks_at sys q in
    NoJobLost (GivesByDeadline part.period budget deadline) (before_of part.sched tasks) tasks

-- some such list and some legal release have a permitted run, and in every one a job misses
abbrev pub MustMissBy : SystemView → ℕ → ℕ → ℕ → Type 0
MustMissBy sys q deadline budget =
    let part = part_at sys q in
    let tasks = own_tasks_at sys q in
    MustMiss (GivesByDeadline part.period budget deadline) (before_of part.sched tasks) tasks

-- yes means: with the budget that the text tells the leaf loses no job, and with every smaller
-- whole one it must miss
pub record TellsInterface (sys : SystemView) (part : List ℕ) (deadline : ℕ) (text : List ℕ)
    : Type 0 where
  pub leaf : ℕ
  pub found : IsLeafNamed sys part leaf
  pub budget : ℕ
  pub told : text ≡ interface_text (part_at sys leaf) deadline budget
  pub in_deadline : budget ≤ deadline
  pub in_period : deadline ≤ (part_at sys leaf).period
  pub no_loss : KeepsBy sys leaf deadline budget
  pub tight : (b : ℕ) → b < budget → MustMissBy sys leaf deadline b

-- no means: what the text tells as short is short first where the budget is the whole deadline, and
-- with every whole budget up to that the leaf must miss
pub record HasNoInterface (sys : SystemView) (part : List ℕ) (deadline : ℕ) (text : List ℕ)
    : Type 0 where
  pub leaf : ℕ
  pub found : IsLeafNamed sys part leaf
  pub short : Short
  pub told : text ≡ refusal_text sys (Overfull (Part leaf) short)
  pub first : IsShortfall (part_at sys leaf).sched (own_tasks_at sys leaf)
      (sbf_by (part_at sys leaf).period deadline deadline) short
  pub misses : (b : ℕ) → b ≤ deadline → MustMissBy sys leaf deadline b

-- what an answer to a system means; of a wide one nothing is claimed
abbrev pub InterfaceMeans : List ℕ → ℕ → SystemView → Status → List ℕ → Type 0
InterfaceMeans part deadline sys Yes text = TellsInterface sys part deadline text
InterfaceMeans part deadline sys No text = HasNoInterface sys part deadline text
InterfaceMeans part deadline sys _ text = ⊤

-- the system has no leaf of that name, or one whose period the deadline passes
abbrev pub HasNoFit : List ℕ → ℕ → SystemView → Type 0
HasNoFit part deadline sys =
    HasNoLeaf sys part
    ⊎ ((q : ℕ) × IsLeafNamed sys part q × ((part_at sys q).period < deadline))

-- what there is to say of the command
abbrev pub the_interface : (file part : List ℕ) (deadline : ℕ) → CommandSpec
the_interface file part deadline =
    over_system_ending (Interfaces part deadline) (InterfaceMeans part deadline)
    (IsVerdictUnless (HasNoFit part deadline)) file
