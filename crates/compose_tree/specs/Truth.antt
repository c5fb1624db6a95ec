-- What a plan says of every supply and every release, and a refusal of some.
use Rattle.std.specs.Prelude.{◌≡◌, ℕ, ◌<◌, ◌≤◌, Bool, true, List, [], length, slice_index_or, Option, Some, None}
use Rattle.slot_model.specs.declared.job.Job.{Job}
use Rattle.slot_model.specs.declared.sched.Short.{Short}
use Rattle.slot_model.specs.Supply.{GivesBudget}
use Rattle.slot_model.specs.Task.{SporadicTask, job_at, deadline_of}
use Rattle.slot_model.specs.Order.{before_of}
use Rattle.slot_model.specs.Bound.{shows_by}
use Rattle.slot_model.specs.Miss.{Missed, MustMiss}
use Rattle.tree_model.specs.declared.place.Place.TheVariants.{Core, Part}
use Rattle.tree_model.specs.declared.plan.Refusal.{Refusal}
use Rattle.tree_model.specs.declared.plan.Refusal.TheVariants.{Overfull, Wide, NoMemory}
use Rattle.tree_model.specs.View.{SystemView}
use Rattle.tree_model.specs.System.{core_at, part_at, own_tasks_at, is_leaf_at}
use Rattle.tree_model.specs.Tree.{budget_at, server_tasks, server_jobs, run_at, PermittedTree, HasTreeRun, TreeInputs}
use Rattle.tree_model.specs.Releases.{AreReleases}
use Rattle.tree_model.specs.Admission.{SettledBefore}

-- under this budget some supply that gives it and some legal release make a job of leaf q miss in
-- every permitted run
abbrev pub LeafMustMiss : SystemView → ℕ → ℕ → Type 0
LeafMustMiss sys q budget =
    let tasks = own_tasks_at sys q in
    MustMiss (GivesBudget (part_at sys q).period budget)
    (before_of (part_at sys q).sched tasks) tasks

-- every whole budget below a computed leaf budget must miss
pub record IsTight (sys : SystemView) (budgets : List ℕ) : Type 0 where
  pub below : (q : ℕ) → q < length sys.parts → is_leaf_at sys q ≡ true →
      (part_at sys q).budget ≡ None → (b : ℕ) → b < budget_at budgets q → LeafMustMiss sys q b

-- a leaf is refused with the budget that is given, or with every budget up to its period
abbrev pub LeafIsOverfull : SystemView → ℕ → Option ℕ → Type 0
LeafIsOverfull sys q (Some given) = LeafMustMiss sys q given
LeafIsOverfull sys q None = (b : ℕ) → b ≤ (part_at sys q).period → LeafMustMiss sys q b

-- a job of the run misses with its deadline moment at most t
pub record MissesBy (tasks : List SporadicTask) (jobs : List Job) (run : List (Option ℕ))
    (t : ℕ) : Type 0 where
  pub job : ℕ
  pub missed : Missed tasks jobs run job
  pub by : deadline_of tasks (job_at jobs job) ≤ t

-- what comes from outside, whatever the cores give: for each core any list of n slots, for each
-- leaf a legal release
pub record AnyInputs (sys : SystemView) (n : ℕ) (supplies : List (List Bool))
    (jobs : List (List Job)) : Type 0 where
  pub supply_each_core : length supplies ≡ length sys.cores
  pub long : (c : ℕ) → c < length sys.cores → length (slice_index_or supplies c []) ≡ n
  pub releases : AreReleases sys jobs

-- in n slots: inputs exist that are as the file says, over any slots of the cores a permitted run
-- of the tree exists, and in every one a job of core c misses by t
pub record CoreMustMiss (sys : SystemView) (budgets : List ℕ) (c t n : ℕ) : Type 0 where
  pub some_inputs : (supplies : List (List Bool)) × (jobs : List (List Job)) ×
      TreeInputs sys n supplies jobs
  pub some_run : (supplies : List (List Bool)) (jobs : List (List Job)) →
      AnyInputs sys n supplies jobs → HasTreeRun sys budgets n supplies jobs
  pub misses : (supplies : List (List Bool)) (jobs : List (List Job))
      (core_runs part_runs : List (List (Option ℕ))) → AnyInputs sys n supplies jobs →
      PermittedTree sys budgets n supplies jobs core_runs part_runs →
      MissesBy (server_tasks sys budgets (Core c)) (server_jobs sys budgets (Core c) n)
      (run_at core_runs c) t

-- a full core is refused under the budgets that are settled before it: in every run that is long
-- enough one of its jobs misses
pub record CoreIsOverfull (sys : SystemView) (c : ℕ) (short : Short) : Type 0 where
  pub budgets : List ℕ
  pub settled : SettledBefore sys budgets (Core c)
  pub misses : (n : ℕ) →
      let window = shows_by (server_tasks sys budgets (Core c)) short in
      window ≤ n → CoreMustMiss sys budgets c window n

-- every core is full and every part a leaf
pub record IsFlat (sys : SystemView) : Type 0 where
  pub cores : (c : ℕ) → c < length sys.cores → (core_at sys c).supply ≡ None
  pub parts : (q : ℕ) → q < length sys.parts → is_leaf_at sys q ≡ true

-- a choice of budgets: each as it is given, or any whole one from 1 to the period
abbrev pub IsChosen : ℕ → Option ℕ → ℕ → Type 0
IsChosen period (Some given) budget = budget ≡ given
IsChosen period None budget = (1 ≤ budget) × (budget ≤ period)

pub record AreChosen (sys : SystemView) (budgets : List ℕ) : Type 0 where
  pub one_each : length budgets ≡ length sys.parts
  pub each : (q : ℕ) → q < length sys.parts →
      IsChosen (part_at sys q).period (part_at sys q).budget (budget_at budgets q)

-- a choice of budgets fails: a leaf must miss, or a job of some core misses in every permitted
-- run of some length
pub data ChoiceFails (sys : SystemView) (budgets : List ℕ) : Type 0 where
  at_leaf : (q : ℕ) → q < length sys.parts → LeafMustMiss sys q (budget_at budgets q) →
      ChoiceFails sys budgets
  at_core : (c t n : ℕ) → c < length sys.cores → CoreMustMiss sys budgets c t n →
      ChoiceFails sys budgets

-- on a flat system no choice of budgets does
abbrev pub NoChoiceServes : SystemView → Type 0
NoChoiceServes sys =
    IsFlat sys → (budgets : List ℕ) → AreChosen sys budgets → ChoiceFails sys budgets

-- what a refusal says
pub record LeafRefusalHolds (sys : SystemView) (q : ℕ) : Type 0 where
  pub leaf : is_leaf_at sys q ≡ true → LeafIsOverfull sys q (part_at sys q).budget
  pub choices : NoChoiceServes sys

pub record CoreRefusalHolds (sys : SystemView) (c : ℕ) (short : Short) : Type 0 where
  pub core : (core_at sys c).supply ≡ None → CoreIsOverfull sys c short
  pub choices : NoChoiceServes sys

abbrev pub RefusalHolds : SystemView → Refusal → Type 0
RefusalHolds sys (Overfull (Part q) short) = LeafRefusalHolds sys q
RefusalHolds sys (Overfull (Core c) short) = CoreRefusalHolds sys c short
RefusalHolds sys (Wide node) = Unit {0}
RefusalHolds sys NoMemory = Unit {0}
