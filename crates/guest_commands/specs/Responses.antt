-- `responses FILE`: what it answers, and what its yes and no mean.
use Rattle.std.specs.Prelude.{◌≡◌, ℕ, ◌+◌, ◌<◌, ◌≤◌, Bool, if◌then◌else◌, not, ◌&&◌, List, [], map, length, All, slice_index_or, Option, Some, None, ⊤}
use Rattle.std.specs.List.{flat_map, range_with_len}
use Rattle.slot_model.specs.declared.sched.Sched.{Sched}
use Rattle.slot_model.specs.declared.job.Job.{Job}
use Rattle.slot_model.specs.Task.{SporadicTask, room_of, task_at, job_at}
use Rattle.slot_model.specs.Supply.{GivesBudget, worst_slot}
use Rattle.slot_model.specs.Order.{before_of}
use Rattle.slot_model.specs.Run.{service}
use Rattle.response_times.specs.Response.{IsGreatestResponse}
use Rattle.response_times.specs.Replay.{ShowsResponse}
use Rattle.tree_model.specs.View.{PartView, SystemView}
use Rattle.tree_model.specs.System.{is_edf, is_leaf, own_tasks, part_at}
use Rattle.tree_model.specs.Tree.{budget_at, run_at, StartedTree, TreeInputs, NoLoss}
use Rattle.tree_model.specs.Admission.{Admitted}
use Rattle.rt_report.specs.declared.responses.Response.{Response}
use Rattle.rt_report.specs.Responses.{responses_text}
use Rattle.command_frame.specs.declared.status.Status.{Status}
use Rattle.command_frame.specs.declared.status.Status.TheVariants.{Yes, No}
use Rattle.command_frame.specs.Budgets.{OnAdmitted, IsTrulyOverfull}
use Rattle.command_frame.specs.CommandSpec.{CommandSpec}
use Rattle.command_frame.specs.OverFiles.{over_system}

-- a leaf under a fixed priority, and so not under earliest deadline first
abbrev pub is_fixed_leaf : PartView → Bool
is_fixed_leaf part = is_leaf part.tasks && not (is_edf part.sched)

-- the places of the first n tasks of part q, each with that of the part
abbrev pub places_in : ℕ → ℕ → List (ℕ × ℕ)
places_in q n = map (λ i. (q, i)) (range_with_len 0 n)

-- the tasks of part q that have a line: all of a leaf under a fixed priority
abbrev pub answered_at : SystemView → ℕ → List (ℕ × ℕ)
answered_at sys q =
    if is_fixed_leaf (part_at sys q) then places_in q (length (part_at sys q).tasks) else []

-- those of all parts, in file order
abbrev pub answered_tasks : SystemView → List (ℕ × ℕ)
answered_tasks sys = flat_map (answered_at sys) (range_with_len 0 (length sys.parts))

-- what the replay shows of task i: nothing exactly where it would run past 1,000,000 slots, and
-- else, in the first run of the worst case, the worst response
abbrev pub IsReplayOf : Sched → List SporadicTask → (period budget i worst : ℕ) → Option ℕ → Type 0
IsReplayOf sched tasks period budget i worst None = 1000000 < budget + worst
IsReplayOf sched tasks period budget i worst (Some t) =
    (budget + worst ≤ 1000000) × (t ≡ worst)
    × ShowsResponse (before_of sched tasks) tasks (worst_slot period budget) budget worst i t

-- what is told of task i of a guest with this budget in every period: its greatest response, over
-- every list of slots that conforms, for every legal release, in every permitted run, and the slots
-- that its deadline leaves past its jitter, which are no fewer
pub record IsResponseOf (sched : Sched) (tasks : List SporadicTask) (period budget i : ℕ)
    (row : Response) : Type 0 where
  pub greatest : IsGreatestResponse (GivesBudget period budget) (before_of sched tasks) tasks i
      row.worst
  pub limit_is : row.limit ≡ room_of (task_at tasks i)
  pub in_limit : row.worst ≤ row.limit
  pub replayed : IsReplayOf sched tasks period budget i row.worst row.replay

-- so it is told of a task of a part under these budgets
abbrev pub IsAnswered : SystemView → List ℕ → Response → Type 0
IsAnswered sys budgets row =
    let part = part_at sys row.part in
    IsResponseOf part.sched (own_tasks part) part.period (budget_at budgets row.part) row.task row

-- one answer each of these tasks, in this order
pub record AnswerTasks (sys : SystemView) (budgets : List ℕ) (places : List (ℕ × ℕ))
    (rows : List Response) : Type 0 where
  pub places_are : map (λ (row : Response). (row.part, row.task)) rows ≡ places
  pub each : All (IsAnswered sys budgets) rows

abbrev pub AreResponses : SystemView → List ℕ → List Response → Type 0
AreResponses sys budgets rows = AnswerTasks sys budgets (answered_tasks sys) rows

-- yes: the text tells these responses
pub record IsTold (sys : SystemView) (budgets : List ℕ) (status : Status) (text : List ℕ)
    : Type 0 where
  pub is_yes : status ≡ Yes
  pub rows : List Response
  pub responses : AreResponses sys budgets rows
  pub told : text ≡ responses_text sys rows

-- the answer to a system: budgets admit it, or the first refusal is told, no or wide
abbrev pub Responds : SystemView → Status → List ℕ → Type 0
Responds sys = OnAdmitted sys (IsTold sys)

-- in a run of a leaf each job of task i has its work t slots after its release, where the run is
-- that long
abbrev pub RespondsInRun : List Job → List (Option ℕ) → (i t : ℕ) → Type 0
RespondsInRun jobs run i t =
    (j : ℕ) → j < length jobs → (job_at jobs j).task ≡ i →
    (job_at jobs j).release + t ≤ length run →
    (job_at jobs j).work ≤ service run j ((job_at jobs j).release + t)

-- so it is of a row's task and its worst response in the tree: whenever each part starts, for runs
-- of every length, over every supply of the cores and every legal release, in every permitted run.
-- The run of a leaf and its releases are counted from its own start.
abbrev pub RespondsInTree : SystemView → List ℕ → Response → Type 0
RespondsInTree sys budgets row =
    (starts : List ℕ) (n : ℕ) (supplies : List (List Bool)) (jobs : List (List Job))
    (core_runs part_runs : List (List (Option ℕ))) → TreeInputs sys n supplies jobs →
    StartedTree sys budgets starts n supplies jobs core_runs part_runs →
    RespondsInRun (slice_index_or jobs row.part []) (run_at part_runs row.part) row.task row.worst

-- yes means: budgets admit the system, under which no job is lost on any level in any permitted
-- run, and the text tells the greatest response of each task of a leaf under a fixed priority: no
-- job is later in any permitted run of the leaf over its budget, nor in any of the tree, and a
-- supply and a release exist for which in every permitted run of the leaf a job is just that late
pub record TellsResponses (sys : SystemView) (text : List ℕ) : Type 0 where
  pub budgets : List ℕ
  pub admitted : Admitted sys budgets
  pub no_loss : NoLoss sys budgets
  pub rows : List Response
  pub responses : AreResponses sys budgets rows
  pub in_tree : All (RespondsInTree sys budgets) rows
  pub told : text ≡ responses_text sys rows

-- what an answer to a system means; of a wide one nothing is claimed
abbrev pub RespondMeans : SystemView → Status → List ℕ → Type 0
RespondMeans sys Yes text = TellsResponses sys text
RespondMeans sys No text = IsTrulyOverfull sys text
RespondMeans sys _ text = ⊤

-- what there is to say of the command
abbrev pub the_responses : List ℕ → CommandSpec
the_responses = over_system Responds RespondMeans
