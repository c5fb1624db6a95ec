-- The greatest work of a task with which its system is admitted, all else as it stands.
use Rattle.std.specs.Prelude.{◌≡◌, ℕ, ◌<◌, ◌≤◌, List, [], length, slice_index_or, slice_set}
use Rattle.slot_model.specs.Task.{default_task, jittery_task, room_of, task_at}
use Rattle.tree_model.specs.View.{NamedTask, PartView, SystemView}
use Rattle.tree_model.specs.System.{part_at, own_tasks_at}
use Rattle.tree_model.specs.Admission.{Admitted}
use Rattle.admission_session.specs.Leaves.{with_changed}
use Rattle.admission_session.specs.Answers.{IsAdmitted}

-- the named task at a place; past the end one without a name
abbrev pub no_task : NamedTask
no_task = record { name = []; task = default_task }

abbrev pub named_at : PartView → ℕ → NamedTask
named_at part i = slice_index_or part.tasks i no_task

-- a task with other work
abbrev pub task_with_work : NamedTask → ℕ → NamedTask
task_with_work named work =
    record {
      name = named.name;
      task =
          jittery_task named.task.period named.task.deadline work named.task.jitter;
    }

-- the part in which task i has this work, and nothing else is changed
abbrev pub part_with_work : PartView → ℕ → ℕ → PartView
part_with_work part i work =
    record part { tasks = slice_set part.tasks i (task_with_work (named_at part i) work) }

-- the system in which task i of part q has this work, and nothing else is changed
abbrev pub with_work : SystemView → ℕ → ℕ → ℕ → SystemView
with_work sys q i work = with_changed sys q (part_with_work (part_at sys q) i work)

-- the greatest work of task i of leaf q: with each work up to it the system is admitted, and with
-- each greater one that leaves the task its jitter up to its deadline it is not
pub record IsMostWork (sys : SystemView) (q i most : ℕ) : Type 0 where
  pub some : 1 ≤ most
  pub in_room : most ≤ room_of (task_at (own_tasks_at sys q) i)
  pub admitted : (work : ℕ) → 1 ≤ work → work ≤ most → IsAdmitted (with_work sys q i work)
  pub past : (work : ℕ) → most < work → work ≤ room_of (task_at (own_tasks_at sys q) i) →
      (budgets : List ℕ) → Admitted (with_work sys q i work) budgets → ⊥

-- one for each task of leaf q, in order
pub record AreMostWorks (sys : SystemView) (q : ℕ) (works : List ℕ) : Type 0 where
  pub one_each : length works ≡ length (part_at sys q).tasks
  pub each : (i : ℕ) → i < length (part_at sys q).tasks →
      IsMostWork sys q i (slice_index_or works i 0)
