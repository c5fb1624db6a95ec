-- What a session keeps: a system that its budgets admit, and room for the tasks of one node.
use Rattle.std.specs.Prelude.{ℕ, ◌≤◌, List, length}
use Rattle.slot_model.specs.declared.task.Task.{Task}
use Rattle.tree_model.specs.View.{SystemView}
use Rattle.tree_model.specs.Admission.{Admitted}

pub record IsOpen (sys : SystemView) (budgets : List ℕ) (kept : List Task) : Type 0 where
  pub admitted : Admitted sys budgets
  pub room : 512 ≤ length kept
