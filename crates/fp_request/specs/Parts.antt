-- The parts of a request bound.
use Rattle.std.specs.Prelude.{ℕ, if◌then◌else◌, Bool, List}
use Rattle.slot_model.specs.Task.{SporadicTask, task_at}
use Rattle.slot_model.specs.Bound.{request_of}

-- what task k adds to the request bound of task i
abbrev pub part_of : (ℕ → ℕ → Bool) → List SporadicTask → ℕ → ℕ → ℕ → ℕ
part_of above tasks i t k = if above k i then request_of (task_at tasks k) t else 0
