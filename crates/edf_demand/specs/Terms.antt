-- Terms that stand for tasks.
use Rattle.std.specs.Prelude.{ℕ, ◌*◌, ◌^◌, ◌<◌, ◌≤◌, ◌≡◌, List, All, length, take}
use Rattle.slot_model.specs.declared.task.Task.{Task}
use Rattle.slot_model.specs.Task.{sporadic_tasks}
use Rattle.slot_model.specs.Bound.{dbf}
use Rattle.window_terms.specs.declared.term.Term.{Term}
use Rattle.window_terms.specs.Asked.{asked_by, IsNear}
use Rattle.edf_demand.specs.declared.terms.Gathered.{Gathered}

-- the first terms of a list stand for the first tasks of another: in every window they ask for the
-- same. Up to the near window each is near, and so many tasks ask for less than 2^64 slots.
pub record IsGathered (gathered : Gathered) (terms : List Term) (tasks : List Task) : Type 0 where
  pub in_terms : gathered.terms ≤ length terms
  pub in_tasks : gathered.tasks ≤ length tasks
  pub same : (t : ℕ) →
      asked_by (take gathered.terms terms) t
      ≡ dbf (sporadic_tasks (take gathered.tasks tasks)) t
  pub near : All (λ term. IsNear term gathered.near) (take gathered.terms terms)
  pub fits : gathered.tasks * gathered.near < 2 ^ 64
