-- What a gathered level stands for.
use Rattle.std.specs.Prelude.{◌≡◌, ℕ, ◌≤◌, min, List, length}
use Rattle.slot_model.specs.declared.sched.Sched.{Sched}
use Rattle.slot_model.specs.declared.sched.Sched.TheVariants.{Edf}
use Rattle.slot_model.specs.declared.task.Task.{Task}
use Rattle.window_terms.specs.declared.TheConstants.{KEPT}
use Rattle.least_budget.specs.declared.gathered_level.Level.{Level}
use Rattle.least_budget.specs.declared.gathered_level.Level.TheVariants.{ByWindows, ByRank}

-- its scheduler, and its tasks
abbrev pub sched_of : Level → Sched
sched_of (ByWindows lined) = Edf
sched_of (ByRank level) = level.sched

abbrev pub tasks_of : Level → List Task
tasks_of (ByWindows lined) = lined.level.tasks.now
tasks_of (ByRank level) = level.tasks.now

-- it keeps the terms of its tasks in a room of so many places: under earliest deadline first those
-- of as many tasks as there are places, under a fixed rank those of all, where they have places and
-- are not too many
abbrev pub KeepsTerms : ℕ → Level → Type 0
KeepsTerms room (ByWindows lined) =
    min room (length lined.level.tasks.now) ≤ lined.level.gathered.tasks
KeepsTerms room (ByRank level) =
    length level.tasks.now ≤ room → length level.tasks.now ≤ KEPT →
    length level.terms.now ≡ length level.tasks.now
