-- The runs of a level.
use Rattle.std.specs.Prelude.{ℕ, Bool, List, Option}
use Rattle.slot_model.specs.declared.job.Job.{Job}
use Rattle.slot_model.specs.Task.{sporadic_tasks}
use Rattle.slot_model.specs.Run.{Level, guest, server, FirstRun, PermittedRun}
use Rattle.guest_sched.specs.declared.keep.Keep.{Keep}
use Rattle.guest_sched.specs.declared.keep.Keep.TheVariants.{UntilDone, UntilDeadline}
use Rattle.guest_sched.specs.declared.released.ReleasedLevel.{ReleasedLevel}
use Rattle.guest_sched.specs.Spans.{slots_of}

-- a guest keeps a job until it is done, a level of servers until its deadline moment
abbrev pub level_of : Keep → Level
level_of UntilDone = guest
level_of UntilDeadline = server

-- the first run of a level by an order, and the permitted ones, over the slots of its windows
abbrev pub FirstRunOf : ReleasedLevel → (Job → Job → Bool) → List (Option ℕ) → Type 0
FirstRunOf level goes run =
    FirstRun (level_of level.keep) goes (sporadic_tasks level.tasks.now) level.jobs.now
    (slots_of level.given.now level.slots) run

abbrev pub PermittedRunOf : ReleasedLevel → (Job → Job → Bool) → List (Option ℕ) → Type 0
PermittedRunOf level goes run =
    PermittedRun (level_of level.keep) goes (sporadic_tasks level.tasks.now) level.jobs.now
    (slots_of level.given.now level.slots) run
