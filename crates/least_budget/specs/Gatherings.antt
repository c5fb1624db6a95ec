-- What a gathering says of the terms in a room.
use Rattle.std.specs.Prelude.{◌≢◌, ◌≤◌, min, List, length}
use Rattle.slot_model.specs.declared.sched.Sched.{Sched}
use Rattle.slot_model.specs.declared.sched.Sched.TheVariants.{Edf}
use Rattle.slot_model.specs.declared.task.Task.{Task}
use Rattle.window_terms.specs.declared.term.Term.{Term}
use Rattle.edf_demand.specs.Terms.{IsGathered}
use Rattle.fp_request.specs.Terms.{AreRanked}
use Rattle.least_budget.specs.declared.gathering.Gathering.{Gathering}
use Rattle.least_budget.specs.declared.gathering.Gathering.TheVariants.{ByWindows, ByRank}

-- its scheduler
abbrev pub sched_by : Gathering → Sched
sched_by (ByWindows gathered) = Edf
sched_by (ByRank sched) = sched

-- the terms stand for these tasks: under earliest deadline first for as many of them as there are
-- terms at the least, under a fixed rank for all, where there are as many terms and not too many
abbrev pub Stand : Gathering → List Term → List Task → Type 0
Stand (ByWindows gathered) terms tasks =
    IsGathered gathered terms tasks × (min (length terms) (length tasks) ≤ gathered.tasks)
Stand (ByRank sched) terms tasks = (sched ≢ Edf) × AreRanked sched tasks terms
