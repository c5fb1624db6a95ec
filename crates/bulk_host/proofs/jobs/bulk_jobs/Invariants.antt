use Rattle.std.proofs.Common.{◌≡◌, Vec, Global, map, take}
use Rattle.slot_model.specs.declared.job.Job.{Job}
use Rattle.release_pattern.specs.Multiples.{at_multiples}
use Rattle.tree_model.specs.View.{PartView}
use Rattle.tree_model.specs.System.{own_tasks}
use Rattle.bulk_host.proofs.jobs.bulk_jobs.Given as goal

abbrev pub invariant-loop-part : goal.invariant-loop-part
invariant-loop-part l =
    map (λ (list : Vec Job Global). list.items) l.jobs.items
    ≡ map (λ (p : PartView). at_multiples (own_tasks p) l.slots) (take l.part-index l.parts)
