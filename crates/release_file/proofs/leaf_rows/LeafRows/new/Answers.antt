use Rattle.std.proofs.Common.{◌∙◌, ap, Option, length, replicate, None, rules}
use Rattle.slot_model.specs.declared.job.Job.{Job}
use Rattle.release_file.specs.ReleaseFile.{task_names}
use Rattle.release_file.proofs.ReleasesTaking.{no_leaf}
use Rattle.release_file.proofs.leaf_rows.LeafRows.new.Goals as goal

pub returns-clause-leaf : goal.returns-clause-leaf
returns-clause-leaf c =
    no_leaf _ c.requires (c.in_ok-task_places.ensures ∙ ap task_names c.tasks-tasks.ensures) c.new.ensures.items
    (c.in_ok-vec.ensures.items_if_clones_equal (λ y h. search rules)
    ∙ ap (λ z. replicate {A = Option Job} (length z) None) c.tasks-tasks.ensures)
