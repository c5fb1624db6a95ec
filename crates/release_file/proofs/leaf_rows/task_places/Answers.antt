use Rattle.std.proofs.Common.{◌≡◌, ◌∙◌, ◌∷◌, ◌++◌, [], ℕ, List, take, get_or, sym, ap, arith}
use Rattle.std.proofs.lemmas.List.{get_or-map, length-map, take_more}
use Rattle.tree_model.specs.View.{NamedTask}
use Rattle.release_file.specs.ReleaseFile.{task_names}
use Rattle.trace_file.proofs.Distinct.{is_new}
use Rattle.release_file.proofs.leaf_rows.task_places.Goals as goal
use Rattle.release_file.proofs.leaf_rows.task_places.Goals.{After-as_bytes}

-- the name that is put
name_is : (c : After-as_bytes) → c.as_bytes.result.now ≡ get_or (task_names c.args.tasks.now) c.loop-task.task-index []
name_is c =
    c.as_bytes.ensures.value
    ∙ (c.as_str.ensures.text
    ∙ (c.name.ensures.name ∙ ap (λ (z : NamedTask). z.name) c.task-item.is
    ∙ sym (get_or-map (λ (z : NamedTask). z.name) c.args.tasks.now c.loop-task.task-index c.task-item.result []
    c.loop-task-test.true)))

pub add-requires : goal.add-requires
add-requires c =
    let names = task_names c.args.tasks.now in
    rw (name_is (goal.at.add-requires c).After-as_bytes, c.loop-task.invariant)
    (is_new names c.loop-task.task-index c.requires
    (omega (arith, length-map c.args.tasks.now (λ (z : NamedTask). z.name), c.loop-task-test.true)))

pub loop-task-preserved : goal.loop-task-preserved
loop-task-preserved c =
    let names = task_names c.args.tasks.now in
    let i : ℕ = c.loop-task.task-index in
    c.in_ok-add.ensures
    ∙ (ap (λ (z : List (List ℕ)). z ++ c.as_bytes.result.now ∷ []) c.loop-task.invariant
    ∙ (ap (λ (z : List ℕ). take i names ++ z ∷ []) (name_is (goal.at.loop-task-preserved c).After-as_bytes)
    ∙ sym (take_more names i []
    (omega (arith, length-map c.args.tasks.now (λ (z : NamedTask). z.name), c.loop-task-test.true)))))
