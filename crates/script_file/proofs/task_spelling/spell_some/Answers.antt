use Rattle.std.proofs.Common.{◌≡◌, ◌∷◌, [], map, sym, ◌∙◌, subst}
use Rattle.std.specs.Prelude.{MatchOption}
use Rattle.script_file.specs.Pieces.{pieces}
use Rattle.script_file.specs.Script.{all_there, task_in}
use Rattle.script_file.proofs.AllThere.{next_there}
use Rattle.script_file.proofs.task_spelling.spell_some.Goals as goal

pub tasks-preserved : goal.tasks-preserved
tasks-preserved c =
    let text = c.cut.result.0.now in
    let left = c.tasks.left.now in
    next_there task_in text (pieces 59 left) (pieces 59 c.in-Some-rest.rest.now)
    (all_there (map task_in (pieces 59 c.args.list.now))) c.tasks.tasks.items c.push.new.self.items c.in-Some.named
    c.tasks.invariant
    (subst (λ o. MatchOption o (pieces 59 left ≡ text ∷ []) (λ rest. pieces 59 left ≡ text ∷ pieces 59 rest.now))
    c.in-Some-rest.is c.cut.ensures.pieces)
    (sym c.in_ok-spell_task.ensures ∙ c.in-Some.is) c.in_ok-push-in-Some.ensures.items
