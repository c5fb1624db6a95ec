use Rattle.std.proofs.Common.{◌≡◌, ℕ, ◌<◌, ◌++◌, [], ◌∷◌, Bool, List, Option, Some, None, length, map, take, refl, sym, ◌∙◌, ap, IfSome}
use Rattle.std.proofs.lemmas.List.{map_push, take_more, take_all}
use Rattle.slot_model.specs.declared.job.Job.{Job}
use Rattle.slot_model.specs.Run.{held, holds_task, child_supply}
use Rattle.slot_model.specs.Miss.{HoldsReleased}
use Rattle.server_sched.proofs.slot_counts.child_slots.Goals as goal

-- what a run holds at a slot is a job
held_job : (jobs : List Job) (run : List (Option ℕ)) (x : ℕ) → HoldsReleased jobs run → x < length run → (o : Option ℕ)
    → held run x ≡ o → IfSome o (λ j. j < length jobs)
held_job jobs run x h l None e = tt
held_job jobs run x h l (Some j) e = (h x j l e).is_job

pub loop-entry-init : goal.loop-entry-init
loop-entry-init c = c.in_ok-given.ensures.items

pub holds_task-requires : goal.holds_task-requires
holds_task-requires c =
    held_job c.args.jobs.now c.args.run.now c.loop-entry.entry-index c.requires c.loop-entry-test.true
    (held c.args.run.now c.loop-entry.entry-index) refl

pub loop-entry-preserved : goal.loop-entry-preserved
loop-entry-preserved c =
    let run = c.args.run.now in let i = c.loop-entry.entry-index in
    let test : Option ℕ → Bool = λ entry. holds_task c.args.jobs.now entry c.args.k in
    c.in_ok-push.ensures.items
    ∙ (ap (λ (last : Bool). c.loop-entry.given.items ++ last ∷ []) c.holds_task.ensures
    ∙ (ap (λ (before : List Bool). before ++ test (held run i) ∷ []) c.loop-entry.invariant
    ∙ (sym (map_push test (take i run) (held run i))
    ∙ ap (map test) (sym (take_more run i None c.loop-entry-test.true)))))

pub returns : goal.returns
returns c =
    c.loop-entry.invariant
    ∙ ap (λ (run : List (Option ℕ)). child_supply c.args.jobs.now run c.args.k)
    (take_all c.loop-entry.entry-index c.args.run.now c.loop-entry-test.false)
