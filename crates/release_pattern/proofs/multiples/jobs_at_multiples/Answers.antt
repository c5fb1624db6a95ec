use Rattle.std.proofs.Common.{◌≡◌, ◌∙◌, ◌<◌, ◌^◌, List, length, sym, ap, subst}
use Rattle.slot_model.specs.declared.job.Job.{Job}
use Rattle.slot_model.specs.Task.{SporadicTask, sporadic_tasks}
use Rattle.slot_model.specs.Release.{LegalRelease, synchronous}
use Rattle.slot_model.proofs.Constrained.{are_constrained}
use Rattle.release_pattern.specs.Multiples.{at_multiples}
use Rattle.release_pattern.proofs.Prompt.{multiples_synchronous, prompt_synchronous, multiples_legal}
use Rattle.release_pattern.proofs.multiples.jobs_at_multiples.Goals as goal
use Rattle.release_pattern.proofs.multiples.jobs_at_multiples.Goals.{After-deref}

-- the jobs of the tasks without jitter are those at the multiples
same : (c : After-deref)
    → synchronous (sporadic_tasks c.deref.result.now) 0 c.args.slots
    ≡ at_multiples (sporadic_tasks c.args.tasks.now) c.args.slots
same c =
    ap (λ (ts : List SporadicTask). synchronous ts 0 c.args.slots)
    (ap sporadic_tasks c.deref.ensures.value ∙ c.in_ok-prompt.ensures)
    ∙ prompt_synchronous (sporadic_tasks c.args.tasks.now) c.args.slots

pub synchronous_jobs-requires-clause-few : goal.synchronous_jobs-requires-clause-few
synchronous_jobs-requires-clause-few c =
    subst (λ (js : List Job). length js < 2 ^ 32)
    (sym (same (goal.at.synchronous_jobs-requires-clause-few c).After-deref)) c.requires.few

pub returns-clause-exact : goal.returns-clause-exact
returns-clause-exact c = c.in_ok-jobs.ensures.exact ∙ same (goal.at.returns-clause-exact c).After-deref

pub returns-clause-prompt : goal.returns-clause-prompt
returns-clause-prompt c prompt =
    returns-clause-exact c ∙ multiples_synchronous (sporadic_tasks c.args.tasks.now) prompt c.args.slots

pub returns-clause-legal : goal.returns-clause-legal
returns-clause-legal c =
    let T = sporadic_tasks c.args.tasks.now in
    subst (LegalRelease T) (sym (returns-clause-exact c))
    (multiples_legal T (are_constrained c.args.tasks.now) c.args.slots)
