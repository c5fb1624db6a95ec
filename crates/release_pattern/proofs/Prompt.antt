-- The jobs at each multiple of the periods do not look at deadlines and jitter, and without jitter
-- are the synchronous release from 0 on.
use Rattle.std.proofs.Common.{◌≡◌, ℕ, zero, suc, ◌*◌, ◌≤◌, List, [], ◌∷◌, length, refl, sym, ◌∙◌, ap, arith}
use Rattle.std.proofs.lemmas.List.{length-map}
use Rattle.slot_model.specs.declared.job.Job.{Job}
use Rattle.slot_model.specs.Task.{SporadicTask, AreConstrained, plain_job, task_at}
use Rattle.slot_model.specs.Release.{LegalRelease, begins_now, task_begins, begun_of, staggered, start_at, synchronous}
use Rattle.slot_model.specs.Slots.{gathered}
use Rattle.slot_model.proofs.Gathered.{gathered_same}
use Rattle.slot_model.proofs.Staggered.{staggered_at_zero, legal_staggered}
use Rattle.release_pattern.specs.Multiples.{at_multiples, ArePrompt}
use Rattle.release_pattern.specs.inner.Prompt.{prompt_task, prompt_tasks}
use Rattle.release_pattern.proofs.FewJobs.{synchronous-few}

-- where no task has jitter, both are one list
pub multiples_synchronous : (tasks : List SporadicTask) → ArePrompt tasks → (n : ℕ)
    → at_multiples tasks n ≡ synchronous tasks 0 n
multiples_synchronous tasks prompt n = staggered_at_zero tasks [] (record { prompt = prompt; at_zero = λ i l. refl }) n

-- the task without jitter at a place
prompt_at : (tasks : List SporadicTask) (i : ℕ) → task_at (prompt_tasks tasks) i ≡ prompt_task (task_at tasks i)
prompt_at [] i = refl
prompt_at (t ∷ tasks) zero = refl
prompt_at (t ∷ tasks) (suc i) = prompt_at tasks i

pub are_prompt : (tasks : List SporadicTask) → ArePrompt (prompt_tasks tasks)
are_prompt tasks i l = ap (λ (t : SporadicTask). t.jitter) (prompt_at tasks i)

same_staggered : (tasks : List SporadicTask) (starts : List ℕ) (n : ℕ)
    → staggered (prompt_tasks tasks) starts n ≡ staggered tasks starts n
unfolding staggered
same_staggered tasks starts n =
    ap (λ (k : ℕ). gathered (task_begins (prompt_tasks tasks) starts) (begun_of (prompt_tasks tasks)) k n)
    (length-map tasks prompt_task)
    ∙ gathered_same (task_begins (prompt_tasks tasks) starts) (task_begins tasks starts)
    (begun_of (prompt_tasks tasks)) (begun_of tasks) (length tasks)
    (λ x i l. ap (λ (t : SporadicTask). begins_now t (start_at starts i) x) (prompt_at tasks i))
    (λ x i l. ap (λ (t : SporadicTask). plain_job i x t.work) (prompt_at tasks i)) n

-- so they are the synchronous release of the tasks without jitter
pub prompt_synchronous : (tasks : List SporadicTask) (n : ℕ)
    → synchronous (prompt_tasks tasks) 0 n ≡ at_multiples tasks n
prompt_synchronous tasks n =
    sym (multiples_synchronous (prompt_tasks tasks) (are_prompt tasks) n) ∙ same_staggered tasks [] n

-- at most one job of each task a slot
pub multiples_few : (tasks : List SporadicTask) (n : ℕ) → length (at_multiples tasks n) ≤ n * length tasks
multiples_few tasks n =
    omega (
      arith,
      synchronous-few (prompt_tasks tasks) 0 n,
      ap (λ (js : List Job). length js) (prompt_synchronous tasks n),
      ap (λ (k : ℕ). n * k) (length-map tasks prompt_task),
    )

pub multiples_legal : (tasks : List SporadicTask) → AreConstrained tasks → (n : ℕ)
    → LegalRelease tasks (at_multiples tasks n)
multiples_legal tasks fits n = legal_staggered tasks fits [] n
