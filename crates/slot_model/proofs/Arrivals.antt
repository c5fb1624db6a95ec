-- Where jobs of one task arrive, counted from its jitter before moment 0.
use Rattle.std.proofs.Common.{◌≡◌, ℕ, ◌+◌, ◌-◌, ◌<◌, ◌≤◌, List, length, sym, ◌∙◌, arith, subst}
use Rattle.slot_model.specs.Release.{LegalRelease}
use Rattle.slot_model.specs.Task.{ArrivesAfter, job_at, task_at, SporadicTask}
use Rattle.slot_model.specs.declared.job.Job.{Job}

-- the arrival of job j, counted from `jitter` slots before moment 0
abbrev pub arrival : List Job → ℕ → ℕ → ℕ
arrival jobs jitter j = (job_at jobs j).release + jitter - (job_at jobs j).early

-- a legal job of task i is released within its jitter
pub early_within : (tasks : List SporadicTask) (jobs : List Job) → LegalRelease tasks jobs → (i j : ℕ) → j < length jobs
    → (job_at jobs j).task ≡ i → (job_at jobs j).early ≤ (task_at tasks i).jitter
early_within tasks jobs legal i j m mine =
    subst (λ (z : ℕ). (job_at jobs j).early ≤ (task_at tasks z).jitter) mine (legal.in_jitter j m)

-- so the legal jobs of one task arrive a period apart
pub arrivals_apart : (tasks : List SporadicTask) (jobs : List Job) → LegalRelease tasks jobs → (i x y : ℕ) → x < y
    → y < length jobs → (job_at jobs x).task ≡ i → (job_at jobs y).task ≡ i
    → arrival jobs (task_at tasks i).jitter x + (task_at tasks i).period ≤ arrival jobs (task_at tasks i).jitter y
arrivals_apart tasks jobs legal i x y m n p q =
    let far : (job_at jobs x).release + (task_at tasks i).period + (job_at jobs y).early
    ≤ (job_at jobs y).release + (job_at jobs x).early
    = subst (λ (z : ℕ). ArrivesAfter (job_at jobs x) (task_at tasks z).period (job_at jobs y)) p
    (legal.apart x y m n (p ∙ sym q)) in
    omega (arith, far, early_within tasks jobs legal i x (omega arith) p, early_within tasks jobs legal i y n q)
