-- The first miss, with one job more.
use Rattle.std.proofs.Common.{◌≡◌, ℕ, ◌+◌, ◌<◌, ◌≤◌, true, false, List, Option, Some, None, MatchOption, sym, ◌∙◌, ap, arith, inl, inr}
use Rattle.std.proofs.lemmas.Bool.{cases_eq, cases_lt, both_ways}
use Rattle.slot_model.specs.Task.{SporadicTask, job_at, deadline_of}
use Rattle.slot_model.specs.Miss.{is_missed, miss_of}
use Rattle.slot_model.specs.declared.job.Job.{Job}
use Rattle.slot_model.specs.declared.miss.Miss.{Miss}
use Rattle.slot_model.proofs.FirstMiss.{FirstMissTo}

-- a job that does not miss
pub one_in_time : (tasks : List SporadicTask) (jobs : List Job) (run : List (Option ℕ)) (n : ℕ) (first : Option Miss)
    → FirstMissTo tasks jobs run n first → is_missed tasks jobs run n ≡ false → FirstMissTo tasks jobs run (n + 1) first
one_in_time tasks jobs run n None h e =
    λ k l. elim (cases_eq k n) [ inl q ↦ ap (is_missed tasks jobs run) q ∙ e | inr ne ↦ h k (omega arith) ]
one_in_time tasks jobs run n (Some miss) h e = (
  h.0,
  record {
    inside = omega (arith, h.1.inside);
    missed = h.1.missed;
    least =
        λ k l t. elim (cases_eq k n) [
          | inl q ↦
              absurd (both_ways _ e (ap (is_missed tasks jobs run) (sym q) ∙ t))
          | inr ne ↦ h.1.least k (omega arith) t
        ];
    first = h.1.first;
  },
  h.2,
)

-- one that misses: the earlier of its miss and the one before is the first
pub one_misses : (tasks : List SporadicTask) (jobs : List Job) (run : List (Option ℕ)) (n : ℕ) (first : Option Miss)
    (miss new : Miss) → FirstMissTo tasks jobs run n first → is_missed tasks jobs run n ≡ true
    → miss ≡ miss_of tasks jobs run n
    → MatchOption first (new ≡ miss)
    (λ old. (old.deadline ≤ miss.deadline → new ≡ old) × (miss.deadline < old.deadline → new ≡ miss))
    → FirstMissTo tasks jobs run (n + 1) (Some new)
one_misses tasks jobs run n None miss new h e is earlier = (
  n,
  record {
    inside = omega arith;
    missed = e;
    least =
        λ k l t. elim (cases_eq k n) [
          | inl q ↦
              omega (arith, ap (λ (z : ℕ). deadline_of tasks (job_at jobs z)) q)
          | inr ne ↦
              absurd (both_ways _ (h k (omega arith)) t)
        ];
    first = λ k l t. absurd (both_ways _ (h k l) t);
  },
  earlier ∙ is,
)
one_misses tasks jobs run n (Some old) miss new h e is earlier =
    let here : miss.deadline ≡ deadline_of tasks (job_at jobs n) = ap (λ (m : Miss). m.deadline) is in
    let there : old.deadline ≡ deadline_of tasks (job_at jobs h.0) = ap (λ (m : Miss). m.deadline) h.2 in
    elim (cases_lt miss.deadline old.deadline) [
      | inl sooner ↦ (
        n,
        record {
          inside = omega arith;
          missed = e;
          least =
              λ k l t. elim (cases_eq k n) [
                | inl q ↦
                    omega (arith, ap (λ (z : ℕ). deadline_of tasks (job_at jobs z)) q)
                | inr ne ↦
                    omega (arith, here, there, sooner, h.1.least k (omega arith) t)
              ];
          first = λ k l t. omega (arith, here, there, sooner, h.1.least k l t);
        },
        earlier.1 sooner ∙ is,
      )
      | inr later ↦ (
        h.0,
        record {
          inside = omega (arith, h.1.inside);
          missed = h.1.missed;
          least =
              λ k l t. elim (cases_eq k n) [
                | inl q ↦
                    omega (arith, here, there, later, ap (λ (z : ℕ). deadline_of tasks (job_at jobs z)) q)
                | inr ne ↦
                    h.1.least k (omega arith) t
              ];
          first = h.1.first;
        },
        earlier.0 later ∙ h.2,
      )
    ]
