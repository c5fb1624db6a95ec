-- Where the server tasks of a core fall short of its slots, one of its jobs misses early in every
-- permitted run.
use Rattle.std.proofs.Common.{◌≡◌, ◌⊎◌, ℕ, suc, ◌+◌, ◌<◌, ◌≤◌, Bool, List, length, get_or, Option, None, refl, sym, ◌∙◌, ap, arith, subst, inl, inr, zero-add}
use Rattle.std.proofs.lemmas.Bool.{cases_lt}
use Rattle.slot_model.specs.Task.{SporadicTask, AreConstrained, room_of, job_at, task_at, deadline_of}
use Rattle.slot_model.specs.declared.job.Job.{Job}
use Rattle.slot_model.specs.Run.{service, holds, server, PermittedRun}
use Rattle.slot_model.specs.Slots.{slots_between}
use Rattle.slot_model.specs.Bound.{dbf, rbf}
use Rattle.slot_model.specs.Order.{IsRank, fixed_before}
use Rattle.slot_model.specs.Release.{synchronous, release_of}
use Rattle.slot_model.specs.Miss.{Missed}
use Rattle.slot_model.proofs.Runs.{search_below, count_below-mono}
use Rattle.edf_test.proofs.EdfMisses.{edf_misses_by}
use Rattle.fp_test.proofs.FixedMisses.{fixed_late_at}
use Rattle.slot_model.proofs.HasRelease.{In, has_release}
use Rattle.compose_tree.specs.Truth.{MissesBy}

-- under earliest deadline first some job that is due by the short point misses by then
pub core_edf : (before : Job → Job → Bool) (tasks : List SporadicTask) → AreConstrained tasks
    → (t n : ℕ) (slots : List Bool) (run : List (Option ℕ)) → t ≤ n → length slots ≡ n
    → PermittedRun server before tasks (synchronous tasks 0 n) slots run → slots_between slots 0 t < dbf tasks t
    → MissesBy tasks (synchronous tasks 0 n) run t
core_edf before tasks fits t n slots run tn len permitted short =
    let r
    = edf_misses_by server before tasks fits 0 t n slots run tn (len ∙ sym (zero-add n)) permitted
    (subst (λ (z : ℕ). slots_between slots 0 z < dbf tasks t) (sym (zero-add t)) short) in
    record { job = r.0; missed = r.1; by = omega (arith, r.2) }

-- whether a job misses by a moment
misses_by : (tasks : List SporadicTask) (jobs : List Job) (run : List (Option ℕ)) (t j : ℕ)
    → (Missed tasks jobs run j × (deadline_of tasks (job_at jobs j) ≤ t))
    ⊎ (Missed tasks jobs run j × (deadline_of tasks (job_at jobs j) ≤ t) → ⊥)
misses_by tasks jobs run t j = elim (cases_lt j (length jobs)) [
  | inr a ↦ inr (λ h. omega (arith, h.0.is_job))
  | inl a ↦
      elim (cases_lt (length run) (deadline_of tasks (job_at jobs j))) [
        | inl b ↦ inr (λ h. omega (arith, h.0.in_run))
        | inr b ↦
            elim (cases_lt (service run j (deadline_of tasks (job_at jobs j))) (job_at jobs j).work) [
              | inr c ↦ inr (λ h. omega (arith, h.0.short))
              | inl c ↦
                  elim (cases_lt t (deadline_of tasks (job_at jobs j))) [
                    | inl d ↦
                        inr (λ h. omega (arith, h.1))
                    | inr d ↦ inl (record { is_job = a; in_run = b; short = c }, d)
                  ]
            ]
      ]
]

-- under a fixed rank not all jobs due by the deadline of a short task are in time
core_fixed_none : (above : ℕ → ℕ → Bool) → IsRank above → (tasks : List SporadicTask) → AreConstrained tasks
    → (n : ℕ) (slots : List Bool) (run : List (Option ℕ)) → length slots ≡ n
    → PermittedRun server (fixed_before above) tasks (synchronous tasks 0 n) slots run
    → (i : ℕ) → i < length tasks → room_of (task_at tasks i) ≤ n
    → ((u : ℕ) → 1 ≤ u → u ≤ room_of (task_at tasks i) → slots_between slots 0 u < rbf above tasks i u)
    → ((k : ℕ) → Missed tasks (synchronous tasks 0 n) run k
    → deadline_of tasks (job_at (synchronous tasks 0 n) k) ≤ room_of (task_at tasks i) → ⊥) → ⊥
core_fixed_none above ranks tasks fits n slots run len permitted i li dn short none =
    let W : List Job = synchronous tasks 0 n in
    let d : ℕ = room_of (task_at tasks i) in
    let h : In W (release_of tasks 0 0 i)
    = has_release tasks 0 n 0 i li (omega (arith, (fits i li).works, (fits i li).in_deadline)) refl in
    let mine : (job_at W h.place).task ≡ i = ap (λ (b : Job). b.task) h.is in
    let first : (job_at W h.place).release ≡ 0 = ap (λ (b : Job). b.release) h.is in
    let whole : (job_at W h.place).work ≡ (task_at tasks i).work = ap (λ (b : Job). b.work) h.is in
    let dd : deadline_of tasks (job_at W h.place) ≡ d
    = omega (
      arith,
      first,
      ap (λ (b : Job). b.early) h.is,
      ap (λ (z : ℕ). (task_at tasks z).deadline) mine,
      (fits i li).works,
      (fits i li).in_deadline,
    ) in
    let late = fixed_late_at server above ranks tasks fits 0 n slots run (len ∙ sym (zero-add n)) permitted i d dn
    (λ k y lk ly q. elim (cases_lt y (deadline_of tasks (job_at W k))) [
      | inl o ↦
          o
      | inr o ↦
          absurd (none k (record {
            is_job = lk;
            in_run = omega (arith, permitted.same_length);
            short =
                omega (
                  arith,
                  q,
                  count_below-mono (λ z. holds (get_or run z None) k) (deadline_of tasks (job_at W k))
                      (suc y) (omega arith),
                );
          }) (omega arith))
    ])
    (λ u lu hu. subst (λ (z : ℕ). slots_between slots 0 z < rbf above tasks i u) (sym (zero-add u)) (short u lu hu))
    h.place h.within mine first (omega (arith, whole, (fits i li).works)) in
    elim (cases_lt (service run h.place (0 + d)) (job_at W h.place).work) [
      | inr q ↦ late q
      | inl q ↦
          none h.place (record {
            is_job = h.within;
            in_run = omega (arith, dd, permitted.same_length);
            short = subst (λ (z : ℕ). service run h.place z < (job_at W h.place).work) (zero-add d ∙ sym dd) q;
          })
          (omega arith)
    ]

-- so one of them misses by then
pub core_fixed : (above : ℕ → ℕ → Bool) → IsRank above → (tasks : List SporadicTask) → AreConstrained tasks
    → (n : ℕ) (slots : List Bool) (run : List (Option ℕ)) → length slots ≡ n
    → PermittedRun server (fixed_before above) tasks (synchronous tasks 0 n) slots run
    → (i : ℕ) → i < length tasks → room_of (task_at tasks i) ≤ n
    → ((u : ℕ) → 1 ≤ u → u ≤ room_of (task_at tasks i) → slots_between slots 0 u < rbf above tasks i u)
    → MissesBy tasks (synchronous tasks 0 n) run (room_of (task_at tasks i))
core_fixed above ranks tasks fits n slots run len permitted i li dn short =
    elim (search_below (λ k. Missed tasks (synchronous tasks 0 n) run k
    × (deadline_of tasks (job_at (synchronous tasks 0 n) k) ≤ room_of (task_at tasks i)))
    (misses_by tasks (synchronous tasks 0 n) run (room_of (task_at tasks i))) (length (synchronous tasks 0 n))) [
      | inl r ↦ record { job = r.0; missed = r.2.0; by = r.2.1 }
      | inr none ↦
          absurd (core_fixed_none above ranks tasks fits n slots run len permitted i li dn short
          (λ k h d. none k h.is_job (h, d)))
    ]
