-- The first run of the worst case, as the code makes it, and the response that it shows.
use Rattle.std.proofs.Common.{◌≡◌, ◌≢◌, ℕ, suc, ◌+◌, ◌-◌, ◌<◌, ◌≤◌, Bool, cond, List, length, Option, Some, sym, ◌∙◌, ap, arith, subst, inl, inr}
use Rattle.std.proofs.lemmas.Bool.{cases_Bool, cond-false}
use Rattle.slot_model.specs.declared.job.Job.{Job}
use Rattle.slot_model.specs.declared.sched.Sched.{Sched}
use Rattle.slot_model.specs.declared.sched.Sched.TheVariants.{Edf}
use Rattle.slot_model.specs.Supply.{SupplyLaws, Follows}
use Rattle.slot_model.specs.Task.{SporadicTask, AreConstrained, job_at}
use Rattle.slot_model.specs.Release.{synchronous}
use Rattle.slot_model.specs.Run.{guest, held, holds, service, FirstRun}
use Rattle.slot_model.specs.Order.{before_of, ranks_above}
use Rattle.slot_model.proofs.FirstRuns.{first_permitted, run_to}
use Rattle.slot_model.proofs.Runs.{holds-is}
use Rattle.slot_model.proofs.Sums.{sum_below-suc}
use Rattle.slot_model.proofs.WorstLists.{worst_list, worst_list-is}
use Rattle.fp_test.specs.Hits.{IsLeastHit}
use Rattle.fp_test.proofs.Answer.{answer_in_time, answer_late}
use Rattle.guest_sched.specs.Spans.{slots_of, Window}
use Rattle.guest_sched.proofs.Given.{slots-long}
use Rattle.response_times.specs.Replay.{IsFirstJob, IsWorstRun, ShowsResponse}
use Rattle.response_times.specs.Response.{IsResponse}
use Rattle.response_times.specs.inner.Ends.{EndsWith}
use Rattle.fp_request.proofs.Strict.{order_strict}
use Rattle.response_times.proofs.Responses.{responds_from_start}
use Rattle.response_times.proofs.FirstJobs.{first_place, first_from_start}

-- as the code makes it: the jobs, the windows of the pattern, and the first run over them
pub ran_worst : (before : Job → Job → Bool) (tasks : List SporadicTask) (pattern : ℕ → Bool) (start from span : ℕ)
    (made jobs : List Job) (drawn windows : List Window) (run : List (Option ℕ)) → from ≡ start → jobs ≡ made
    → windows ≡ drawn → made ≡ synchronous tasks from span → Follows pattern (slots_of drawn (from + span))
    → FirstRun guest before tasks jobs (slots_of windows (from + span)) run
    → IsWorstRun before tasks pattern start span run
ran_worst before tasks pattern start from span made jobs drawn windows run f j w exact follows first =
    let slots : List Bool = slots_of drawn (from + span) in
    let ended : length slots ≡ from + span = slots-long drawn (from + span) in
    let same : jobs ≡ synchronous tasks start span = j ∙ exact ∙ ap (λ (a : ℕ). synchronous tasks a span) f in
    let here : FirstRun guest before tasks jobs slots run
    = subst (λ (z : List Window). FirstRun guest before tasks jobs (slots_of z (from + span)) run) w first in
    record {
      slots = slots;
      worst = record { follows = follows; long = omega (arith, ended, f) };
      first_run = subst (λ (z : List Job). FirstRun guest before tasks z slots run) same here;
    }

-- the slot in which a job comes to its work is its own
last_served : (run : List (Option ℕ)) (j x work : ℕ) → service run j x < work → work ≤ service run j (suc x)
    → held run x ≡ Some j
last_served run j x work lacks done = elim (cases_Bool (holds (held run x) j)) [
  | inl e ↦ holds-is (held run x) j e
  | inr e ↦
      absurd (omega (
        arith,
        lacks,
        done,
        sum_below-suc (λ y. cond (holds (held run y) j) 1 0) x,
        cond-false {A = ℕ} (holds (held run x) j) 1 0 e,
      ))
]

module _ (sched : Sched) (fixed : sched ≢ Edf) (tasks : List SporadicTask) (fits : AreConstrained tasks) {bound : ℕ → ℕ}
    {amount cycle : ℕ} {pattern : ℕ → Bool} {start : ℕ} {Conforms : List Bool → Type 0}
    (laws : SupplyLaws bound amount cycle pattern start Conforms) (i t : ℕ) (li : i < length tasks)
    (least : IsLeastHit (ranks_above sched tasks) tasks bound i t) where
  -- in each run that ends with it the first job has the least hit for its response
  responds : (run : List (Option ℕ)) → IsWorstRun (before_of sched tasks) tasks pattern start t run
      → IsResponse (synchronous tasks start t) run i t
  responds run worst =
      let W : List Job = synchronous tasks start t in
      let first : IsFirstJob W i i = first_place tasks start t i li least.0.some_slots in
      responds_from_start (before_of sched tasks) tasks fits laws i t least.0.some_slots
      (answer_in_time sched fixed tasks fits laws i (Some t) least)
      (answer_late sched fixed tasks fits laws i (Some t) least) worst.slots worst.worst run
      (first_permitted guest (before_of sched tasks) tasks W worst.slots run worst.first_run) i first.is_job first.mine
      (first_from_start tasks start t i li least.0.some_slots)

  -- so such a run shows it
  pub shows_least : ShowsResponse (before_of sched tasks) tasks pattern start t i t
  shows_least =
      let W : List Job = synchronous tasks start t in
      let slots : List Bool = worst_list pattern (start + t) in
      let made = run_to guest (before_of sched tasks) (order_strict sched tasks) tasks W slots (length slots) in
      let worst : IsWorstRun (before_of sched tasks) tasks pattern start t made.0
      = record { slots = slots; worst = worst_list-is pattern start t; first_run = made.1 } in
      record {
        run = made.0;
        is_worst = worst;
        job = i;
        first_job = first_place tasks start t i li least.0.some_slots;
        responds = responds made.0 worst;
      }

  -- and that job has its last slot
  pub ends_with_it : (run : List (Option ℕ)) → IsWorstRun (before_of sched tasks) tasks pattern start t run
      → EndsWith run (start + t) i
  ends_with_it run worst =
      let W : List Job = synchronous tasks start t in
      let x : ℕ = start + (t - 1) in
      let seen : IsResponse W run i t = responds run worst in
      let last : suc x ≡ (job_at W i).release + t
      = omega (arith, first_from_start tasks start t i li least.0.some_slots, least.0.some_slots) in (
        x,
        omega (arith, least.0.some_slots),
        last_served run i x (job_at W i).work (seen.not_before x (omega (arith, last)))
            (subst (λ (y : ℕ). (job_at W i).work ≤ service run i y) (sym last) seen.has_work),
      )
