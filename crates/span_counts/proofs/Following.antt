-- What jobs get before they are due, and what they lack, where a run goes on.
use Rattle.std.proofs.Common.{◌≡◌, ℕ, ◌+◌, ◌-◌, ◌<◌, ◌≤◌, ◌++◌, ◌^◌, min, List, ◌∷◌, length, get_or, set, map, drop, replicate, Option, Some, None, IfSome, refl, sym, ◌∙◌, ap, arith, subst, inl, inr}
use Rattle.std.specs.Prelude.{All}
use Rattle.std.proofs.lemmas.Bool.{cases_lt}
use Rattle.std.proofs.lemmas.List.{get_or-append_right, get_or-map, get_or-replicate, get_or_default, length-append, length-map, length-replicate}
use Rattle.slot_model.specs.Task.{SporadicTask, default_job, job_at, deadline_of}
use Rattle.slot_model.specs.Miss.{HoldsReleased}
use Rattle.slot_model.specs.declared.job.Job.{Job}
use Rattle.slot_model.specs.Run.{service}
use Rattle.slot_model.proofs.FirstRuns.{service_same}
use Rattle.guest_sched.specs.declared.spans.Span.{Span}
use Rattle.guest_sched.specs.Spans.{AreSpans, run_of, span_at}
use Rattle.guest_sched.proofs.SpanByOne.{Holds, span_job}
use Rattle.span_counts.specs.declared.pending.Wait.{Wait}
use Rattle.span_counts.specs.Counts.{ServedTo}
use Rattle.span_counts.specs.inner.Services.{AreServices, AreDues}
use Rattle.span_counts.specs.inner.Waits.{HasWorkFrom, WaitsTo, wait_at, AreWaitsTo}
use Rattle.span_counts.proofs.Counting.{idle_served, job_served}
use Rattle.span_counts.proofs.Waiting.{IsServed, all_kept, one_served, service-mono}

-- a run that goes on with one entry
abbrev pub more_run : List (Option ℕ) → ℕ → ℕ → Option ℕ → List (Option ℕ)
more_run run from until entry = run ++ replicate (until - from) entry

long_run : (run : List (Option ℕ)) (from until : ℕ) (entry : Option ℕ) → length run ≡ from → from < until
    → length (more_run run from until entry) ≡ until
long_run run from until entry e l =
    omega (arith, length-append run (replicate (until - from) entry), length-replicate (until - from) entry)

holds_more : (run : List (Option ℕ)) (from until : ℕ) (entry : Option ℕ) → length run ≡ from → from < until
    → Holds (more_run run from until entry) from until entry
holds_more run from until entry e l x a b =
    get_or-append_right run (replicate (until - from) entry) from x None e a
    ∙ get_or-replicate (until - from) (x - from) entry None (omega arith)

-- the run so far gives them the same
same_so_far : (due : ℕ → ℕ) (n : ℕ) (run : List (Option ℕ)) (from until : ℕ) (entry : Option ℕ) (got : List ℕ)
    → length run ≡ from → ServedTo due n run (length run) got
    → ServedTo due n (more_run run from until entry) from got
same_so_far due n run from until entry got e h = record {
  long = h.long;
  each = λ j l. omega (
    arith,
    h.each j l,
    ap (λ (z : ℕ). service run j (min (due j) z)) e,
    service_same run (replicate (until - from) entry) j (min (due j) from) (omega arith),
  );
}

pub follow_idle : (due : ℕ → ℕ) (n : ℕ) (run : List (Option ℕ)) (from until : ℕ) (got : List ℕ) → length run ≡ from
    → from < until → ServedTo due n run (length run) got
    → ServedTo due n (more_run run from until None) (length (more_run run from until None)) got
follow_idle due n run from until got e l h =
    subst (λ (m : ℕ). ServedTo due n (more_run run from until None) m got) (sym (long_run run from until None e l))
    (idle_served due n (more_run run from until None) from until got (same_so_far due n run from until None got e h)
    (omega arith) (holds_more run from until None e l))

pub follow_job : (due : ℕ → ℕ) (n : ℕ) (run : List (Option ℕ)) (from until i more : ℕ) (got : List ℕ)
    → length run ≡ from → from < until → ServedTo due n run (length run) got → i < n
    → more + min (due i) from ≡ min (due i) until
    → ServedTo due n (more_run run from until (Some i)) (length (more_run run from until (Some i)))
    (set got i (get_or got i 0 + more))
follow_job due n run from until i more got e l h li gets =
    subst (λ (m : ℕ). ServedTo due n (more_run run from until (Some i)) m (set got i (get_or got i 0 + more)))
    (sym (long_run run from until (Some i) e l))
    (job_served due n (more_run run from until (Some i)) from until i more got
    (same_so_far due n run from until (Some i) got e h) (omega arith) (holds_more run from until (Some i) e l) li gets)

-- what is counted up to the last moment of all is counted up to the deadline moment
pub are_services : (tasks : List SporadicTask) (jobs : List Job) (dues : List ℕ) (run : List (Option ℕ)) (got : List ℕ)
    → AreDues tasks jobs dues → length run ≤ 2 ^ 64 - 1
    → ServedTo (λ j. get_or dues j 0) (length dues) run (length run) got → AreServices tasks jobs run got
are_services tasks jobs dues run got d short h = record {
  long = h.long ∙ d.long;
  each = λ j l.
      let same : min (get_or dues j 0) (length run) ≡ min (deadline_of tasks (job_at jobs j)) (length run)
      = omega (arith, d.each j l) in
      h.each j (omega (arith, d.long)) ∙ ap (service run j) same;
}

-- the jobs of spans are jobs of the list
one_taken : (jobs : List Job) (spans : List Span) (n k : ℕ) → AreSpans spans (length (run_of spans))
    → HoldsReleased jobs (run_of spans) → n ≡ length jobs → k < length spans → (o : Option ℕ)
    → (span_at spans k).job ≡ o → IfSome o (λ j. j < n)
one_taken jobs spans n k are released e l None q = tt
one_taken jobs spans n k are released e l (Some j) q =
    omega (arith, e, (span_job spans jobs k j are released l q).is_job)

pub all_taken : (jobs : List Job) (spans : List Span) (n : ℕ) → AreSpans spans (length (run_of spans))
    → HoldsReleased jobs (run_of spans) → n ≡ length jobs → All (λ (s : Span). IfSome s.job (λ j. j < n)) spans
all_taken jobs spans n are released e k d l =
    subst (λ (s : Span). IfSome s.job (λ j. j < n))
    (get_or_default spans k (record { from = 0; until = 0; job = None }) d l)
    (one_taken jobs spans n k are released e l (span_at spans k).job refl)

-- the moment from which a job has its work, where the run so far gave it all of it
work_so_far : (run more : List (Option ℕ)) (j work end : ℕ) → work ≤ service run j (length run)
    → HasWorkFrom run j work end → HasWorkFrom (run ++ more) j work end
work_so_far run more j work end got h =
    let in_run : end ≤ length run = elim (cases_lt (length run) end) [
      | inl late ↦ absurd (omega (arith, got, h.lacks (length run) late))
      | inr ended ↦ ended
    ] in
    record {
      lacks = λ x l. omega (arith, service_same run more j x (omega (arith, l, in_run)), h.lacks x l);
      has =
          λ x l. omega (
            arith,
            service_same run more j end in_run,
            h.has end (omega arith),
            service-mono (run ++ more) j end x l,
          );
    }

-- the run so far leaves each job the same
waits_so_far : (jobs : List Job) (run more : List (Option ℕ)) (slots : ℕ) (waits : List Wait)
    → AreWaitsTo jobs run slots (length run) waits → AreWaitsTo jobs (run ++ more) slots (length run) waits
waits_so_far jobs run more slots waits h = record {
  long = h.long;
  each = λ j l.
      let same : service (run ++ more) j (length run) ≡ service run j (length run)
      = service_same run more j (length run) (omega arith) in
      let wait : WaitsTo run j (job_at jobs j).work slots (length run) (wait_at waits j) = h.each j l in
      record {
        left = omega (arith, same, wait.left);
        no_more = λ p. omega (arith, same, wait.no_more p);
        lacks = wait.lacks;
        has =
            λ z. work_so_far run more j (job_at jobs j).work (wait_at waits j).end (omega (arith, z, wait.left))
            (wait.has z);
      };
}

pub waits_idle : (jobs : List Job) (run : List (Option ℕ)) (from until slots : ℕ) (waits : List Wait)
    → length run ≡ from → from < until → AreWaitsTo jobs run slots (length run) waits
    → AreWaitsTo jobs (more_run run from until None) slots (length (more_run run from until None)) waits
waits_idle jobs run from until slots waits e l h =
    let more : List (Option ℕ) = more_run run from until None in
    subst (λ (m : ℕ). AreWaitsTo jobs more slots m waits) (sym (long_run run from until None e l))
    (all_kept jobs more slots from until waits (holds_more run from until None e l) (omega arith)
    (subst (λ (m : ℕ). AreWaitsTo jobs more slots m waits) e
    (waits_so_far jobs run (replicate (until - from) None) slots waits h)))

pub waits_job : (jobs : List Job) (run : List (Option ℕ)) (from until slots i : ℕ) (waits : List Wait) (after : Wait)
    → length run ≡ from → from < until → AreWaitsTo jobs run slots (length run) waits → i < length jobs
    → IsServed (wait_at waits i) after from until
    → AreWaitsTo jobs (more_run run from until (Some i)) slots (length (more_run run from until (Some i)))
    (set waits i after)
waits_job jobs run from until slots i waits after e l h li s =
    let more : List (Option ℕ) = more_run run from until (Some i) in
    subst (λ (m : ℕ). AreWaitsTo jobs more slots m (set waits i after)) (sym (long_run run from until (Some i) e l))
    (one_served jobs more slots from until i waits after (holds_more run from until (Some i) e l) (omega arith) li s
    (subst (λ (m : ℕ). AreWaitsTo jobs more slots m waits) e
    (waits_so_far jobs run (replicate (until - from) (Some i)) slots waits h)))

-- at the end of a run that was followed: what is held of the slots and works is as it was
pub waits_end : (jobs old held : List Job) (run : List (Option ℕ)) (slots before told : ℕ) (waits : List Wait)
    → (old ≡ jobs) × (before ≡ slots)
    → (told ∷ map (λ (a : Job). a.work) held) ≡ (before ∷ map (λ (a : Job). a.work) old) → length run ≡ slots
    → AreWaitsTo held run told (length run) waits → AreWaitsTo jobs run slots slots waits
waits_end jobs old held run slots before told waits over e long h =
    let work = λ (a : Job). a.work in
    let works : map work held ≡ map work jobs
    = ap (λ (xs : List ℕ). drop 1 xs) e ∙ ap (λ (js : List Job). map work js) over.0 in
    let same_slots : told ≡ slots = ap (λ (xs : List ℕ). get_or xs 0 0) e ∙ over.1 in
    let count : length held ≡ length jobs
    = omega (arith, ap (λ (xs : List ℕ). length xs) works, length-map held work, length-map jobs work) in
    record {
      long = omega (arith, h.long, count);
      each = λ j l.
          let same : (job_at held j).work ≡ (job_at jobs j).work
          = sym (get_or-map work held j default_job 0 (omega arith)) ∙ ap (λ (xs : List ℕ). get_or xs j 0) works
          ∙ get_or-map work jobs j default_job 0 l in
          subst (λ (m : ℕ). WaitsTo run j (job_at jobs j).work slots m (wait_at waits j)) long
          (subst (λ (m : ℕ). WaitsTo run j (job_at jobs j).work m (length run) (wait_at waits j)) same_slots
          (subst (λ (m : ℕ). WaitsTo run j m told (length run) (wait_at waits j)) same (h.each j (omega arith))));
    }
