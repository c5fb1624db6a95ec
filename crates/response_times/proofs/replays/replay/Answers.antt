use Rattle.std.proofs.Common.{◌≡◌, ℕ, ◌+◌, ◌-◌, ◌<◌, length, arith, subst, sym}
use Rattle.slot_model.specs.Task.{sporadic_tasks}
use Rattle.slot_model.specs.Order.{ranks_above, before_of}
use Rattle.slot_model.proofs.Constrained.{are_constrained}
use Rattle.guest_sched.specs.Spans.{run_of}
use Rattle.fp_test.specs.Hits.{IsLeastHit}
use Rattle.fp_request.proofs.Parts.{sporadic_tasks-length}
use Rattle.response_times.specs.Replay.{ShowsResponse}
use Rattle.response_times.proofs.Responses.{greatest_response, one_answer}
use Rattle.response_times.proofs.WorstRuns.{ends_with_it, shows_least}
use Rattle.response_times.proofs.replays.replay.Goals as goal
use Rattle.response_times.proofs.replays.replay.Goals.{After-deref, After-start}

i_in : (g : _) (c : After-deref g) → c.args.i < length (sporadic_tasks c.args.tasks.now)
i_in g c = omega (arith, sporadic_tasks-length c.args.tasks.now, c.requires.i_named)

-- the run ends with the last slot of the task's first job
pub end_with-requires : goal.end_with-requires
end_with-requires g c = (
  g.S.Supply.start_of c.args.s.now + c.in-Some.span,
  rw c.deref.ensures.value c.in_ok-spans.ensures.spans,
  rw c.deref.ensures.value (ends_with_it c.args.sched c.requires.fixed (sporadic_tasks c.args.tasks.now)
      (are_constrained c.args.tasks.now) (g.met.S.Supply.laws c.args.s.now) c.args.i c.in-Some.span
      (i_in g (goal.at.end_with-requires g c).After-deref) c.in-Some.ensures.exact
      (run_of c.in_ok-spans.spans.items) c.in_ok-spans.ensures.worst),
)

ended : (g : _) (c : After-start g) → c.end_with.result ≡ c.start.result + c.in-Some.span
ended g c =
    omega (
      arith,
      c.start.ensures,
      c.end_with.ensures (g.S.Supply.start_of c.args.s.now + c.in-Some.span)
          (rw c.deref.ensures.value c.in_ok-spans.ensures.spans),
    )

pub overflow_sub-result : goal.overflow_sub-result
overflow_sub-result g c = omega (arith, ended g (goal.at.overflow_sub-result g c).After-start)

-- so long after the start as the least hit
is_span : (g : _) (c : After-start g) → c.end_with.result - c.start.result ≡ c.in-Some.span
is_span g c = omega (arith, ended g c)

pub returns-clause-shown : goal.returns-clause-shown
returns-clause-shown g c =
    let T = sporadic_tasks c.args.tasks.now in
    let at = goal.at.returns-clause-shown g c in
    subst (λ (z : ℕ). ShowsResponse (before_of c.args.sched T) T (g.S.Supply.pattern c.args.s.now)
    (g.S.Supply.start_of c.args.s.now) z c.args.i z) (sym (is_span g at.After-start))
    (shows_least c.args.sched c.requires.fixed T (are_constrained c.args.tasks.now)
    (g.met.S.Supply.laws c.args.s.now) c.args.i c.in-Some.span (i_in g at.After-deref) c.in-Some.ensures.exact)

pub returns-clause-exact : goal.returns-clause-exact
returns-clause-exact g c =
    let T = sporadic_tasks c.args.tasks.now in
    subst (λ (z : ℕ). IsLeastHit (ranks_above c.args.sched T) T (g.S.Supply.bound c.args.s.now) c.args.i z)
    (sym (is_span g (goal.at.returns-clause-exact g c).After-start)) c.in-Some.ensures.exact

pub returns-clause-same : goal.returns-clause-same
returns-clause-same g c answer answers =
    let T = sporadic_tasks c.args.tasks.now in
    one_answer (ranks_above c.args.sched T) T (g.S.Supply.bound c.args.s.now) c.args.i
    (c.end_with.result - c.start.result) answer (returns-clause-exact g c) answers

pub returns-clause-greatest : goal.returns-clause-greatest
returns-clause-greatest g c =
    let T = sporadic_tasks c.args.tasks.now in
    greatest_response c.args.sched c.requires.fixed T (are_constrained c.args.tasks.now)
    (g.met.S.Supply.laws c.args.s.now) c.args.i (c.end_with.result - c.start.result)
    (i_in g (goal.at.returns-clause-greatest g c).After-deref) (returns-clause-exact g c)
