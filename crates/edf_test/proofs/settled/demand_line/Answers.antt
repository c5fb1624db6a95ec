use Rattle.std.proofs.Common.{◌≡◌, ℕ, ◌+◌, ◌*◌, ◌-◌, ◌≤◌, ◌^◌, List, [], ◌∷◌, ◌++◌, take, sym, ◌∙◌, ap, arith, subst}
use Rattle.std.proofs.lemmas.List.{take_more}
use Rattle.slot_model.specs.declared.task.Task.{Task}
use Rattle.slot_model.specs.Task.{sporadic_tasks}
use Rattle.slot_model.proofs.HandedOn.{none_handed_on}
use Rattle.edf_test.specs.Rates.{asked_rate, asked_ahead}
use Rattle.edf_test.proofs.Lines.{IsAbove, above_more, rate-push, ahead-push, ahead_small}
use Rattle.edf_test.proofs.settled.demand_line.Goals as goal

-- 2^32 tasks are needed to pass 128 bits
pub returns-in_err-slope : goal.returns-in_err-slope
returns-in_err-slope c =
    none_handed_on _ _ _ c.from_residual.ensures
    (omega (arith, c.in_err-slope.ensures, c.loop-task.invariant.slope_small, c.rate_of-rate.ensures.at_most_one))

pub returns-in_err-offset : goal.returns-in_err-offset
returns-in_err-offset c =
    none_handed_on _ _ _ c.from_residual-in_err-offset.ensures (omega (
      arith,
      c.in_err-offset.ensures,
      c.loop-task.invariant.offset_small,
      ahead_small c.rate_of-rate.result c.task-item.result.period
          c.room_of-room.result c.rate_of-rate.ensures.at_most_one
          c.task-item.result.in_limit,
    ))

pub loop-task-preserved : goal.loop-task-preserved
loop-task-preserved c =
    let task : Task = c.task-item.result in
    let before : List Task = take c.loop-task.task-index c.args.tasks.now in
    let rate : ℕ = c.rate_of-rate.result in
    let more : before ++ task ∷ [] ≡ take (c.loop-task.task-index + 1) c.args.tasks.now
    = ap (λ (z : Task). before ++ z ∷ []) c.task-item.is
    ∙ sym (take_more c.args.tasks.now c.loop-task.task-index task (omega arith)) in
    let over : task.work * 2 ^ 60 ≤ rate * task.period
    = omega (
      arith,
      task.works,
      task.in_deadline,
      task.in_period,
      ap (λ (z : ℕ). z * task.period) c.rate_of-rate.ensures.exact,
    ) in
    let above : IsAbove (sporadic_tasks (before ++ task ∷ [])) (c.loop-task.slope + rate)
    (c.loop-task.offset + rate * (task.period - (task.deadline - task.jitter)))
    = above_more before task c.loop-task.slope c.loop-task.offset rate c.loop-task.invariant.above over in
    let slope : c.loop-task.slope + rate ≡ c.in_ok-slope.slope = sym c.in_ok-slope.ensures.1 in
    let offset : c.loop-task.offset + rate * (task.period - (task.deadline - task.jitter)) ≡ c.in_ok-offset.offset
    = ap (λ (z : ℕ). c.loop-task.offset + rate * (task.period - z)) (sym c.room_of-room.ensures.exact)
    ∙ sym c.in_ok-offset.ensures.1 in
    let ahead : c.in_ok-offset.offset ≡ asked_ahead (sporadic_tasks (before ++ task ∷ []))
    = omega (
      arith,
      offset,
      c.loop-task.invariant.offset,
      ap (λ (z : ℕ). z * (task.period - (task.deadline - task.jitter))) c.rate_of-rate.ensures.exact,
      ahead-push before task,
    ) in
    let sum : c.in_ok-slope.slope ≡ asked_rate (sporadic_tasks (before ++ task ∷ []))
    = omega (arith, slope, c.loop-task.invariant.slope, c.rate_of-rate.ensures.exact, rate-push before task) in
    record {
      above =
          subst (λ (z : ℕ). IsAbove (sporadic_tasks (take (c.loop-task.task-index + 1) c.args.tasks.now))
          c.in_ok-slope.slope z) offset
          (subst (λ (z : ℕ). IsAbove (sporadic_tasks (take (c.loop-task.task-index + 1) c.args.tasks.now)) z
          (c.loop-task.offset + rate * (task.period - (task.deadline - task.jitter)))) slope
          (subst (λ (xs : List Task). IsAbove (sporadic_tasks xs) (c.loop-task.slope + rate)
          (c.loop-task.offset + rate * (task.period - (task.deadline - task.jitter)))) more above));
      slope = subst (λ (xs : List Task). c.in_ok-slope.slope ≡ asked_rate (sporadic_tasks xs)) more sum;
      offset = subst (λ (xs : List Task). c.in_ok-offset.offset ≡ asked_ahead (sporadic_tasks xs)) more ahead;
      slope_small = omega (arith, slope, c.loop-task.invariant.slope_small, c.rate_of-rate.ensures.at_most_one);
      offset_small =
          omega (
            arith,
            offset,
            c.loop-task.invariant.offset_small,
            ahead_small rate task.period (task.deadline - task.jitter) c.rate_of-rate.ensures.at_most_one
                task.in_limit,
          );
    }
