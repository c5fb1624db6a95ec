use Rattle.std.proofs.Common.{◌≡◌, ℕ, ◌+◌, Bool, arith, sym, subst, ◌∙◌, ap, length}
use Rattle.slot_model.specs.Slots.{count_below}
use Rattle.slot_model.specs.Task.{sporadic_tasks}
use Rattle.slot_model.specs.Miss.{is_missed}
use Rattle.slot_model.proofs.FirstMiss.{FirstMissTo}
use Rattle.slot_model.proofs.Sums.{sum_below-zero}
use Rattle.slot_model.proofs.MissedJobs.{none_where_zero, zero_where_none, count_below-passes, count_below-fails}
use Rattle.span_counts.proofs.FirstMore.{one_in_time, one_misses}
use Rattle.span_counts.proofs.counts.find_missed.Goals as goal
use Rattle.span_counts.proofs.counts.find_missed.Goals.{in-Some, in_default}

pub loop-place-init : goal.loop-place-init
loop-place-init c = record {
  counted = λ run e s. sym (sum_below-zero _);
  few = omega arith;
  first = λ run e s k l. absurd (omega arith);
}

pub loop-place-preserved : goal.loop-place-preserved
loop-place-preserved c =
    let T = sporadic_tasks c.args.tasks.now in
    let jobs = c.args.jobs.now in
    let n = c.loop-place.place in
    let h = c.loop-place.invariant in
    elim c.match-find_miss.branch [
      | in-Some w ↦ record {
        counted = λ run e s. omega (
          arith,
          w.count-is,
          count_below-passes (is_missed T jobs run) n (w.in-Some.ensures run e s).0,
          h.counted run e s,
        );
        few = omega (arith, w.count-is, h.few);
        first =
            λ run e s. subst (FirstMissTo T jobs run (n + 1)) (sym w.first-is)
            (one_misses T jobs run n c.loop-place.first w.in-Some.miss w.earlier_miss.result (h.first run e s)
            (w.in-Some.ensures run e s).0 (w.in-Some.ensures run e s).1 w.earlier_miss.ensures);
      }
      | in_default w ↦ record {
        counted = λ run e s. omega (
          arith,
          w.count-is,
          count_below-fails (is_missed T jobs run) n (w.in_default.ensures run e s),
          h.counted run e s,
        );
        few = omega (arith, w.count-is, h.few);
        first =
            λ run e s. subst (FirstMissTo T jobs run (n + 1)) (sym w.first-is)
            (one_in_time T jobs run n c.loop-place.first (h.first run e s) (w.in_default.ensures run e s));
      }
    ]

pub returns-clause-count : goal.returns-clause-count
returns-clause-count c run e s =
    c.loop-place.invariant.counted run e s
    ∙ ap (count_below (is_missed (sporadic_tasks c.args.tasks.now) c.args.jobs.now run)) (omega arith)

pub returns-clause-none : goal.returns-clause-none
returns-clause-none c run e s =
    let T = sporadic_tasks c.args.tasks.now in
    let missed : ℕ → Bool = is_missed T c.args.jobs.now run in
    let all : c.loop-place.count ≡ count_below missed (length c.args.jobs.now)
    = c.loop-place.invariant.counted run e s ∙ ap (λ (n : ℕ). count_below missed n) (omega arith) in (
      (λ z. none_where_zero T c.args.jobs.now run (sym all ∙ z)),
      λ none. all ∙ zero_where_none T c.args.jobs.now run none,
    )
