use Rattle.std.proofs.Common.{◌≡◌, ℕ, length, replicate, arith, ap, ◌∙◌}
use Rattle.std.specs.Prelude.{[], slice_index}
use Rattle.span_counts.proofs.Counting.{none_served}
use Rattle.span_counts.proofs.services.Services.new.Goals as goal

pub returns-clause-dues : goal.returns-clause-dues
returns-clause-dues c = record {
  long = omega (arith, c.loop-job.invariant.long);
  each = λ j l. c.loop-job.invariant.each j (omega (arith, l));
}

pub returns-clause-begins : goal.returns-clause-begins
returns-clause-begins c =
    let dues = c.loop-job.dues.items in
    let long : length c.args.jobs.now ≡ length dues = omega (arith, c.loop-job.invariant.long) in
    none_served (slice_index dues) (length dues) [] c.in_ok-got.got.items
    (c.in_ok-got.ensures.items_if_clones_equal (λ y h. h) ∙ ap (λ (z : ℕ). replicate z 0) long)
