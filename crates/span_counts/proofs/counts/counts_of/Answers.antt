use Rattle.std.proofs.Common.{◌≡◌, ℕ, length, sym, ◌∙◌, ap}
use Rattle.slot_model.specs.Slots.{count_below, slots_between}
use Rattle.guest_sched.specs.Spans.{slots_of}
use Rattle.guest_sched.proofs.Given.{slots-long}
use Rattle.span_counts.specs.Counts.{is_early}
use Rattle.span_counts.proofs.counts.counts_of.Goals as goal

pub returns : goal.returns
returns c = λ run end got.
    let slots = slots_of c.args.given.now c.args.slots in
    let long : length slots ≡ c.args.slots = slots-long c.args.given.now c.args.slots in
    let missed = c.find_missed-missed.ensures in
    record {
      given = c.slots_given.ensures c.args.slots c.requires.windows ∙ ap (slots_between slots 0) (sym long);
      released =
          c.jobs_before.ensures
          ∙ ap (λ (n : ℕ). count_below (is_early c.args.jobs.now n) (length c.args.jobs.now)) (sym long);
      missed = missed.count run end got;
      none = missed.none run end got;
      first = missed.first run end got;
    }
