use Rattle.std.proofs.Common.{ℕ, Option, refl, ap}
use Rattle.slot_model.specs.Task.{sporadic_tasks}
use Rattle.slot_model.specs.declared.miss.Miss.{Miss}
use Rattle.span_counts.specs.declared.counts.Counts.{Counts}
use Rattle.slot_model.proofs.Constrained.{are_constrained}
use Rattle.guest_sched.specs.Spans.{slots_of}
use Rattle.server_sched.proofs.LevelServed.{served}
use Rattle.server_sched.proofs.served.kept_of_level.Goals as goal

abbrev counts_with : ℕ → ℕ → ℕ → Option Miss → Counts
counts_with given released missed first = record { given = given; released = released; missed = missed; first = first }

pub returns : goal.returns
returns c = λ sched h end next.
    let level = c.args.level in
    served sched (sporadic_tasks c.args.tasks.now) (are_constrained c.args.tasks.now) c.args.given.now level h end next
    _ c.slots_given.result c.whole_tally-tally.result.missed c.whole_tally-tally.result.first
    (c.slots_given.ensures level.slots c.requires.windows)
    (c.whole_tally-tally.ensures sched (slots_of c.args.given.now level.slots) h end next) refl
    (ap (λ (first : Option Miss). counts_with c.slots_given.result level.come.released
    c.whole_tally-tally.result.missed first) c.told_of.ensures)
