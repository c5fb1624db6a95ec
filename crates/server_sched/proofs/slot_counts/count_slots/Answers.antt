use Rattle.std.proofs.Common.{List, Option, ℕ, sym, ◌∙◌, ap, subst}
use Rattle.slot_model.specs.Miss.{HoldsReleased}
use Rattle.guest_sched.specs.declared.spans.Span.{Span}
use Rattle.guest_sched.specs.Spans.{run_of}
use Rattle.server_sched.proofs.slot_counts.count_slots.Goals as goal

pub count_level-requires-clause-released : goal.count_level-requires-clause-released
count_level-requires-clause-released c =
    subst (λ (run : List (Option ℕ)). HoldsReleased c.args.jobs.now run)
    (sym (ap (λ (spans : List Span). run_of spans) c.deref-2.ensures.value ∙ c.in_ok-spans.ensures.same))
    c.requires.released
