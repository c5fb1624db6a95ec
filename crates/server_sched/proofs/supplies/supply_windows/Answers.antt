use Rattle.std.proofs.Common.{ℕ, Option, sym, subst, IfOk}
use Rattle.slot_model.specs.Supply.{Follows}
use Rattle.guest_sched.specs.Spans.{slots_of}
use Rattle.server_sched.specs.Patterns.{pattern_slot}
use Rattle.server_sched.proofs.supplies.supply_windows.Goals as goal

pub returns-in-None-clause-follows : goal.returns-in-None-clause-follows
returns-in-None-clause-follows c =
    subst (λ (s : Option (ℕ × ℕ)). IfOk c.pattern_windows.result
    (λ windows. Follows (pattern_slot c.args.pattern s) (slots_of windows.items c.args.slots)))
    (sym c.in-None.is) c.pattern_windows.ensures.follows
