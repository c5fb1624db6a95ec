use Rattle.std.proofs.Common.{ℕ, arith, subst, sym, true}
use Rattle.slot_model.specs.Supply.{worst_slot_by}
use Rattle.supply_bound.specs.NextWindow.{IsNextWindow}
use Rattle.supply_bound.proofs.NextWindow.{same_next, whole_period}
use Rattle.supply_bound.proofs.next_window.next_window_by.Goals as goal

pub returns-then-budget-period : goal.returns-then-budget-period
returns-then-budget-period c =
    subst (λ (b : ℕ). IsNextWindow (worst_slot_by c.args.period b c.args.deadline) c.args.from c.args.below
    c.every_slot.result) (sym c.if-budget-period.true)
    (same_next (λ x. true) (worst_slot_by c.args.period c.args.period c.args.deadline)
    (λ x. whole_period c.args.period c.args.deadline x (omega arith) (omega arith) (omega arith))
    c.args.from c.args.below c.every_slot.result c.every_slot.ensures)
