use Rattle.slot_model.specs.Slots.{places_where}
use Rattle.isolation.specs.declared.budgets.CoreBudgets.{CoreBudgets}
use Rattle.isolation.specs.Answers.{OneEach}
use Rattle.isolation.specs.Budgets.{has_part, IsCoreBudgets}
use Rattle.isolation.proofs.budgets.core_budgets.Given as goal

-- what is told of the cores so far
abbrev pub invariant-loop-core : goal.invariant-loop-core
invariant-loop-core l =
    OneEach (λ (row : CoreBudgets). row.core) (IsCoreBudgets l.sys l.plan) (places_where (has_part l.sys) l.core)
    l.rows.items
