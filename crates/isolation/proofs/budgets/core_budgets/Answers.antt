use Rattle.std.proofs.Common.{◌≡◌, ℕ, ◌+◌, List, length, true, false, get_or, sym, ◌∙◌, ap, arith, subst}
use Rattle.slot_model.specs.Slots.{places_where}
use Rattle.tree_model.specs.View.{PartView}
use Rattle.tree_model.specs.declared.pinned_core.Core.{Core as CoreView}
use Rattle.isolation.specs.declared.budgets.CoreBudgets.{CoreBudgets}
use Rattle.isolation.specs.Answers.{OneEach}
use Rattle.isolation.specs.Budgets.{has_part, IsCoreBudgets}
use Rattle.isolation.proofs.Listed.{one_more_row, no_more_row}
use Rattle.isolation.proofs.Sums.{has_one, has_none}
use Rattle.isolation.proofs.budgets.core_budgets.Goals.{then-neighbours-core+in_ok-push, else-neighbours-core}
use Rattle.isolation.proofs.budgets.core_budgets.Goals as goal

pub loop-core-preserved : goal.loop-core-preserved
loop-core-preserved c =
    let parts = ap (λ (ps : List PartView). length ps) c.parts.ensures.parts in
    let first = c.new-neighbours.ensures.first c.loop-core.core
    (omega (arith, c.loop-core-test.true, ap (λ (cs : List CoreView). length cs) c.cores-core-end.ensures.cores)) in
    let core : CoreBudgets → ℕ = λ row. row.core in
    let Told : List CoreBudgets → Type 0
    = OneEach core (IsCoreBudgets c.args.sys.now c.args.plan.now)
    (places_where (has_part c.args.sys.now) (c.loop-core.core + 1)) in
    elim c.if-neighbours-core.branch [
      | then-neighbours-core+in_ok-push w ↦
          let has : has_part c.args.sys.now c.loop-core.core ≡ true
          = has_one c.args.sys.now c.loop-core.core (get_or c.new-neighbours.result.first c.loop-core.core 0) first
          (omega (arith, parts, w.if-neighbours-core.true)) in
          subst Told (sym (ap (λ v. v.items) w.rows-is ∙ w.in_ok-push.ensures.items))
          (one_more_row core (IsCoreBudgets c.args.sys.now c.args.plan.now) (has_part c.args.sys.now) c.loop-core.core
          c.loop-core.rows.items c.loop-core.invariant w.budgets_of.result has w.budgets_of.ensures.of_core
          w.budgets_of.ensures.is)
      | else-neighbours-core w ↦
          let has : has_part c.args.sys.now c.loop-core.core ≡ false
          = has_none c.args.sys.now c.loop-core.core (get_or c.new-neighbours.result.first c.loop-core.core 0) first
          (omega (arith, parts, w.if-neighbours-core.false)) in
          subst Told (sym (ap (λ v. v.items) w.rows-is))
          (no_more_row core (IsCoreBudgets c.args.sys.now c.args.plan.now) (has_part c.args.sys.now) c.loop-core.core
          c.loop-core.rows.items c.loop-core.invariant has)
    ]
