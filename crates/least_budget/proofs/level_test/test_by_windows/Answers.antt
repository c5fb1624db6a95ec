use Rattle.std.proofs.Common.{ℕ, ◌-◌, ◌^◌, ◌≤◌, subst}
use Rattle.slot_model.specs.Task.{sporadic_tasks}
use Rattle.slot_model.specs.Bound.{IsHorizon, DemandFits, dbf}
use Rattle.edf_demand.specs.Cyclic.{RisesByCycle}
use Rattle.least_budget.proofs.Testing.{windows_pass}
use Rattle.least_budget.proofs.level_test.test_by_windows.Goals as goal

pub returns-in-None : goal.returns-in-None
returns-in-None g c =
    windows_pass (sporadic_tasks c.args.lined.now.level.tasks.now) (g.met.S.Supply.laws c.args.s.now) c.in-Some.h
    (subst (λ (z : ℕ). IsHorizon (sporadic_tasks c.args.lined.now.level.tasks.now) z c.in-Some.h ×
    (c.in-Some.h ≤ 2 ^ 128 - 2))
    c.cycle.ensures c.in-Some.ensures.exact)
    (subst (λ (z : ℕ). (b : ℕ → ℕ) (a : ℕ) → RisesByCycle b a z
    → ((t : ℕ) → 1 ≤ t → t ≤ c.in-Some.h → dbf (sporadic_tasks c.args.lined.now.level.tasks.now) t ≤ b t)
    → DemandFits (sporadic_tasks c.args.lined.now.level.tasks.now) b) c.cycle.ensures c.in-Some.ensures.enough)
    c.in-None.ensures
