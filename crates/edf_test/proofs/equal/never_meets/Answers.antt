use Rattle.std.proofs.Common.{◌≡◌, ℕ, ◌*◌, ◌/◌, ◌≤◌, List, ltb-true, div-mul-le_self, mul-le-mul_left, ap, arith, subst, ◌∙◌}
use Rattle.slot_model.specs.Task.{SporadicTask, sporadic_tasks}
use Rattle.slot_model.specs.Bound.{IsCommonMultiple}
use Rattle.slot_model.proofs.Constrained.{are_constrained}
use Rattle.edf_demand.proofs.Horizons.{rises_of_laws}
use Rattle.edf_test.specs.inner.Rates.{NeverMeets, behind_over}
use Rattle.edf_test.proofs.Lines.{amount_within}
use Rattle.edf_test.proofs.NeverMeets.{never_catches_up, far_apart}
use Rattle.edf_test.proofs.equal.never_meets.Goals as goal

-- a demand past 128 bits is more than m slots
pub returns-in_default-clause-exact : goal.returns-in_default-clause-exact
returns-in_default-clause-exact g c =
    let cycle : ℕ = g.S.Supply.cycle_of c.args.s.now in
    let amount : ℕ = g.S.Supply.amount c.args.s.now in
    let in_cycle : amount ≤ cycle = amount_within (g.met.S.Supply.laws c.args.s.now) in (
      λ h. absurd (cc),
      λ never. absurd (omega (
        arith,
        c.in_default.ensures.exact,
        never.no_faster,
        div-mul-le_self c.args.m cycle,
        mul-le-mul_left (c.args.m / cycle) in_cycle,
        c.ranges.m.fits,
      )),
    )

pub returns-then-behind-cycle-clause-settled : goal.returns-then-behind-cycle-clause-settled
returns-then-behind-cycle-clause-settled g c less t later =
    let laws = g.met.S.Supply.laws c.args.s.now in
    let T : List SporadicTask = sporadic_tasks c.args.tasks.now in
    let bound : ℕ → ℕ = g.S.Supply.bound c.args.s.now in
    let cycle : ℕ = g.S.Supply.cycle_of c.args.s.now in
    let amount : ℕ = g.S.Supply.amount c.args.s.now in
    let in_cycle : amount ≤ cycle = amount_within laws in
    let cycles : c.args.m / c.cycle-cycle.result ≡ c.args.m / cycle
    = ap (λ (z : ℕ). c.args.m / z) c.cycle-cycle.ensures in
    let given : c.args.m / c.cycle-cycle.result * c.amount_of.result ≡ c.args.m / cycle * amount
    = ap (λ (z : ℕ). z * c.amount_of.result) cycles
    ∙ ap (λ (z : ℕ). c.args.m / cycle * z) c.amount_of.ensures.exact in
    let behind : c.args.m / c.cycle-cycle.result * c.behind_rate-behind.result
    ≡ c.args.m / cycle * behind_over bound amount cycle
    = ap (λ (z : ℕ). z * c.behind_rate-behind.result) cycles
    ∙ ap (λ (z : ℕ). c.args.m / cycle * z) c.behind_rate-behind.ensures in
    let never : NeverMeets T bound amount cycle c.args.m = record {
      common =
          subst (λ (z : ℕ). IsCommonMultiple T z c.args.m) c.cycle.ensures
          (c.is_common_multiple.ensures.0 c.if-not-is_common_multiple.false);
      no_faster = omega (arith, c.in-Some.ensures.exact, c.if-asked-cycles.false, given);
      close = omega (arith, ltb-true _ _ less, c.in-Some-ahead_of_rate.ensures, behind);
    } in
    never_catches_up T (are_constrained c.args.tasks.now) bound amount cycle c.args.m (rises_of_laws _ _ _ _ _ _ laws)
    laws.never_falls laws.rises_by_one laws.some_cycle in_cycle never t (omega (arith, later))

pub returns-else-behind-cycle-clause-exact : goal.returns-else-behind-cycle-clause-exact
returns-else-behind-cycle-clause-exact g c =
    let laws = g.met.S.Supply.laws c.args.s.now in
    let cycle : ℕ = g.S.Supply.cycle_of c.args.s.now in (
      λ less. absurd (omega (arith, ltb-true _ _ less, c.if-behind-cycle.false)),
      λ never. absurd (omega (
        arith,
        never.close,
        far_apart c.args.m cycle _ laws.some_cycle never.common.of_cycle
            (
            let far : cycle
            ≤ behind_over (g.S.Supply.bound c.args.s.now) (g.S.Supply.amount c.args.s.now) cycle
            = omega (
              arith,
              c.if-behind-cycle.false,
              c.behind_rate-behind.ensures,
              c.cycle-cycle.ensures,
            ) in
            far),
      )),
    )
