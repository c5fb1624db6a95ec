use Rattle.std.proofs.Common.{eqb-true}
use Rattle.std.proofs.lemmas.Nat.Gcd.{dvd_of_mod-eq-zero, mod-eq-zero_of_dvd}
use Rattle.edf_test.proofs.NeverMeets.{all_divide, divide_all}
use Rattle.edf_test.proofs.equal.is_common_multiple.Goals as goal

pub returns-then-m-cycle-eq0 : goal.returns-then-m-cycle-eq0
returns-then-m-cycle-eq0 c = (
  λ each. record {
    some = c.requires.some_slots;
    of_cycle = dvd_of_mod-eq-zero c.args.cycle {n = c.args.m} c.if-m-cycle-eq0.true;
    of_periods = all_divide c.args.tasks.now c.args.m (c.is_multiple.ensures.0 each);
  },
  λ common. c.is_multiple.ensures.1 (divide_all c.args.tasks.now c.args.m common.of_periods),
)

pub returns-else-m-cycle-eq0 : goal.returns-else-m-cycle-eq0
returns-else-m-cycle-eq0 c = (
  λ none. absurd (c.if-m-cycle-eq0.false (eqb-true _ _ none)),
  λ common. absurd (c.if-m-cycle-eq0.false (mod-eq-zero_of_dvd c.args.cycle common.of_cycle)),
)
