use Rattle.std.proofs.Common.{arith, subst}
use Rattle.rtds_queues.specs.Vcpus.{IsFirstEnd}
use Rattle.rtds_queues.proofs.Beginning.{begins_first, begins_on, fewer, ends_past}
use Rattle.rtds_queues.proofs.vcpus.Vcpus.begin_periods.Goals as goal

pub loop-self-init : goal.loop-self-init
loop-self-init c = begins_first c.args.at c.args.self.now c.requires.periods c.requires.ends

pub begin_first-requires-clause-first : goal.begin_first-requires-clause-first
begin_first-requires-clause-first c =
    subst (IsFirstEnd c.loop-self.self) c.loop-self-test.true c.first_end.ensures

pub loop-self-smaller : goal.loop-self-smaller
loop-self-smaller c =
    fewer c.args.at c.loop-self.self c.begin_first.new.self c.begin_first.ensures c.loop-self.invariant.periods

pub loop-self-preserved : goal.loop-self-preserved
loop-self-preserved c =
    begins_on c.args.at c.loop-self.self c.begin_first.new.self c.begin_first.ensures c.loop-self.invariant.periods
    c.args.self.now c.loop-self.invariant

pub returns-clause-ends : goal.returns-clause-ends
returns-clause-ends c =
    ends_past c.args.at c.first_end.result c.loop-self.self c.requires.in_limit c.first_end.ensures
    c.loop-self.invariant.later c.loop-self-test.false

pub returns-clause-begun : goal.returns-clause-begun
returns-clause-begun c v l =
    c.loop-self.invariant.done v l (λ e. omega (
      arith,
      e,
      ends_past c.args.at c.first_end.result c.loop-self.self c.requires.in_limit c.first_end.ensures
          c.loop-self.invariant.later c.loop-self-test.false v (omega (arith, l, c.loop-self.invariant.one_each)),
    ))
