use Rattle.std.proofs.Common.{◌≡◌, length, ap, arith}
use Rattle.auditor.specs.declared.counted.Counted.TheVariants.{Core}
use Rattle.vcpu_watch.specs.Watch.{no_tally}
use Rattle.auditor.specs.Tally.{IsTally}
use Rattle.auditor.proofs.Tallies.{core_tally}
use Rattle.auditor.proofs.Totals.{entries_more}
use Rattle.auditor.proofs.SoFar.{none_so_far, one_so_far, found_all}
use Rattle.auditor.proofs.verdict.tally_all.Goals as goal

pub loop-v-init : goal.loop-v-init
loop-v-init c = record {
  so_many = omega (arith, ap length c.new-vcpus.ensures.items);
  each = λ budgets events end u l. absurd (omega (arith, l));
  so_far = rw c.new-so_far.ensures (none_so_far Core c.args.sys.now c.args.rows.now c.args.watches.now);
}

pub loop-v-preserved : goal.loop-v-preserved
loop-v-preserved c = record {
  so_many = omega (arith, c.in_ok-push.ensures.len, c.loop-v.invariant.so_many);
  each =
      λ budgets events end. entries_more (IsTally c.args.sys.now budgets events) no_tally c.loop-v.v
      c.loop-v.vcpus.items c.push.new.self.items c.settled-settled.result.tally c.loop-v.invariant.so_many
      c.in_ok-push.ensures.items (c.loop-v.invariant.each budgets events end)
      (core_tally c.args.sys.now budgets events c.loop-v.v c.settled-settled.result.tally
      (c.settled-settled.ensures.settled Core budgets events end).tallied);
  so_far =
      one_so_far Core c.args.sys.now c.args.rows.now c.args.watches.now c.loop-v.v c.loop-v.so_far c.add.new.self
      c.settled-settled.result c.requires.system
      (omega (arith, c.loop-v-test.true, ap (λ z. length z) c.parts-v-end.ensures.parts)) c.loop-v.invariant.so_far
      c.settled-settled.ensures.few (c.settled-settled.ensures.settled Core) c.add.ensures.periods c.add.ensures.first;
}

pub returns : goal.returns
returns c budgets events end =
    let all : c.loop-v.v ≡ length c.args.sys.now.parts
    = omega (arith, c.loop-v.auto.v-end, c.loop-v-test.false, ap (λ z. length z) c.parts-v-end.ensures.parts) in (
      rw c.finding.ensures (found_all c.args.sys.now c.args.rows.now c.args.watches.now c.loop-v.v c.loop-v.so_far all
          c.loop-v.invariant.so_far budgets events end),
      record {
        each_part = omega (arith, c.loop-v.invariant.so_many, all);
        each = λ v l. c.loop-v.invariant.each budgets events end v (omega (arith, l, all));
      },
    )
