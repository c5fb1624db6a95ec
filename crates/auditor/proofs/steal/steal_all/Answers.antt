use Rattle.std.proofs.Common.{◌≡◌, length, ap, arith}
use Rattle.auditor.specs.declared.counted.Counted.TheVariants.{Stolen}
use Rattle.auditor.specs.Steal.{IsStealTally, no_steal_tally}
use Rattle.auditor.proofs.SoFar.{none_so_far, one_so_far, denied_all}
use Rattle.auditor.proofs.Tallies.{few_over, steal_tally}
use Rattle.auditor.proofs.Totals.{entries_more}
use Rattle.auditor.proofs.steal.steal_all.Goals as goal

pub loop-v-init : goal.loop-v-init
loop-v-init c = record {
  so_many = omega (arith, ap length c.new-vcpus.ensures.items);
  each = λ budgets events plan end u l. absurd (omega (arith, l));
  so_far = rw c.new-so_far.ensures (none_so_far Stolen c.args.sys.now c.args.rows.now c.args.watches.now);
}

pub settled-settled-requires-clause-watched : goal.settled-settled-requires-clause-watched
settled-settled-requires-clause-watched c =
    let (budgets, events, plan, end) = c.requires.watched in (Stolen, budgets, events, end)

pub steal_tally-requires : goal.steal_tally-requires
steal_tally-requires c =
    let (budgets, events, plan, end) = c.requires.watched in
    let settled = c.settled-settled.result in
    few_over c.args.sys.now budgets events c.loop-v.v settled.tally settled.ended_over settled.broken
    (c.settled-settled.ensures.settled Stolen budgets events end)

pub loop-v-preserved : goal.loop-v-preserved
loop-v-preserved c =
    let settled = c.settled-settled.result in
    record {
      so_many = omega (arith, c.in_ok-push.ensures.len, c.loop-v.invariant.so_many);
      each =
          λ budgets events plan end. entries_more (IsStealTally c.args.sys.now budgets events) no_steal_tally c.loop-v.v
          c.loop-v.vcpus.items c.push.new.self.items c.steal_tally.result c.loop-v.invariant.so_many
          c.in_ok-push.ensures.items (c.loop-v.invariant.each budgets events plan end)
          (rw c.steal_tally.ensures (steal_tally c.args.sys.now budgets events c.loop-v.v settled.tally
          settled.ended_over settled.broken (c.settled-settled.ensures.settled Stolen budgets events end) plan));
      so_far =
          one_so_far Stolen c.args.sys.now c.args.rows.now c.args.watches.now c.loop-v.v c.loop-v.so_far c.add.new.self
          settled c.requires.system
          (omega (arith, c.loop-v-test.true, ap (λ z. length z) c.parts-v-end.ensures.parts)) c.loop-v.invariant.so_far
          c.settled-settled.ensures.few (c.settled-settled.ensures.settled Stolen) c.add.ensures.periods
          c.add.ensures.first;
    }

pub returns : goal.returns
returns c budgets events plan end =
    let all : c.loop-v.v ≡ length c.args.sys.now.parts
    = omega (arith, c.loop-v.auto.v-end, c.loop-v-test.false, ap (λ z. length z) c.parts-v-end.ensures.parts) in (
      rw c.steal_finding.ensures (denied_all c.args.sys.now c.args.rows.now c.args.watches.now c.loop-v.v
          c.loop-v.so_far all c.loop-v.invariant.so_far budgets events plan end),
      record {
        each_part = omega (arith, c.loop-v.invariant.so_many, all);
        each = λ v l. c.loop-v.invariant.each budgets events plan end v (omega (arith, l, all));
      },
    )
