use Rattle.std.proofs.Common.{length, subst, sym}
use Rattle.auditor.specs.declared.counted.Counted.{Counted}
use Rattle.auditor.specs.inner.Told.{Watched, watch_at}
use Rattle.auditor.specs.inner.First.{IsSettled}
use Rattle.auditor.proofs.watches.Watches.settled.Goals as goal

pub up_to_end-requires-clause-watched : goal.up_to_end-requires-clause-watched
up_to_end-requires-clause-watched c =
    let (counted, budgets, events, end) = c.requires.watched in (
      budgets,
      events,
      end.kept,
      end.after,
      subst
          (λ (z : Counted). Watched z c.args.sys.now budgets events (length events) c.args.v
          (watch_at c.args.self.now.vcpus c.args.v)) (sym end.watched.counted_is)
          (end.watched.each c.args.v c.requires.is_part),
    )

pub returns-clause-settled : goal.returns-clause-settled
returns-clause-settled c counted budgets events end =
    let v = c.args.v in
    let s = c.args.self.now in
    let settled = c.up_to_end.result in
    subst
    (λ (z : Counted). IsSettled z c.args.sys.now budgets events v settled.tally settled.ended_over settled.broken)
    end.watched.counted_is (c.up_to_end.ensures.settled budgets events end.kept end.after
    (subst (λ (z : Counted). Watched z c.args.sys.now budgets events (length events) v (watch_at s.vcpus v))
    (sym end.watched.counted_is) (end.watched.each v c.requires.is_part)))
