use Rattle.std.proofs.Common.{ℕ, Bool, List, sym, subst}
use Rattle.guest_sched.specs.Spans.{Window}
use Rattle.guest_sched.proofs.Spelled.{SpellsToNext, one_more_spelled, all_spelled, spelled_follows}
use Rattle.guest_sched.proofs.patterns.pattern_windows.Goals as goal

pub loop-next-preserved : goal.loop-next-preserved
loop-next-preserved g c =
    let p : ℕ → Bool = g.F.Supply.pattern c.args.supply.now in
    subst (λ (windows : List Window). SpellsToNext p c.args.slots windows c.window_after-next.result)
    (sym c.in_ok-push.ensures.items)
    (one_more_spelled p c.args.slots c.loop-next.windows.items c.loop-next.next c.window_after-next.result
    c.in-Some.window c.loop-next.invariant c.in-Some.is c.window_after-next.ensures)

pub returns-clause-follows : goal.returns-clause-follows
returns-clause-follows g c =
    let p : ℕ → Bool = g.F.Supply.pattern c.args.supply.now in
    spelled_follows p c.args.slots c.loop-next.windows.items
    (all_spelled p c.args.slots c.loop-next.windows.items c.loop-next.next c.loop-next.invariant c.in_default.is)
