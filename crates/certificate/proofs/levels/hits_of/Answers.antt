use Rattle.std.proofs.Common.{ℕ, ◌+◌, Bool, List, subst, sym, arith}
use Rattle.slot_model.specs.Task.{SporadicTask, sporadic_tasks}
use Rattle.slot_model.specs.Order.{ranks_above}
use Rattle.fp_request.proofs.Parts.{sporadic_tasks-length}
use Rattle.certificate.proofs.Hits.{HitsTo, has_hit, least_of, hits_more}
use Rattle.certificate.proofs.levels.hits_of.Goals as goal

pub unwrap-requires : goal.unwrap-requires
unwrap-requires g c =
    let T : List SporadicTask = sporadic_tasks c.args.level.now.tasks.now in
    has_hit (ranks_above c.args.level.now.sched T) T (g.S.Supply.bound c.args.s.now) c.loop-i.i c.hit_in.result
    c.requires.all_hit (omega (arith, sporadic_tasks-length c.args.level.now.tasks.now)) c.hit_in.ensures

pub loop-i-preserved : goal.loop-i-preserved
loop-i-preserved g c =
    let T : List SporadicTask = sporadic_tasks c.args.level.now.tasks.now in
    let above : ℕ → ℕ → Bool = ranks_above c.args.level.now.sched T in
    subst (λ (hits : List ℕ). HitsTo above T (g.S.Supply.bound c.args.s.now) hits (c.loop-i.i + 1))
    (sym c.in_ok-push.ensures.items)
    (hits_more above T (g.S.Supply.bound c.args.s.now) c.loop-i.hits.items c.loop-i.i c.unwrap.result c.loop-i.invariant
    (least_of above T (g.S.Supply.bound c.args.s.now) c.loop-i.i c.hit_in.result c.unwrap.result c.unwrap.ensures
    c.hit_in.ensures))
