use Rattle.std.proofs.Common.{ℕ, suc, ◌<◌, List, length, arith, ap, sym, subst, add-one}
use Rattle.guest_sched.specs.Spans.{Window, AreWindows, slots_of}
use Rattle.tree_model.specs.declared.place.Place.TheVariants.{Core}
use Rattle.tree_model.specs.declared.pinned_core.Core.{Core as CoreView}
use Rattle.tree_spans.specs.TreeSpans.{given_at, IsServerNode}
use Rattle.tree_spans.specs.KeptNodes.{IsKeptOf}
use Rattle.tree_spans.specs.inner.Walking.{AreCoresKept}
use Rattle.tree_spans.proofs.Lists.{list_read, window_lists}
use Rattle.tree_spans.proofs.KeptNodes.{no_core_kept, one_core_kept}
use Rattle.tree_spans.proofs.walk.core_nodes.Goals as goal

pub loop-c-init : goal.loop-c-init
loop-c-init g c =
    subst (λ v. AreCoresKept g.K.KeptNode.is_kept_of c.args.sys.now c.args.budgets.now c.args.slots
    (window_lists c.args.given.now) 0 v) (sym c.new-nodes.ensures.items)
    (no_core_kept g.K.KeptNode.is_kept_of c.args.sys.now c.args.budgets.now c.args.slots
    (window_lists c.args.given.now))

pub server_node-requires-clause-windows : goal.server_node-requires-clause-windows
server_node-requires-clause-windows g c =
    let l : c.loop-c.c < length c.args.sys.now.cores
    = omega (arith, c.loop-c-test.true, ap (λ (cs : List CoreView). length cs) c.cores.ensures.cores) in
    let read
    = list_read c.args.given.now c.loop-c.c (length c.args.sys.now.cores) c.index-given-c.result c.deref.result.now
    c.requires.windows.one_each l c.index-given-c.is c.deref.ensures.value in
    subst (λ (w : List Window). AreWindows w c.args.slots) (sym read) (c.requires.windows.windows c.loop-c.c l)

pub loop-c-preserved : goal.loop-c-preserved
loop-c-preserved g c =
    let l : c.loop-c.c < length c.args.sys.now.cores
    = omega (arith, c.loop-c-test.true, ap (λ (cs : List CoreView). length cs) c.cores.ensures.cores) in
    let is_kept_of = g.K.KeptNode.is_kept_of in
    let sys = c.args.sys.now in
    let budgets = c.args.budgets.now in let n = c.args.slots in let given = window_lists c.args.given.now in
    let read
    = list_read c.args.given.now c.loop-c.c (length sys.cores) c.index-given-c.result c.deref.result.now
    c.requires.windows.one_each l c.index-given-c.is c.deref.ensures.value in
    let new : IsKeptOf is_kept_of (IsServerNode sys budgets n (Core c.loop-c.c)
    (slots_of (given_at given c.loop-c.c) n)) c.in_ok-core.core
    = subst (λ (w : List Window). IsKeptOf is_kept_of (IsServerNode sys budgets n (Core c.loop-c.c) (slots_of w n))
    c.in_ok-core.core) read c.in_ok-core.ensures in
    subst (λ (m : ℕ). AreCoresKept is_kept_of sys budgets n given m c.push.new.self.items) (sym (add-one c.loop-c.c))
    (subst (λ v. AreCoresKept is_kept_of sys budgets n given (suc c.loop-c.c) v) (sym c.in_ok-push.ensures.items)
    (one_core_kept is_kept_of sys budgets n given c.loop-c.c c.loop-c.nodes.items c.loop-c.invariant c.in_ok-core.core
    new))
