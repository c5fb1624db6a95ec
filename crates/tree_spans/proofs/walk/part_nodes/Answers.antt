use Rattle.std.proofs.Common.{◌≡◌, ℕ, suc, ◌<◌, Bool, List, [], ◌∷◌, ◌++◌, ◌∙◌, length, arith, ap, sym, subst, add-one}
use Rattle.std.proofs.lemmas.List.{with_items_is}
use Rattle.slot_model.specs.declared.job.Job.{Job}
use Rattle.guest_sched.specs.Spans.{Window, AreWindows, slots_of}
use Rattle.tree_model.specs.Tree.{place_of, supply_of, rank_among}
use Rattle.tree_model.specs.View.{PartView}
use Rattle.tree_model.specs.Releases.{jobs_at}
use Rattle.tree_spans.specs.NodeView.{NodeView}
use Rattle.tree_spans.specs.Shares.{share_at}
use Rattle.tree_spans.specs.TreeSpans.{runs_of, parent_of, IsPartNode}
use Rattle.tree_spans.specs.KeptNodes.{IsKeptOf}
use Rattle.tree_spans.specs.inner.Walking.{ArePartsKept, HasCores, HasChild}
use Rattle.tree_spans.proofs.Lists.{list_read, job_lists}
use Rattle.tree_spans.proofs.TreeNodes.{node_of}
use Rattle.tree_spans.proofs.KeptNodes.{IsTold, PartGiven, child_read, told_read, no_part_kept, part_given, one_part_kept}
use Rattle.tree_spans.proofs.walk.part_nodes.Goals as goal
use Rattle.tree_spans.proofs.walk.part_nodes.Goals.{After-deref}

pub loop-q-init : goal.loop-q-init
loop-q-init g c =
    λ h. subst (λ (v : List g.row.K.Denot). ArePartsKept g.K.KeptNode.is_kept_of c.args.sys.now c.args.budgets.now
    c.args.slots (job_lists c.args.jobs.now) h.nodes 0 c.args.cores.now v) (sym c.new-nodes.ensures.items)
    (no_part_kept g.K.KeptNode.is_kept_of c.args.sys.now c.args.budgets.now c.args.slots (job_lists c.args.jobs.now)
    c.args.cores.now h)

-- the part that runs next is one of the system's
is_part : (g : _) (c : After-deref g) → c.loop-q.q < length c.args.sys.now.parts
is_part g c = omega (arith, c.loop-q-test.true, ap (λ (ps : List PartView). length ps) c.parts.ensures.parts)

abbrev Cores : (g : _) → After-deref g → Type 0
Cores g c = HasCores g.K.KeptNode.is_kept_of c.args.sys.now c.args.budgets.now c.args.slots c.args.cores.now

-- what its parent has for it
given : (g : _) (c : After-deref g) (h : Cores g c)
    → PartGiven g.K.KeptNode.is_kept_of c.args.sys.now c.args.budgets.now c.args.slots c.loop-q.q h.nodes
    (c.loop-q.invariant h).nodes c.loop-q.cores c.loop-q.nodes.items
given g c h =
    part_given g.K.KeptNode.is_kept_of c.args.sys.now c.args.budgets.now c.args.slots (job_lists c.args.jobs.now)
    c.args.cores.now c.loop-q.cores c.loop-q.nodes.items c.parts.ensures.system h c.loop-q.q (is_part g c)
    (c.loop-q.invariant h)

-- its parent, as it ran
abbrev parent : (g : _) (c : After-deref g) → Cores g c → NodeView
parent g c h = node_of h.nodes (c.loop-q.invariant h).nodes (parent_of c.args.sys.now c.loop-q.q)

-- it is the next child of its parent, among the parts as they are read
child : (g : _) (c : After-deref g) (h : Cores g c) (read : List g.row.K.Denot) → read ≡ c.loop-q.nodes.items
    → HasChild g.K.KeptNode.is_kept_of c.loop-q.cores read (place_of c.parent_of-parent.result) (parent g c h)
    c.rank_of-rank.result
child g c h read same =
    let sys = c.args.sys.now in
    child_read g.K.KeptNode.is_kept_of c.loop-q.cores c.loop-q.nodes.items read (parent_of sys c.loop-q.q)
    (place_of c.parent_of-parent.result) (parent g c h) (rank_among sys c.loop-q.q) c.rank_of-rank.result
    (given g c h).has same c.parent_of-parent.ensures c.rank_of-rank.ensures

-- the windows that are read of its parent are its own
windows : (g : _) (c : After-deref g) (h : Cores g c) (read : List Window)
    → ((node : NodeView) → HasChild g.K.KeptNode.is_kept_of c.loop-q.cores c.deref.result.now
    (place_of c.parent_of-parent.result) node c.rank_of-rank.result
    → read ≡ share_at node.shares c.rank_of-rank.result)
    → read ≡ share_at (parent g c h).shares (rank_among c.args.sys.now c.loop-q.q)
windows g c h read said =
    said (parent g c h) (child g c h c.deref.result.now c.deref.ensures.value)
    ∙ ap (λ (i : ℕ). share_at (parent g c h).shares i) c.rank_of-rank.ensures

pub share_of-windows-requires : goal.share_of-windows-requires
share_of-windows-requires g c =
    let h = c.requires.cores in
    (parent g c h, child g c h c.deref.result.now c.deref.ensures.value)

pub part_node-requires-clause-windows : goal.part_node-requires-clause-windows
part_node-requires-clause-windows g c =
    let at = (goal.at.part_node-requires-clause-windows g c).After-deref in
    let h = c.requires.cores in
    subst (λ (w : List Window). AreWindows w c.args.slots)
    (sym (windows g at h c.share_of-windows.result.now c.share_of-windows.ensures)) (given g at h).share.windows

pub let_go-requires : goal.let_go-requires
let_go-requires g c =
    let at = (goal.at.let_go-requires g c).After-deref in
    let h = c.requires.cores in
    (parent g at h, child g at h c.deref_mut.result.now c.deref_mut.ensures.value)

pub loop-q-preserved : goal.loop-q-preserved
loop-q-preserved g c = λ h.
    let at = (goal.at.loop-q-preserved g c).After-deref in
    let is_kept_of = g.K.KeptNode.is_kept_of in
    let sys = c.args.sys.now in let budgets = c.args.budgets.now in let n = c.args.slots in let q = c.loop-q.q in
    let jobs = job_lists c.args.jobs.now in
    let k = c.loop-q.invariant h in
    let supply : List Bool = supply_of sys budgets n (runs_of h.nodes) (runs_of k.nodes) q in
    let slots : slots_of c.share_of-windows.result.now n ≡ supply
    = ap (λ (w : List Window). slots_of w n)
    (windows g at h c.share_of-windows.result.now c.share_of-windows.ensures) ∙ (given g at h).share.slots in
    let own
    = list_read c.args.jobs.now q (length sys.parts) c.index-jobs-q.result c.deref-in-loop-q.result.now
    c.requires.jobs.one_each (is_part g at) c.index-jobs-q.is c.deref-in-loop-q.ensures.value in
    let part = c.in_ok-part.part in
    let new : IsKeptOf is_kept_of (IsPartNode sys budgets n q (jobs_at jobs q) supply) part
    =
    subst (λ (js : List Job). IsKeptOf is_kept_of (IsPartNode sys budgets n q js supply) part) own
    (subst (λ (v : List Bool). IsKeptOf is_kept_of (IsPartNode sys budgets n q c.deref-in-loop-q.result.now v) part)
    slots c.in_ok-part.ensures) in
    let told : IsTold is_kept_of (parent_of sys q) (rank_among sys q) c.loop-q.cores c.loop-q.nodes.items
    c.let_go.new.cores c.let_go.new.parts
    =
    told_read is_kept_of c.loop-q.cores c.loop-q.nodes.items c.deref_mut.result.now c.let_go.new.cores
    c.let_go.new.parts (parent_of sys q) (place_of c.parent_of-parent.result) (rank_among sys q) c.rank_of-rank.result
    (record {
      cores_long = c.let_go.auto.cores;
      parts_long = c.let_go.auto.parts;
      own = c.let_go.ensures.parent;
      others = c.let_go.ensures.others;
    }) c.deref_mut.ensures.value c.parent_of-parent.ensures c.rank_of-rank.ensures in
    let pushed : c.push.new.self.items ≡ c.let_go.new.parts ++ part ∷ []
    = c.in_ok-push.ensures.items
    ∙ ap (λ (v : List g.row.K.Denot). v ++ part ∷ []) (with_items_is c.loop-q.nodes c.let_go.new.parts (omega (
      arith,
      c.let_go.auto.parts,
      ap (λ (v : List g.row.K.Denot). length v) c.deref_mut.ensures.value,
      c.loop-q.nodes.ok.0,
    ))) in
    subst (λ (m : ℕ). ArePartsKept is_kept_of sys budgets n jobs h.nodes m c.let_go.new.cores c.push.new.self.items)
    (sym (add-one q))
    (subst (λ (v : List g.row.K.Denot). ArePartsKept is_kept_of sys budgets n jobs h.nodes (suc q) c.let_go.new.cores v)
    (sym pushed)
    (one_part_kept is_kept_of sys budgets n jobs h.nodes c.parts.ensures.system q (is_part g at) c.loop-q.cores
    c.loop-q.nodes.items c.let_go.new.cores c.let_go.new.parts k (given g at h).has told part new))

pub returns : goal.returns
returns g c =
    λ h. subst (λ (m : ℕ). ArePartsKept g.K.KeptNode.is_kept_of c.args.sys.now c.args.budgets.now c.args.slots
    (job_lists c.args.jobs.now) h.nodes m c.loop-q.cores c.loop-q.nodes.items)
    (omega (arith, c.loop-q-test.false, ap (λ (ps : List PartView). length ps) c.parts.ensures.parts))
    (c.loop-q.invariant h)
