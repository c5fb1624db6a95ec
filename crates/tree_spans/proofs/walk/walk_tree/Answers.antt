use Rattle.std.proofs.Common.{ℕ, List, length, map, arith, sym, ap, subst, Vec, Global}
use Rattle.std.proofs.lemmas.List.{with_items_is}
use Rattle.slot_model.specs.declared.job.Job.{Job}
use Rattle.guest_sched.specs.Spans.{Window}
use Rattle.tree_spans.specs.TreeSpans.{supplies_of}
use Rattle.tree_spans.specs.KeptNodes.{IsTreeKept}
use Rattle.tree_spans.specs.inner.Walking.{AreCoresKept, HasCores, ArePartsKept}
use Rattle.tree_spans.proofs.KeptNodes.{has_cores, tree_kept}
use Rattle.tree_spans.proofs.walk.walk_tree.Goals as goal

pub part_nodes-requires-clause-cores : goal.part_nodes-requires-clause-cores
part_nodes-requires-clause-cores g c =
    let is_kept_of = g.K.KeptNode.is_kept_of in
    let sys = c.args.sys.now in let n = c.args.slots in
    let given : List (List Window) = map (λ (s : Vec Window Global). s.items) c.args.given.now in
    let cores : AreCoresKept is_kept_of sys c.args.plan.now n given (length sys.cores) c.in_ok-cores.cores.items
    =
    subst (λ (b : List ℕ). AreCoresKept is_kept_of sys b n given (length sys.cores) c.in_ok-cores.cores.items)
    c.budgets.ensures c.in_ok-cores.ensures.kept in
    subst (λ (b : List ℕ). HasCores is_kept_of sys b n c.deref_mut-2.result.now) (sym c.budgets-2.ensures)
    (subst (λ (v : List g.row.K.Denot). HasCores is_kept_of sys c.args.plan.now n v) (sym c.deref_mut-2.ensures.value)
    (has_cores is_kept_of sys c.args.plan.now n given c.in_ok-cores.cores.items cores))

pub returns-clause-tree : goal.returns-clause-tree
returns-clause-tree g c =
    let is_kept_of = g.K.KeptNode.is_kept_of in
    let sys = c.args.sys.now in let budgets = c.args.plan.now in let n = c.args.slots in
    let given : List (List Window) = map (λ (s : Vec Window Global). s.items) c.args.given.now in
    let jobs : List (List Job) = map (λ (s : Vec Job Global). s.items) c.args.jobs.now in
    let first : List g.row.K.Denot = c.in_ok-cores.cores.items in
    let cores : AreCoresKept is_kept_of sys budgets n given (length sys.cores) first
    =
    subst (λ (b : List ℕ). AreCoresKept is_kept_of sys b n given (length sys.cores) first) c.budgets.ensures
    c.in_ok-cores.ensures.kept in
    let Parts : List ℕ → List g.row.K.Denot → Type 0
    = λ (b : List ℕ) (v : List g.row.K.Denot). (h : HasCores is_kept_of sys b n v)
    → ArePartsKept is_kept_of sys b n jobs h.nodes (length sys.parts) c.part_nodes.new.cores
    c.in_ok-parts.parts.items in
    let parts : Parts budgets first
    = subst (λ (b : List ℕ). Parts b first) c.budgets-2.ensures
    (subst (Parts c.budgets-2.result.now) c.deref_mut-2.ensures.value c.in_ok-parts.ensures) in
    subst (λ (v : List g.row.K.Denot). IsTreeKept is_kept_of sys budgets n (supplies_of given n) jobs v
    c.in_ok-parts.parts.items)
    (sym (with_items_is c.in_ok-cores.cores c.part_nodes.new.cores (omega (
      arith,
      c.part_nodes.auto.cores,
      ap (λ (v : List g.row.K.Denot). length v) c.deref_mut-2.ensures.value,
      c.in_ok-cores.cores.ok.0,
    ))))
    (tree_kept is_kept_of sys budgets n given jobs first c.part_nodes.new.cores c.in_ok-parts.parts.items
    c.requires.windows.one_each cores (parts (has_cores is_kept_of sys budgets n given first cores)))
