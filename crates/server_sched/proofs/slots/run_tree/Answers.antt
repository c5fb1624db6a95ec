use Rattle.std.proofs.Common.{◌≡◌, ℕ, ◌<◌, Bool, List, Option, length, map, arith, ap, sym, ◌∙◌, subst, Vec, Global}
use Rattle.std.proofs.lemmas.List.{length-map}
use Rattle.guest_sched.specs.Spans.{Window, AreSpans}
use Rattle.tree_model.specs.FirstTree.{FirstTree}
use Rattle.tree_model.proofs.FirstTrees.{first_tree_permitted, first_tree_unique}
use Rattle.tree_spans.specs.NodeView.{NodeView}
use Rattle.tree_spans.specs.TreeSpans.{node_at, runs_of, supplies_of, AreWindowsOf, AreSupplies}
use Rattle.tree_spans.proofs.TreeNodes.{part_spans}
use Rattle.tree_spans.proofs.Lists.{same_supplies, are_supplies, few_in_reach, slot_lists, window_lists, job_lists}
use Rattle.server_sched.proofs.SlotCounted.{permitted_tree_holds}
use Rattle.server_sched.proofs.slots.run_tree.Goals as goal

-- there is one list of windows for each list of slots
each_list : (slots : ℕ) (given : List (Vec Bool Global)) (windows : List (List Window))
    → AreWindowsOf slots (slot_lists given) (length given) windows
    → AreWindowsOf slots (slot_lists given) (length (slot_lists given)) windows
each_list slots given windows are =
    subst (λ (m : ℕ). AreWindowsOf slots (slot_lists given) m windows)
    (sym (length-map given (λ (s : Vec Bool Global). s.items))) are

pub span_tree-requires-clause-windows : goal.span_tree-requires-clause-windows
span_tree-requires-clause-windows c =
    let given = slot_lists c.args.given.now in
    let long : length given ≡ length c.args.given.now
    = length-map c.args.given.now (λ (s : Vec Bool Global). s.items) in
    let are = each_list c.args.slots c.args.given.now _ c.in_ok-windows.ensures.windows in
    subst (λ (v : List (Vec Window Global)). AreSupplies c.args.sys.now c.args.slots (window_lists v))
    (sym c.deref.ensures.value) (are_supplies c.args.sys.now c.args.slots given
    (window_lists c.in_ok-windows.windows.items) (long ∙ c.requires.one_each) are)

pub span_tree-requires-clause-few : goal.span_tree-requires-clause-few
span_tree-requires-clause-few c =
    few_in_reach c.args.sys.now c.args.plan.now c.args.slots (job_lists c.args.jobs.now) c.core_windows.ensures.system
    c.requires.short c.requires.few

pub core_runs-requires : goal.core_runs-requires
core_runs-requires c =
    λ i l. (c.in_ok-tree.ensures.spans.cores i (omega (arith, l, c.in_ok-tree.ensures.spans.each_core))).spans

pub part_runs-requires : goal.part_runs-requires
part_runs-requires c =
    λ i l. part_spans _ _ _ _ _ _ _
    (c.in_ok-tree.ensures.spans.parts i (omega (arith, l, c.in_ok-tree.ensures.spans.each_part)))

pub returns-clause-first : goal.returns-clause-first
returns-clause-first c =
    let sys = c.args.sys.now in let n = c.args.slots in
    let given = slot_lists c.args.given.now in
    let jobs = job_lists c.args.jobs.now in
    let are = each_list n c.args.given.now _ c.in_ok-windows.ensures.windows in
    let supplies : supplies_of (window_lists c.deref.result.now) n ≡ given
    = ap (λ (v : List (Vec Window Global)). supplies_of (window_lists v) n) c.deref.ensures.value
    ∙ same_supplies n given (window_lists c.in_ok-windows.windows.items) are in
    subst (λ (v : List (List (Option ℕ))). FirstTree sys c.args.plan.now n given jobs
    (map (λ (r : Vec (Option ℕ) Global). r.items) c.in_ok-cores.cores.items) v) (sym c.in_ok-parts.ensures)
    (subst
    (λ (v : List (List (Option ℕ))). FirstTree sys c.args.plan.now n given jobs v (runs_of c.in_ok-tree.tree.parts))
    (sym c.in_ok-cores.ensures)
    (subst (λ (v : List (List Bool)). FirstTree sys c.args.plan.now n v jobs (runs_of c.in_ok-tree.tree.cores)
    (runs_of c.in_ok-tree.tree.parts)) supplies c.in_ok-tree.ensures.spans.first))

pub returns-clause-permitted : goal.returns-clause-permitted
returns-clause-permitted c = first_tree_permitted _ _ _ _ _ _ _ (returns-clause-first c)

pub returns-clause-holds : goal.returns-clause-holds
returns-clause-holds c = permitted_tree_holds _ _ _ _ _ _ _ (returns-clause-permitted c)

pub returns-clause-only : goal.returns-clause-only
returns-clause-only c cores parts h =
    first_tree_unique _ _ _ _ _ c.core_windows.ensures.system cores parts _ _ h (returns-clause-first c)
