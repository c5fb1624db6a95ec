use Rattle.std.proofs.Common.{◌≡◌, ℕ, List, length, map, sym, subst, Vec, Global}
use Rattle.slot_model.specs.declared.job.Job.{Job}
use Rattle.span_counts.specs.declared.counts.Counts.{Counts}
use Rattle.guest_sched.specs.Spans.{Window}
use Rattle.tree_spans.specs.NodeView.{counts_of}
use Rattle.tree_spans.specs.TreeSpans.{runs_of, supplies_of}
use Rattle.tree_spans.specs.KeptNodes.{AreKept, ran_of_core, ran_of_part, IsTreeKept}
use Rattle.tree_spans.proofs.TreeNodes.{tree_counted}
use Rattle.server_sched.specs.CountedTree.{AreFirstCounts}
use Rattle.server_sched.specs.inner.Kept.{KeptView, IsStillKept}
use Rattle.server_sched.proofs.counted_tree.count_tree.Goals as goal

pub returns : goal.returns
returns c =
    let sys = c.args.sys.now in let n = c.args.slots in
    let given : List (List Window) = map (λ (s : Vec Window Global). s.items) c.args.given.now in
    let jobs : List (List Job) = map (λ (s : Vec Job Global). s.items) c.args.jobs.now in
    let h : IsTreeKept IsStillKept sys c.args.plan.now n (supplies_of given n) jobs c.in_ok-tree.tree.cores.items
    c.in_ok-tree.tree.parts.items
    = c.in_ok-tree.ensures.tree in
    let ran : ℕ → ℕ = ran_of_core sys (length sys.parts) in
    let ran_parts : ℕ → ℕ = ran_of_part sys (length sys.parts) in
    let cores : c.in_ok-cores.cores.items ≡ counts_of h.tree.cores
    = c.in_ok-cores.ensures h.tree.cores ran
    (subst (λ (v : List KeptView). AreKept IsStillKept ran v h.tree.cores) (sym c.deref.ensures.value) h.core_kept) in
    let parts : c.in_ok-parts.parts.items ≡ counts_of h.tree.parts
    = c.in_ok-parts.ensures h.tree.parts ran_parts
    (subst (λ (v : List KeptView). AreKept IsStillKept ran_parts v h.tree.parts) (sym c.deref-2.ensures.value)
    h.part_kept) in
    subst (λ (v : List Counts). AreFirstCounts sys c.args.plan.now n (supplies_of given n) jobs
    (record { cores = v; parts = c.in_ok-parts.parts.items })) (sym cores)
    (subst (λ (v : List Counts). AreFirstCounts sys c.args.plan.now n (supplies_of given n) jobs
    (record { cores = counts_of h.tree.cores; parts = v })) (sym parts)
    (record {
      core_runs = runs_of h.tree.cores;
      part_runs = runs_of h.tree.parts;
      first = h.is_tree.first;
      counted = tree_counted sys c.args.plan.now n (supplies_of given n) jobs h.tree h.is_tree;
    }))
