use Rattle.std.proofs.Common.{ℕ, ◌<◌, [], List, length, get_or, sym, subst}
use Rattle.tree_model.specs.declared.place.Place.TheVariants.{Core}
use Rattle.tree_model.specs.Tree.{server_jobs, run_at}
use Rattle.server_sched.specs.Shapes.{RunHolds}
use Rattle.server_sched.specs.inner.SlotCounts.{AreCoreCounts, ArePartCounts}
use Rattle.tree_spans.proofs.Lists.{few_in_reach, slot_lists, job_lists}
use Rattle.server_sched.proofs.SlotCounted.{all_counted}
use Rattle.server_sched.proofs.slot_counts.count_run.Goals as goal

pub core_counts-requires-clause-holds : goal.core_counts-requires-clause-holds
core_counts-requires-clause-holds c =
    subst (λ (b : List ℕ). (k : ℕ) → k < length c.args.sys.now.cores
    → RunHolds (server_jobs c.args.sys.now b (Core k) c.args.slots) (get_or (slot_lists c.args.given.now) k [])
    (run_at c.args.run.now.cores k)) (sym c.budgets.ensures) c.requires.holds.cores

pub part_counts-requires-clause-few : goal.part_counts-requires-clause-few
part_counts-requires-clause-few c =
    few_in_reach c.args.sys.now c.budgets-2.result.now c.args.slots (job_lists c.args.jobs.now)
    c.in_ok-cores.ensures.system c.requires.short c.requires.few

pub returns : goal.returns
returns c =
    all_counted c.args.sys.now c.args.plan.now c.args.slots (slot_lists c.args.given.now) (job_lists c.args.jobs.now)
    c.args.run.now.cores c.args.run.now.parts c.in_ok-cores.cores.items c.in_ok-parts.parts.items
    (subst (λ (b : List ℕ). AreCoreCounts c.args.sys.now b c.args.slots (slot_lists c.args.given.now)
    c.args.run.now.cores (length c.args.sys.now.cores) c.in_ok-cores.cores.items) c.budgets.ensures
    c.in_ok-cores.ensures.counts)
    (subst (λ (b : List ℕ). ArePartCounts c.args.sys.now b c.args.slots (job_lists c.args.jobs.now) c.args.run.now.cores
    c.args.run.now.parts (length c.args.sys.now.parts) c.in_ok-parts.parts.items) c.budgets-2.ensures
    c.in_ok-parts.ensures)
