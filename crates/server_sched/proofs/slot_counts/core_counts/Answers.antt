use Rattle.std.proofs.Common.{◌≡◌, ℕ, ◌<◌, Bool, [], ◌+◌, List, Option, length, get_or, sym, ◌∙◌, ap, subst, arith, Vec, Global}
use Rattle.std.proofs.lemmas.List.{length-map}
use Rattle.slot_model.specs.declared.job.Job.{Job}
use Rattle.span_counts.specs.declared.counts.Counts.{Counts}
use Rattle.span_counts.specs.Counts.{AreCounts}
use Rattle.tree_model.specs.declared.place.Place.TheVariants.{Core}
use Rattle.tree_model.specs.declared.pinned_core.Core.{Core as PinnedCore}
use Rattle.tree_model.specs.Tree.{run_at, server_tasks, server_jobs}
use Rattle.server_sched.specs.Shapes.{RunHolds}
use Rattle.server_sched.specs.inner.SlotCounts.{AreCoreCounts}
use Rattle.tree_spans.proofs.Lists.{list_read, servers_in_reach, slot_lists}
use Rattle.server_sched.proofs.SlotCounted.{one_core_counted}
use Rattle.server_sched.proofs.slot_counts.core_counts.Goals as goal
use Rattle.server_sched.proofs.slot_counts.core_counts.Goals.{After-deref}

pub loop-c-init : goal.loop-c-init
loop-c-init c =
    record {
      room = c.requires.room;
      counts =
          record {
            long = ap (λ (v : List Counts). length v) c.new-counts.ensures.items;
            each = λ k l. absurd (omega arith);
          };
    }

-- the core is one of the system's
inside : (c : After-deref) → c.loop-c.c < length c.args.sys.now.cores
inside c = omega (arith, c.loop-c-test.true, ap (λ (cs : List PinnedCore). length cs) c.cores-c-end.ensures.cores)

-- and these are its slots
own : (c : After-deref) → c.deref.result.now ≡ get_or (slot_lists c.args.given.now) c.loop-c.c []
own c =
    list_read c.args.given.now c.loop-c.c (length c.args.sys.now.cores) c.index-given-c.result c.deref.result.now
    (length-map c.args.given.now (λ (s : Vec Bool Global). s.items) ∙ c.requires.one_each) (inside c) c.index-given-c.is
    c.deref.ensures.value

pub server_counts-requires-clause-holds : goal.server_counts-requires-clause-holds
server_counts-requires-clause-holds c =
    let sys = c.args.sys.now in let budgets = c.args.budgets.now in let n = c.args.slots in let k = c.loop-c.c in
    let at = (goal.at.server_counts-requires-clause-holds c).After-deref in
    let jobs : List Job = server_jobs sys budgets (Core k) n in
    subst (λ (slots : List Bool). RunHolds jobs slots c.node_run-core_run.result.now) (sym (own at))
    (subst (λ (run : List (Option ℕ)). RunHolds jobs (get_or (slot_lists c.args.given.now) k []) run)
    (sym c.node_run-core_run.ensures) (c.requires.holds k (inside at)))

pub server_counts-requires-clause-few : goal.server_counts-requires-clause-few
server_counts-requires-clause-few c =
    servers_in_reach c.args.sys.now c.args.budgets.now c.args.slots c.cores-c-end.ensures.system c.requires.short
    (Core c.loop-c.c)

pub loop-c-preserved : goal.loop-c-preserved
loop-c-preserved c =
    let sys = c.args.sys.now in let budgets = c.args.budgets.now in let n = c.args.slots in let k = c.loop-c.c in
    let at = (goal.at.loop-c-preserved c).After-deref in
    let tasks = server_tasks sys budgets (Core k) in let jobs : List Job = server_jobs sys budgets (Core k) n in
    let new : Counts = c.in_ok-server_counts.field-0 in
    let counted : AreCounts tasks jobs (get_or (slot_lists c.args.given.now) k []) (run_at c.args.run.now.cores k) new
    = subst (λ (slots : List Bool). AreCounts tasks jobs slots (run_at c.args.run.now.cores k) new) (own at)
    (subst (λ (run : List (Option ℕ)). AreCounts tasks jobs c.deref.result.now run new) c.node_run-core_run.ensures
    c.in_ok-server_counts.ensures) in
    record {
      room = omega (arith, c.loop-c.invariant.room, c.server_counts.auto.room);
      counts =
          subst (λ (v : List Counts). AreCoreCounts sys budgets n (slot_lists c.args.given.now) c.args.run.now.cores
          (k + 1) v) (sym c.in_ok-push.ensures.items)
          (one_core_counted sys budgets n (slot_lists c.args.given.now) c.args.run.now.cores k c.loop-c.counts.items
          c.loop-c.invariant.counts new counted);
    }

pub returns-clause-counts : goal.returns-clause-counts
returns-clause-counts c =
    subst (λ (m : ℕ). AreCoreCounts c.args.sys.now c.args.budgets.now c.args.slots (slot_lists c.args.given.now)
    c.args.run.now.cores m c.loop-c.counts.items)
    (
    let e : c.loop-c.c ≡ length c.args.sys.now.cores
    = omega (
      arith,
      c.loop-c-test.false,
      c.loop-c.auto.c-end,
      ap (λ (cs : List PinnedCore). length cs) c.cores-c-end.ensures.cores,
    ) in
    e) c.loop-c.invariant.counts
