use Rattle.std.proofs.Common.{◌≡◌, ℕ, ◌<◌, ◌+◌, Bool, [], List, Option, length, get_or, sym, ◌∙◌, ap, subst, arith}
use Rattle.slot_model.specs.declared.job.Job.{Job}
use Rattle.span_counts.specs.declared.counts.Counts.{Counts}
use Rattle.tree_model.specs.View.{PartView}
use Rattle.tree_model.specs.Tree.{run_at, supply_of}
use Rattle.server_sched.specs.inner.SlotCounts.{IsPartCount, ArePartCounts}
use Rattle.tree_spans.proofs.Lists.{list_read, job_lists}
use Rattle.server_sched.proofs.SlotCounted.{parent_holds, one_part_counted}
use Rattle.server_sched.proofs.slot_counts.part_counts.Goals as goal

pub loop-q-init : goal.loop-q-init
loop-q-init c =
    record {
      room = c.requires.room;
      counts =
          record {
            long = ap (λ (v : List Counts). length v) c.new-counts.ensures.items;
            each = λ k l. absurd (omega arith);
          };
    }

pub part_slots-requires-clause-parent : goal.part_slots-requires-clause-parent
part_slots-requires-clause-parent c =
    parent_holds c.args.sys.now c.args.budgets.now c.args.slots (job_lists c.args.jobs.now) c.args.run.now.cores
    c.args.run.now.parts c.parts-q-end.ensures.system c.requires.holds c.loop-q.q
    (omega (arith, c.loop-q-test.true, ap (λ (ps : List PartView). length ps) c.parts-q-end.ensures.parts))

pub loop-q-preserved : goal.loop-q-preserved
loop-q-preserved c =
    let sys = c.args.sys.now in
    let budgets = c.args.budgets.now in
    let n = c.args.slots in let jobs = job_lists c.args.jobs.now in let q = c.loop-q.q in
    let cores = c.args.run.now.cores in let parts = c.args.run.now.parts in
    let l : q < length sys.parts
    = omega (arith, c.loop-q-test.true, ap (λ (ps : List PartView). length ps) c.parts-q-end.ensures.parts) in
    let own : c.deref.result.now ≡ get_or jobs q []
    = list_read c.args.jobs.now q (length sys.parts) c.index-jobs-q.result c.deref.result.now
    c.requires.jobs.one_each l c.index-jobs-q.is c.deref.ensures.value in
    let slots : c.deref-in-loop-q.result.now ≡ supply_of sys budgets n cores parts q
    = c.deref-in-loop-q.ensures.value ∙ c.in_ok-given.ensures in
    let new : Counts = c.in_ok-new.new in
    let counted : IsPartCount sys budgets n q (get_or jobs q []) (supply_of sys budgets n cores parts q)
    (run_at parts q) new
    =
    subst
    (λ (js : List Job). IsPartCount sys budgets n q js (supply_of sys budgets n cores parts q) (run_at parts q) new)
    own
    (subst (λ (given : List Bool). IsPartCount sys budgets n q c.deref.result.now given (run_at parts q) new) slots
    (subst
    (λ (run : List (Option ℕ)). IsPartCount sys budgets n q c.deref.result.now c.deref-in-loop-q.result.now run new)
    c.node_run-part_run.ensures c.in_ok-new.ensures)) in
    record {
      room = omega (arith, c.loop-q.invariant.room, c.part_slots.auto.room, c.part_count.auto.room);
      counts =
          subst (λ (v : List Counts). ArePartCounts sys budgets n jobs cores parts (q + 1) v)
          (sym c.in_ok-push.ensures.items)
          (one_part_counted sys budgets n jobs cores parts q c.loop-q.counts.items c.loop-q.invariant.counts new
          counted);
    }

pub returns : goal.returns
returns c =
    subst (λ (m : ℕ). ArePartCounts c.args.sys.now c.args.budgets.now c.args.slots (job_lists c.args.jobs.now)
    c.args.run.now.cores c.args.run.now.parts m c.loop-q.counts.items)
    (
    let e : c.loop-q.q ≡ length c.args.sys.now.parts
    = omega (
      arith,
      c.loop-q-test.false,
      c.loop-q.auto.q-end,
      ap (λ (ps : List PartView). length ps) c.parts-q-end.ensures.parts,
    ) in
    e) c.loop-q.invariant.counts
