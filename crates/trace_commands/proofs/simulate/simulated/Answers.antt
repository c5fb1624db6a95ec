use Rattle.std.proofs.Common.{map}
use Rattle.tree_spans.proofs.Lists.{few_in_reach}
use Rattle.trace_commands.proofs.simulate.simulated.Goals as goal

pub count_tree-requires-clause-few : goal.count_tree-requires-clause-few
count_tree-requires-clause-few c =
    few_in_reach c.args.sys.now c.args.plan.now c.args.slots.count (map (λ j. j.items) c.args.jobs.now)
    c.requires.system c.args.slots.in_reach c.requires.few
