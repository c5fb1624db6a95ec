use Rattle.tree_spans.specs.TreeSpans.{runs_of}
use Rattle.bulk_run.proofs.counts.host_counts.Goals as goal

pub returns-clause-counts : goal.returns-clause-counts
returns-clause-counts c = record {
  run =
      record {
        cores = runs_of c.in_ok-tree.tree.cores;
        parts = runs_of c.in_ok-tree.tree.parts;
        first = c.in_ok-tree.ensures.first;
      };
  counted = c.in_ok-counts.ensures.counts;
}
