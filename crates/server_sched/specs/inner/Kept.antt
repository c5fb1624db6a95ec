-- What is kept of a node's run, where the counts alone are wanted.
use Rattle.std.specs.Prelude.{◌≡◌, ℕ, ◌<◌, ◌≤◌, List, [], length}
use Rattle.span_counts.specs.declared.counts.Counts.{Counts}
use Rattle.guest_sched.specs.Spans.{Window}
use Rattle.tree_spans.specs.NodeView.{NodeView}
use Rattle.tree_spans.specs.Shares.{share_at}

-- what is kept of a node: what each child gets of its run, and what is counted of it
pub record KeptView : Type 0 where
  pub shares : List (List Window)
  pub counts : Counts

-- once the first k children of a node have run: its counts, the windows of the later children, and
-- none of those that have run
pub record IsStillKept (kept : KeptView) (node : NodeView) (k : ℕ) : Type 0 where
  pub counts : kept.counts ≡ node.counts
  pub one_each : length kept.shares ≡ length node.shares
  pub later : (m : ℕ) → k ≤ m → share_at kept.shares m ≡ share_at node.shares m
  pub gone : (m : ℕ) → m < k → share_at kept.shares m ≡ []
