-- The run of a node and of a tree as contracts see it: lists for vectors.
use Rattle.std.specs.Prelude.{List, map}
use Rattle.span_counts.specs.declared.counts.Counts.{Counts}
use Rattle.guest_sched.specs.Spans.{Window}
use Rattle.guest_sched.specs.declared.spans.Span.{Span}

pub record NodeView : Type 0 where
  pub spans : List Span
  pub shares : List (List Window)
  pub counts : Counts

pub record TreeView : Type 0 where
  pub cores : List NodeView
  pub parts : List NodeView

abbrev pub counts_of : List NodeView → List Counts
counts_of nodes = map (λ (node : NodeView). node.counts) nodes
