use Rattle.std.proofs.Common.{◌≡◌, [], length, map, replicate}
use Rattle.guest_sched.specs.Spans.{run_of, end_of}
use Rattle.tree_spans.proofs.Sharing.{SharedTo}
use Rattle.tree_spans.proofs.shares.shares_of.Given as goal

abbrev pub invariant-loop : goal.invariant-loop
invariant-loop l = map (λ s. s.items) l.shares.items ≡ replicate l.counter []

abbrev pub invariant-loop-span : goal.invariant-loop-span
invariant-loop-span l =
    SharedTo l.jobs (run_of l.spans) (end_of l.spans l.span-index) (length l.tasks) (map (λ s. s.items) l.shares.items)
