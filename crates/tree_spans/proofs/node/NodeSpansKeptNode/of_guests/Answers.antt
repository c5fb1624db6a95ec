use Rattle.std.proofs.Common.{◌≡◌, List, length, map, refl, sym, subst, ap, Vec, Global}
use Rattle.slot_model.specs.Task.{sporadic_tasks}
use Rattle.slot_model.specs.Run.{guest}
use Rattle.slot_model.specs.Miss.{HoldsReleased}
use Rattle.guest_sched.specs.declared.spans.Span.{Span}
use Rattle.guest_sched.specs.Spans.{Window, slots_of, run_of}
use Rattle.span_counts.specs.Counts.{AreCounts}
use Rattle.tree_spans.proofs.Nodes.{run_long, first_released}
use Rattle.tree_spans.proofs.node.NodeSpansKeptNode.of_guests.Goals as goal

pub count_level-requires-clause-released : goal.count_level-requires-clause-released
count_level-requires-clause-released c =
    subst (λ (ss : List Span). HoldsReleased c.args.jobs.now (run_of ss)) (sym c.deref.ensures.value)
    (first_released guest _ _ _ _ _ c.in_ok-spans.ensures.first)

pub count_level-requires-clause-long : goal.count_level-requires-clause-long
count_level-requires-clause-long c =
    subst (λ (ss : List Span). length (run_of ss) ≡ c.args.slots) (sym c.deref.ensures.value)
    (run_long guest _ _ _ c.args.given.now c.args.slots _ c.in_ok-spans.ensures.first)

pub returns : goal.returns
returns c = record {
  node = record {
    spans = c.in_ok-spans.spans.items;
    shares = map (λ (s : Vec Window Global). s.items) c.new.result.items;
    counts = c.in_ok-counts.counts;
  };
  is_node = record {
    spans = c.in_ok-spans.ensures.spans;
    first = c.in_ok-spans.ensures.first;
    no_shares = ap (map (λ (s : Vec Window Global). s.items)) c.new.ensures.items;
    counts =
        subst (λ (ss : List Span). AreCounts (sporadic_tasks c.args.tasks.now) c.args.jobs.now
        (slots_of c.args.given.now c.args.slots) (run_of ss) c.in_ok-counts.counts) c.deref.ensures.value
        c.in_ok-counts.ensures;
  };
  kept = refl;
}
