use Rattle.std.proofs.Common.{◌≡◌, ℕ, List, length, map, Vec, Global, refl, sym, ◌∙◌, subst}
use Rattle.slot_model.specs.Task.{SporadicTask, sporadic_tasks}
use Rattle.slot_model.specs.Order.{before_of}
use Rattle.slot_model.specs.Run.{server, FirstRun}
use Rattle.slot_model.specs.Miss.{HoldsReleased}
use Rattle.slot_model.specs.declared.job.Job.{Job}
use Rattle.guest_sched.specs.declared.spans.Span.{Span}
use Rattle.guest_sched.specs.Spans.{Window, AreSpans, slots_of, run_of}
use Rattle.fp_request.proofs.Parts.{sporadic_tasks-length}
use Rattle.span_counts.specs.Counts.{AreCounts}
use Rattle.tree_spans.specs.Shares.{AreShares}
use Rattle.tree_spans.proofs.Nodes.{run_long, first_released, server_level_made}
use Rattle.tree_spans.proofs.node.NodeSpansKeptNode.of_servers.Goals as goal

pub shares_of-requires-clause-released : goal.shares_of-requires-clause-released
shares_of-requires-clause-released c =
    subst (λ (js : List Job). HoldsReleased js (run_of c.deref-3.result.now))
    (c.deref.ensures.value ∙ sym c.deref-2.ensures.value)
    (subst (λ (ss : List Span). HoldsReleased c.deref.result.now (run_of ss)) (sym c.deref-3.ensures.value)
    (first_released server _ _ _ _ _ c.in_ok-spans.ensures.first))

pub shares_of-requires-clause-spans : goal.shares_of-requires-clause-spans
shares_of-requires-clause-spans c =
    let long = run_long server _ _ _ c.args.given.now c.args.slots _ c.in_ok-spans.ensures.first in
    subst (λ (ss : List Span). AreSpans ss (length (run_of ss))) (sym c.deref-3.ensures.value)
    (subst (λ (m : ℕ). AreSpans c.in_ok-spans.spans.items m) (sym long) c.in_ok-spans.ensures.spans)

pub count_level-requires-clause-released : goal.count_level-requires-clause-released
count_level-requires-clause-released c =
    subst (λ (js : List Job). HoldsReleased js (run_of c.deref-5.result.now))
    (c.deref.ensures.value ∙ sym c.deref-4.ensures.value)
    (subst (λ (ss : List Span). HoldsReleased c.deref.result.now (run_of ss)) (sym c.deref-5.ensures.value)
    (first_released server _ _ _ _ _ c.in_ok-spans.ensures.first))

pub count_level-requires-clause-long : goal.count_level-requires-clause-long
count_level-requires-clause-long c =
    subst (λ (ss : List Span). length (run_of ss) ≡ c.args.slots) (sym c.deref-5.ensures.value)
    (run_long server _ _ _ c.args.given.now c.args.slots _ c.in_ok-spans.ensures.first)

pub returns : goal.returns
returns c =
    let T : List SporadicTask = sporadic_tasks c.args.tasks.now in
    let count : ℕ = length c.args.tasks.now in
    let shares : List (List Window) = map (λ (s : Vec Window Global). s.items) c.in_ok-shares.shares.items in
    record {
      node = record { spans = c.in_ok-spans.spans.items; shares = shares; counts = c.in_ok-counts.counts };
      is_node =
          server_level_made c.args.sched T c.args.given.now c.args.slots c.in_ok-spans.spans.items shares
          c.in_ok-jobs.jobs.items count
          c.in_ok-jobs.ensures.exact (sym (sporadic_tasks-length c.args.tasks.now)) c.in_ok-spans.ensures.spans
          (subst (λ (js : List Job). FirstRun server (before_of c.args.sched T) T js
          (slots_of c.args.given.now c.args.slots) (run_of c.in_ok-spans.spans.items)) c.deref.ensures.value
          c.in_ok-spans.ensures.first)
          (subst (λ (js : List Job). AreShares js (run_of c.in_ok-spans.spans.items)
          (length (run_of c.in_ok-spans.spans.items)) count shares) c.deref-2.ensures.value
          (subst (λ (ss : List Span). AreShares c.deref-2.result.now (run_of ss) (length (run_of ss)) count shares)
          c.deref-3.ensures.value c.in_ok-shares.ensures))
          c.in_ok-counts.counts
          (subst (λ (js : List Job). AreCounts T js (slots_of c.args.given.now c.args.slots)
          (run_of c.in_ok-spans.spans.items) c.in_ok-counts.counts) c.deref-4.ensures.value
          (subst (λ (ss : List Span). AreCounts T c.deref-4.result.now (slots_of c.args.given.now c.args.slots)
          (run_of ss) c.in_ok-counts.counts) c.deref-5.ensures.value c.in_ok-counts.ensures));
      kept = refl;
    }
