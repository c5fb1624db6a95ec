use Rattle.std.proofs.Common.{◌≡◌, ◌+◌, List, length, arith, sym, ◌∙◌, ap, subst}
use Rattle.tree_model.specs.System.{is_computed_leaf, part_at}
use Rattle.tree_model.specs.View.{PartView}
use Rattle.tree_model.proofs.NodeTasks.{part_here}
use Rattle.miss_witness.specs.declared.replay.Replay.{Replay}
use Rattle.miss_witness.proofs.ReplayList.{ReplaysTo, all_replays, no_more_replay, one_more_replay}
use Rattle.miss_witness.proofs.replays.replay_leaves.Goals as goal
use Rattle.miss_witness.proofs.replays.replay_leaves.Goals.{then-is_computed_leaf+in_ok-replay_leaf+in_ok-push, else-is_computed_leaf}

pub loop-q-preserved : goal.loop-q-preserved
loop-q-preserved c =
    let here : c.part-item.result ≡ part_at c.args.sys.now c.loop-q.q
    = part_here c.args.sys.now c.parts-part-items.result.now c.loop-q.q c.part-item.result
    c.parts-part-items.ensures.parts c.loop-q-test.true c.part-item.is in
    let leaf : is_computed_leaf (part_at c.args.sys.now c.loop-q.q) ≡ c.is_computed_leaf.result
    = sym (c.is_computed_leaf.ensures ∙ ap (λ (p : PartView). is_computed_leaf p) here) in
    elim c.if-is_computed_leaf.branch [
      | then-is_computed_leaf+in_ok-replay_leaf+in_ok-push w ↦
          subst (λ (replays : List Replay). ReplaysTo c.args.sys.now c.args.plan.now (c.loop-q.q + 1) replays)
          (sym (ap (λ v. v.items) w.replays-is ∙ w.in_ok-push.ensures.items))
          (one_more_replay c.args.sys.now c.args.plan.now c.loop-q.q c.loop-q.replays.items w.in_ok-replay_leaf.field-0
          (leaf ∙ w.if-is_computed_leaf.true) w.in_ok-replay_leaf.ensures c.loop-q.invariant)
      | else-is_computed_leaf w ↦
          subst (λ (replays : List Replay). ReplaysTo c.args.sys.now c.args.plan.now (c.loop-q.q + 1) replays)
          (sym (ap (λ v. v.items) w.replays-is)) (no_more_replay c.args.sys.now c.args.plan.now c.loop-q.q
          c.loop-q.replays.items (leaf ∙ w.if-is_computed_leaf.false) c.loop-q.invariant)
    ]

pub returns : goal.returns
returns c =
    all_replays c.args.sys.now c.args.plan.now c.loop-q.q c.loop-q.replays.items
    (omega (arith, ap (λ (ps : List PartView). length ps) c.parts-part-items.ensures.parts)) c.loop-q.invariant
