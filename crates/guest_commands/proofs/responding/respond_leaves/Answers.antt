use Rattle.std.proofs.Common.{◌≡◌, ◌+◌, List, sym, ◌∙◌, ap, subst}
use Rattle.tree_model.specs.System.{part_at}
use Rattle.tree_model.specs.View.{PartView}
use Rattle.tree_model.proofs.NodeTasks.{part_here}
use Rattle.rt_report.specs.declared.responses.Response.{Response}
use Rattle.guest_commands.specs.Responses.{AnswerTasks, is_fixed_leaf}
use Rattle.guest_commands.proofs.RespondLeaf.{answered_among, no_more_part, one_more_part}
use Rattle.guest_commands.proofs.responding.respond_leaves.Goals as goal
use Rattle.guest_commands.proofs.responding.respond_leaves.Goals.{then-is_fixed_leaf+in_ok-respond_leaf, else-is_fixed_leaf}

pub loop-q-preserved : goal.loop-q-preserved
loop-q-preserved c =
    let sys = c.args.sys.now in let plan = c.args.plan.now in
    let here : c.part-item.result ≡ part_at sys c.loop-q.q
    = part_here sys c.parts-part-items.result.now c.loop-q.q c.part-item.result c.parts-part-items.ensures.parts
    c.loop-q-test.true c.part-item.is in
    let leaf : is_fixed_leaf (part_at sys c.loop-q.q) ≡ c.is_fixed_leaf.result
    = sym (c.is_fixed_leaf.ensures ∙ ap (λ (p : PartView). is_fixed_leaf p) here) in
    elim c.if-is_fixed_leaf.branch [
      | then-is_fixed_leaf+in_ok-respond_leaf w ↦
          subst (λ (rows : List Response). AnswerTasks sys plan (answered_among sys (c.loop-q.q + 1)) rows)
          (sym (ap (λ v. v.items) w.rows-is))
          (one_more_part sys plan c.loop-q.q _
          (w.in_ok-respond_leaf.ensures (answered_among sys c.loop-q.q) c.loop-q.invariant))
      | else-is_fixed_leaf w ↦
          subst (λ (rows : List Response). AnswerTasks sys plan (answered_among sys (c.loop-q.q + 1)) rows)
          (sym (ap (λ v. v.items) w.rows-is))
          (no_more_part sys plan c.loop-q.q c.loop-q.rows.items (leaf ∙ w.if-is_fixed_leaf.false) c.loop-q.invariant)
    ]
