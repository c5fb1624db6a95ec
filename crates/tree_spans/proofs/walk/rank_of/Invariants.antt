use Rattle.std.proofs.Common.{◌≡◌, ◌≤◌}
use Rattle.slot_model.specs.Slots.{count_below}
use Rattle.tree_model.specs.Tree.{is_child}
use Rattle.tree_spans.proofs.walk.rank_of.Given as goal

-- the children before this part
abbrev pub invariant-loop-earlier : goal.invariant-loop-earlier
invariant-loop-earlier l =
    record { counted : l.rank ≡ count_below (is_child l.sys l.parent) l.earlier; few : l.rank ≤ l.earlier }
