use Rattle.std.proofs.Common.{◌≡◌, ◌<◌, length, get_or, sym, ◌∙◌, arith}
use Rattle.tree_model.specs.Tree.{is_child}
use Rattle.rt_report.specs.Words.{names_among}
use Rattle.rt_report.proofs.ChildNames.{child_name_at, is_child_read, counted_yes, counted_no}
use Rattle.rt_report.proofs.names.child.Goals as goal
use Rattle.rt_report.proofs.names.child.Goals.{After-is_child_of, then-is_child_of+else-before-eq0, else-is_child_of}

-- the part is the one at its place, and whether it is a child is told
module _ (c : After-is_child_of) where
  within : c.loop-part.part-index < length c.args.sys.now.parts
  within = rw c.parts-part-items.ensures.parts at c.loop-part-test.true

  is : c.part-item.result ≡ get_or c.args.sys.now.parts c.loop-part.part-index c.part-item.result
  is = rw c.parts-part-items.ensures.parts at c.part-item.is

  child : is_child c.args.sys.now c.args.node c.loop-part.part-index ≡ c.is_child_of.result
  child =
      is_child_read c.args.sys.now c.args.node c.loop-part.part-index c.part-item.result c.is_child_of.result within is
      c.is_child_of.ensures

pub returns-then-before-eq0 : goal.returns-then-before-eq0
returns-then-before-eq0 c =
    let here = (goal.at.returns-then-before-eq0 c).After-is_child_of in
    let count : length (names_among c.args.sys.now c.args.node c.loop-part.part-index) ≡ c.args.i
    = omega (arith, c.loop-part.invariant, c.if-before-eq0.true) in
    c.as_str.ensures.text
    ∙ (c.name.ensures
    ∙ sym (child_name_at c.args.sys.now c.args.node c.loop-part.part-index c.args.i c.part-item.result (within here)
    (is here) (child here ∙ c.if-is_child_of.true) count))

pub loop-part-preserved : goal.loop-part-preserved
loop-part-preserved c =
    let here = (goal.at.loop-part-preserved c).After-is_child_of in
    elim c.if-is_child_of.branch [
      | then-is_child_of+else-before-eq0 w ↦
          rw w.before-is (counted_yes c.args.sys.now c.args.node c.loop-part.part-index c.args.i c.loop-part.before
          (child here ∙ w.if-is_child_of.true) w.if-before-eq0.false c.loop-part.invariant)
      | else-is_child_of w ↦
          rw w.before-is (counted_no c.args.sys.now c.args.node c.loop-part.part-index c.args.i c.loop-part.before
          (child here ∙ w.if-is_child_of.false) c.loop-part.invariant)
    ]
