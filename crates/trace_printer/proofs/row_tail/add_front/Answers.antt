use Rattle.std.proofs.Common.{◌≡◌, ◌+◌, ◌-◌, ◌∙◌, ◌++◌, ℕ, length, take, ap, arith}
use Rattle.std.proofs.lemmas.List.{length-take}
use Rattle.trace_printer.proofs.RowTails.{front_added}
use Rattle.trace_printer.proofs.row_tail.add_front.Goals as goal

pub slice_bounds-piece-end : goal.slice_bounds-piece-end
slice_bounds-piece-end c = omega (arith, c.requires, length-take 32 c.args.bytes.now)

pub overflow_sub-len : goal.overflow_sub-len
overflow_sub-len c =
    omega (
      arith,
      c.requires,
      length-take 32 c.args.bytes.now,
      c.in_ok-extend_from_slice.ensures.len,
      c.len.ensures,
    )

pub returns : goal.returns
returns c =
    let kept : c.len.result - (32 - c.args.count) ≡ length c.args.text.now.items + c.args.count
    = omega (
      arith,
      c.requires,
      c.if-count-gt-PIECE.false,
      length-take 32 c.args.bytes.now,
      c.in_ok-extend_from_slice.ensures.len,
      c.len.ensures,
    ) in
    c.truncate.ensures.items
    ∙ (ap (take (c.len.result - (32 - c.args.count))) c.in_ok-extend_from_slice.ensures.items
    ∙ (ap (λ (n : ℕ). take n (c.args.text.now.items ++ take 32 c.args.bytes.now)) kept
    ∙ front_added c.args.text.now.items c.args.bytes.now c.args.count 32
    (omega (arith, c.if-count-gt-PIECE.false)) (omega (arith, c.requires))))
