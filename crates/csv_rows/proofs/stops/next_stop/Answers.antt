use Rattle.std.proofs.Common.{◌+◌, ◌≤◌, length, sym, ap, ◌∙◌, arith}
use Rattle.std.proofs.lemmas.Simd.{length-chunk, none_from_empty_mask, run_in_chunk_fails, run_in_chunk_le, trailing_mask_l}
use lib.Lanes.{chunk}
use lib.Count.{count_trailing_zeros}
use Rattle.csv_rows.specs.inner.Stops.{is_stop}
use Rattle.csv_rows.proofs.Passing.{both}
use Rattle.csv_rows.proofs.stops.next_stop.Goals as goal

pub returns-then-stops-ne0 : goal.returns-then-stops-ne0
returns-then-stops-ne0 c =
    let text = c.args.text.now in
    let at = c.loop-at.at in
    let found = c.stops_of-stops in
    let room : at + 16 ≤ length text = omega arith in
    let counted =
    ap (count_trailing_zeros 64) found.ensures
    ∙ trailing_mask_l is_stop 64 (chunk at 16 text) (omega (arith, length-chunk at 16 text room))
    (omega (arith, found.ensures)) in
    let few = run_in_chunk_le is_stop text at 16 _ 0 room counted in
    both text c.args.from at _ c.loop-at.invariant (omega arith) (omega arith)
    (run_in_chunk_fails is_stop text at 16 _ 0 room counted)

pub loop-at-preserved : goal.loop-at-preserved
loop-at-preserved c =
    let text = c.args.text.now in
    let at = c.loop-at.at in
    let room : at + 16 ≤ length text = omega arith in
    both text c.args.from at _ c.loop-at.invariant (omega arith) room
    (none_from_empty_mask is_stop text at 16 0 room (sym c.stops_of-stops.ensures ∙ c.if-stops-ne0.false))

pub returns : goal.returns
returns c =
    let last = c.next_stop_by_one.ensures in
    both c.args.text.now c.args.from c.loop-at.at _ c.loop-at.invariant last.low last.high last.passed
