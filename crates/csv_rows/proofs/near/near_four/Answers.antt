use Rattle.std.proofs.Common.{arith}
use Rattle.csv_rows.proofs.Fours.{four_read}
use Rattle.csv_rows.proofs.near.near_four.Goals as goal

pub returns-clause-first : goal.returns-clause-first
returns-clause-first c plain =
    let text = c.args.text.now in
    let line = c.in_ok-end.ensures in
    let commas = c.in_ok-commas.commas in
    let three = c.in_ok-commas.ensures in
    let marks = c.places_of.ensures in
    let kept = c.before-in_line.ensures in
    let first = kept.no_more commas.first three.set.0 in
    let second = kept.no_more commas.second three.set.1 in
    let third = kept.no_more commas.third three.set.2 in
    four_read text commas.first commas.second commas.third c.in_ok-end.end plain
    (omega (arith, line.room, line.near)) line.line
    (λ k less one two last e.
    absurd (omega (
      arith,
      three.others k (omega (arith, less, line.near)) one two last,
      kept.kept k less,
      marks.each k (omega (arith, less, line.near)) e,
    )))
    three.in_order.0 three.in_order.1 third.0 (marks.only commas.first first.1).1 (marks.only commas.second second.1).1
    (marks.only commas.third third.1).1 line.ends
