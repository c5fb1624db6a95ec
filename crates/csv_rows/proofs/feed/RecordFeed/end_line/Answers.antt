use Rattle.std.proofs.Common.{◌≡◌, ◌++◌, take, ◌+◌}
use Rattle.std.proofs.lemmas.Bool.{eqb-true}
use Rattle.csv_rows.proofs.Feeding.{line_ended}
use Rattle.csv_rows.proofs.feed.RecordFeed.end_line.Goals as goal

pub returns-in_ok-take_plain-in-Some-clause-taken :
    goal.returns-in_ok-take_plain-in-Some-clause-taken
returns-in_ok-take_plain-in-Some-clause-taken g c start text h =
    let found = c.in-Some.ensures in
    let whole : c.extend_from_slice-in-Some.new.self.items
    ≡ c.args.self.now.kept.items ++ take (c.in-Some.at + 1) c.args.piece.now
    = c.in_ok-extend_from_slice-in-Some.ensures.items in
    rw (c.truncate.ensures.items, whole)
    (line_ended g.T.RecordTaker.has_taken start text c.args.self.now.taker c.take_plain.new.taker c.args.piece.now
    c.in-Some.at c.requires.plain found.0.high (eqb-true _ 10 found.1) c.args.self.now.kept.items c.requires.begun
    (rw (c.deref.ensures.value, whole) at c.in_ok-take_plain-in-Some.ensures) h)
