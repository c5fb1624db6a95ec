use Rattle.std.proofs.Common.{◌≡◌, ◌++◌, ◌∷◌, [], ◌+◌, arith}
use Rattle.std.proofs.lemmas.Bool.{eqb-true}
use Rattle.csv_rows.proofs.Feeding.{begun_again, lines_taken}
use Rattle.csv_rows.proofs.Splitting.{left_of}
use Rattle.csv_rows.proofs.feed.RecordFeed.take_lines.Goals as goal

pub returns-in_ok-extend_from_slice-in-Some : goal.returns-in_ok-extend_from_slice-in-Some
returns-in_ok-extend_from_slice-in-Some g c start text h =
    let found = c.in-Some.ensures in
    let none : c.args.self.now.kept.items ≡ 10 ∷ [] = c.requires.none_at_hand (omega (arith, found.0.high)) in
    let now : c.extend_from_slice-in-Some.new.self.items
    ≡ c.args.self.now.kept.items ++ left_of c.args.piece.now (c.in-Some.last + 1)
    = c.in_ok-extend_from_slice-in-Some.ensures.items in
    record {
      first =
          rw (now, none)
          (lines_taken g.T.RecordTaker.has_taken start text c.args.self.now.taker c.take_plain.new.taker
          c.args.piece.now c.in-Some.last c.requires.plain found.0.high (eqb-true _ 10 found.1)
          c.in_ok-take_plain-in-Some.ensures (rw none at h));
      kept = rw (c.requires.way, now, none) (begun_again c.args.piece.now (c.in-Some.last + 1) c.requires.plain);
    }
