use Rattle.std.proofs.Common.{◌++◌}
use Rattle.csv_rows.proofs.Feeding.{more_bytes}
use Rattle.csv_rows.proofs.feed.RecordFeed.take.Goals as goal

pub begin-requires-clause-taken : goal.begin-requires-clause-taken
begin-requires-clause-taken g c =
    let (start, text, fed) = c.requires in
    let none = rw c.in-Front.is at fed.kept in (
      start,
      text ++ c.args.piece.now,
      rw none at
          (more_bytes g.T.RecordTaker.has_taken start text c.args.self.now.taker c.args.self.now.kept.items
          c.args.piece.now fed.first),
    )

pub go_on-requires-clause-taken : goal.go_on-requires-clause-taken
go_on-requires-clause-taken g c =
    let (start, text, fed) = c.requires in (
      start,
      text ++ c.args.piece.now,
      more_bytes g.T.RecordTaker.has_taken start text c.args.self.now.taker c.args.self.now.kept.items c.args.piece.now
          fed.first,
    )
