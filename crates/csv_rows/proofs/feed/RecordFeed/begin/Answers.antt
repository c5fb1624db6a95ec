use Rattle.std.proofs.Common.{◌∙◌, sym}
use Rattle.std.proofs.lemmas.Bool.{ne_eqb}
use Rattle.csv_rows.proofs.Feeding.{line_kept}
use Rattle.csv_rows.proofs.feed.RecordFeed.begin.Goals as goal

pub go_on-requires-clause-taken : goal.go_on-requires-clause-taken
go_on-requires-clause-taken g c =
    let (start, text, h) = c.requires.taken in (
      start,
      text,
      line_kept g.T.RecordTaker.has_taken start text c.args.self.now.taker c.args.piece.now c.args.self.now.kept.items
          c.push.new.self.items c.requires.nothing c.in_ok-push.ensures.items
          (sym c.is_empty.ensures ∙ c.if-is_empty.false) (ne_eqb _ 239 c.if-piece.false) h,
    )

pub returns : goal.returns
returns g c start text h =
    c.go_on.ensures start text
    (line_kept g.T.RecordTaker.has_taken start text c.args.self.now.taker c.args.piece.now c.args.self.now.kept.items
    c.push.new.self.items c.requires.nothing c.in_ok-push.ensures.items (sym c.is_empty.ensures ∙ c.if-is_empty.false)
    (ne_eqb _ 239 c.if-piece.false) h)
