use Rattle.csv_rows.proofs.feed.RecordFeed.go_on.Goals as goal

pub take_lines-requires-clause-taken : goal.take_lines-requires-clause-taken
take_lines-requires-clause-taken g c =
    let (start, text, h) = c.requires.taken in (start, text, c.in_ok-rest.ensures.taken start text h)
