use Rattle.csv_rows.proofs.Feeding.{took_last}
use Rattle.csv_rows.proofs.feed.RecordFeed.finish.Goals as goal

pub returns : goal.returns
returns g c start text fed =
    took_last g.T.RecordTaker.has_taken start text c.args.self.taker c.take_all.new.taker c.args.self.kept.items
    (rw c.deref.ensures.value at c.in_ok-take_all.ensures) fed.first
