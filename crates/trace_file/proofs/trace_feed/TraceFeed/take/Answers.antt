use Rattle.std.proofs.Common.{◌++◌}
use Rattle.trace_file.proofs.Feeding.{fed_on}
use Rattle.trace_file.proofs.trace_feed.TraceFeed.take.Goals as goal

pub returns : goal.returns
returns g c sys start text h =
    fed_on g.W.EventWatcher.has_seen c.take.result sys start text (text ++ c.args.piece.now) c.args.self.now
    (record { records = c.take.new.self }) h (c.take.ensures h.first text h.fed)
