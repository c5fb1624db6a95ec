use Rattle.std.proofs.Common.{[], ◌∷◌, ◌++◌, length}
use Rattle.auditor.proofs.Streaming.{awaits_more, behind_next}
use Rattle.auditor.proofs.pieces.WatcherEventWatcher.see.Goals as goal

pub take-requires-clause-awaits : goal.take-requires-clause-awaits
take-requires-clause-awaits c =
    let (start, events, seen, before) = c.requires in (
      start.watches.counted,
      events ++ c.args.event ∷ [],
      length events,
      awaits_more start.watches.counted c.args.sys.now c.args.self.now.plan events c.args.event [] c.args.rows.now
          c.args.self.now.watches
          before.keep before.after seen.behind,
    )

pub returns : goal.returns
returns c start events seen before = record {
  same = seen.same;
  system = seen.system;
  plan = seen.plan;
  behind =
      behind_next start.watches.counted c.args.sys.now c.args.self.now.plan events c.args.event c.args.rows.now
      c.args.self.now.watches
      c.take.new.self before.after seen.behind (c.take.ensures start.watches.counted);
}
