use Rattle.std.proofs.Common.{◌∷◌, ◌++◌, [], length, refl}
use Rattle.trace_file.specs.File.{events_of}
use Rattle.trace_file.proofs.Giving.{event_behind, event_keeps, event_known, event_there, row_breaks, rows_taken, taken_before, taken_more}
use Rattle.trace_file.proofs.trace_taker.TraceTaker.take_any_row.Goals as goal

pub see-requires : goal.see-requires
see-requires g c =
    let (row, read) = c.requires.read in
    let (sys, start, records, h) = c.requires.taken in
    let t = c.args.self.now in
    let rows = rows_taken g.W.EventWatcher.has_seen sys start records t c.args.unit h c.requires.stage in (
      start,
      events_of t.reader.sys.now c.args.unit rows.rows,
      rows.seen,
      taken_before g.W.EventWatcher.has_seen sys start records t c.args.unit h c.requires.stage
          row c.in-Ok.event (c.in-Ok.ensures.event row read),
    )

pub take-requires-clause-known : goal.take-requires-clause-known
take-requires-clause-known g c =
    let (row, read) = c.requires.read in
    let (sys, start, records, h) = c.requires.taken in
    let t = c.args.self.now in
    let rows = rows_taken g.W.EventWatcher.has_seen sys start records t c.args.unit h c.requires.stage in
    event_known t.reader.sys.now (events_of t.reader.sys.now c.args.unit rows.rows) c.in-Ok.event t.reader.rows
    (taken_before g.W.EventWatcher.has_seen sys start records t c.args.unit h c.requires.stage
    row c.in-Ok.event (c.in-Ok.ensures.event row read))

pub returns-in_ok-see-in-Ok : goal.returns-in_ok-see-in-Ok
returns-in_ok-see-in-Ok g c row read sys start records h =
    let t = c.args.self.now in
    let e = c.in-Ok.event in
    let rows = rows_taken g.W.EventWatcher.has_seen sys start records t c.args.unit h c.requires.stage in
    let events = events_of t.reader.sys.now c.args.unit rows.rows in
    let before
    = taken_before g.W.EventWatcher.has_seen sys start records t c.args.unit h c.requires.stage row e
    (c.in-Ok.ensures.event row read) in
    taken_more g.W.EventWatcher.has_seen sys start records t c.args.unit h c.requires.stage row e
    (c.in-Ok.ensures.event row read) c.see.new.self c.take.new.self _
    (c.in_ok-see-in-Ok.ensures start events rows.seen before)
    (c.take.ensures (events ++ e ∷ []) (length events)
    (event_there t.reader.sys.now events e t.reader.rows before)
    (event_keeps t.reader.sys.now events e t.reader.rows before)
    (event_behind t.reader.sys.now events e t.reader.rows before)) refl

pub returns-in-Err : goal.returns-in-Err
returns-in-Err g c row read sys start records h =
    let t = c.args.self.now in
    let rows = rows_taken g.W.EventWatcher.has_seen sys start records t c.args.unit h c.requires.stage in
    record {
      sys_is = h.sys_is;
      system = h.system;
      names = h.names;
      at =
          row_breaks g.W.EventWatcher.has_seen start t.watcher records row t.reader c.args.unit rows
          c.in-Err.fault (c.in-Err.ensures.fault row read rows.rows rows.behind);
    }
