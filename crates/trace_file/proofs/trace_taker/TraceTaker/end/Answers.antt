use Rattle.std.proofs.Common.{◌∙◌, length, sym, subst}
use Rattle.tree_model.specs.View.{SystemView}
use Rattle.trace_file.specs.File.{IsFileFault, events_of, rows_of}
use Rattle.trace_file.specs.Given.{HasWatched}
use Rattle.trace_file.specs.declared.fault.TraceFault.TheVariants.{NoEnd}
use Rattle.trace_file.proofs.Giving.{rows_ended, rows_open, rows_taken, still_broken}
use Rattle.trace_file.proofs.trace_taker.TraceTaker.end.Goals as goal

pub returns-then-not-ended-clause-fault : goal.returns-then-not-ended-clause-fault
returns-then-not-ended-clause-fault g c sys start records h =
    let t = c.args.self in
    let rows = rows_taken g.W.EventWatcher.has_seen sys start records t c.in-Rows.field-0 h c.in-Rows.is in
    subst (λ (z : SystemView). IsFileFault z (rows_of records) (NoEnd t.reader.row)) h.sys_is
    (rows_open g.W.EventWatcher.has_seen start t.watcher records t.reader c.in-Rows.field-0 rows
    (sym (c.ended.ensures (events_of t.reader.sys.now c.in-Rows.field-0 rows.rows) (length rows.rows) rows.behind.after)
    ∙ c.if-not-ended.true))

pub returns-in-Broken-clause-fault : goal.returns-in-Broken-clause-fault
returns-in-Broken-clause-fault g c sys start records h =
    let t = c.args.self in
    subst (λ (z : SystemView). IsFileFault z (rows_of records) c.in-Broken.fault) h.sys_is
    (still_broken g.W.EventWatcher.has_seen start t.watcher records t.reader c.in-Broken.fault
    (rw c.in-Broken.is at h.at))

pub returns-else-not-ended-clause-watched : goal.returns-else-not-ended-clause-watched
returns-else-not-ended-clause-watched g c sys start records h =
    let t = c.args.self in
    let rows = rows_taken g.W.EventWatcher.has_seen sys start records t c.in-Rows.field-0 h c.in-Rows.is in
    subst
    (λ (z : SystemView). HasWatched g.W.EventWatcher.has_seen z start records
    (record { rows = t.reader.rows; watcher = t.watcher })) h.sys_is
    (rows_ended g.W.EventWatcher.has_seen start t.watcher records t.reader c.in-Rows.field-0 rows
    (sym (c.ended.ensures (events_of t.reader.sys.now c.in-Rows.field-0 rows.rows) (length rows.rows) rows.behind.after)
    ∙ c.if-not-ended.false))
