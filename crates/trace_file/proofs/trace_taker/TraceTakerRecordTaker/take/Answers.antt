use Rattle.csv_rows.specs.Row.{fields_of}
use Rattle.trace_file.proofs.Feeding.{took_on}
use Rattle.trace_file.proofs.trace_taker.TraceTakerRecordTaker.take.Goals as goal

pub returns-in-Header : goal.returns-in-Header
returns-in-Header g c start records taken =
    c.take_header.ensures (fields_of c.args.row.now) c.four_fields-fields.ensures start.reader.sys.now start.watcher
    records taken

pub returns-in-Rows : goal.returns-in-Rows
returns-in-Rows g c =
    took_on g.W.EventWatcher.has_seen c.take_row.result c.args.self.now c.take_row.new.self
    (fields_of c.args.row.now) (c.take_row.ensures (fields_of c.args.row.now) c.four_fields-fields.ensures)
