use Rattle.std.proofs.Common.{◌≡◌, ◌⊎◌, inr}
use Rattle.std.proofs.lemmas.Result.{IfErr-weaker}
use Rattle.csv_rows.specs.Reading.{records_of}
use Rattle.trace_file.specs.declared.fault.TraceFault.TheVariants.{NoMemory}
use Rattle.trace_file.specs.File.{IsFileFault, rows_of}
use Rattle.trace_file.proofs.Feeding.{fed_taken}
use Rattle.trace_file.proofs.trace_feed.TraceFeed.finish.Goals as goal

pub returns-in-Ok-clause-watched : goal.returns-in-Ok-clause-watched
returns-in-Ok-clause-watched g c sys start text h =
    c.end.ensures.watched sys start (records_of text)
    (fed_taken g.W.EventWatcher.has_seen sys start text c.args.self (records_of text) c.in-Ok.taker h
    (c.in-Ok.ensures h.first text h.fed))

pub returns-in-Ok-clause-fault : goal.returns-in-Ok-clause-fault
returns-in-Ok-clause-fault g c sys start text h =
    IfErr-weaker c.end.result (λ fault. IsFileFault sys (rows_of (records_of text)) fault)
    (λ fault. (fault ≡ NoMemory) ⊎ IsFileFault sys (rows_of (records_of text)) fault) (λ fault breaks. inr breaks)
    (c.end.ensures.fault sys start (records_of text)
    (fed_taken g.W.EventWatcher.has_seen sys start text c.args.self (records_of text) c.in-Ok.taker h
    (c.in-Ok.ensures h.first text h.fed)))
