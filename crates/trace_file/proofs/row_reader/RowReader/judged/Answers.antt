use Rattle.std.proofs.Common.{◌∷◌, ◌++◌, [], ◌∙◌, length, sym}
use Rattle.trace_file.specs.File.{events_of}
use Rattle.trace_file.proofs.Giving.{judged_next, judged_rules}
use Rattle.trace_file.proofs.row_reader.RowReader.judged.Goals as goal

pub returns-in-Some-clause-fault : goal.returns-in-Some-clause-fault
returns-in-Some-clause-fault c row read rows behind =
    let r = c.args.self.now in
    let e = c.in-Ok.event in
    let (goes, fits, is) = c.in-Ok.ensures.event row read rows behind in
    judged_rules c.args.unit rows row r e behind goes fits is
    ∙ (sym (c.event_fault.ensures.fault (events_of r.sys.now c.args.unit rows ++ e ∷ []) (length rows)
    (judged_next c.args.unit rows row r e behind)) ∙ c.in-Some.is)

pub returns-in-None-clause-event : goal.returns-in-None-clause-event
returns-in-None-clause-event c row read rows behind =
    let r = c.args.self.now in
    let e = c.in-Ok.event in
    let (goes, fits, is) = c.in-Ok.ensures.event row read rows behind in (
      judged_rules c.args.unit rows row r e behind goes fits is
          ∙ (sym (c.event_fault.ensures.fault (events_of r.sys.now c.args.unit rows ++ e ∷ []) (length rows)
          (judged_next c.args.unit rows row r e behind)) ∙ c.in-None.is),
      is,
    )
