use Rattle.std.proofs.Common.{refl}
use Rattle.slot_model.proofs.HandedOn.{err_is}
use Rattle.command_frame.specs.Steps.{ending_of}
use Rattle.command_frame.proofs.OneFile.{is_system}
use Rattle.command_frame.proofs.TwoFiles.{ends_read, stop_said, two_said}
use Rattle.command_frame.proofs.Taking.{end_takes}
use Rattle.command_frame.proofs.two_files.over_pieces.Goals as goal

pub end-requires : goal.end-requires
end-requires g c = λ k. (
  (refl, tt),
  (
    is_system (g.S.Store.files c.args.store.now) c.args.first.now c.in_ok-sys.sys.now
        c.in_ok-sys.ensures.system,
    (c.in_ok-sys.ensures.second.bytes, c.in_ok-sys.ensures.second.taken),
  ),
)

pub returns-in_err-sys-clause-answer : goal.returns-in_err-sys-clause-answer
returns-in_err-sys-clause-answer g c =
    let files = g.S.Store.files c.args.store.now in
    let says = g.J.JudgePieces.says c.args.judge.now in
    let stop = c.in_err-sys.field-0.0 in
    rw (err_is c.from_residual.result _ c.from_residual.ensures.1)
    (two_said files c.args.first.now c.args.second.now says stop
    (stop_said files c.args.first.now c.args.second.now says stop c.in_err-sys.ensures.refused))

pub returns-clause-answer : goal.returns-clause-answer
returns-clause-answer g c =
    let files = g.S.Store.files c.args.store.now in
    let says = g.J.JudgePieces.says c.args.judge.now in
    let end = ending_of c.end.result in
    let file = c.in_ok-sys.ensures.second in
    two_said files c.args.first.now c.args.second.now says end
    (ends_read files c.args.first.now c.args.second.now says c.in_ok-sys.sys.now file.bytes end
    c.in_ok-sys.ensures.system (record { held = file.held; short = file.taken.short })
    (c.end.ensures.answer file.bytes file.taken))

pub returns-in_err-sys-clause-taken : goal.returns-in_err-sys-clause-taken
returns-in_err-sys-clause-taken g c =
    rw (err_is c.from_residual.result _ c.from_residual.ensures.1)
    (λ all told. c.in_err-sys.ensures.taken all told)

pub returns-clause-taken : goal.returns-clause-taken
returns-clause-taken g c =
    λ all told. end_takes (ending_of c.end.result) _ _ _ (c.in_ok-sys.ensures.taken all told)
