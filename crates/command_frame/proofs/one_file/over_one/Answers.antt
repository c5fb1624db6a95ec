use Rattle.slot_model.proofs.HandedOn.{err_is}
use Rattle.command_frame.specs.Steps.{ending_of}
use Rattle.command_frame.proofs.OneFile.{is_system, stop_said, system_said}
use Rattle.command_frame.proofs.Taking.{end_takes}
use Rattle.command_frame.proofs.one_file.over_one.Goals as goal

pub judge-requires : goal.judge-requires
judge-requires g c =
    is_system (g.S.Store.files c.args.store.now) c.args.file.now c.in_ok-sys.sys c.in_ok-sys.ensures.spelled

pub returns-in_err-sys-clause-answer : goal.returns-in_err-sys-clause-answer
returns-in_err-sys-clause-answer g c =
    rw (err_is c.from_residual.result _ c.from_residual.ensures.1)
    (stop_said c.args.file.now (g.J.JudgeOne.says c.args.judge.now) (g.S.Store.files c.args.store.now)
    c.in_err-sys.field-0.0 c.in_err-sys.ensures.refused)

pub returns-clause-answer : goal.returns-clause-answer
returns-clause-answer g c =
    system_said c.args.file.now (g.J.JudgeOne.says c.args.judge.now) (g.S.Store.files c.args.store.now)
    c.in_ok-sys.sys c.in_ok-sys.ensures.spelled (ending_of c.judge.result) c.judge.ensures.answer

pub returns-in_err-sys-clause-taken : goal.returns-in_err-sys-clause-taken
returns-in_err-sys-clause-taken g c =
    rw (err_is c.from_residual.result _ c.from_residual.ensures.1)
    (λ all told. c.in_err-sys.ensures.taken all told)

pub returns-clause-taken : goal.returns-clause-taken
returns-clause-taken g c =
    λ all told. end_takes (ending_of c.judge.result) _ _ _ (c.in_ok-sys.ensures.taken all told)
