use Rattle.std.proofs.Common.{Option, subst, ◌∙◌}
use Rattle.slot_model.proofs.HandedOn.{err_is, handed_on}
use Rattle.outside.specs.Files.{Files}
use Rattle.command_frame.specs.Steps.{IfAnswered}
use Rattle.command_frame.specs.inner.Steps.{StopsAt}
use Rattle.command_frame.proofs.TwoFiles.{ends_at_first, ends_at_second}
use Rattle.command_frame.proofs.Taking.{ends_first, ends_second, both_taken}
use Rattle.command_frame.proofs.two_files.take_two.Goals as goal

pub returns-in_err-sys-clause-refused : goal.returns-in_err-sys-clause-refused
returns-in_err-sys-clause-refused g c =
    handed_on c.from_residual.result _ _ c.from_residual.ensures.1 (ends_at_first (g.S.Store.files c.args.store.now)
    c.args.first.now c.args.second.now (λ _ _ _ _. ⊥) c.in_err-sys.field-0.0 c.in_err-sys.ensures.refused)

pub returns-in_err-taker-clause-refused : goal.returns-in_err-taker-clause-refused
returns-in_err-taker-clause-refused g c =
    let stop = c.in_err-taker.field-0.0 in
    handed_on c.from_residual-in_err-taker.result _ _ c.from_residual-in_err-taker.ensures.1
    (ends_at_second (g.S.Store.files c.args.store.now) c.args.first.now c.args.second.now (λ _ _ _ _. ⊥)
    c.in_ok-sys.sys stop c.in_ok-sys.ensures.spelled (subst (λ (fs : Option Files). IfAnswered stop
    (λ a. StopsAt 2 fs c.args.second.now (λ _ _ _. ⊥) a.status a.text.items)) c.in_ok-sys.ensures.same_files
    c.in_err-taker.ensures.refused))

pub returns-in_err-sys-clause-taken : goal.returns-in_err-sys-clause-taken
returns-in_err-sys-clause-taken g c =
    rw (err_is c.from_residual.result _ c.from_residual.ensures.1)
    (λ files told. ends_first (g.S.Store.files c.args.store.now) files c.args.first.now c.args.second.now
    c.in_err-sys.field-0.0 _ _ told c.in_err-sys.ensures.refused (c.in_err-sys.ensures.taken files told))

pub returns-in_err-taker-clause-taken : goal.returns-in_err-taker-clause-taken
returns-in_err-taker-clause-taken g c =
    rw (err_is c.from_residual-in_err-taker.result _ c.from_residual-in_err-taker.ensures.1)
    (λ files told. ends_second (g.S.Store.files c.args.store.now) files c.args.first.now c.args.second.now
    c.in_ok-sys.sys c.in_err-taker.field-0.0 _ _ _ told c.in_ok-sys.ensures.spelled
    (c.in_ok-sys.ensures.taken files told)
    (c.in_err-taker.ensures.taken files (c.in_ok-sys.ensures.same_files ∙ told)))

pub returns-clause-taken : goal.returns-clause-taken
returns-clause-taken g c =
    λ files told. both_taken (g.S.Store.files c.args.store.now) files c.args.first.now c.args.second.now c.in_ok-sys.sys
    _ _ _ told c.in_ok-sys.ensures.spelled (c.in_ok-sys.ensures.taken files told)
    (c.in_ok-taker.ensures.taken files (c.in_ok-sys.ensures.same_files ∙ told))
