use Rattle.std.proofs.Common.{ap, ◌∙◌, unwrap_or}
use Rattle.tree_model.proofs.Lists.{first_here, first_later}
use Rattle.slot_model.proofs.HandedOn.{handed_on}
use Rattle.system_file.proofs.tasks.numbers_at.Goals as goal

pub returns-in_err-jitter-clause-fault : goal.returns-in_err-jitter-clause-fault
returns-in_err-jitter-clause-fault c =
    let step = c.from_residual-in_err-jitter in
    let period_ok = rw c.in_ok-period.ensures.ok.1 at c.in_ok-period.ensures.ok.0 in
    let deadline
    = c.unwrap_or-deadline.ensures
    ∙ ap (λ o. unwrap_or o c.in_ok-period.period) c.in_ok-given_number_at.ensures.ok.1 in
    let wrong = rw deadline at c.in_err-jitter.ensures.fault in
    handed_on step.result _ _ step.ensures.1 (rw c.in_ok-period.ensures.ok.1
    (first_later _ _ _ period_ok (first_later _ _ _ c.in_ok-given_number_at.ensures.ok.0 (first_here _ _ _ wrong))))
