use Rattle.std.proofs.Common.{sym, ap, unwrap_or}
use Rattle.std.proofs.lemmas.Result.{IfOk-weaker}
use Rattle.slot_model.specs.declared.sched.Sched.TheVariants.{Edf}
use Rattle.slot_model.proofs.HandedOn.{handed_on}
use Rattle.system_file.specs.Faults.{sched_faults}
use Rattle.system_file.proofs.keys.sched_at.Goals as goal

pub returns-in_err-text-clause-fault : goal.returns-in_err-text-clause-fault
returns-in_err-text-clause-fault c =
    let step = c.from_residual in
    handed_on step.result _ _ step.ensures.1 (c.in_err-text.ensures.fault (sched_faults c.args.spot))

pub returns-clause-ok : goal.returns-clause-ok
returns-clause-ok c =
    IfOk-weaker c.sched_of.result _ _
    (λ sched ok. rw c.in_ok-text.ensures.ok (ok.0, sym (ap (λ o. unwrap_or o Edf) ok.1))) c.sched_of.ensures.ok
