use Rattle.std.proofs.lemmas.Result.{IfErr-weaker}
use Rattle.slot_model.proofs.HandedOn.{handed_on, ok_with}
use Rattle.system_file.specs.Faults.{new_name_faults}
use Rattle.system_file.proofs.Named.{taken_is, more_names}
use Rattle.system_file.proofs.names.name_at.Goals as goal

pub returns-in_err-text-clause-fault : goal.returns-in_err-text-clause-fault
returns-in_err-text-clause-fault c =
    let step = c.from_residual in
    handed_on step.result _ _ step.ensures.1 (λ memory earlier have.
    c.in_err-text.ensures.fault (new_name_faults c.args.spot earlier))

pub returns-clause-ok : goal.returns-clause-ok
returns-clause-ok c =
    ok_with c.new_name.result _ _ _ c.new_name.ensures.ok c.new_name.ensures.put (λ name ok put earlier have. (
      rw (c.in_ok-text.ensures.ok, taken_is earlier c.args.names.now c.in_ok-text.text.now have) ok.0,
      rw c.in_ok-text.ensures.ok ok.1,
      rw put (more_names earlier c.args.names.now _ c.in_ok-text.text.now have c.in_ok-text.ensures.ok),
    ))

pub returns-clause-put : goal.returns-clause-put
returns-clause-put c =
    ok_with c.new_name.result _ _ _ c.new_name.ensures.ok c.new_name.ensures.put (λ name ok put. rw ok.1 put)

pub returns-clause-fault : goal.returns-clause-fault
returns-clause-fault c =
    IfErr-weaker c.new_name.result _ _ (λ fault wrong memory earlier have.
    rw (c.in_ok-text.ensures.ok, taken_is earlier c.args.names.now c.in_ok-text.text.now have) (wrong memory))
    c.new_name.ensures.fault
