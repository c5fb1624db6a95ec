use Rattle.serde_json.specs.View.{view}
use Rattle.slot_model.proofs.HandedOn.{handed_on}
use Rattle.cert_reader.proofs.TextBack.{text_spells}
use Rattle.cert_reader.proofs.Texts.{file_none, file_spelled, file_fault}
use Rattle.cert_reader.proofs.file.read_certificate.Goals as goal

pub returns-in_err-top-clause-fault : goal.returns-in_err-top-clause-fault
returns-in_err-top-clause-fault c =
    handed_on c.from_residual.result _ _ c.from_residual.ensures.1 (λ memory. let told = c.in_err-top.ensures.fault
    memory in rw told.1 (file_none c.args.bytes.now told.0))

pub returns-in_err-nodes-clause-fault : goal.returns-in_err-nodes-clause-fault
returns-in_err-nodes-clause-fault c =
    let step = c.from_residual-in_err-nodes in
    handed_on step.result _ _ step.ensures.1 (λ memory. file_fault c.args.bytes.now (view c.in_ok-top.top)
    c.in_err-nodes.field-0.0 c.in_ok-top.ensures.ok (c.in_err-nodes.ensures.fault memory))

pub returns-clause-spelled : goal.returns-clause-spelled
returns-clause-spelled c =
    file_spelled c.args.bytes.now (view c.in_ok-top.top) c.in_ok-nodes.nodes.items c.in_ok-top.ensures.ok
    c.in_ok-nodes.ensures.ok.0 c.in_ok-nodes.ensures.ok.1

pub returns-in_err-top-clause-back : goal.returns-in_err-top-clause-back
returns-in_err-top-clause-back c = text_spells

pub returns-in_err-nodes-clause-back : goal.returns-in_err-nodes-clause-back
returns-in_err-nodes-clause-back c = text_spells

pub returns-clause-back : goal.returns-clause-back
returns-clause-back c = text_spells

pub returns-in-Ok-clause-back : goal.returns-in-Ok-clause-back
returns-in-Ok-clause-back c = text_spells

pub returns-in-Err-NoMemory-clause-back : goal.returns-in-Err-NoMemory-clause-back
returns-in-Err-NoMemory-clause-back c = text_spells
