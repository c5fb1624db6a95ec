use Rattle.std.proofs.Common.{Err}
use Rattle.system_file.specs.declared.fault.SystemFault.TheVariants.{NotToml}
use Rattle.system_file.proofs.Laws.{answer_spelled, answer_refused}
use Rattle.system_file.proofs.Texts.{system_none, system_text}
use Rattle.system_file.proofs.read.read_system.Goals as goal

pub returns-in-Ok-clause-spelled : goal.returns-in-Ok-clause-spelled
returns-in-Ok-clause-spelled c =
    rw (system_text c.args.bytes.now c.in-Ok.ensures.cases.1, ← c.in-Ok.ensures.cases.0) c.read_text.ensures.spelled

pub returns-in-Ok-clause-fault : goal.returns-in-Ok-clause-fault
returns-in-Ok-clause-fault c =
    rw (system_text c.args.bytes.now c.in-Ok.ensures.cases.1, ← c.in-Ok.ensures.cases.0) c.read_text.ensures.fault

pub returns-in-Err-clause-fault : goal.returns-in-Err-clause-fault
returns-in-Err-clause-fault c = λ memory. system_none c.args.bytes.now c.in-Err.ensures.cases.0

pub returns-in-Ok-clause-read : goal.returns-in-Ok-clause-read
returns-in-Ok-clause-read c = answer_spelled c.read_text.result c.args.bytes.now (returns-in-Ok-clause-spelled c)

pub returns-in-Ok-clause-refused : goal.returns-in-Ok-clause-refused
returns-in-Ok-clause-refused c = answer_refused c.read_text.result c.args.bytes.now (returns-in-Ok-clause-fault c)

pub returns-in-Err-clause-refused : goal.returns-in-Err-clause-refused
returns-in-Err-clause-refused c = answer_refused (Err NotToml) c.args.bytes.now (returns-in-Err-clause-fault c)
