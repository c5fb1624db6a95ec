use Rattle.slot_model.proofs.Constrained.{constrained}
use Rattle.system_file.proofs.ToldLines.{told_element}
use Rattle.system_file.proofs.at_front.task_at.Goals as goal

pub returns : goal.returns
returns c path part place here =
    let told = c.in-Some.told in
    let name = c.in_ok-name.ensures in
    rw (name.ok.1, name.put)
    (told_element part place c.args.spot c.args.names.now (c.in-Some.ensures path) name.ok.0 (constrained told.task)
    told.task.in_limit)
