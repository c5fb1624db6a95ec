use Rattle.std.proofs.Common.{ap, ◌∙◌, Ok, sym}
use Rattle.std.proofs.lemmas.Result.{IfOk-weaker}
use Rattle.toml.specs.Data.{table}
use Rattle.tree_model.specs.Lists.{first_fault_or}
use Rattle.system_file.specs.Document.{spelled_system}
use Rattle.system_file.specs.SystemFile.{system_of_document}
use Rattle.system_file.proofs.plain.read_plain.Goals as goal

pub returns : goal.returns
returns c =
    let read = c.in_ok-nodes.ensures in
    IfOk-weaker c.whole_system.result _ _ (λ sys ok.
    let said = ok (table read.members) read.nodes in
    ap system_of_document read.document ∙ ap (first_fault_or (spelled_system (table read.members))) said.0
    ∙ ap Ok (sym said.1)) c.whole_system.ensures.ok
