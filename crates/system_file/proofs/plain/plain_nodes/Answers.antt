use Rattle.std.proofs.Common.{◌≡◌, length, ap, ◌∙◌, arith}
use Rattle.std.proofs.lemmas.Grind.{common_steps}
use Rattle.toml_parser.specs.Lexical.{skip_blank}
use Rattle.tree_model.proofs.Lists.{length_map}
use Rattle.system_file.specs.Document.{elements_of, spelled_core}
use Rattle.system_file.proofs.ManyNames.{as_many_names}
use Rattle.system_file.proofs.OneWalk.{read_to_the_end}
use Rattle.system_file.proofs.plain.plain_nodes.Goals as goal

pub parts_from-requires-clause-names : goal.parts_from-requires-clause-names
parts_from-requires-clause-names c =
    let read = c.in_ok-cores.ensures in
    let named = as_many_names (elements_of read.items) c.cores_from.new.names read.named in
    let spelled = ap length read.spelled ∙ length_map spelled_core (elements_of read.items) in
    omega (arith, named, spelled)

pub returns : goal.returns
returns c =
    let ended : length (skip_blank c.in_ok-parts.parts.rest.now) ≡ 0 = grind (arith, common_steps) in
    read_to_the_end c.in_ok-top.ensures c.in_ok-core.ensures c.in_ok-cores.ensures c.in_ok-part.ensures
    c.in_ok-parts.ensures (omega arith) ended
