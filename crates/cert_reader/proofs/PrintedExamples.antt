-- The text of a certificate worked out by the checker, byte by byte: that of a part under earliest
-- deadline first with its core, that of a part under a fixed rank, and that of no nodes.
use Rattle.std.specs.Prelude.{◌≡◌, codes, [], ◌∷◌, List, Some, None, true, false, refl}
use Rattle.std.specs.Fmt.{digits}
use Rattle.serde_json.proofs.OnLiterals.{serde_json_on_literals}
use Rattle.tree_model.specs.declared.place.Place.TheVariants.{Core, Part}
use Rattle.tree_model.specs.CertificateView.{NodeView}
use Rattle.cert_reader.specs.Printed.{certificate_text}

abbrev dynamic : List NodeView
dynamic = record {
  place = Part 0;
  period = 10;
  budget = 3;
  computed = true;
  points = 35 ∷ 65 ∷ 86 ∷ 137 ∷ 161 ∷ [];
  hits = [];
  witness = Some 75;
  falls = [];
} ∷ record {
  place = Core 0;
  period = 1;
  budget = 1;
  computed = false;
  points = 3 ∷ 12 ∷ [];
  hits = [];
  witness = None;
  falls = [];
} ∷ []

the_text_under_edf : certificate_text dynamic
    ≡ codes
    "{\"format\":1,\"nodes\":[{\"budget\":3,\"computed\":true,\"falls\":[],\"hits\":[],\"kind\":\"part\",\"period\":10,\"place\":0,\"points\":[\"35\",\"65\",\"86\",\"137\",\"161\"],\"witness\":\"75\"},{\"budget\":1,\"computed\":false,\"falls\":[],\"hits\":[],\"kind\":\"core\",\"period\":1,\"place\":0,\"points\":[\"3\",\"12\"],\"witness\":null}]}\n"
unfolding serde_json_on_literals digits certificate_text
the_text_under_edf = refl

abbrev fixed : List NodeView
fixed = record {
  place = Part 1;
  period = 10;
  budget = 4;
  computed = true;
  points = [];
  hits = 25 ∷ 46 ∷ [];
  witness = Some 1;
  falls = 1 ∷ 65 ∷ 76 ∷ [];
} ∷ []

the_text_under_a_fixed_rank : certificate_text fixed
    ≡ codes
    "{\"format\":1,\"nodes\":[{\"budget\":4,\"computed\":true,\"falls\":[1,65,76],\"hits\":[25,46],\"kind\":\"part\",\"period\":10,\"place\":1,\"points\":[],\"witness\":\"1\"}]}\n"
unfolding serde_json_on_literals digits certificate_text
the_text_under_a_fixed_rank = refl

the_text_of_no_nodes : certificate_text [] ≡ codes "{\"format\":1,\"nodes\":[]}\n"
unfolding serde_json_on_literals digits certificate_text
the_text_of_no_nodes = refl
