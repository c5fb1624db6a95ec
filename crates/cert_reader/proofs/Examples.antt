-- Certificates worked out by the checker: good ones, and refused ones with the fault that counts
-- first.
use Rattle.std.specs.Prelude.{◌≡◌, ◌-◌, ◌^◌, ℕ, codes, [], ◌∷◌, Ok, Err, Some, None, true, false, refl}
use Rattle.std.specs.Str.{is_utf8, chars}
use Rattle.serde_json.proofs.OnLiterals.{serde_json_on_literals}
use Rattle.serde_json.specs.Data.{Data, null, boolean, number, unsigned, string, array, object, Items, no_items, item, no_members, member}
use Rattle.tree_model.specs.declared.place.Place.TheVariants.{Core, Part}
use Rattle.cert_reader.specs.declared.fault.CertFault.TheVariants.{NotJson, WrongShape, BadNumber}
use Rattle.cert_reader.specs.declared.kind.Kind.TheVariants.{Part as OfPart, Core as OfCore}
use Rattle.cert_reader.specs.Document.{decimal_of, kind_named}
use Rattle.cert_reader.specs.CertificateFile.{certificate_of, certificate_of_value}

-- from the bytes on
no_nodes : certificate_of (codes "{\"format\":1,\"nodes\":[]}") ≡ Ok []
unfolding serde_json_on_literals is_utf8 chars certificate_of
no_nodes = refl

no_json : certificate_of (codes "{\"format\":1,\"nodes\":[]") ≡ Err NotJson
unfolding serde_json_on_literals is_utf8 chars certificate_of
no_json = refl

no_text : certificate_of (0xff ∷ []) ≡ Err NotJson
unfolding serde_json_on_literals is_utf8 chars certificate_of
no_text = refl

-- {"K":1}, where K is no text
a_key_that_is_no_text : certificate_of (123 ∷ 34 ∷ 0xff ∷ 34 ∷ 58 ∷ 49 ∷ 125 ∷ []) ≡ Err NotJson
unfolding serde_json_on_literals is_utf8 chars certificate_of
a_key_that_is_no_text = refl

another_format : certificate_of (codes "{\"format\":2,\"nodes\":[]}") ≡ Err BadNumber
unfolding serde_json_on_literals is_utf8 chars certificate_of
another_format = refl

-- in any order and with spaces, and of a key that stands twice the last value
keys_in_any_order : certificate_of (codes "{ \"nodes\" : [ ] , \"format\" : 1 }\n") ≡ Ok []
unfolding serde_json_on_literals is_utf8 chars certificate_of
keys_in_any_order = refl

the_last_value_counts : certificate_of (codes "{\"format\":2,\"nodes\":[],\"format\":1}") ≡ Ok []
unfolding serde_json_on_literals is_utf8 chars certificate_of
the_last_value_counts = refl

a_key_more : certificate_of (codes "{\"format\":1,\"nodes\":[],\"more\":[]}") ≡ Err WrongShape
unfolding serde_json_on_literals is_utf8 chars certificate_of
a_key_more = refl

-- from the document on: a part of budget 3 in 10 slots, under earliest deadline first
abbrev whole : ℕ → Data
whole n = number (unsigned n)

abbrev node : Data → Data → Data → Data → Data → Data
node budget kind place points witness =
    object (member (codes "budget") budget (member (codes "computed") (boolean true)
    (member (codes "falls") (array no_items)
    (member (codes "hits") (array (item (whole 12) no_items)) (member (codes "kind") kind (
    member (codes "period") (whole 10) (member (codes "place") place
    (member (codes "points") points (member (codes "witness") witness no_members)))))))))

abbrev of_nodes : Items → Data
of_nodes nodes = object (member (codes "format") (whole 1) (member (codes "nodes") (array nodes) no_members))

abbrev two_points : Data
two_points = array (item (string (codes "35")) (item (string (codes "161")) no_items))

abbrev part_at : Data → Data
part_at place = node (whole 3) (string (codes "part")) place two_points (string (codes "75"))

a_part_that_is_told : certificate_of_value (Some (of_nodes (item (part_at (whole 2)) no_items)))
    ≡ Ok (record {
      place = Part 2;
      period = 10;
      budget = 3;
      computed = true;
      points = 35 ∷ 161 ∷ [];
      hits = 12 ∷ [];
      witness = Some 75;
      falls = [];
    } ∷ [])
a_part_that_is_told = refl

a_core_without_a_witness : certificate_of_value
    (Some (of_nodes (item (node (whole 3) (string (codes "core")) (whole 2) (array no_items) null) no_items)))
    ≡ Ok (record {
      place = Core 2;
      period = 10;
      budget = 3;
      computed = true;
      points = [];
      hits = 12 ∷ [];
      witness = None;
      falls = [];
    } ∷ [])
a_core_without_a_witness = refl

the_largest_place : certificate_of_value (Some (of_nodes (item (part_at (whole (2 ^ 32 - 1))) no_items)))
    ≡ Ok (record {
      place = Part (2 ^ 32 - 1);
      period = 10;
      budget = 3;
      computed = true;
      points = 35 ∷ 161 ∷ [];
      hits = 12 ∷ [];
      witness = Some 75;
      falls = [];
    } ∷ [])
the_largest_place = refl

one_place_more : certificate_of_value (Some (of_nodes (item (part_at (whole (2 ^ 32))) no_items))) ≡ Err BadNumber
one_place_more = refl

another_kind : certificate_of_value
    (Some (of_nodes (item (node (whole 3) (string (codes "cpu")) (whole 0) two_points null) no_items))) ≡ Err WrongShape
another_kind = refl

a_budget_as_a_text : certificate_of_value
    (Some (of_nodes (item (node (string (codes "3")) (string (codes "part")) (whole 0) two_points null) no_items)))
    ≡ Err WrongShape
a_budget_as_a_text = refl

a_point_as_a_number : certificate_of_value (Some (of_nodes
    (item (node (whole 3) (string (codes "part")) (whole 0) (array (item (whole 35) no_items)) null) no_items)))
    ≡ Err WrongShape
a_point_as_a_number = refl

-- the key that comes first by name decides, and of two nodes the first
the_budget_before_the_place : certificate_of_value
    (Some (of_nodes (item (node null (string (codes "part")) (whole (2 ^ 32)) two_points null) no_items)))
    ≡ Err WrongShape
the_budget_before_the_place = refl

the_first_node_before_the_second : certificate_of_value
    (Some (of_nodes (item (part_at (whole (2 ^ 32))) (item null no_items)))) ≡ Err BadNumber
the_first_node_before_the_second = refl

-- numbers in quotes: plain decimals below 2 ^ 128
quoted_numbers : (decimal_of (codes "0") ≡ Some 0) × (decimal_of (codes "10") ≡ Some 10)
    × (decimal_of (codes "340282366920938463463374607431768211455") ≡ Some (2 ^ 128 - 1))
quoted_numbers = (refl, refl, refl)

no_quoted_numbers : (decimal_of [] ≡ None) × (decimal_of (codes "010") ≡ None) × (decimal_of (codes "1x") ≡ None)
    × (decimal_of (codes "-1") ≡ None) × (decimal_of (codes "340282366920938463463374607431768211456") ≡ None)
no_quoted_numbers = (refl, refl, refl, refl, refl)

kinds : (kind_named (codes "part") ≡ Some OfPart) × (kind_named (codes "core") ≡ Some OfCore)
    × (kind_named (codes "Part") ≡ None) × (kind_named [] ≡ None)
kinds = (refl, refl, refl, refl)
