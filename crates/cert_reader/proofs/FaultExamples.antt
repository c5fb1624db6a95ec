-- Faults of certificates worked out by the checker: objects of other keys, keys in their order, and
-- each fault by itself.
use Rattle.std.specs.Prelude.{◌≡◌, ◌^◌, ◌-◌, ℕ, zero, suc, ℤ, negsuc, Float, codes, [], ◌∷◌, List, Result, Ok, Err, Some, None, true, refl}
use Rattle.serde_json.specs.Data.{Data, null, boolean, number, unsigned, negative, float, string, array, object, Items, no_items, item, no_members, member}
use Rattle.tree_model.specs.CertificateView.{NodeView}
use Rattle.tree_model.specs.declared.place.Place.TheVariants.{Part}
use Rattle.cert_reader.specs.declared.fault.CertFault.{CertFault}
use Rattle.cert_reader.specs.declared.fault.CertFault.TheVariants.{WrongShape, BadNumber, TooMany}
use Rattle.cert_reader.specs.CertificateFile.{certificate_of_value}
use Rattle.cert_reader.specs.Faults.{count_faults}

abbrev whole : ℕ → Data
whole n = number (unsigned n)

-- numbers that are none of a certificate: -1, and one more than 64 bits hold
abbrev below : Data
below = number (negative (negsuc 0))

abbrev past : Data
past = whole (2 ^ 64)

abbrev one_of : Data → Data
one_of d = array (item d no_items)

abbrev none_of : Data
none_of = array no_items

-- an object of the nine keys of a node, in the order of their names
abbrev node : (budget computed falls hits kind period place points witness : Data) → Data
node budget computed falls hits kind period place points witness =
    object (member (codes "budget") budget (member (codes "computed") computed
    (member (codes "falls") falls (member (codes "hits") hits (member (codes "kind") kind
    (member (codes "period") period (member (codes "place") place
    (member (codes "points") points (member (codes "witness") witness no_members)))))))))

-- a node whose budget, its first key, is given, and one more member behind its eight others
abbrev odd_node : Data → List ℕ → Data
odd_node budget last =
    object (member (codes "budget") budget (member (codes "computed") (boolean true)
    (member (codes "falls") none_of (member (codes "hits") none_of (member (codes "kind") (string (codes "part"))
    (member (codes "period") (whole 10) (member (codes "place") (whole 0)
    (member (codes "points") none_of (member last null no_members)))))))))

abbrev of_top : Data → Data → Data
of_top format nodes = object (member (codes "format") format (member (codes "nodes") nodes no_members))

-- what is read of a certificate of just this node
abbrev read_of : Data → Result (List NodeView) CertFault
read_of d = certificate_of_value (Some (of_top (whole 1) (one_of d)))

abbrev budget_of : Data → Result (List NodeView) CertFault
budget_of d =
    read_of (node d (boolean true) none_of none_of (string (codes "part")) (whole 10) (whole 0) none_of null)

abbrev computed_of : Data → Result (List NodeView) CertFault
computed_of d = read_of (node (whole 3) d none_of none_of (string (codes "part")) (whole 10) (whole 0) none_of null)

abbrev falls_of : Data → Result (List NodeView) CertFault
falls_of d =
    read_of (node (whole 3) (boolean true) d none_of (string (codes "part")) (whole 10) (whole 0) none_of null)

abbrev hits_of : Data → Result (List NodeView) CertFault
hits_of d =
    read_of (node (whole 3) (boolean true) none_of d (string (codes "part")) (whole 10) (whole 0) none_of null)

abbrev kind_of : Data → Result (List NodeView) CertFault
kind_of d = read_of (node (whole 3) (boolean true) none_of none_of d (whole 10) (whole 0) none_of null)

abbrev period_of : Data → Result (List NodeView) CertFault
period_of d =
    read_of (node (whole 3) (boolean true) none_of none_of (string (codes "part")) d (whole 0) none_of null)

abbrev place_of : Data → Result (List NodeView) CertFault
place_of d =
    read_of (node (whole 3) (boolean true) none_of none_of (string (codes "part")) (whole 10) d none_of null)

abbrev points_of : Data → Result (List NodeView) CertFault
points_of d =
    read_of (node (whole 3) (boolean true) none_of none_of (string (codes "part")) (whole 10) (whole 0) d null)

abbrev witness_of : Data → Result (List NodeView) CertFault
witness_of d =
    read_of (node (whole 3) (boolean true) none_of none_of (string (codes "part")) (whole 10) (whole 0) none_of d)

-- what the faults below are put into has none itself
a_node_without_a_fault : witness_of null
    ≡ Ok (record {
      place = Part 0;
      period = 10;
      budget = 3;
      computed = true;
      points = [];
      hits = [];
      witness = None;
      falls = [];
    } ∷ [])
a_node_without_a_fault = refl

-- as many keys as are asked for, of which one has another name: the object's own fault counts, and
-- not that of a number at another key
another_name_at_the_top :
    certificate_of_value
    (Some (object (member (codes "format") (whole 2) (member (codes "node") none_of no_members))))
    ≡ Err WrongShape
another_name_at_the_top = refl

another_name_in_a_node : read_of (odd_node below (codes "witnes")) ≡ Err WrongShape
another_name_in_a_node = refl

-- a tenth key, and a ninth that lacks
a_key_more_in_a_node :
    read_of (object (member (codes "added") null (member (codes "budget") below (member (codes "computed") (boolean true)
    (member (codes "falls") none_of (member (codes "hits") none_of (member (codes "kind") (string (codes "part"))
    (member (codes "period") (whole 10) (member (codes "place") (whole 0)
    (member (codes "points") none_of (member (codes "witness") null no_members)))))))))))
    ≡ Err WrongShape
a_key_more_in_a_node = refl

a_key_less_in_a_node :
    read_of (object (member (codes "budget") below (member (codes "computed") (boolean true)
    (member (codes "falls") none_of (member (codes "hits") none_of (member (codes "kind") (string (codes "part"))
    (member (codes "period") (whole 10) (member (codes "place") (whole 0)
    (member (codes "points") none_of no_members)))))))))
    ≡ Err WrongShape
a_key_less_in_a_node = refl

-- of two neighbouring keys with faults of two kinds the first is told
the_format_before_the_nodes : (certificate_of_value (Some (of_top (whole 2) null)) ≡ Err BadNumber)
    × (certificate_of_value (Some (of_top null (one_of (odd_node below (codes "witness"))))) ≡ Err WrongShape)
the_format_before_the_nodes = (refl, refl)

the_budget_before_computed :
    read_of (node past null none_of none_of (string (codes "part")) (whole 10) (whole 0) none_of null) ≡ Err BadNumber
the_budget_before_computed = refl

computed_before_the_falls :
    read_of (node (whole 3) null (one_of past) none_of (string (codes "part")) (whole 10) (whole 0) none_of null)
    ≡ Err WrongShape
computed_before_the_falls = refl

the_falls_before_the_hits :
    read_of
    (node (whole 3) (boolean true) (one_of past) null (string (codes "part")) (whole 10) (whole 0) none_of null)
    ≡ Err BadNumber
the_falls_before_the_hits = refl

the_hits_before_the_kind :
    read_of (node (whole 3) (boolean true) none_of (one_of past) null (whole 10) (whole 0) none_of null)
    ≡ Err BadNumber
the_hits_before_the_kind = refl

the_kind_before_the_period :
    read_of (node (whole 3) (boolean true) none_of none_of (string (codes "cpu")) past (whole 0) none_of null)
    ≡ Err WrongShape
the_kind_before_the_period = refl

the_period_before_the_place :
    read_of (node (whole 3) (boolean true) none_of none_of (string (codes "part")) past null none_of null)
    ≡ Err BadNumber
the_period_before_the_place = refl

the_place_before_the_points :
    read_of (node (whole 3) (boolean true) none_of none_of (string (codes "part")) (whole 10) past null null)
    ≡ Err BadNumber
the_place_before_the_points = refl

the_points_before_the_witness :
    read_of
    (node (whole 3) (boolean true) none_of none_of (string (codes "part")) (whole 10) (whole 0)
    (one_of (string (codes "01"))) (whole 0))
    ≡ Err BadNumber
the_points_before_the_witness = refl

-- and of two elements of an array too
elements_in_their_order : (hits_of (array (item below (item null no_items))) ≡ Err BadNumber)
    × (hits_of (array (item null (item below no_items))) ≡ Err WrongShape)
    × (points_of (array (item (string []) (item (whole 1) no_items))) ≡ Err BadNumber)
    × (points_of (array (item (whole 1) (item (string []) no_items))) ≡ Err WrongShape)
elements_in_their_order = (refl, refl, refl, refl)

-- a value of another kind at each key, and an element of another kind in each array
values_of_another_kind : (budget_of null ≡ Err WrongShape) × (computed_of (whole 1) ≡ Err WrongShape)
    × (computed_of (string (codes "true")) ≡ Err WrongShape) × (falls_of (whole 1) ≡ Err WrongShape)
    × (hits_of null ≡ Err WrongShape) × (kind_of (whole 0) ≡ Err WrongShape)
    × (period_of (string (codes "10")) ≡ Err WrongShape) × (place_of (boolean true) ≡ Err WrongShape)
    × (points_of (string (codes "35")) ≡ Err WrongShape) × (witness_of (whole 75) ≡ Err WrongShape)
values_of_another_kind = (refl, refl, refl, refl, refl, refl, refl, refl, refl, refl)

elements_of_another_kind : (falls_of (one_of (string (codes "1"))) ≡ Err WrongShape)
    × (hits_of (one_of null) ≡ Err WrongShape) × (points_of (one_of (whole 35)) ≡ Err WrongShape)
elements_of_another_kind = (refl, refl, refl)

tops_of_another_kind : (certificate_of_value (Some none_of) ≡ Err WrongShape)
    × (certificate_of_value (Some (of_top (string (codes "1")) none_of)) ≡ Err WrongShape)
    × (certificate_of_value (Some (of_top (whole 1) null)) ≡ Err WrongShape) × (read_of none_of ≡ Err WrongShape)
tops_of_another_kind = (refl, refl, refl, refl)

-- numbers that break their rule: below zero, past the range, and with a point or an exponent
numbers_below_zero : (z : ℤ) →
    (budget_of (number (negative z)) ≡ Err BadNumber) × (falls_of (one_of (number (negative z))) ≡ Err BadNumber)
    × (hits_of (one_of (number (negative z))) ≡ Err BadNumber) × (period_of (number (negative z)) ≡ Err BadNumber)
    × (place_of (number (negative z)) ≡ Err BadNumber)
    × (certificate_of_value (Some (of_top (number (negative z)) none_of)) ≡ Err BadNumber)
numbers_below_zero z = (refl, refl, refl, refl, refl, refl)

numbers_with_a_point : (x : Float) →
    (budget_of (number (float x)) ≡ Err BadNumber) × (falls_of (one_of (number (float x))) ≡ Err BadNumber)
    × (hits_of (one_of (number (float x))) ≡ Err BadNumber) × (period_of (number (float x)) ≡ Err BadNumber)
    × (place_of (number (float x)) ≡ Err BadNumber)
    × (certificate_of_value (Some (of_top (number (float x)) none_of)) ≡ Err BadNumber)
numbers_with_a_point x = (refl, refl, refl, refl, refl, refl)

numbers_past_the_range : (budget_of past ≡ Err BadNumber) × (falls_of (one_of past) ≡ Err BadNumber)
    × (hits_of (one_of past) ≡ Err BadNumber) × (period_of past ≡ Err BadNumber)
    × (place_of (whole (2 ^ 32)) ≡ Err BadNumber)
    × (certificate_of_value (Some (of_top (whole 0) none_of)) ≡ Err BadNumber)
numbers_past_the_range = (refl, refl, refl, refl, refl, refl)

-- the largest numbers that there are
the_largest_numbers :
    read_of
    (node (whole (2 ^ 64 - 1)) (boolean true) (one_of (whole (2 ^ 64 - 1))) (one_of (whole (2 ^ 64 - 1)))
    (string (codes "part")) (whole (2 ^ 64 - 1)) (whole (2 ^ 32 - 1)) none_of null)
    ≡ Ok (record {
      place = Part (2 ^ 32 - 1);
      period = 2 ^ 64 - 1;
      budget = 2 ^ 64 - 1;
      computed = true;
      points = [];
      hits = (2 ^ 64 - 1) ∷ [];
      witness = None;
      falls = (2 ^ 64 - 1) ∷ [];
    } ∷ [])
the_largest_numbers = refl

-- texts that are no plain decimal numbers, where one is asked for
texts_that_are_no_numbers : (witness_of (string []) ≡ Err BadNumber) × (witness_of (string (codes "01")) ≡ Err BadNumber)
    × (witness_of (string (codes "x")) ≡ Err BadNumber) × (witness_of (string (codes "null")) ≡ Err BadNumber)
    × (points_of (one_of (string (codes "-1"))) ≡ Err BadNumber)
texts_that_are_no_numbers = (refl, refl, refl, refl, refl)

-- nodes that are none, as many as are said
abbrev nulls : ℕ → Items
nulls zero = no_items
nulls (suc n) = item null (nulls n)

-- past 576 nodes their count is the fault, and up to there the first node has it
too_many_nodes : (count_faults (array (nulls 577)) ≡ TooMany ∷ []) × (count_faults (array (nulls 576)) ≡ [])
too_many_nodes = (refl, refl)

too_many_before_the_first_node :
    (certificate_of_value (Some (of_top (whole 1) (array (nulls 577)))) ≡ Err TooMany)
    × (certificate_of_value (Some (of_top (whole 1) (array (nulls 576)))) ≡ Err WrongShape)
too_many_before_the_first_node = (refl, refl)
