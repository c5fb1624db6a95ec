-- The text of a certificate is that of its JSON value, piece by piece.
use Rattle.std.proofs.Common.{◌≡◌, ℕ, suc, ◌^◌, ◌<◌, ◌≤◌, Bool, true, false, List, [], ◌∷◌, ◌++◌, length, get_or, Option, Some, None, codes, decimal, refl, sym, ap, ◌∙◌, arith, append_assoc}
use Rattle.std.specs.Str.Parse.{AllDigits}
use Rattle.std.specs.Char.{digit_value}
use Rattle.std.proofs.lemmas.Fmt.{decimal_digit, decimal_is_IsNumeral_wide}
use Rattle.json.specs.Print.{escape, escape_byte, quoted}
use Rattle.json.proofs.Printed.Strings.{escape_byte_plain}
use Rattle.serde_json.specs.Data.{Data, boolean, string, array, Members, no_members, member}
use Rattle.serde_json.specs.Written.{compact_text, items_text, members_text}
use Rattle.tree_model.specs.declared.place.Place.{Place}
use Rattle.tree_model.specs.declared.place.Place.TheVariants.{Core, Part}
use Rattle.tree_model.specs.CertificateView.{NodeView}
use Rattle.cert_verify.specs.Proves.{no_node, node_at}
use Rattle.cert_reader.specs.Printed.{items_from, number_value, written_value, witness_value, kind_text, place_number, node_value, certificate_value, certificate_text, IsBelow, AreBelow, IsInRange, AreInRange}
use Rattle.cert_reader.specs.Text.{behind, listed, quoted_number, witness_text, flag_text, place_text, node_text}

-- digits need no escape
in_range : (d : ℕ) → digit_value d < 10 → (48 ≤ d) × (d ≤ 57)
in_range d h = grind arith

escape_digits : (ds : List ℕ) → AllDigits 10 ds → escape ds ≡ ds
escape_digits [] h = refl
escape_digits (d ∷ ds) h =
    let r : (48 ≤ d) × (d ≤ 57) = in_range d h.0 in
    ap (λ (b : List ℕ). b ++ escape ds) (escape_byte_plain d (λ e. omega arith) (λ e. omega arith) (omega arith))
    ∙ ap (λ (rest : List ℕ). d ∷ rest) (escape_digits ds h.1)

pub quoted_same : (n : ℕ) → n < 2 ^ 128 → quoted (decimal n) ≡ quoted_number n
quoted_same n l =
    ap (λ (ds : List ℕ). 34 ∷ (ds ++ 34 ∷ []))
    (escape_digits (decimal n) (decimal_is_IsNumeral_wide n (omega arith)).0.1)

-- lists
items_behind : {A : Type 0} (value : A → Data) (text : A → List ℕ) (xs : List A) (d : A)
    → ((k : ℕ) → k < length xs → compact_text (value (get_or xs k d)) ≡ text (get_or xs k d))
    → items_text true (items_from value xs) ≡ behind text xs ++ 93 ∷ []
items_behind value text [] d same = refl
items_behind value text (x ∷ xs) d same =
    ap (λ (t : List ℕ). 44 ∷ (t ++ items_text true (items_from value xs))) (same 0 (omega arith))
    ∙ (ap (λ (t : List ℕ). 44 ∷ (text x ++ t)) (items_behind value text xs d (λ k l. same (suc k) (omega arith)))
    ∙ ap (λ (t : List ℕ). 44 ∷ t) (sym (append_assoc (text x) (behind text xs) (93 ∷ []))))

list_same : {A : Type 0} (value : A → Data) (text : A → List ℕ) (xs : List A) (d : A)
    → ((k : ℕ) → k < length xs → compact_text (value (get_or xs k d)) ≡ text (get_or xs k d))
    → compact_text (array (items_from value xs)) ≡ 91 ∷ (listed text xs ++ 93 ∷ [])
list_same value text [] d same = refl
list_same value text (x ∷ xs) d same =
    ap (λ (t : List ℕ). 91 ∷ (t ++ items_text true (items_from value xs))) (same 0 (omega arith))
    ∙ (ap (λ (t : List ℕ). 91 ∷ (text x ++ t)) (items_behind value text xs d (λ k l. same (suc k) (omega arith)))
    ∙ ap (λ (t : List ℕ). 91 ∷ t) (sym (append_assoc (text x) (behind text xs) (93 ∷ []))))

list_then : {A : Type 0} (value : A → Data) (text : A → List ℕ) (xs : List A) (d : A) (rest : List ℕ)
    → ((k : ℕ) → k < length xs → compact_text (value (get_or xs k d)) ≡ text (get_or xs k d))
    → compact_text (array (items_from value xs)) ++ rest ≡ 91 ∷ (listed text xs ++ 93 ∷ rest)
list_then value text xs d rest same =
    ap (λ (t : List ℕ). t ++ rest) (list_same value text xs d same)
    ∙ ap (λ (t : List ℕ). 91 ∷ t) (append_assoc (listed text xs) (93 ∷ []) rest)

numbers_then : (xs rest : List ℕ)
    → compact_text (array (items_from number_value xs)) ++ rest ≡ 91 ∷ (listed decimal xs ++ 93 ∷ rest)
numbers_then xs rest = list_then number_value decimal xs 0 rest (λ k l. refl)

points_then : (xs rest : List ℕ) → AreBelow (2 ^ 128) xs
    → compact_text (array (items_from written_value xs)) ++ rest ≡ 91 ∷ (listed quoted_number xs ++ 93 ∷ rest)
points_then xs rest below =
    list_then written_value quoted_number xs 0 rest (λ k l. quoted_same (get_or xs k 0) (below k l))

witness_same : (o : Option ℕ) → IsBelow (2 ^ 128) o → compact_text (witness_value o) ≡ witness_text o
witness_same None below = refl
witness_same (Some n) below = quoted_same n below

flag_same : (b : Bool) → compact_text (boolean b) ≡ flag_text b
flag_same true = refl
flag_same false = refl

-- the kind, the period and the place
place_then : (place : Place) (period : ℕ) (m : Members) (rest : List ℕ) → members_text true m ≡ rest
    → members_text true (member (codes "kind") (string (kind_text place))
    (member (codes "period") (number_value period)
    (member (codes "place") (number_value (place_number place)) m)))
    ≡ codes ",\"kind\":\"" ++ (place_text place period ++ rest)
unfolding escape_byte
place_then (Part q) period m rest same =
    ap (λ (r : List ℕ). codes ",\"kind\":\"part\",\"period\":"
    ++ (decimal period ++ (codes ",\"place\":" ++ (decimal q ++ r)))) same
    ∙ ap (λ (t : List ℕ). codes ",\"kind\":\"part\",\"period\":" ++ t) (ap
    (λ (t : List ℕ). decimal period ++ (codes ",\"place\":" ++ t)) refl
    ∙ sym (append_assoc (decimal period) (codes ",\"place\":" ++ decimal q) rest ∙ refl))
place_then (Core c) period m rest same =
    ap (λ (r : List ℕ). codes ",\"kind\":\"core\",\"period\":"
    ++ (decimal period ++ (codes ",\"place\":" ++ (decimal c ++ r)))) same
    ∙ ap (λ (t : List ℕ). codes ",\"kind\":\"core\",\"period\":" ++ t)
    (sym (append_assoc (decimal period) (codes ",\"place\":" ++ decimal c) rest))

-- a node
pub node_same : (node : NodeView) → IsInRange node → compact_text (node_value node) ≡ node_text node
unfolding escape_byte
node_same node r =
    let m9 : Members = member (codes "witness") (witness_value node.witness) no_members in
    let t9 : List ℕ = witness_text node.witness ++ codes "}" in
    let e9 : members_text true m9 ≡ codes ",\"witness\":" ++ t9
    = ap (λ (t : List ℕ). codes ",\"witness\":" ++ (t ++ codes "}")) (witness_same node.witness r.witness) in
    let m8 : Members = member (codes "points") (array (items_from written_value node.points)) m9 in
    let t8 : List ℕ = listed quoted_number node.points ++ (codes "],\"witness\":" ++ t9) in
    let e8 : members_text true m8 ≡ codes ",\"points\":[" ++ t8
    = ap (λ (s : List ℕ). codes ",\"points\":" ++ s) (points_then node.points (members_text true m9) r.points
    ∙ ap (λ (s : List ℕ). 91 ∷ (listed quoted_number node.points ++ 93 ∷ s)) e9) in
    let m5 : Members
    = member (codes "kind") (string (kind_text node.place)) (member (codes "period") (number_value node.period)
    (member (codes "place") (number_value (place_number node.place)) m8)) in
    let t5 : List ℕ = place_text node.place node.period ++ (codes ",\"points\":[" ++ t8) in
    let e5 : members_text true m5 ≡ codes ",\"kind\":\"" ++ t5
    = place_then node.place node.period m8 (codes ",\"points\":[" ++ t8) e8 in
    let m4 : Members = member (codes "hits") (array (items_from number_value node.hits)) m5 in
    let t4 : List ℕ = listed decimal node.hits ++ (codes "],\"kind\":\"" ++ t5) in
    let e4 : members_text true m4 ≡ codes ",\"hits\":[" ++ t4
    = ap (λ (s : List ℕ). codes ",\"hits\":" ++ s) (numbers_then node.hits (members_text true m5)
    ∙ ap (λ (s : List ℕ). 91 ∷ (listed decimal node.hits ++ 93 ∷ s)) e5) in
    let m3 : Members = member (codes "falls") (array (items_from number_value node.falls)) m4 in
    let t3 : List ℕ = listed decimal node.falls ++ (codes "],\"hits\":[" ++ t4) in
    let e3 : members_text true m3 ≡ codes ",\"falls\":[" ++ t3
    = ap (λ (s : List ℕ). codes ",\"falls\":" ++ s) (numbers_then node.falls (members_text true m4)
    ∙ ap (λ (s : List ℕ). 91 ∷ (listed decimal node.falls ++ 93 ∷ s)) e4) in
    let m2 : Members = member (codes "computed") (boolean node.computed) m3 in
    let e2 : members_text true m2
    ≡ codes ",\"computed\":" ++ (flag_text node.computed ++ (codes ",\"falls\":[" ++ t3))
    =
    ap (λ (t : List ℕ). codes ",\"computed\":" ++ (t ++ members_text true m3)) (flag_same node.computed)
    ∙ ap (λ (s : List ℕ). codes ",\"computed\":" ++ (flag_text node.computed ++ s)) e3 in
    ap (λ (s : List ℕ). codes "{\"budget\":" ++ (decimal node.budget ++ s)) e2

pub certificate_same : (nodes : List NodeView) → AreInRange nodes
    → certificate_text nodes ≡ codes "{\"format\":1,\"nodes\":[" ++ (listed node_text nodes ++ codes "]}\n")
unfolding escape_byte certificate_text
certificate_same nodes r =
    let list : compact_text (array (items_from node_value nodes)) ++ 125 ∷ []
    ≡ 91 ∷ (listed node_text nodes ++ 93 ∷ 125 ∷ [])
    = list_then node_value node_text nodes no_node (125 ∷ []) (λ k l. node_same (node_at nodes k) (r k l)) in
    let whole : compact_text (certificate_value nodes)
    ≡ codes "{\"format\":1,\"nodes\":[" ++ (listed node_text nodes ++ 93 ∷ 125 ∷ [])
    =
    ap (λ (ds : List ℕ). codes "{\"format\":"
    ++ (ds ++ (codes ",\"nodes\":" ++ (compact_text (array (items_from node_value nodes)) ++ 125 ∷ []))))
    (decimal_digit 1 (omega arith))
    ∙ ap (λ (s : List ℕ). codes "{\"format\":1,\"nodes\":" ++ s) list in
    ap (λ (s : List ℕ). s ++ 10 ∷ []) whole
    ∙ ap (λ (s : List ℕ). codes "{\"format\":1,\"nodes\":[" ++ s)
    (append_assoc (listed node_text nodes) (93 ∷ 125 ∷ []) (10 ∷ []))
