-- The text of a certificate is read back as the certificate.
use Rattle.std.proofs.Common.{◌≡◌, ℕ, suc, ◌^◌, ◌<◌, ◌≤◌, Bool, true, false, codes, subst, append_assoc, List, [], ◌∷◌, ◌++◌, length, get_or, Option, Some, None, Ok, option_map, option_and_then, decimal, refl, sym, ap, ◌∙◌, arith, append-nil, IsUtf8}
use Rattle.std.proofs.lemmas.Str.{IsUtf8-append, IsUtf8-from_ascii}
use Rattle.std.proofs.lemmas.Fmt.{IsAscii-decimal_wide}
use Rattle.json.specs.Json as json
use Rattle.json.specs.Lex.{tokens}
use Rattle.json.specs.Print.{escape_byte, quoted}
use Rattle.json.specs.Tree as tree
use Rattle.json.proofs.Printed.Decimals.{IsNumber-decimal}
use Rattle.json.proofs.Printed.Trees.{value-json_tokens, ArePrintable-json_tokens}
use Rattle.json.proofs.Printed.Utf8.{are_ascii, IsUtf8-are_ascii, IsUtf8-quoted}
use Rattle.serde_json.specs.Data.{Data, Items, Members, no_members, member, boolean, number, string, array, object}
use Rattle.serde_json.specs.Read.{read, of_json, of_items, max_depth}
use Rattle.serde_json.specs.Written.{outline, items_outline, comma_if, compact_text, items_text, members_text}
use Rattle.serde_json.proofs.Numbers.{number_of-decimal}
use Rattle.serde_json.proofs.Texts.{print-outline}
use Rattle.tree_model.specs.declared.place.Place.{Place}
use Rattle.tree_model.specs.declared.place.Place.TheVariants.{Core, Part}
use Rattle.tree_model.specs.CertificateView.{NodeView}
use Rattle.cert_reader.specs.Printed.{items_from, number_value, written_value, witness_value, kind_text, place_number, node_value, certificate_value, certificate_text, IsBelow, IsInRange}
use Rattle.cert_verify.specs.Proves.{no_node, node_at}
use Rattle.cert_reader.specs.CertificateFile.{certificate_of}
use Rattle.cert_reader.proofs.Newline.{tokens_newline}
use Rattle.cert_reader.proofs.ReadBack.{reads_back}
use Rattle.cert_reader.proofs.Texts.{value_text}

-- JSON that has only numbers, and reads as this data
record Back (d : Data) (deep : ℕ) : Type 0 where
  numbers : tree.HasNumbers (outline d)
  reads : of_json (outline d) ≡ Some d
  depth : tree.depth (outline d) ≤ deep
  utf8 : IsUtf8 (compact_text d)

record ItemsBack (ds : Items) (deep : ℕ) : Type 0 where
  numbers : tree.ItemsHaveNumbers (items_outline ds)
  reads : of_items (items_outline ds) ≡ Some ds
  depth : tree.items_depth (items_outline ds) ≤ deep
  utf8 : (later : Bool) → IsUtf8 (items_text later ds)

decimal_utf8 : (n : ℕ) → n < 2 ^ 128 → IsUtf8 (decimal n)
decimal_utf8 n l = IsUtf8-from_ascii (decimal n) (IsAscii-decimal_wide n (omega arith))

comma_utf8 : (later : Bool) → IsUtf8 (comma_if later)
comma_utf8 true = IsUtf8-are_ascii (44 ∷ []) refl
comma_utf8 false = IsUtf8-are_ascii [] refl

number_back : (n : ℕ) → n < 2 ^ 64 → Back (number_value n) 0
number_back n l =
    record {
      numbers = IsNumber-decimal n l;
      reads = ap (option_map number) (number_of-decimal n l);
      depth = omega arith;
      utf8 = decimal_utf8 n (omega (arith, l));
    }

each_back : {A : Type 0} (value : A → Data) (deep : ℕ) (xs : List A) (d : A)
    → ((k : ℕ) → k < length xs → Back (value (get_or xs k d)) deep) → ItemsBack (items_from value xs) deep
each_back value deep [] d backs =
    record { numbers = tt; reads = refl; depth = omega arith; utf8 = λ later. IsUtf8-are_ascii (93 ∷ []) refl }
each_back value deep (x ∷ xs) d backs =
    let first : Back (value x) deep = backs 0 (omega arith) in
    let rest : ItemsBack (items_from value xs) deep = each_back value deep xs d (λ k l. backs (suc k) (omega arith)) in
    record {
      numbers = (first.numbers, rest.numbers);
      reads = rw (first.reads, rest.reads);
      depth = omega (arith, first.depth, rest.depth);
      utf8 = λ later. IsUtf8-append _ _ (comma_utf8 later) (IsUtf8-append _ _ first.utf8 (rest.utf8 true));
    }

array_back : (ds : Items) (deep : ℕ) → ItemsBack ds deep → Back (array ds) (suc deep)
array_back ds deep b =
    record {
      numbers = b.numbers;
      reads = ap (option_map array) b.reads;
      depth = omega (arith, b.depth);
      utf8 = IsUtf8-append (91 ∷ []) _ (IsUtf8-are_ascii (91 ∷ []) refl) (b.utf8 false);
    }

text_back : (s : List ℕ) → IsUtf8 s → Back (string s) 0
text_back s text = record { numbers = tt; reads = refl; depth = omega arith; utf8 = IsUtf8-quoted s text }

witness_back : (o : Option ℕ) → IsBelow (2 ^ 128) o → Back (witness_value o) 0
witness_back None l = record { numbers = tt; reads = refl; depth = omega arith; utf8 = IsUtf8-are_ascii _ refl }
witness_back (Some n) l = text_back (decimal n) (decimal_utf8 n l)

numbers_back : (ns : List ℕ) → ((k : ℕ) → k < length ns → get_or ns k 0 < 2 ^ 64)
    → Back (array (items_from number_value ns)) 1
numbers_back ns r =
    array_back (items_from number_value ns) 0
    (each_back number_value 0 ns 0 (λ k l. number_back (get_or ns k 0) (r k l)))

texts_back : (ns : List ℕ) → ((k : ℕ) → k < length ns → get_or ns k 0 < 2 ^ 128)
    → Back (array (items_from written_value ns)) 1
texts_back ns r =
    array_back (items_from written_value ns) 0
    (each_back written_value 0 ns 0 (λ k l. text_back (decimal (get_or ns k 0)) (decimal_utf8 (get_or ns k 0) (r k l))))

-- an object, a key at a time
member_utf8 : (later : Bool) (k : List ℕ) (d : Data) (ms : Members) → IsUtf8 (quoted k ++ 58 ∷ [])
    → IsUtf8 (compact_text d) → IsUtf8 (members_text true ms) → IsUtf8 (members_text later (member k d ms))
member_utf8 later k d ms key value rest =
    IsUtf8-append _ _ (comma_utf8 later)
    (subst IsUtf8 (append_assoc (quoted k) (58 ∷ []) (compact_text d ++ members_text true ms))
    (IsUtf8-append _ _ key (IsUtf8-append _ _ value rest)))

kind_utf8 : (p : Place) → IsUtf8 (compact_text (string (kind_text p)))
unfolding escape_byte
kind_utf8 (Part q) = IsUtf8-are_ascii _ refl
kind_utf8 (Core c) = IsUtf8-are_ascii _ refl

flag_utf8 : (b : Bool) → IsUtf8 (compact_text (boolean b))
flag_utf8 true = IsUtf8-are_ascii _ refl
flag_utf8 false = IsUtf8-are_ascii _ refl

-- the keys
key : (k : List ℕ) → are_ascii (quoted k ++ 58 ∷ []) ≡ true → IsUtf8 (quoted k ++ 58 ∷ [])
key k e = IsUtf8-are_ascii (quoted k ++ 58 ∷ []) e

node_utf8 : (node : NodeView) → IsUtf8 (compact_text (number_value node.budget))
    → IsUtf8 (compact_text (array (items_from number_value node.falls)))
    → IsUtf8 (compact_text (array (items_from number_value node.hits)))
    → IsUtf8 (compact_text (number_value node.period)) → IsUtf8 (compact_text (number_value (place_number node.place)))
    → IsUtf8 (compact_text (array (items_from written_value node.points)))
    → IsUtf8 (compact_text (witness_value node.witness))
    → IsUtf8 (compact_text (node_value node))
unfolding escape_byte
node_utf8 node budget falls hits period place points witness =
    let m8 : Members = member (codes "witness") (witness_value node.witness) no_members in
    let u8 : IsUtf8 (members_text true m8)
    = member_utf8 true (codes "witness") (witness_value node.witness) no_members (key (codes "witness") refl)
    witness (IsUtf8-are_ascii (125 ∷ []) refl) in
    let m7 : Members = member (codes "points") (array (items_from written_value node.points)) m8 in
    let u7 : IsUtf8 (members_text true m7)
    = member_utf8 true (codes "points") (array (items_from written_value node.points)) m8
    (key (codes "points") refl) points u8 in
    let m6 : Members = member (codes "place") (number_value (place_number node.place)) m7 in
    let u6 : IsUtf8 (members_text true m6)
    = member_utf8 true (codes "place") (number_value (place_number node.place)) m7 (key (codes "place") refl) place
    u7 in
    let m5 : Members = member (codes "period") (number_value node.period) m6 in
    let u5 : IsUtf8 (members_text true m5)
    = member_utf8 true (codes "period") (number_value node.period) m6 (key (codes "period") refl) period u6 in
    let m4 : Members = member (codes "kind") (string (kind_text node.place)) m5 in
    let u4 : IsUtf8 (members_text true m4)
    = member_utf8 true (codes "kind") (string (kind_text node.place)) m5 (key (codes "kind") refl)
    (kind_utf8 node.place) u5 in
    let m3 : Members = member (codes "hits") (array (items_from number_value node.hits)) m4 in
    let u3 : IsUtf8 (members_text true m3)
    = member_utf8 true (codes "hits") (array (items_from number_value node.hits)) m4 (key (codes "hits") refl) hits
    u4 in
    let m2 : Members = member (codes "falls") (array (items_from number_value node.falls)) m3 in
    let u2 : IsUtf8 (members_text true m2)
    = member_utf8 true (codes "falls") (array (items_from number_value node.falls)) m3 (key (codes "falls") refl)
    falls u3 in
    let m1 : Members = member (codes "computed") (boolean node.computed) m2 in
    let u1 : IsUtf8 (members_text true m1)
    = member_utf8 true (codes "computed") (boolean node.computed) m2 (key (codes "computed") refl)
    (flag_utf8 node.computed) u2 in
    IsUtf8-append (123 ∷ []) (members_text false (member (codes "budget") (number_value node.budget) m1))
    (IsUtf8-are_ascii (123 ∷ []) refl)
    (member_utf8 false (codes "budget") (number_value node.budget) m1 (key (codes "budget") refl) budget u1)

nodes_utf8 : (ds : Items) → IsUtf8 (compact_text (number_value 1)) → IsUtf8 (compact_text (array ds))
    → IsUtf8 (compact_text
    (object (member (codes "format") (number_value 1) (member (codes "nodes") (array ds) no_members))))
unfolding escape_byte
nodes_utf8 ds one list =
    let m1 : Members = member (codes "nodes") (array ds) no_members in
    let u1 : IsUtf8 (members_text true m1)
    = member_utf8 true (codes "nodes") (array ds) no_members (key (codes "nodes") refl) list
    (IsUtf8-are_ascii (125 ∷ []) refl) in
    IsUtf8-append (123 ∷ []) (members_text false (member (codes "format") (number_value 1) m1))
    (IsUtf8-are_ascii (123 ∷ []) refl)
    (member_utf8 false (codes "format") (number_value 1) m1 (key (codes "format") refl) one u1)

node_back : (node : NodeView) → IsInRange node → Back (node_value node) 2
node_back node r =
    let budget = number_back node.budget r.budget in
    let falls = numbers_back node.falls r.falls in
    let hits = numbers_back node.hits r.hits in
    let period = number_back node.period r.period in
    let place = number_back (place_number node.place) (omega (arith, r.place)) in
    let points = texts_back node.points r.points in
    let witness = witness_back node.witness r.witness in
    record {
      numbers = (
        budget.numbers,
        (
          tt,
          (
            falls.numbers,
            (hits.numbers, (tt, (period.numbers, (place.numbers, (points.numbers, (witness.numbers, tt)))))),
          ),
        ),
      );
      reads = rw (budget.reads, falls.reads, hits.reads, period.reads, place.reads, points.reads, witness.reads);
      depth =
          omega (arith, budget.depth, falls.depth, hits.depth, period.depth, place.depth, points.depth, witness.depth);
      utf8 = node_utf8 node budget.utf8 falls.utf8 hits.utf8 period.utf8 place.utf8 points.utf8 witness.utf8;
    }

nodes_back : (nodes : List NodeView) → ((k : ℕ) → k < length nodes → IsInRange (node_at nodes k))
    → Back (certificate_value nodes) 4
nodes_back nodes r =
    let list : Back (array (items_from node_value nodes)) 3
    = array_back (items_from node_value nodes) 2
    (each_back node_value 2 nodes no_node (λ k l. node_back (node_at nodes k) (r k l))) in
    let format : Back (number_value 1) 0 = number_back 1 (omega arith) in
    record {
      numbers = (format.numbers, (list.numbers, tt));
      reads = rw (format.reads, list.reads);
      depth = omega (arith, format.depth, list.depth);
      utf8 = nodes_utf8 (items_from node_value nodes) format.utf8 list.utf8;
    }

text_reads : (d : Data) (deep : ℕ) → Back d deep → deep ≤ max_depth → read (compact_text d ++ 10 ∷ []) ≡ Some d
text_reads d deep b l =
    let same : tokens (compact_text d ++ 10 ∷ []) ≡ tree.json_tokens (outline d) =
    ap (λ (s : List ℕ). tokens (s ++ 10 ∷ [])) (sym (print-outline d))
    ∙ tokens_newline (tree.json_tokens (outline d)) (ArePrintable-json_tokens (outline d) b.numbers) in
    ap (λ ts. option_and_then of_json (option_and_then (λ p. json.if_last p.0 p.1) (json.value max_depth ts)))
    (same ∙ sym (append-nil (tree.json_tokens (outline d))))
    ∙ (ap (λ o. option_and_then of_json (option_and_then (λ p. json.if_last p.0 p.1) o))
    (value-json_tokens (outline d) max_depth [] (omega (arith, b.depth, l))) ∙ b.reads)

pub text_spells : (nodes : List NodeView) → ((k : ℕ) → k < length nodes → IsInRange (node_at nodes k))
    → length nodes ≤ 576 → certificate_of (certificate_text nodes) ≡ Ok nodes
unfolding certificate_text
text_spells nodes r few =
    let b : Back (certificate_value nodes) 4 = nodes_back nodes r in
    let text : List ℕ = compact_text (certificate_value nodes) ++ 10 ∷ [] in
    let utf8 : IsUtf8 text = IsUtf8-append _ _ b.utf8 (IsUtf8-are_ascii (10 ∷ []) refl) in
    reads_back text nodes
    (value_text text (certificate_value nodes) utf8 (text_reads (certificate_value nodes) 4 b (omega arith))) r few
