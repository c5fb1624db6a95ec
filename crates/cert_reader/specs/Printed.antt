-- The JSON value that a certificate is written as.
use Rattle.std.specs.Prelude.{◌≡◌, ℕ, ◌^◌, ◌<◌, ◌≤◌, List, [], ◌∷◌, ◌++◌, length, slice_index, codes, decimal, Option, Some, None, Ok}
use Rattle.serde_json.specs.Data.{Data, null, boolean, number, unsigned, string, array, object, Items, no_items, item, no_members, member}
use Rattle.serde_json.specs.Written.{compact_text}
use Rattle.tree_model.specs.declared.place.Place.{Place}
use Rattle.tree_model.specs.declared.place.Place.TheVariants.{Core, Part}
use Rattle.tree_model.specs.CertificateView.{NodeView}
use Rattle.cert_verify.specs.Proves.{node_at}
use Rattle.cert_reader.specs.CertificateFile.{certificate_of}

-- an array of the values of a list's elements
abbrev pub items_from : {A : Type 0} → (A → Data) → List A → Items
items_from value [] = no_items
items_from value (x ∷ xs) = item (value x) (items_from value xs)

-- a number, and a number as a text
abbrev pub number_value : ℕ → Data
number_value n = number (unsigned n)

abbrev pub written_value : ℕ → Data
written_value n = string (decimal n)

abbrev pub witness_value : Option ℕ → Data
witness_value None = null
witness_value (Some n) = written_value n

abbrev pub kind_text : Place → List ℕ
kind_text (Part q) = codes "part"
kind_text (Core c) = codes "core"

abbrev pub place_number : Place → ℕ
place_number (Part q) = q
place_number (Core c) = c

abbrev pub node_value : NodeView → Data
node_value node =
    object (member (codes "budget") (number_value node.budget)
    (member (codes "computed") (boolean node.computed)
    (member (codes "falls") (array (items_from number_value node.falls))
    (member (codes "hits") (array (items_from number_value node.hits))
    (member (codes "kind") (string (kind_text node.place))
    (member (codes "period") (number_value node.period)
    (member (codes "place") (number_value (place_number node.place))
    (member (codes "points") (array (items_from written_value node.points))
    (member (codes "witness") (witness_value node.witness) no_members)))))))))

abbrev pub certificate_value : List NodeView → Data
certificate_value nodes =
    object
    (member (codes "format") (number_value 1)
    (member (codes "nodes") (array (items_from node_value nodes)) no_members))

-- its text: JSON without spaces, and a newline
unfoldable pub certificate_text : List NodeView → List ℕ
certificate_text nodes = compact_text (certificate_value nodes) ++ 10 ∷ []

-- each number of a list is below a limit
abbrev pub AreBelow : ℕ → List ℕ → Type 0
AreBelow limit xs = (k : ℕ) → k < length xs → slice_index xs k < limit

abbrev pub IsBelow : ℕ → Option ℕ → Type 0
IsBelow limit None = Unit {0}
IsBelow limit (Some n) = n < limit

-- the numbers of a node are in the range of their types
pub record IsInRange (node : NodeView) : Type 0 where
  pub place : place_number node.place < 2 ^ 32
  pub period : node.period < 2 ^ 64
  pub budget : node.budget < 2 ^ 64
  pub points : AreBelow (2 ^ 128) node.points
  pub hits : AreBelow (2 ^ 64) node.hits
  pub witness : IsBelow (2 ^ 128) node.witness
  pub falls : AreBelow (2 ^ 64) node.falls

abbrev pub AreInRange : List NodeView → Type 0
AreInRange nodes = (k : ℕ) → k < length nodes → IsInRange (node_at nodes k)

-- the text of a certificate of at most 576 nodes is read as the certificate
abbrev pub TextSpells : List NodeView → Type 0
TextSpells nodes =
    AreInRange nodes → length nodes ≤ 576 → certificate_of (certificate_text nodes) ≡ Ok nodes
