-- What a reader of plain lines keeps to, in the words in which TOML reads a document.
use Rattle.std.specs.Prelude.{◌≡◌, ℕ, ◌<◌, ◌==◌, Bool, ◌&&◌, false, List, [], ◌∷◌, ◌++◌, codes, length, Option, Some, None, option_map}
use Rattle.std.specs.Borrow.{Bor}
use Rattle.std.specs.List.{list_all}
use Rattle.std.specs.Ordering.{nat_cmp, match_ordering}
use Rattle.std.specs.Cmp.Lexicographic.{slice_cmp}
use Rattle.toml_parser.specs.Lexical.{first, is_bare, skip_blank}
use Rattle.toml.specs.Data.{Data, table, Items, no_items, Members, no_members, member, push_item}
use Rattle.toml.specs.Tables.{Nodes, no_nodes, insert, open_array, close, Edit, along_header, array_table, Expression, Document}
use Rattle.toml.specs.Parse.{line, lines}

-- the members with one more, at its place in the order of the keys
abbrev pub insert_member : List ℕ → Data → Members → Members
insert_member k d no_members = member k d no_members
insert_member k d (member l e ms) =
    match_ordering (slice_cmp nat_cmp k l) (member k d (member l e ms)) (member l d ms)
    (member l e (insert_member k d ms))

-- the keys that lead to the table in which an array stands
abbrev pub path_of : Option (Bor (List ℕ)) → List (List ℕ)
path_of None = []
path_of (Some k) = k.now ∷ []

-- a key that stands without quotes, and the key of a header behind that of its table
abbrev pub is_bare_key : List ℕ → Bool
is_bare_key [] = false
is_bare_key key = list_all is_bare key

abbrev pub are_bare_keys : Option (Bor (List ℕ)) → List ℕ → Bool
are_bare_keys None key = is_bare_key key
are_bare_keys (Some parent) key = is_bare_key parent.now && is_bare_key key

abbrev pub dotted : Option (Bor (List ℕ)) → List ℕ → List ℕ
dotted None key = key
dotted (Some parent) key = parent.now ++ 46 ∷ key

-- the header of an element of an array at such keys
abbrev pub spelling : Option (Bor (List ℕ)) → List ℕ → List ℕ
spelling parent key = codes "[[" ++ (dotted parent key ++ codes "]]")

-- The text begins with this line, behind blank ones, and goes on with the rest.
pub record IsLine (text : List ℕ) (found : Expression) (rest : List ℕ) : Type 0 where
  pub is : line (skip_blank text) ≡ Some (found, rest)
  pub shorter : length rest < length (skip_blank text)

-- At the end of this path stands a table whose nodes can be any, in a root that they make.
abbrev pub IsPlace : List (List ℕ) → (Nodes → Nodes) → Type 0
IsPlace path root_of = (edit : Edit) (ns : Nodes) →
    along_header path edit (root_of ns) ≡ option_map root_of (edit ns)

-- The lines of a text do to a document what those of a later text do to another.
abbrev pub GoesOn : List ℕ → Document → List ℕ → Document → Type 0
GoesOn text doc rest next = (n : ℕ) → length text < n →
    (m : ℕ) × (length rest < m) × (lines n doc text ≡ lines m next rest)

-- From behind the header of a table on, up to a later text, the lines give it these members and
-- leave all else as it was.
abbrev pub ReadsTable : List (List ℕ) → List ℕ → Members → List ℕ → Type 0
ReadsTable path text members rest = (root_of : Nodes → Nodes) → IsPlace path root_of →
    (ns : Nodes) × (section : List (List ℕ)) × (close ns ≡ members)
    × GoesOn text (root_of no_nodes, path) rest (root_of ns, section)

-- From behind the first header of an array of tables on, up to a later text, the lines give it
-- these items and leave all else as it was.
abbrev pub ReadsArray : List (List ℕ) → List ℕ → List ℕ → Items → List ℕ → Type 0
ReadsArray path key text items rest = (root_of : Nodes → Nodes) → IsPlace path root_of →
    (ns : Nodes) → (done : Items) × (last : Nodes) × (section : List (List ℕ))
    × (push_item done (table (close last)) ≡ items)
    × GoesOn text (root_of (insert key (open_array no_items no_nodes) ns), path ++ key ∷ [])
    rest (root_of (insert key (open_array done last) ns), section)

-- From its front on, where no byte order mark stands, up to a later text, the lines of a text give
-- the top table these members.
pub record BeginsWith (text : List ℕ) (members : Members) (rest : List ℕ) : Type 0 where
  pub unmarked : (first text == 0xEF) ≡ false
  pub reads : ReadsTable [] text members rest

-- A text begins with the first header of an array in the top table, and goes on with the array's
-- items up to a later text.
pub record HasArray (text : List ℕ) (key : List ℕ) (items : Items) (rest : List ℕ) : Type 0 where
  pub behind : List ℕ
  pub header : IsLine text (([], key), array_table) behind
  pub reads : ReadsArray [] key behind items rest
