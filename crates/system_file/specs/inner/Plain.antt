-- What is known of a system file's text while its cores and parts are made of it in one walk.
use Rattle.std.specs.Prelude.{◌≡◌, ℕ, ◌≤◌, true, List, [], ◌∷◌, ◌++◌, length, map, codes, Some, None}
use Rattle.toml.specs.Data.{Data, table, Items, Members, get_member}
use Rattle.toml.specs.Tables.{array_table}
use Rattle.toml.specs.Parse.{parse_document}
use Rattle.toml_items.specs.Plain.{IsLine, ReadsTable, ReadsArray, BeginsWith}
use Rattle.tree_model.specs.declared.pinned_core.Core.{Core as CoreView}
use Rattle.tree_model.specs.View.{PartView}
use Rattle.system_file.specs.declared.format.Format.{Format}
use Rattle.system_file.specs.declared.fault.Spot.TheVariants.{Top}
use Rattle.system_file.specs.declared.fault.SystemFault.{SystemFault}
use Rattle.system_file.specs.Document.{elements_of, format_at, spelled_core, spelled_part}
use Rattle.system_file.specs.Faults.{required, format_faults, has_only, in_order, core_faults, part_faults}
use Rattle.system_file.specs.inner.Reading.{HaveNames, Known, AreNodes}

-- The text begins with the pairs of the top table, which tell this format and nothing else.
pub record BeginsWithFormat (text : List ℕ) (format : Format) (rest : List ℕ) : Type 0 where
  pub members : Members
  pub begins : BeginsWith text members rest
  pub only : has_only (codes "format" ∷ []) members ≡ true
  pub none : required Top format_faults (get_member (codes "format") members) ≡ []
  pub told : format ≡ format_at (get_member (codes "format") members)

-- The text begins with the first header of the array at this key of the top table. Its path and
-- its key there are these.
pub record BeginsArray (text : List ℕ) (path : List (List ℕ)) (here key rest : List ℕ)
    : Type 0 where
  pub top : path ≡ []
  pub same : here ≡ key
  pub line : IsLine text (([], key), array_table) rest

-- From behind a header of an array on, up to a later text, stands an element. At this place and
-- behind elements of these names it has no fault, it spells this, and its name comes to theirs.
pub record ReadsElement {A : Type 0} (at_element : List Data → Data → List SystemFault)
    (spells : Data → A) (path : List (List ℕ)) (text : List ℕ) (place : ℕ)
    (before : List (List ℕ)) (found : A) (names : List (List ℕ)) (rest : List ℕ) : Type 0 where
  pub members : Members
  pub reads : ReadsTable path text members rest
  pub ok : (earlier : List Data) → length earlier ≡ place → HaveNames earlier before →
      (at_element earlier (table members) ≡ []) × (found ≡ spells (table members))
      × HaveNames (earlier ++ table members ∷ []) names

-- From behind the first header of an array on, up to a later text, stand elements without a fault,
-- at least one and at most so many, which spell these and have these names.
pub record ReadsList {A : Type 0} (at_element : List Data → Data → List SystemFault)
    (spells : Data → A) (path : List (List ℕ)) (key text : List ℕ) (most : ℕ) (found : List A)
    (names : List (List ℕ)) (rest : List ℕ) : Type 0 where
  pub items : Items
  pub reads : ReadsArray path key text items rest
  pub none : in_order at_element [] (elements_of items) ≡ []
  pub spelled : found ≡ map spells (elements_of items)
  pub named : HaveNames (elements_of items) names
  pub some : 1 ≤ length found
  pub few : length found ≤ most

abbrev pub ReadsCores : List (List ℕ) → List ℕ → List ℕ → List CoreView → List (List ℕ) →
    List ℕ → Type 0
ReadsCores path key text cores names rest =
    ReadsList core_faults spelled_core path key text 64 cores names rest

-- From behind a header of `part` on, up to a later text, stands a part. Behind what is known of the
-- cores and the parts before it, it has no fault, it spells this, and its name comes to theirs.
pub record ReadsPart (path : List (List ℕ)) (text : List ℕ) (format : Format) (core_count : ℕ)
    (before : List (List ℕ)) (earlier : List PartView) (part : PartView)
    (names : List (List ℕ)) (rest : List ℕ) : Type 0 where
  pub members : Members
  pub reads : ReadsTable path text members rest
  pub ok : (cores before_it later : List Data) →
      Known cores before_it (table members ∷ later) core_count before earlier →
      (part_faults format cores before_it (table members) ≡ [])
      × (part ≡ spelled_part cores (before_it ++ table members ∷ later) (table members))
      × HaveNames (cores ++ (before_it ++ table members ∷ [])) names

-- The same of a part in front of its tasks, which does not name them.
pub record ReadsServer (path : List (List ℕ)) (text : List ℕ) (format : Format) (core_count : ℕ)
    (before : List (List ℕ)) (earlier : List PartView) (part : PartView)
    (names : List (List ℕ)) (rest : List ℕ) : Type 0 where
  pub whole : ReadsPart path text format core_count before earlier part names rest
  pub no_task : get_member (codes "task") whole.members ≡ None

-- From behind the first header of an array on, up to a later text, stand at most 512 elements
-- without a fault, which spell these parts behind any cores of these names.
pub record ReadsParts (path : List (List ℕ)) (key text : List ℕ) (format : Format)
    (core_count : ℕ) (names : List (List ℕ)) (parts : List PartView) (rest : List ℕ)
    : Type 0 where
  pub items : Items
  pub reads : ReadsArray path key text items rest
  pub few : length (elements_of items) ≤ 512
  pub none : (cores : List Data) → length cores ≡ core_count → HaveNames cores names →
      in_order (part_faults format cores) [] (elements_of items) ≡ []
  pub spelled : (cores : List Data) → length cores ≡ core_count → HaveNames cores names →
      parts ≡ map (spelled_part cores (elements_of items)) (elements_of items)

-- The text has a document, of which these are the cores and the parts.
pub record SpellsNodes (text : List ℕ) (cores : List CoreView) (parts : List PartView)
    : Type 0 where
  pub members : Members
  pub document : parse_document text ≡ Some members
  pub nodes : AreNodes (table members) cores parts
