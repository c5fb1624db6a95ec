-- Words for the steps of a reader.
use Rattle.std.specs.Prelude.{◌≡◌, ℕ, ◌<◌, ◌==◌, Bool, false, not, ◌&&◌, List, [], ◌++◌, map, length, slice_index_or, codes, Some}
use Rattle.std.specs.List.{list_any}
use Rattle.toml.specs.Data.{Data, string, get}
use Rattle.tree_model.specs.declared.place.Parent.{Parent}
use Rattle.tree_model.specs.declared.place.Parent.TheVariants.{Core, Part}
use Rattle.tree_model.specs.declared.pinned_core.Core.{Core as CoreView}
use Rattle.tree_model.specs.View.{PartView}
use Rattle.tree_model.specs.System.{is_leaf, no_part}
use Rattle.system_file.specs.Document.{cores_of, format_of, parts_of, spelled_core, spelled_part}
use Rattle.system_file.specs.declared.fault.Spot.{Spot}
use Rattle.system_file.specs.declared.fault.SystemFault.{SystemFault}
use Rattle.system_file.specs.Faults.{core_faults, in_order, parent_faults, part_faults, required, sched_faults, server_faults, text_faults, top_faults}

-- these elements have these names, one each
abbrev pub HaveNames : List Data → List (List ℕ) → Type 0
HaveNames elements names =
    map (λ d. get (codes "name") d) elements ≡ map (λ name. Some (string name)) names

-- What a reader of parts knows: how many cores there are, the names of the cores and of the parts
-- so far, and those parts as they are spelled in the whole list of parts.
pub record Known (cores earlier later : List Data) (core_count : ℕ) (names : List (List ℕ))
    (parts : List PartView) : Type 0 where
  pub counted : length cores ≡ core_count
  pub named : HaveNames (cores ++ earlier) names
  pub spelled : parts ≡ map (spelled_part cores (earlier ++ later)) earlier

-- the faults of the keys of a part behind its name
abbrev pub placed_faults : Spot → List Data → List Data → Data → List SystemFault
placed_faults spot cores earlier d =
    required spot (text_faults spot (parent_faults spot cores earlier)) (get (codes "parent") d) ++
    (required spot (text_faults spot (sched_faults spot)) (get (codes "sched") d) ++
    server_faults spot d)

-- part q is the parent of one of these parts
abbrev pub is_on : ℕ → Parent → Bool
is_on q (Core c) = false
is_on q (Part r) = r == q

abbrev pub has_child : List PartView → ℕ → Bool
has_child parts q = list_any (λ (p : PartView). is_on q p.parent) parts

-- part q has neither tasks nor children
abbrev pub is_empty_part : List PartView → ℕ → PartView → Bool
is_empty_part parts q part = not (is_leaf part.tasks) && not (has_child parts q)

-- the part at a place
abbrev pub part_in : List PartView → ℕ → PartView
part_in parts q = slice_index_or parts q no_part

-- a part that is a parent is one of them
abbrev pub ParentsAmong : List PartView → Type 0
ParentsAmong parts = (q r : ℕ) → q < length parts → (part_in parts q).parent ≡ Part r →
    r < length parts

-- What is known once the cores and the parts of a document are read: no fault stands in its top
-- table, in a core or in a part, and they are the cores and the parts that it spells.
pub record AreNodes (document : Data) (cores : List CoreView) (parts : List PartView) : Type 0 where
  pub no_top : top_faults document ≡ []
  pub no_core : in_order core_faults [] (cores_of document) ≡ []
  pub no_part
      : in_order (part_faults (format_of document) (cores_of document)) [] (parts_of document) ≡ []
  pub cores_are : cores ≡ map spelled_core (cores_of document)
  pub parts_are
      : parts ≡ map (spelled_part (cores_of document) (parts_of document)) (parts_of document)
