-- A document without faults spells a system.
use Rattle.std.proofs.Common.{◌≡◌, ℕ, ◌<◌, ◌≤◌, Bool, true, false, not, ◌&&◌, List, [], ◌∷◌, ◌++◌, map, length, take, get_or, Some, refl, sym, ap, subst, ◌∙◌, codes, arith, length-take-le}
use Rattle.std.proofs.lemmas.List.{map-append, get_or-map}
use Rattle.toml.specs.Data.{Data, boolean, get}
use Rattle.tree_model.specs.declared.pinned_core.Core.{Core as CoreView}
use Rattle.tree_model.specs.declared.place.Parent.{Parent}
use Rattle.tree_model.specs.declared.place.Parent.TheVariants.{Core as on_core, Part as on_part}
use Rattle.tree_model.specs.View.{PartView, SystemView}
use Rattle.tree_model.specs.System.{IsSystem, IsPart, IsCoreSupply, Stands, IsChildOf, AreDistinct, node_names, is_leaf}
use Rattle.tree_model.specs.Lists.{first_of, fault_if}
use Rattle.tree_model.proofs.Lists.{length_map, list_any_map, first_later, none_both, none_left, none_right}
use Rattle.system_file.specs.declared.format.Format.{Format}
use Rattle.system_file.specs.declared.fault.Spot.TheVariants.{Top, Part}
use Rattle.system_file.specs.declared.fault.SystemFault.{SystemFault}
use Rattle.system_file.specs.declared.fault.SystemFault.TheVariants.{Empty}
use Rattle.system_file.specs.Document.{format_of, text_of, is_text, cores_of, parts_of, tasks_of, parent_at, spelled_core, spelled_part, spelled_system}
use Rattle.system_file.specs.Faults.{required, optional, format_faults, core_array_faults, array_faults, top_faults, top_keys, in_order, core_faults, part_faults, empty_faults, has_tasks, is_parent, faults}
use Rattle.system_file.specs.inner.Reading.{AreNodes, is_on, has_child, is_empty_part, part_in, ParentsAmong}
use Rattle.system_file.proofs.Places.{leaf_tasks}
use Rattle.system_file.proofs.Found.{list_any_same, any_at, none_in_order, first_in_order}
use Rattle.system_file.proofs.Faultless.{table_inside, few_there, cores_there}
use Rattle.system_file.proofs.Rules.{each, distinct, core_supply, part_is}
use Rattle.system_file.proofs.Nodes.{part_none, all_new, parent_part, parent_core, on_part_is, link}

-- the names of spelled cores and parts
pub core_names : (ds : List Data)
    → map (λ (c : CoreView). c.name) (map spelled_core ds) ≡ map (λ d. text_of (get (codes "name") d)) ds
core_names [] = refl
core_names (d ∷ ds) = ap (λ ns. text_of (get (codes "name") d) ∷ ns) (core_names ds)

pub part_names : (cores all ds : List Data)
    → map (λ (p : PartView). p.name) (map (spelled_part cores all) ds) ≡ map (λ d. text_of (get (codes "name") d)) ds
part_names cores all [] = refl
part_names cores all (d ∷ ds) = ap (λ ns. text_of (get (codes "name") d) ∷ ns) (part_names cores all ds)

module _ (cores parts : List Data) where
  -- the parts as they are spelled
  abbrev pub spelled : List PartView
  spelled = map (spelled_part cores parts) parts

  abbrev pub sys : SystemView
  sys = record { cores = map spelled_core cores; parts = spelled }

  pub part_spelled : (q : ℕ) → q < length parts
      → part_in spelled q ≡ spelled_part cores parts (get_or parts q (boolean false))
  part_spelled q h = get_or-map (spelled_part cores parts) parts q (boolean false) _ h

  leaf_is : (q : ℕ) → q < length parts → is_leaf (part_in spelled q).tasks ≡ has_tasks (get_or parts q (boolean false))
  leaf_is q h =
      ap (λ (p : PartView). is_leaf p.tasks) (part_spelled q h) ∙ leaf_tasks (tasks_of (get_or parts q (boolean false)))

  module _ (format : Format) (no_core : in_order core_faults [] cores ≡ [])
      (no_part : in_order (part_faults format cores) [] parts ≡ []) where
    pub parents_among : ParentsAmong spelled
    parents_among = λ q r within is.
        let few : q < length parts = rw (length_map (spelled_part cores parts) parts) at within in
        let below
        = parent_part format cores parts no_core no_part q r few
        (sym (ap (λ (p : PartView). p.parent) (part_spelled q few)) ∙ is) in
        rw (length_map (spelled_part cores parts) parts) (omega (arith, below.0))

    child_is : (q : ℕ) → q < length parts → has_child spelled q ≡ is_parent parts (get_or parts q (boolean false))
    child_is q h =
        list_any_map (λ (p : PartView). is_on q p.parent) (spelled_part cores parts) parts
        ∙ list_any_same (λ d. is_on q (parent_at cores parts d))
        (λ d. is_text (text_of (get (codes "name") (get_or parts q (boolean false)))) (get (codes "parent") d))
        parts (boolean false)
        (λ r hr. link format cores parts no_core no_part q r h hr)

    empty_is : (q : ℕ) → q < length parts
        → is_empty_part spelled q (part_in spelled q)
        ≡ (not (has_tasks (get_or parts q (boolean false)))
        && not (is_parent parts (get_or parts q (boolean false))))
    empty_is q h =
        ap (λ b. not b && not (has_child spelled q)) (leaf_is q h)
        ∙ ap (λ b. not (has_tasks (get_or parts q (boolean false))) && not b) (child_is q h)

    -- no part is empty
    pub none_empty : ((q : ℕ) → q < length spelled → is_empty_part spelled q (part_in spelled q) ≡ false)
        → in_order (empty_faults parts) [] parts ≡ []
    none_empty none = none_in_order (empty_faults parts) [] parts (boolean false)
        (λ q h. ap (λ b. fault_if b (Empty (Part (length (take q parts)))))
        (sym (empty_is q h) ∙ none q (rw (length_map (spelled_part cores parts) parts) h)))

    -- the first part that is empty
    pub first_is_empty : (at : ℕ) → at < length spelled → is_empty_part spelled at (part_in spelled at) ≡ true
        → ((q : ℕ) → q < at → is_empty_part spelled q (part_in spelled q) ≡ false) →
        first_of (in_order (empty_faults parts) [] parts) ≡ Some (Empty (Part at))
    first_is_empty at within here before =
        let few : at < length parts = rw (length_map (spelled_part cores parts) parts) at within in
        let long : length (take at parts) ≡ at = length-take-le at parts (omega arith) in
        first_in_order (empty_faults parts) [] parts at (boolean false) (Empty (Part at)) few
        (λ q h. ap (λ b. fault_if b (Empty (Part (length (take q parts)))))
        (sym (empty_is q (omega arith)) ∙ before q h))
        (ap (λ b. first_of (fault_if b (Empty (Part (length (take at parts)))))) (sym (empty_is at few) ∙ here)
        ∙ ap (λ n. Some (Empty (Part n))) long)

    stands : (q : ℕ) → q < length parts → (p : Parent) → parent_at cores parts (get_or parts q (boolean false)) ≡ p
        → Stands sys q p
    stands q h (on_core c) is =
        rw (length_map spelled_core cores) (parent_core format cores parts no_core no_part q c h is)
    stands q h (on_part r) is =
        let below = parent_part format cores parts no_core no_part q r h is in
        (below.0, leaf_is r (omega (arith, below.0)) ∙ below.1)

    childless : (a b : Bool) (fault : SystemFault) → fault_if (not a && not b) fault ≡ [] → a ≡ false → b ≡ true
    childless true b fault h e = cc
    childless false true fault h e = refl
    childless false false fault h e = cc

    child_there : in_order (empty_faults parts) [] parts ≡ [] → (q : ℕ) → q < length parts
        → is_leaf (part_in spelled q).tasks ≡ false → (r : ℕ) × IsChildOf sys q r
    child_there no_empty q h leaf =
        let d = get_or parts q (boolean false) in
        let parent : is_parent parts d ≡ true
        = childless (has_tasks d) (is_parent parts d) _
        (each (empty_faults parts) [] parts q (boolean false) h no_empty) (sym (leaf_is q h) ∙ leaf) in
        let child
        = any_at (λ c. is_text (text_of (get (codes "name") d)) (get (codes "parent") c)) parts (boolean false)
        parent in
        let on : parent_at cores parts (get_or parts child.place (boolean false)) ≡ on_part q
        = on_part_is q _ (link format cores parts no_core no_part q child.place h child.within ∙ child.passes) in (
          child.place,
          (
            rw (length_map (spelled_part cores parts) parts) child.within,
            ap (λ (p : PartView). p.parent) (part_spelled child.place child.within) ∙ on,
          ),
        )

    names_distinct : AreDistinct (node_names sys)
    names_distinct = subst AreDistinct names (distinct (cores ++ parts) (all_new format cores parts no_core no_part))
      where
        names : map (λ d. text_of (get (codes "name") d)) (cores ++ parts) ≡ node_names sys
        names = map-append (λ (d : Data). text_of (get (codes "name") d)) cores parts
            ∙ ap (λ ns. ns ++ map (λ (d : Data). text_of (get (codes "name") d)) parts) (sym (core_names cores))
            ∙ ap (λ ns. map (λ (c : CoreView). c.name) (map spelled_core cores) ++ ns)
            (sym (part_names cores parts parts))

    pub is_system : (1 ≤ length cores) × (length cores ≤ 64) → length parts ≤ 512
        → in_order (empty_faults parts) [] parts ≡ [] → IsSystem sys
    is_system few_cores few_parts no_empty = record {
      some_core = rw (length_map spelled_core cores) few_cores.0;
      few_cores = rw (length_map spelled_core cores) few_cores.1;
      few_parts = rw (length_map (spelled_part cores parts) parts) few_parts;
      names = names_distinct;
      supplies = λ c within.
          let few : c < length cores = rw (length_map spelled_core cores) at within in
          let supply : CoreView → Type 0 = λ x. IsCoreSupply x.supply in
          subst supply (sym (get_or-map spelled_core cores c (boolean false) _ few))
          (core_supply (take c cores) (get_or cores c (boolean false))
          (each core_faults [] cores c (boolean false) few no_core));
      parts = λ q within.
          let few : q < length parts = rw (length_map (spelled_part cores parts) parts) at within in
          subst IsPart (sym (part_spelled q few)) (part_is format cores parts (take q parts)
          (get_or parts q (boolean false)) (part_none format cores parts no_core no_part q few));
      parents = λ q within.
          let few : q < length parts = rw (length_map (spelled_part cores parts) parts) at within in
          subst (λ (p : Parent). Stands sys q p) (sym (ap (λ (p : PartView). p.parent) (part_spelled q few)))
          (stands q few _ refl);
      not_empty =
          λ q within leaf. child_there no_empty q (rw (length_map (spelled_part cores parts) parts) at within) leaf;
    }

-- a top table without faults has 1 to 64 cores and at most 512 parts
arrays_few : (top : Data) → top_faults top ≡ []
    → ((1 ≤ length (cores_of top)) × (length (cores_of top) ≤ 64)) × (length (parts_of top) ≤ 512)
arrays_few top none =
    let keys
    = table_inside Top top_keys (required Top format_faults (get (codes "format") top)
    ++ (required Top core_array_faults (get (codes "core") top)
    ++ optional (array_faults Top 512) (get (codes "part") top))) top none in
    let arrays = none_right (required Top format_faults (get (codes "format") top)) _ keys in (
      (cores_there (get (codes "core") top) (none_left _ _ arrays)).1,
      few_there Top 512 (get (codes "part") top)
          (none_right (required Top core_array_faults (get (codes "core") top)) _ arrays),
    )

-- no fault, so what is spelled is a system
pub faultless_is_system : (top : Data) → faults top ≡ [] → IsSystem (spelled_system top)
faultless_is_system top h =
    let few = arrays_few top (none_left _ _ h) in
    let rest = none_right (top_faults top) _ h in
    let no_core : in_order core_faults [] (cores_of top) ≡ [] = none_left _ _ rest in
    let rest_2 = none_right (in_order core_faults [] (cores_of top)) _ rest in
    let no_part : in_order (part_faults (format_of top) (cores_of top)) [] (parts_of top) ≡ [] = none_left _ _ rest_2 in
    is_system (cores_of top) (parts_of top) (format_of top) no_core no_part few.0 few.1
    (none_right (in_order (part_faults (format_of top) (cores_of top)) [] (parts_of top)) _ rest_2)

-- What is known of the cores and the parts of a document once they are read.
module _ {top : Data} {cores : List CoreView} {parts : List PartView} (nodes : AreNodes top cores parts) where
  pub among : ParentsAmong parts
  among = rw nodes.parts_are (parents_among (cores_of top) (parts_of top) (format_of top) nodes.no_core nodes.no_part)

  pub few_parts : length parts ≤ 512
  few_parts =
      rw (nodes.parts_are, length_map (spelled_part (cores_of top) (parts_of top)) (parts_of top))
      (arrays_few top nodes.no_top).1

  -- the first part that is empty is the first fault, and where none is there is none
  pub fault_in_tree : (at : ℕ) → at < length parts → is_empty_part parts at (part_in parts at) ≡ true
      → ((q : ℕ) → q < at → is_empty_part parts q (part_in parts q) ≡ false)
      → first_of (faults top) ≡ Some (Empty (Part at))
  fault_in_tree at within here before =
      first_later (top_faults top) _ _ nodes.no_top (first_later _ _ _ nodes.no_core (first_later _ _ _ nodes.no_part
      (first_is_empty (cores_of top) (parts_of top) (format_of top) nodes.no_core nodes.no_part at
      (rw nodes.parts_are at within) (rw nodes.parts_are at here) (rw nodes.parts_are at before))))

  pub no_fault : ((q : ℕ) → q < length parts → is_empty_part parts q (part_in parts q) ≡ false) → faults top ≡ []
  no_fault none =
      none_both (top_faults top) _ nodes.no_top (none_both _ _ nodes.no_core (none_both _ _ nodes.no_part
      (none_empty (cores_of top) (parts_of top) (format_of top) nodes.no_core nodes.no_part
      (rw nodes.parts_are at none))))

  pub is_whole : ((q : ℕ) → q < length parts → is_empty_part parts q (part_in parts q) ≡ false)
      → IsSystem (spelled_system top)
  is_whole none = faultless_is_system top (no_fault none)
