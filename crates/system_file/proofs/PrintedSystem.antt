-- The document that is printed for a system is written by the rules, and spells the system. So it
-- has no fault.
use Rattle.std.proofs.Common.{◌≡◌, ℕ, ◌<◌, Bool, true, false, List, [], map, length, pos, Some, codes, refl, sym, ap, ◌∙◌, arith, subst, if◌then◌else◌}
use Rattle.std.specs.Prelude.{is_none}
use Rattle.std.specs.List.{list_any}
use Rattle.toml.specs.Data.{Data, Members, array, table, get}
use Rattle.toml.specs.View.{items_of}
use Rattle.tree_model.specs.declared.place.Parent.{Parent}
use Rattle.tree_model.specs.declared.place.Parent.TheVariants.{Core as on_core, Part as on_part}
use Rattle.tree_model.specs.View.{PartView, SystemView}
use Rattle.tree_model.specs.System.{IsSystem, core_at, part_at, core_names, part_names, Stands, no_core, no_part}
use Rattle.tree_model.proofs.Distinct.{distinct_front, distinct_back}
use Rattle.system_file.specs.declared.format.Format.{Format}
use Rattle.system_file.specs.declared.format.Format.TheVariants.{One, Two}
use Rattle.system_file.specs.Document.{format_numbered, format_at, format_of, array_of, parent_named, spelled_core, spelled_part, spelled_system, cores_of, parts_of}
use Rattle.system_file.specs.Faults.{faults, top_keys}
use Rattle.system_file.specs.Written.{IsArray, There, MayBe, element, IsWrittenCore, IsWrittenPart, IsWritten}
use Rattle.system_file.specs.Printed.{number, format_number, some_array, printed_core, printed_part, printed, parent_name, top_members}
use Rattle.system_file.specs.inner.Named.{CoresAreNamed, PartsAreNamed}
use Rattle.system_file.specs.SystemFile.{part_has_jitter, needed_format}
use Rattle.system_file.proofs.Elements.{elements_back}
use Rattle.system_file.proofs.Rules.{none_at}
use Rattle.system_file.proofs.Laws.{written_is_faultless}
use Rattle.system_file.proofs.PrintedMembers.{other_key, own_key, listed_key}
use Rattle.system_file.proofs.PrintedNames.{place_found, place_missed}
use Rattle.system_file.proofs.PrintedWalk.{all_spelled, each_printed}
use Rattle.system_file.proofs.PrintedShape.{base_members}
use Rattle.system_file.proofs.PrintedCore.{core_name, core_spelled, core_written}
use Rattle.system_file.proofs.PrintedPart.{PartTells, array_back, array_written, part_name, part_spelled, part_written}

-- the top table
format_listed : (format : Format) → is_none (format_numbered (pos (format_number format))) ≡ false
format_listed One = refl
format_listed Two = refl

format_back : (format : Format) → format_at (Some (number (format_number format))) ≡ format
format_back One = refl
format_back Two = refl

module _ (format : Format) (cores parts : List Data) where
  abbrev top : Data
  top = table (top_members format cores parts)

  abbrev base : Members
  base = base_members format cores

  at_format : get (codes "format") top ≡ Some (number (format_number format))
  at_format = other_key (codes "format") (codes "part") (some_array parts) base refl

  at_core : get (codes "core") top ≡ Some (array (items_of cores))
  at_core = other_key (codes "core") (codes "part") (some_array parts) base refl

  at_part : get (codes "part") top ≡ some_array parts
  at_part = own_key (codes "part") (some_array parts) base refl

  pub top_format : format_of top ≡ format
  top_format = ap format_at at_format ∙ format_back format

  pub top_cores : cores_of top ≡ cores
  top_cores = ap array_of at_core ∙ elements_back cores

  pub top_parts : parts_of top ≡ parts
  top_parts = ap array_of at_part ∙ array_back parts

  pub top_written : ((c : ℕ) → c < length cores → IsWrittenCore (element cores c))
      → ((q : ℕ) → q < length parts → IsWrittenPart format cores parts (element parts q)) → IsWritten top
  top_written each_core each_part = record {
    keys = record {
      members = top_members format cores parts;
      is = refl;
      only = listed_key top_keys (codes "part") (some_array parts) base refl refl;
    };
    format = record { number = pos (format_number format); is = at_format; listed = format_listed format };
    core = subst (There IsArray) (sym at_core) (items_of cores, refl);
    part = subst (MayBe IsArray) (sym at_part) (array_written parts);
    cores = rw top_cores each_core;
    parts = rw (top_format, top_cores, top_parts) each_part;
  }

-- the jitter of its tasks can be told
part_tells : (sys : SystemView) (some : Bool) → list_any part_has_jitter sys.parts ≡ some → (q : ℕ)
    → q < length sys.parts → PartTells (if some then Two else One) (part_at sys q)
part_tells sys true is q h = tt
part_tells sys false is q h = none_at part_has_jitter sys.parts q no_part h is

module _ (sys : SystemView) (is : IsSystem sys) where
  abbrev core_tables : List Data
  core_tables = map printed_core sys.cores

  abbrev part_tables : List Data
  part_tables = map (printed_part sys) sys.parts

  -- a parent is found by its name
  parent_found : (q : ℕ) → q < length sys.parts → (parent : Parent) → Stands sys q parent
      → parent_named core_tables part_tables (parent_name sys parent) ≡ Some parent
  parent_found q h (on_core c) stands =
      rw (place_found printed_core (λ k. k.name) core_name sys.cores no_core
      (distinct_front (core_names sys.cores) (part_names sys.parts) is.names) c stands)
  parent_found q h (on_part r) stands =
      let before : r < q = stands.0 in
      let few : r < length sys.parts = omega arith in
      rw (
        place_missed printed_core (λ k. k.name) core_name sys.cores (λ (p : PartView). p.name) sys.parts no_part
            is.names r few,
        place_found (printed_part sys) (λ p. p.name) (part_name sys) sys.parts no_part
            (distinct_back (core_names sys.cores) (part_names sys.parts) is.names) r few,
      )

  parent_there : (q : ℕ) → q < length sys.parts
      → parent_named core_tables part_tables (parent_name sys (part_at sys q).parent) ≡ Some (part_at sys q).parent
  parent_there q h = parent_found q h (part_at sys q).parent (is.parents q h)

  pub printed_spelled : spelled_system (table (printed sys)) ≡ sys
  printed_spelled =
      rw (
        top_cores (needed_format sys) core_tables part_tables,
        top_parts (needed_format sys) core_tables part_tables,
        all_spelled spelled_core printed_core sys.cores no_core (λ c h. core_spelled (core_at sys c)),
        all_spelled (spelled_part core_tables part_tables) (printed_part sys) sys.parts no_part
            (λ q h. part_spelled sys core_tables part_tables (part_at sys q) (parent_there q h)),
      )

  pub printed_faultless : CoresAreNamed sys.cores → PartsAreNamed sys.parts → faults (table (printed sys)) ≡ []
  printed_faultless cores parts =
      written_is_faultless (table (printed sys))
      (top_written (needed_format sys) core_tables part_tables
      (each_printed IsWrittenCore printed_core sys.cores no_core
      (λ c h. core_written (core_at sys c) (cores c no_core h)))
      (each_printed (IsWrittenPart (needed_format sys) core_tables part_tables) (printed_part sys) sys.parts no_part
      (λ q h. part_written sys (part_at sys q) (needed_format sys) core_tables part_tables
      (part_tells sys (list_any part_has_jitter sys.parts) refl q h) (parts q no_part h) (parent_there q h))))
      (subst IsSystem (sym printed_spelled) is)

pub printed_format : (sys : SystemView) → format_of (table (printed sys)) ≡ needed_format sys
printed_format sys = top_format (needed_format sys) (map printed_core sys.cores) (map (printed_part sys) sys.parts)
