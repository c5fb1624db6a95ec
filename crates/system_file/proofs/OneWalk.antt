-- A format, cores and then parts that are read to the end of a text are those of its document.
use Rattle.std.proofs.Common.{◌≡◌, ℕ, Bool, true, false, ◌||◌, List, [], ◌∷◌, ◌++◌, length, Some, None, refl, sym, ap, subst, ◌∙◌, codes}
use Rattle.std.proofs.lemmas.Bool.{and_parts}
use Rattle.std.proofs.lemmas.Slice.Eq.{bytes_eq-Decides}
use Rattle.toml_parser.specs.Lexical.{skip_blank}
use Rattle.toml.specs.Data.{Data, array, table, Items, Members, no_members, member, get, get_member}
use Rattle.toml_items.specs.Plain.{insert_member, ReadsArray, HasArray}
use Rattle.toml_items.proofs.Going.{begins_with_more, begun_to_the_end}
use Rattle.toml_items.proofs.Members.{get_member-insert, get_member-insert_other}
use Rattle.tree_model.specs.declared.pinned_core.Core.{Core as CoreView}
use Rattle.tree_model.specs.View.{PartView}
use Rattle.tree_model.proofs.Lists.{length_map, none_both}
use Rattle.system_file.specs.declared.format.Format.{Format}
use Rattle.system_file.specs.declared.fault.Spot.TheVariants.{Top}
use Rattle.system_file.specs.Document.{elements_of, format_at, spelled_core}
use Rattle.system_file.specs.Faults.{required, optional, format_faults, core_array_faults, array_faults, has_only, top_keys}
use Rattle.system_file.specs.inner.Reading.{AreNodes}
use Rattle.system_file.specs.inner.Plain.{BeginsWithFormat, BeginsArray, ReadsCores, ReadsParts, SpellsNodes}
use Rattle.system_file.proofs.Fits.{keys_fit, array_fits}
use Rattle.system_file.proofs.Laws.{cores_fit}
use Rattle.system_file.proofs.ListedKeys.{put_listed}

-- a table with no key but `format`
record HasFormat (ms : Members) : Type 0 where
  no_core : get_member (codes "core") ms ≡ None
  no_part : get_member (codes "part") ms ≡ None
  listed : has_only top_keys ms ≡ true

with_format : (l : List ℕ) (d : Data) (ms : Members) → l ≡ codes "format" → HasFormat ms
    → HasFormat (member l d ms)
with_format l d ms is has =
    subst (λ (k : List ℕ). HasFormat (member k d ms)) (sym is)
    (record { no_core = has.no_core; no_part = has.no_part; listed = has.listed })

either_false : (b : Bool) → (b || false) ≡ true → b ≡ true
either_false true h = refl
either_false false h = h

only_format : (ms : Members) → has_only (codes "format" ∷ []) ms ≡ true → HasFormat ms
only_format no_members h = record { no_core = refl; no_part = refl; listed = refl }
only_format (member l d ms) h =
    let parts = and_parts _ _ h in
    with_format l d ms ((bytes_eq-Decides l (codes "format")).0 (either_false _ parts.0))
    (only_format ms parts.1)

-- the nodes of a top table that has the elements that were read
nodes_are : {path at : List (List ℕ)} {key here text again core_end part_end : List ℕ} {count : ℕ}
    {names : List (List ℕ)} {format : Format} {cores : List CoreView} {parts : List PartView}
    (members : Members) (some : ReadsCores path key text cores names core_end)
    (more : ReadsParts at here again format count names parts part_end) → count ≡ length cores
    → get_member (codes "core") members ≡ Some (array some.items)
    → get_member (codes "part") members ≡ Some (array more.items)
    → has_only top_keys members ≡ true
    → required Top format_faults (get_member (codes "format") members) ≡ []
    → format ≡ format_at (get_member (codes "format") members) → AreNodes (table members) cores parts
nodes_are members some more counted at_core at_part listed no_format told =
    let many : length (elements_of some.items) ≡ _
    = sym (ap length some.spelled ∙ length_map spelled_core (elements_of some.items)) in
    let long = many ∙ sym counted in
    let few_cores =
    ap (required Top core_array_faults) at_core
    ∙ cores_fit (Some (array some.items)) (some.items, refl) (rw many some.some) (rw many some.few) in
    let few_parts =
    ap (optional (array_faults Top 512)) at_part
    ∙ array_fits Top 512 (Some (array more.items)) (more.items, refl) more.few in
    record {
      no_top =
          keys_fit Top top_keys (required Top format_faults (get (codes "format") (table members))
          ++ (required Top core_array_faults (get (codes "core") (table members))
          ++ optional (array_faults Top 512) (get (codes "part") (table members)))) (table members)
          (record { members = members; is = refl; only = listed })
          (none_both _ _ no_format (none_both _ _ few_cores few_parts));
      no_core = rw at_core some.none;
      no_part = rw (at_core, at_part, ← told) (more.none (elements_of some.items) long some.named);
      cores_are = rw at_core some.spelled;
      parts_are = rw (at_core, at_part) (more.spelled (elements_of some.items) long some.named);
    }

has_array : {text here key behind rest : List ℕ} {path : List (List ℕ)} {items : Items}
    → BeginsArray text path here key behind → ReadsArray path here behind items rest
    → HasArray text key items rest
has_array begins reads = record {
  behind = _;
  header = begins.line;
  reads = rw (begins.top, begins.same) at reads;
}

-- read to the end of the text they are the nodes of its document
pub read_to_the_end : {text start core_key core_text core_end part_key part_text end : List ℕ}
    {path at : List (List ℕ)} {count : ℕ} {names : List (List ℕ)} {format : Format}
    {cores : List CoreView} {parts : List PartView}
    → BeginsWithFormat text format start
    → BeginsArray start path core_key (codes "core") core_text
    → ReadsCores path core_key core_text cores names core_end
    → BeginsArray core_end at part_key (codes "part") part_text
    → ReadsParts at part_key part_text format count names parts end
    → count ≡ length cores → length (skip_blank end) ≡ 0 → SpellsNodes text cores parts
read_to_the_end {text} {start} {core_end = core_end} {end = end} top core some part more counted ended =
    let has = only_format top.members top.only in
    let with_cores = insert_member (codes "core") (array some.items) top.members in
    let all = insert_member (codes "part") (array more.items) with_cores in
    let no_part = get_member-insert_other (codes "part") (codes "core") (array some.items) top.members refl
    ∙ has.no_part in
    let begins =
    begins_with_more text core_end end (codes "part") with_cores more.items
    (begins_with_more text start core_end (codes "core") top.members some.items top.begins
    (has_array core some.reads) has.no_core)
    (has_array part more.reads) no_part in
    let same_format : get_member (codes "format") all ≡ get_member (codes "format") top.members
    = get_member-insert_other (codes "format") (codes "part") (array more.items) with_cores refl
    ∙ get_member-insert_other (codes "format") (codes "core") (array some.items) top.members refl in
    record {
      members = all;
      document = begun_to_the_end text end all begins ended;
      nodes =
          nodes_are all some more counted
          (get_member-insert_other (codes "core") (codes "part") (array more.items) with_cores refl
          ∙ get_member-insert (codes "core") (array some.items) top.members)
          (get_member-insert (codes "part") (array more.items) with_cores)
          (put_listed top_keys (codes "part") (array more.items) with_cores refl
          (put_listed top_keys (codes "core") (array some.items) top.members refl has.listed))
          (ap (required Top format_faults) same_format ∙ top.none)
          (top.told ∙ ap format_at (sym same_format));
    }
