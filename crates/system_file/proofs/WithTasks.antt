-- A part that was read in front of its tasks, and then with them.
use Rattle.std.proofs.Common.{◌≡◌, ℕ, Bool, true, false, not, List, [], ◌∷◌, ◌++◌, map, length, codes, Option, Some, unwrap_or, refl, sym, ap, subst, ◌∙◌, append_assoc}
use Rattle.std.proofs.lemmas.List.{map-append}
use Rattle.std.specs.Prelude.{position}
use Rattle.toml.specs.Data.{Data, array, table, Members, get, get_member, same_key}
use Rattle.toml.specs.Tables.{array_table}
use Rattle.toml_items.specs.Plain.{IsLine, insert_member}
use Rattle.toml_items.proofs.Going.{one_more_array}
use Rattle.toml_items.proofs.Members.{get_member-insert, get_member-insert_other}
use Rattle.tree_model.specs.declared.place.Parent.{Parent}
use Rattle.tree_model.specs.declared.place.Parent.TheVariants.{Core}
use Rattle.tree_model.specs.View.{NamedTask, PartView}
use Rattle.tree_model.proofs.Lists.{length_map, none_both, none_left, none_right, position_map}
use Rattle.system_file.specs.declared.format.Format.{Format}
use Rattle.slot_model.specs.declared.task.TheConstants.{LIMIT}
use Rattle.system_file.specs.declared.fault.Spot.{Spot}
use Rattle.system_file.specs.declared.fault.Spot.TheVariants.{Part}
use Rattle.system_file.specs.declared.fault.SystemFault.TheVariants.{UnknownKey}
use Rattle.system_file.specs.Document.{elements_of, array_of, number_of, core_or_part, is_named, is_text, parent_named, spelled_part, spelled_task, text_of}
use Rattle.system_file.specs.Faults.{in_order, required, optional, text_faults, new_name_faults, parent_faults, sched_faults, range_faults, flag_faults, array_faults, part_faults, part_keys, has_only, task_faults}
use Rattle.system_file.specs.inner.Reading.{HaveNames, Known}
use Rattle.system_file.specs.inner.Plain.{ReadsList, ReadsPart, ReadsServer}
use Rattle.system_file.proofs.Faultless.{not_wrong}
use Rattle.system_file.proofs.Fits.{array_fits, right}
use Rattle.system_file.proofs.ListedKeys.{put_listed}
use Rattle.system_file.proofs.Places.{as_many}

not-true : (b : Bool) → not b ≡ false → b ≡ true
not-true true h = refl
not-true false h = sym h

-- what is asked of an element that stands among others is asked of its name
name_there : (before later : List Data) (a b : Data) → get (codes "name") a ≡ get (codes "name") b
    → map (λ d. get (codes "name") d) (before ++ a ∷ later) ≡ map (λ d. get (codes "name") d) (before ++ b ∷ later)
name_there before later a b same =
    map-append (λ d. get (codes "name") d) before (a ∷ later)
    ∙ ap (λ o. map (λ d. get (codes "name") d) before ++ o ∷ map (λ d. get (codes "name") d) later) same
    ∙ sym (map-append (λ d. get (codes "name") d) before (b ∷ later))

same_parent : (cores ds es : List Data) (name : List ℕ)
    → map (λ d. get (codes "name") d) ds ≡ map (λ d. get (codes "name") d) es
    → parent_named cores ds name ≡ parent_named cores es name
same_parent cores ds es name same =
    ap (core_or_part (position (is_named name) cores))
    (sym (position_map (is_text name) (λ d. get (codes "name") d) ds) ∙ ap (position (is_text name)) same
    ∙ position_map (is_text name) (λ d. get (codes "name") d) es)

same_part : (cores ds es : List Data) (d : Data)
    → map (λ d. get (codes "name") d) ds ≡ map (λ d. get (codes "name") d) es
    → spelled_part cores ds d ≡ spelled_part cores es d
same_part cores ds es d same =
    ap (λ (o : Option Parent). record (spelled_part cores ds d) { parent = unwrap_or o (Core 0) })
    (same_parent cores ds es (text_of (get (codes "parent") d)) same)

same_parts : (cores ds es parts : List Data)
    → map (λ d. get (codes "name") d) ds ≡ map (λ d. get (codes "name") d) es
    → map (spelled_part cores ds) parts ≡ map (spelled_part cores es) parts
same_parts cores ds es [] same = refl
same_parts cores ds es (d ∷ parts) same =
    ap (λ p. p ∷ map (spelled_part cores ds) parts) (same_part cores ds es d same)
    ∙ ap (λ ps. spelled_part cores es d ∷ ps) (same_parts cores ds es parts same)

module _ {path : List (List ℕ)} {text here behind rest key : List ℕ} {format : Format} {count place : ℕ}
    {before names task_names : List (List ℕ)} {earlier : List PartView} {part : PartView} {tasks : List NamedTask}
    (server : ReadsServer path text format count before earlier part names here) (is_task : key ≡ codes "task")
    (line : IsLine here ((path, key), array_table) behind)
    (read : ReadsList (task_faults format place) spelled_task path key behind 256 tasks task_names rest)
    (placed : place ≡ length earlier) where
  abbrev plain : Members
  plain = server.whole.members

  abbrev all : Members
  all = insert_member (codes "task") (array read.items) plain

  at_task : get_member (codes "task") all ≡ Some (array read.items)
  at_task = get_member-insert (codes "task") (array read.items) plain

  others : (k : List ℕ) → same_key k (codes "task") ≡ false → get_member k all ≡ get_member k plain
  others k other = get_member-insert_other k (codes "task") (array read.items) plain other

  known_plain : (cores before_it later : List Data) → Known cores before_it (table all ∷ later) count before earlier
      → Known cores before_it (table plain ∷ later) count before earlier
  known_plain cores before_it later known = record {
    counted = known.counted;
    named = known.named;
    spelled =
        known.spelled
        ∙ same_parts cores (before_it ++ table all ∷ later) (before_it ++ table plain ∷ later) before_it
        (name_there before_it later (table all) (table plain) (others (codes "name") refl));
  }

  few_tasks : (spot : Spot) → optional (array_faults spot 256) (get_member (codes "task") all) ≡ []
  few_tasks spot =
      ap (optional (array_faults spot 256)) at_task
      ∙ array_fits spot 256 (Some (array read.items)) (read.items, refl)
      (rw (sym (ap length read.spelled ∙ length_map spelled_task (elements_of read.items))) read.few)

  -- where it has no fault in front of its tasks it has none with them
  no_fault : (cores before_it : List Data) → length before_it ≡ length earlier
      → part_faults format cores before_it (table plain) ≡ [] → part_faults format cores before_it (table all) ≡ []
  no_fault cores before_it many none =
      let spot = Part (length before_it) in
      let listed : has_only part_keys plain ≡ true = not-true _ (not_wrong _ _ (none_left _ _ none)) in
      let from_name = none_left _ _ (none_right _ _ none) in
      let from_parent = none_right _ _ from_name in
      let from_sched = none_right _ _ from_parent in
      let from_period = none_right _ _ from_sched in
      let from_budget = none_right _ _ from_period in
      let from_extra = none_right _ _ from_budget in
      none_both _ _
      (right _ (UnknownKey spot)
      (ap not (put_listed part_keys (codes "task") (array read.items) plain refl listed)))
      (none_both _ _
      (none_both _ _
      (ap (required spot (text_faults spot (new_name_faults spot (cores ++ before_it)))) (others (codes "name") refl)
      ∙ none_left _ _ from_name)
      (none_both _ _
      (ap (required spot (text_faults spot (parent_faults spot cores before_it))) (others (codes "parent") refl)
      ∙ none_left _ _ from_parent)
      (none_both _ _
      (ap (required spot (text_faults spot (sched_faults spot))) (others (codes "sched") refl)
      ∙ none_left _ _ from_sched)
      (none_both _ _
      (ap (required spot (range_faults spot LIMIT)) (others (codes "period") refl) ∙ none_left _ _ from_period)
      (none_both _ _
      (ap (λ o. optional (range_faults spot (number_of o)) (get_member (codes "budget") all)) (others (codes "period") refl)
      ∙ ap (optional (range_faults spot (number_of (get_member (codes "period") plain)))) (others (codes "budget") refl)
      ∙ none_left _ _ from_budget)
      (none_both _ _
      (ap (optional (flag_faults spot)) (others (codes "extra") refl) ∙ none_left _ _ from_extra)
      (few_tasks spot)))))))
      (ap (λ o. in_order (task_faults format (length before_it)) [] (array_of o)) at_task
      ∙ subst (λ (n : ℕ). in_order (task_faults format n) [] (elements_of read.items) ≡ []) (placed ∙ sym many)
      read.none))

  spelled_there : (cores before_it later : List Data)
      → Known cores before_it (table all ∷ later) count before earlier
      → record part { tasks = tasks } ≡ spelled_part cores (before_it ++ table all ∷ later) (table all)
  spelled_there cores before_it later known =
      let said = (server.whole.ok cores before_it later (known_plain cores before_it later known)).1 in
      ap (λ (p : PartView). record p { tasks = tasks }) said
      ∙ rw (
        others (codes "name") refl,
        others (codes "parent") refl,
        others (codes "sched") refl,
        others (codes "period") refl,
        others (codes "budget") refl,
        others (codes "extra") refl,
        at_task,
        ← read.spelled,
      )
      (ap (λ (p : PartView). record p { tasks = tasks })
      (same_part cores (before_it ++ table plain ∷ later) (before_it ++ table all ∷ later) (table plain)
      (sym (name_there before_it later (table all) (table plain) (others (codes "name") refl)))))

  named_there : (cores before_it later : List Data)
      → Known cores before_it (table all ∷ later) count before earlier
      → HaveNames (cores ++ (before_it ++ table all ∷ [])) names
  named_there cores before_it later known =
      let said = (server.whole.ok cores before_it later (known_plain cores before_it later known)).2 in
      rw (← append_assoc cores before_it (table all ∷ []))
      (name_there (cores ++ before_it) [] (table all) (table plain) (others (codes "name") refl)
      ∙ rw (← append_assoc cores before_it (table plain ∷ [])) at said)

  pub with_tasks : ReadsPart path text format count before earlier (record part { tasks = tasks }) names rest
  with_tasks = record {
    members = all;
    reads =
        one_more_array path text here behind rest (codes "task") plain read.items server.whole.reads
        (rw is_task at line) (rw is_task at read.reads) server.no_task;
    ok = λ cores before_it later known. (
      no_fault cores before_it (as_many known)
          (server.whole.ok cores before_it later (known_plain cores before_it later known)).0,
      spelled_there cores before_it later known,
      named_there cores before_it later known,
    );
  }
