-- Elements that are read one after the other, each put behind those before it.
use Rattle.std.proofs.Common.{◌≡◌, ℕ, ◌+◌, ◌≤◌, List, [], ◌∷◌, ◌++◌, map, length, length-append, refl, sym, ap, ◌∙◌, append_assoc, arith}
use Rattle.std.proofs.lemmas.List.{append-nil, map-append}
use Rattle.toml.specs.Data.{Data, table, Items, no_items, item, push_item}
use Rattle.toml.specs.Tables.{array_table}
use Rattle.toml_items.specs.Plain.{IsLine}
use Rattle.toml_items.proofs.Going.{ReadsElements, no_elements, one_more_element, last_element}
use Rattle.tree_model.specs.View.{PartView}
use Rattle.tree_model.proofs.Lists.{length_map, none_both, none_left, none_right}
use Rattle.system_file.specs.declared.format.Format.{Format}
use Rattle.system_file.specs.declared.fault.SystemFault.{SystemFault}
use Rattle.system_file.specs.Document.{elements_of, spelled_part}
use Rattle.system_file.specs.Faults.{in_order, part_faults}
use Rattle.system_file.specs.inner.Reading.{HaveNames, Known}
use Rattle.system_file.specs.inner.Plain.{ReadsElement, ReadsList, ReadsPart, ReadsParts}

elements_pushed : (items : Items) (d : Data)
    → elements_of (push_item items d) ≡ elements_of items ++ d ∷ []
elements_pushed no_items d = refl
elements_pushed (item e items) d = ap (λ ds. e ∷ ds) (elements_pushed items d)

-- none of the elements has a fault, nor has the one behind them
none_with_last : (at_element : List Data → Data → List SystemFault) (earlier ds : List Data) (d : Data)
    → in_order at_element earlier ds ≡ [] → at_element (earlier ++ ds) d ≡ []
    → in_order at_element earlier (ds ++ d ∷ []) ≡ []
none_with_last at_element earlier [] d none here =
    append-nil (at_element earlier d) ∙ ap (λ es. at_element es d) (sym (append-nil earlier)) ∙ here
none_with_last at_element earlier (e ∷ ds) d none here =
    none_both (at_element earlier e) _ (none_left _ _ none)
    (none_with_last at_element (earlier ++ e ∷ []) ds d (none_right (at_element earlier e) _ none)
    (ap (λ es. at_element es d) (append_assoc earlier (e ∷ []) ds) ∙ here))

spelled_with_last : {A : Type 0} (spelled : Data → A) (ds : List Data) (d : Data) (xs : List A) (x : A)
    → xs ≡ map spelled ds → x ≡ spelled d → xs ++ x ∷ [] ≡ map spelled (ds ++ d ∷ [])
spelled_with_last spelled ds d xs x are is =
    ap (λ ys. ys ++ x ∷ []) are ∙ ap (λ y. map spelled ds ++ y ∷ []) is
    ∙ sym (map-append spelled ds (d ∷ []))

-- What the elements of an array before a header of it spell.
pub record SoFar {A : Type 0} (at_element : List Data → Data → List SystemFault) (spells : Data → A)
    (path : List (List ℕ)) (key text : List ℕ) (found : List A) (names : List (List ℕ)) (here : List ℕ)
    : Type 0 where
  pub items : Items
  pub reads : ReadsElements path key text items here
  pub none : in_order at_element [] (elements_of items) ≡ []
  pub spelled : found ≡ map spells (elements_of items)
  pub named : HaveNames (elements_of items) names

pub none_so_far : {A : Type 0} (at_element : List Data → Data → List SystemFault) (spells : Data → A)
    (path : List (List ℕ)) (key text : List ℕ) → SoFar at_element spells path key text [] [] text
none_so_far at_element spells path key text = record {
  items = no_items;
  reads = no_elements path key text;
  none = refl;
  spelled = refl;
  named = refl;
}

module _ {A : Type 0} {at_element : List Data → Data → List SystemFault} {spells : Data → A}
    {path : List (List ℕ)} {key text here rest : List ℕ} {found : List A} {names : List (List ℕ)} {place : ℕ} {x : A}
    {names_now : List (List ℕ)} (so_far : SoFar at_element spells path key text found names here)
    (one : ReadsElement at_element spells (path ++ key ∷ []) here place names x names_now rest)
    (placed : place ≡ length found) where
  all_there : elements_of (push_item so_far.items (table one.members))
      ≡ elements_of so_far.items ++ table one.members ∷ []
  all_there = elements_pushed so_far.items (table one.members)

  said : (at_element (elements_of so_far.items) (table one.members) ≡ []) × (x ≡ spells (table one.members))
      × HaveNames (elements_of so_far.items ++ table one.members ∷ []) names_now
  said =
      one.ok (elements_of so_far.items)
      (sym (ap length so_far.spelled ∙ length_map spells (elements_of so_far.items)) ∙ sym placed) so_far.named

  none_there : in_order at_element [] (elements_of so_far.items ++ table one.members ∷ []) ≡ []
  none_there = none_with_last at_element [] (elements_of so_far.items) (table one.members) so_far.none said.0

  spelled_there : found ++ x ∷ [] ≡ map spells (elements_of so_far.items ++ table one.members ∷ [])
  spelled_there = spelled_with_last spells (elements_of so_far.items) (table one.members) found x so_far.spelled said.1

  pub one_more : (behind : List ℕ) → IsLine rest ((path, key), array_table) behind
      → SoFar at_element spells path key text (found ++ x ∷ []) names_now behind
  one_more behind again = record {
    items = push_item so_far.items (table one.members);
    reads =
        one_more_element path key text here rest behind so_far.items one.members so_far.reads one.reads again;
    none = rw all_there none_there;
    spelled = rw all_there spelled_there;
    named = rw all_there said.2;
  }

  pub with_last : (most : ℕ) → length found + 1 ≤ most
      → ReadsList at_element spells path key text most (found ++ x ∷ []) names_now rest
  with_last most few = record {
    items = push_item so_far.items (table one.members);
    reads = last_element path key text here rest so_far.items one.members so_far.reads one.reads;
    none = rw all_there none_there;
    spelled = rw all_there spelled_there;
    named = rw all_there said.2;
    some = omega (arith, length-append found (x ∷ []));
    few = omega (arith, length-append found (x ∷ []));
  }

-- The parts of the elements of an array before a header of it, whatever elements follow, behind
-- any cores that have the first names.
pub record PartsSoFar (path : List (List ℕ)) (key text : List ℕ) (format : Format) (count : ℕ)
    (first : List (List ℕ)) (parts : List PartView) (names : List (List ℕ)) (here : List ℕ)
    : Type 0 where
  pub items : Items
  pub reads : ReadsElements path key text items here
  pub many : length (elements_of items) ≡ length parts
  pub counted : length names ≡ count + length parts
  pub none : (cores : List Data) → length cores ≡ count → HaveNames cores first →
      in_order (part_faults format cores) [] (elements_of items) ≡ []
  pub known : (cores later : List Data) → length cores ≡ count → HaveNames cores first →
      Known cores (elements_of items) later count names parts

pub no_parts : (path : List (List ℕ)) (key text : List ℕ) (format : Format) (count : ℕ)
    (first : List (List ℕ)) → length first ≡ count
    → PartsSoFar path key text format count first [] first text
no_parts path key text format count first many = record {
  items = no_items;
  reads = no_elements path key text;
  many = refl;
  counted = omega (arith, many);
  none = λ cores counted have. refl;
  known = λ cores later counted have. record {
    counted = counted;
    named = rw (append-nil cores) have;
    spelled = refl;
  };
}

module _ {path : List (List ℕ)} {key text here rest : List ℕ} {format : Format} {count : ℕ}
    {first names names_now : List (List ℕ)} {parts now : List PartView} {part : PartView}
    (so_far : PartsSoFar path key text format count first parts names here)
    (one : ReadsPart (path ++ key ∷ []) here format count names now part names_now rest)
    (same : now ≡ parts) (named_one : length names_now ≡ length names + 1) where
  all_parts : elements_of (push_item so_far.items (table one.members))
      ≡ elements_of so_far.items ++ table one.members ∷ []
  all_parts = elements_pushed so_far.items (table one.members)

  many_there : length (elements_of so_far.items ++ table one.members ∷ []) ≡ length (parts ++ part ∷ [])
  many_there =
      omega (
        arith,
        so_far.many,
        length-append (elements_of so_far.items) (table one.members ∷ []),
        length-append parts (part ∷ []),
      )

  counted_there : length names_now ≡ count + length (parts ++ part ∷ [])
  counted_there = omega (arith, so_far.counted, named_one, length-append parts (part ∷ []))

  known_here : (cores later : List Data) → length cores ≡ count → HaveNames cores first
      → Known cores (elements_of so_far.items) (table one.members ∷ later) count names now
  known_here cores later counted have = rw same (so_far.known cores (table one.members ∷ later) counted have)

  no_fault_there : (cores : List Data) → length cores ≡ count → HaveNames cores first
      → in_order (part_faults format cores) [] (elements_of so_far.items ++ table one.members ∷ []) ≡ []
  no_fault_there cores counted have =
      none_with_last (part_faults format cores) [] (elements_of so_far.items) (table one.members)
      (so_far.none cores counted have)
      (one.ok cores (elements_of so_far.items) [] (known_here cores [] counted have)).0

  known_there : (cores later : List Data) → length cores ≡ count → HaveNames cores first
      → Known cores (elements_of so_far.items ++ table one.members ∷ []) later count names_now (parts ++ part ∷ [])
  known_there cores later counted have =
      let before = elements_of so_far.items in
      let said = one.ok cores before later (known_here cores later counted have) in
      record {
        counted = counted;
        named = said.2;
        spelled =
            spelled_with_last (spelled_part cores (before ++ table one.members ∷ later)) before (table one.members)
            parts part (so_far.known cores (table one.members ∷ later) counted have).spelled said.1
            ∙ ap (λ all. map (spelled_part cores all) (before ++ table one.members ∷ []))
            (sym (append_assoc before (table one.members ∷ []) later));
      }

  pub one_more_part : (behind : List ℕ) → IsLine rest ((path, key), array_table) behind
      → PartsSoFar path key text format count first (parts ++ part ∷ []) names_now behind
  one_more_part behind again = record {
    items = push_item so_far.items (table one.members);
    reads = one_more_element path key text here rest behind so_far.items one.members so_far.reads one.reads again;
    many = rw all_parts many_there;
    counted = counted_there;
    none = λ cores counted have. rw all_parts (no_fault_there cores counted have);
    known = λ cores later counted have. rw all_parts (known_there cores later counted have);
  }

  pub last_part : length parts + 1 ≤ 512
      → ReadsParts path key text format count first (parts ++ part ∷ []) rest
  last_part few = record {
    items = push_item so_far.items (table one.members);
    reads = last_element path key text here rest so_far.items one.members so_far.reads one.reads;
    few = rw all_parts (omega (arith, many_there, length-append parts (part ∷ [])));
    none = λ cores counted have. rw all_parts (no_fault_there cores counted have);
    spelled = λ cores counted have.
        let all = elements_of so_far.items ++ table one.members ∷ [] in
        rw all_parts ((known_there cores [] counted have).spelled
        ∙ ap (λ ds. map (spelled_part cores ds) all) (append-nil all));
  }
