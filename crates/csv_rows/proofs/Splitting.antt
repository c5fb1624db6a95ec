-- How csv's machine goes over a plain text, byte by byte.
use Rattle.std.proofs.Common.{◌≡◌, ◌≢◌, ◌⊎◌, inl, inr, ◌==◌, ◌<◌, ◌≤◌, ◌+◌, ◌-◌, ℕ, false, Bor, List, [], ◌∷◌, ◌++◌, length, take, drop, get_or, Option, Some, None, refl, sym, ◌∙◌, ap, subst, arith, get_or-drop, length-drop}
use Rattle.std.proofs.lemmas.List.{drop_all, drop_more, length-map, length-take, map-append, take_all, take_more, nil_from_length}
use Rattle.std.proofs.lemmas.Bool.{ne_eqb}
use Rattle.csv.specs.Machine.{Read, next_record}
use Rattle.csv.specs.Reading.{default_config, strip_bom}
use Rattle.csv.specs.declared.parser.State.{State}
use Rattle.csv.specs.declared.parser.State.TheVariants as st
use Rattle.csv_rows.specs.PlainText.{IsPlainText}
use Rattle.csv_rows.specs.Row.{texts_of}

-- the state of the machine behind these fields and the bytes of the field at hand
abbrev pub stands : List (List ℕ) → List ℕ → State
stands fields (b ∷ field) = st.InField
stands [] [] = st.StartRecord
stands (f ∷ fields) [] = st.StartField

abbrev pub read_on : List (List ℕ) → List ℕ → List ℕ → Option Read
read_on fields field xs = next_record default_config (stands fields field) fields field xs

pub on_comma : (fields : List (List ℕ)) (field u : List ℕ)
    → read_on fields field (44 ∷ u) ≡ read_on (fields ++ field ∷ []) [] u
unfolding next_record
on_comma [] [] u = refl
on_comma [] (b ∷ field) u = refl
on_comma (f ∷ fields) [] u = refl
on_comma (f ∷ fields) (b ∷ field) u = refl

pub on_blank : (u : List ℕ) → read_on [] [] (10 ∷ u) ≡ read_on [] [] u
unfolding next_record
on_blank u = refl

pub on_line : (fields : List (List ℕ)) (field u : List ℕ) → (length field ≡ 0 → length fields ≡ 0 → ⊥)
    → read_on fields field (10 ∷ u) ≡ Some (fields ++ field ∷ [], st.StartRecord, u)
unfolding next_record
on_line [] [] u some = absurd (some refl refl)
on_line [] (b ∷ field) u some = refl
on_line (f ∷ fields) [] u some = refl
on_line (f ∷ fields) (b ∷ field) u some = refl

pub on_other : (fields : List (List ℕ)) (field : List ℕ) (c : ℕ) (u : List ℕ) → (c == 34) ≡ false → (c == 13) ≡ false
    → (c == 44) ≡ false → (c == 10) ≡ false → read_on fields field (c ∷ u) ≡ read_on fields (field ++ c ∷ []) u
unfolding next_record
on_other [] [] c u quote cr comma line = rw (quote, cr, comma, line) refl
on_other (f ∷ fields) [] c u quote cr comma line = rw (quote, cr, comma, line) refl
on_other fields (b ∷ field) c u quote cr comma line = rw (cr, comma, line) refl

pub on_end : (fields : List (List ℕ)) (field : List ℕ) → (length field ≡ 0 → length fields ≡ 0 → ⊥)
    → read_on fields field [] ≡ Some (fields ++ field ∷ [], st.StartRecord, [])
unfolding next_record
on_end [] [] some = absurd (some refl refl)
on_end [] (b ∷ field) some = refl
on_end (f ∷ fields) [] some = refl
on_end (f ∷ fields) (b ∷ field) some = refl

pub on_nothing : (fields : List (List ℕ)) (field : List ℕ) → length field ≡ 0 → length fields ≡ 0
    → read_on fields field [] ≡ None
unfolding next_record
on_nothing [] [] a b = refl
on_nothing [] (x ∷ field) a b = cc a
on_nothing (f ∷ fields) field a b = cc b

pub no_mark : (text : List ℕ) → (length text ≡ 0) ⊎ ((get_or text 0 0 == 239) ≡ false) → strip_bom text ≡ text
unfolding strip_bom
no_mark [] e = refl
no_mark (a ∷ []) e = refl
no_mark (a ∷ b ∷ []) e = refl
no_mark (a ∷ b ∷ c ∷ rest) (inl e) = cc e
no_mark (a ∷ b ∷ c ∷ rest) (inr e) = rw e refl

-- the bytes of the field at hand, one byte on
pub field_more : (text : List ℕ) (from i : ℕ) → from ≤ i → i < length text
    → take (i + 1 - from) (drop from text) ≡ take (i - from) (drop from text) ++ get_or text i 0 ∷ []
field_more text from i low high =
    let one : i + 1 - from ≡ (i - from) + 1 = omega arith in
    let there : from + (i - from) ≡ i = omega arith in
    ap (λ (n : ℕ). take n (drop from text)) one
    ∙ (take_more (drop from text) (i - from) 0 (omega (arith, length-drop from text))
    ∙ ap (λ (b : ℕ). take (i - from) (drop from text) ++ b ∷ [])
    (get_or-drop from text (i - from) 0 ∙ ap (λ (k : ℕ). get_or text k 0) there))

-- behind the first i bytes of a text: these fields, and the field at hand from this place on
abbrev pub at_hand : List ℕ → ℕ → ℕ → List ℕ
at_hand text from i = take (i - from) (drop from text)

abbrev pub Reads : List ℕ → List (List ℕ) → ℕ → ℕ → Type 0
Reads text fields from i =
    next_record default_config st.StartRecord [] [] text ≡ read_on fields (at_hand text from i) (drop i text)

none_at : (text : List ℕ) (i : ℕ) → at_hand text i i ≡ []
none_at text i = let none : i - i ≡ 0 = omega arith in ap (λ (n : ℕ). take n (drop i text)) none

some_at : (text : List ℕ) (from i : ℕ) → from ≤ i → i ≤ length text → length (at_hand text from i) ≡ 0 → from ≡ i
some_at text from i low high e = omega (arith, e, length-take (i - from) (drop from text), length-drop from text)

-- what is left of a text
abbrev pub left_of : List ℕ → ℕ → List ℕ
left_of text i = take (length text - i) (drop i text)

pub left_is : (text : List ℕ) (i : ℕ) → drop i text ≡ left_of text i
left_is text i = sym (take_all (length text - i) (drop i text) (omega (arith, length-drop i text)))

module _ (text : List ℕ) (fields : List (List ℕ)) (from i : ℕ) where
  here : (c : ℕ) → i < length text → get_or text i 0 ≡ c → Reads text fields from i
      → next_record default_config st.StartRecord [] [] text
      ≡ read_on fields (at_hand text from i) (c ∷ drop (i + 1) text)
  here c l e h =
      h ∙ ap (read_on fields (at_hand text from i)) (drop_more text i 0 l ∙ ap (λ (b : ℕ). b ∷ drop (i + 1) text) e)

  comma_there : i < length text → get_or text i 0 ≡ 44
      → Reads text fields from i → Reads text (fields ++ at_hand text from i ∷ []) (i + 1) (i + 1)
  comma_there l e h =
      here 44 l e h ∙ (on_comma fields (at_hand text from i) (drop (i + 1) text)
      ∙ ap (λ (field : List ℕ). read_on (fields ++ at_hand text from i ∷ []) field (drop (i + 1) text))
      (sym (none_at text (i + 1))))

  pub after_comma : (now : List (List ℕ)) → i < length text → get_or text i 0 ≡ 44
      → now ≡ fields ++ at_hand text from i ∷ [] → Reads text fields from i → Reads text now (i + 1) (i + 1)
  after_comma now l e pushed h =
      subst (λ (z : List (List ℕ)). Reads text z (i + 1) (i + 1)) (sym pushed) (comma_there l e h)

  pub after_other : from ≤ i → i < length text → IsPlainText text
      → get_or text i 0 ≢ 44 → get_or text i 0 ≢ 10 → Reads text fields from i → Reads text fields from (i + 1)
  after_other low l plain comma line h =
      here (get_or text i 0) l refl h
      ∙ (on_other fields (at_hand text from i) (get_or text i 0) (drop (i + 1) text) (plain i l).0 (plain i l).1
      (ne_eqb (get_or text i 0) 44 comma) (ne_eqb (get_or text i 0) 10 line)
      ∙ ap (λ (field : List ℕ). read_on fields field (drop (i + 1) text)) (sym (field_more text from i low l)))

  pub after_blank : i < length text → get_or text i 0 ≡ 10
      → from ≡ i → length fields ≡ 0 → Reads text fields from i → Reads text fields (i + 1) (i + 1)
  after_blank l e at_from none h =
      here 10 l e h
      ∙ (ap (λ (k : ℕ). read_on fields (at_hand text k i) (10 ∷ drop (i + 1) text)) at_from
      ∙ (ap (λ (field : List ℕ). read_on fields field (10 ∷ drop (i + 1) text)) (none_at text i)
      ∙ (ap (λ (fs : List (List ℕ)). read_on fs [] (10 ∷ drop (i + 1) text)) (nil_from_length fields none)
      ∙ (on_blank (drop (i + 1) text)
      ∙ (ap (λ (fs : List (List ℕ)). read_on fs [] (drop (i + 1) text)) (sym (nil_from_length fields none))
      ∙ ap (λ (field : List ℕ). read_on fields field (drop (i + 1) text)) (sym (none_at text (i + 1))))))))

  pub after_line : (now : List (List ℕ)) → from ≤ i → i < length text
      → get_or text i 0 ≡ 10 → (from ≡ i → length fields ≡ 0 → ⊥) → now ≡ fields ++ at_hand text from i ∷ []
      → Reads text fields from i
      → next_record default_config st.StartRecord [] [] text ≡ Some (now, st.StartRecord, left_of text (i + 1))
  after_line now low l e some pushed h =
      here 10 l e h
      ∙ (on_line fields (at_hand text from i) (drop (i + 1) text)
      (λ none. some (some_at text from i low (omega (arith, l)) none))
      ∙ (ap (λ (z : List (List ℕ)). Some (z, st.StartRecord, drop (i + 1) text)) (sym pushed)
      ∙ ap (λ (z : List ℕ). Some (now, st.StartRecord, z)) (left_is text (i + 1))))

  -- at the end of the text
  at_end : i ≡ length text → Reads text fields from i
      → next_record default_config st.StartRecord [] [] text ≡ read_on fields (at_hand text from i) []
  at_end e h = h ∙ ap (read_on fields (at_hand text from i)) (drop_all i text (omega (arith, e)))

  pub ends_record : (now : List (List ℕ)) → from ≤ i → i ≡ length text
      → (from ≡ length text → length fields ≡ 0 → ⊥) → now ≡ fields ++ left_of text from ∷ [] → Reads text fields from i
      → next_record default_config st.StartRecord [] [] text ≡ Some (now, st.StartRecord, left_of text (length text))
  ends_record now low e some pushed h =
      at_end e h
      ∙ (on_end fields (at_hand text from i) (λ none. some (some_at text from i low (omega (arith, e)) none ∙ e))
      ∙ (ap (λ (z : ℕ). Some (fields ++ at_hand text from z ∷ [], st.StartRecord, [])) e
      ∙ (ap (λ (z : List (List ℕ)). Some (z, st.StartRecord, [])) (sym pushed)
      ∙ ap (λ (z : List ℕ). Some (now, st.StartRecord, z))
      (sym (drop_all (length text) text (omega arith)) ∙ left_is text (length text)))))

  pub has_none : i ≡ length text → from ≡ length text
      → length fields ≡ 0 → Reads text fields from i → next_record default_config st.StartRecord [] [] text ≡ None
  has_none e at_from none h =
      at_end e h
      ∙ on_nothing fields (at_hand text from i)
      (ap length (ap (λ (k : ℕ). at_hand text k i) (at_from ∙ sym e) ∙ none_at text i)) none

-- one field more
pub pushed : (old now : List (Bor (List ℕ))) (x : Bor (List ℕ)) → now ≡ old ++ x ∷ []
    → texts_of now ≡ texts_of old ++ x.now ∷ []
pushed old now x e = ap texts_of e ∙ map-append (λ (f : Bor (List ℕ)). f.now) old (x ∷ [])

-- as many fields as texts
pub as_many : (fields : List (Bor (List ℕ))) → length (texts_of fields) ≡ length fields
as_many fields = length-map fields (λ (f : Bor (List ℕ)). f.now)
