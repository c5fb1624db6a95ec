-- There is one text of a document without floats and date-times, so of a system.
use Rattle.std.proofs.Common.{◌≡◌, ℕ, Bool, true, false, cond, List, [], ◌∷◌, ◌++◌, sym, ◌∙◌, ap, codes}
use Rattle.std.proofs.lemmas.Bool.{and_parts, false≢true}
use Rattle.toml_parser.specs.Strings.{Key}
use Rattle.toml_writer.specs.Text.{key_text, dotted_text}
use Rattle.toml.specs.Data.{Data, string, integer, float, boolean, datetime, array, table, Items, no_items, item, Members, no_members, member}
use Rattle.toml.specs.Tables.{key_value, std_table, array_table, Expression}
use Rattle.toml.specs.Text.{IsValueText, IsItemsText, IsMembersText, IsLinesText, IsDocumentText, breaks_lines, before_item, after_item, before_member, is_section, are_tables, needs_header, pairs, header_of, sections, section, elements, expressions}
use Rattle.tree_model.specs.View.{SystemView}
use Rattle.system_file.specs.Printed.{printed}
use Rattle.system_file.proofs.PrintedShape.{is_exact, items_exact, members_exact, printed_fits}

-- there is one text of each value that is exact
mutual
  one_value : (d : Data) (t u : List ℕ) → is_exact d ≡ true → IsValueText false d t → IsValueText false d u → t ≡ u
  one_value (string s) t u e p q = p ∙ sym q
  one_value (integer z) t u e p q = p.0 ∙ sym q.0
  one_value (float x) t u e p q = absurd (false≢true e)
  one_value (boolean b) t u e p q = p ∙ sym q
  one_value (datetime dt) t u e p q = absurd (false≢true e)
  one_value (array ds) t u e p q =
      let (a, is, some) = p in
      let (b, was, others) = q in
      is ∙ (ap (λ (z : List ℕ). codes "[" ++ z) (one_items ds (breaks_lines false ds) true a b e some others) ∙ sym was)
  one_value (table ms) t u e p q =
      let (a, is, some) = p in
      let (b, was, others) = q in
      is ∙ (ap (λ (z : List ℕ). codes "{" ++ z) (one_members ms true a b e some others) ∙ sym was)

  one_items : (ds : Items) (lines first : Bool) (t u : List ℕ) → items_exact ds ≡ true
      → IsItemsText false lines first ds t → IsItemsText false lines first ds u → t ≡ u
  one_items no_items lines first t u e p q = p ∙ sym q
  one_items (item d ds) lines first t u e p q =
      let (here, later) = and_parts (is_exact d) (items_exact ds) e in
      let (v, a, is, value, rest) = p in
      let (w, b, was, other, left) = q in
      is
      ∙ (ap (λ (z : List ℕ). before_item lines first ++ (z ++ (after_item lines ++ a)))
      (one_value d v w here value other)
      ∙ (ap (λ (z : List ℕ). before_item lines first ++ (w ++ (after_item lines ++ z)))
      (one_items ds lines false a b later rest left) ∙ sym was))

  one_members : (ms : Members) (first : Bool) (t u : List ℕ) → members_exact ms ≡ true → IsMembersText false first ms t
      → IsMembersText false first ms u → t ≡ u
  one_members no_members first t u e p q = p ∙ sym q
  one_members (member k d ms) first t u e p q =
      let (here, later) = and_parts (is_exact d) (members_exact ms) e in
      let (v, a, is, value, rest, sorted) = p in
      let (w, b, was, other, left, same) = q in
      is
      ∙ (ap (λ (z : List ℕ). before_member first ++ (key_text k ++ (codes " = " ++ (z ++ a))))
      (one_value d v w here value other)
      ∙ (ap (λ (z : List ℕ). before_member first ++ (key_text k ++ (codes " = " ++ (w ++ z))))
      (one_members ms false a b later rest left) ∙ sym was))

-- and of each line, and of all
abbrev AreExact : List Expression → Type 0
AreExact [] = Unit {0}
AreExact ((key, key_value d) ∷ es) = (is_exact d ≡ true) × AreExact es
AreExact ((key, std_table) ∷ es) = AreExact es
AreExact ((key, array_table) ∷ es) = AreExact es

one_lines : (es : List Expression) (started : Bool) (t u : List ℕ) → AreExact es → IsLinesText false started es t
    → IsLinesText false started es u → t ≡ u
one_lines [] started t u e p q = p ∙ sym q
one_lines ((key, key_value d) ∷ es) started t u e p q =
    let (this, rest, is, line, later) = p in
    let (that, left, was, other, after) = q in
    let (v, line_is, value) = line in
    let (w, other_is, second) = other in
    let same : this ≡ that
    = line_is
    ∙ (ap (λ (z : List ℕ). dotted_text key ++ (codes " = " ++ (z ++ 10 ∷ [])))
    (one_value d v w e.0 value second) ∙ sym other_is) in
    is
    ∙ (ap (λ (z : List ℕ). z ++ rest) same
    ∙ (ap (λ (z : List ℕ). that ++ z) (one_lines es true rest left e.1 later after) ∙ sym was))
one_lines ((key, std_table) ∷ es) started t u e p q =
    let (this, rest, is, line, later) = p in
    let (that, left, was, other, after) = q in
    is
    ∙ (ap (λ (z : List ℕ). z ++ rest) (line ∙ sym other)
    ∙ (ap (λ (z : List ℕ). that ++ z) (one_lines es true rest left e later after) ∙ sym was))
one_lines ((key, array_table) ∷ es) started t u e p q =
    let (this, rest, is, line, later) = p in
    let (that, left, was, other, after) = q in
    is
    ∙ (ap (λ (z : List ℕ). z ++ rest) (line ∙ sym other)
    ∙ (ap (λ (z : List ℕ). that ++ z) (one_lines es true rest left e later after) ∙ sym was))

-- the lines of such a document have neither
exact_append : (es fs : List Expression) → AreExact es → AreExact fs → AreExact (es ++ fs)
exact_append [] fs e f = f
exact_append ((key, key_value d) ∷ es) fs e f = (e.0, exact_append es fs e.1 f)
exact_append ((key, std_table) ∷ es) fs e f = exact_append es fs e f
exact_append ((key, array_table) ∷ es) fs e f = exact_append es fs e f

if_exact : (b : Bool) (es fs : List Expression) → AreExact es → AreExact fs → AreExact (cond b es fs)
if_exact true es fs e f = e
if_exact false es fs e f = f

pairs_exact : (ms : Members) → members_exact ms ≡ true → AreExact (pairs ms)
pairs_exact no_members e = tt
pairs_exact (member k d ms) e =
    let (here, later) = and_parts (is_exact d) (members_exact ms) e in
    if_exact (is_section d) (pairs ms) ((([], k), key_value d) ∷ pairs ms) (pairs_exact ms later)
    (here, pairs_exact ms later)

header_exact : (key : Key) (ms : Members) → AreExact (header_of key ms)
header_exact key ms = if_exact (needs_header ms) ((key, std_table) ∷ []) [] tt tt

mutual
  sections_exact : (ms : Members) (path : List (List ℕ)) → members_exact ms ≡ true → AreExact (sections path ms)
  sections_exact no_members path e = tt
  sections_exact (member k d ms) path e =
      let (here, later) = and_parts (is_exact d) (members_exact ms) e in
      exact_append (section (path, k) d) (sections path ms) (section_exact d (path, k) here)
      (sections_exact ms path later)

  section_exact : (d : Data) (key : Key) → is_exact d ≡ true → AreExact (section key d)
  section_exact (string s) key e = tt
  section_exact (integer z) key e = tt
  section_exact (float x) key e = tt
  section_exact (boolean b) key e = tt
  section_exact (datetime dt) key e = tt
  section_exact (array ds) key e = if_exact (are_tables ds) (elements key ds) [] (elements_exact ds key e) tt
  section_exact (table ms) key e =
      exact_append (header_of key ms) (pairs ms ++ sections (key.0 ++ key.1 ∷ []) ms) (header_exact key ms)
      (exact_append (pairs ms) (sections (key.0 ++ key.1 ∷ []) ms) (pairs_exact ms e)
      (sections_exact ms (key.0 ++ key.1 ∷ []) e))

  elements_exact : (ds : Items) (key : Key) → items_exact ds ≡ true → AreExact (elements key ds)
  elements_exact no_items key e = tt
  elements_exact (item (table ms) ds) key e =
      let (here, later) = and_parts (members_exact ms) (items_exact ds) e in
      exact_append (pairs ms ++ sections (key.0 ++ key.1 ∷ []) ms) (elements key ds)
      (exact_append (pairs ms) (sections (key.0 ++ key.1 ∷ []) ms) (pairs_exact ms here)
      (sections_exact ms (key.0 ++ key.1 ∷ []) here)) (elements_exact ds key later)
  elements_exact (item (string s) ds) key e = elements_exact ds key e
  elements_exact (item (integer z) ds) key e = elements_exact ds key e
  elements_exact (item (float x) ds) key e = absurd (false≢true e)
  elements_exact (item (boolean b) ds) key e = elements_exact ds key e
  elements_exact (item (datetime dt) ds) key e = absurd (false≢true e)
  elements_exact (item (array es) ds) key e = elements_exact ds key (and_parts (items_exact es) (items_exact ds) e).1

pub one_printed_text : (sys : SystemView) (t u : List ℕ) → IsDocumentText false (printed sys) t
    → IsDocumentText false (printed sys) u → t ≡ u
one_printed_text sys t u p q =
    one_lines (expressions (printed sys)) false t u
    (exact_append (pairs (printed sys)) (sections [] (printed sys)) (pairs_exact (printed sys) (printed_fits sys).0)
    (sections_exact (printed sys) [] (printed_fits sys).0)) p q
