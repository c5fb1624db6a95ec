-- How runs of plain lines join.
use Rattle.std.proofs.Common.{◌≡◌, ◌==◌, ℕ, zero, suc, ◌-◌, Bool, true, false, is_some, unwrap_or, inl, inr, List, [], ◌∷◌, ◌++◌, length, Some, None, refl, ap, ◌∙◌, arith}
use Rattle.std.proofs.lemmas.Bool.{cases_Bool}
use Rattle.std.proofs.lemmas.Bool.Decides.{nat_tests}
use Rattle.toml_parser.specs.Lexical.{first, skip_turn, skip_from, skip_blank}
use Rattle.toml.specs.Data.{Data, array, table, Items, no_items, Members, no_members, push_item, get_member}
use Rattle.toml.specs.Tables.{Nodes, no_nodes, value, open_array, insert, close, key_value, array_table, Expression, Document, define}
use Rattle.toml.specs.Parse.{lines, skip_bom, parse_document}
use Rattle.toml.proofs.Blanks.{skip_within}
use Rattle.toml.proofs.Turns.{lines_more, lines_end, document_some}
use Rattle.toml_items.specs.Plain.{insert_member, IsLine, IsPlace, GoesOn, ReadsTable, ReadsArray, BeginsWith, HasArray}
use Rattle.toml_items.proofs.Places.{close-insert, new_node-at, top_place, element_place, define_pair, define_array, define_element}

stays : (text : List ℕ) (doc : Document) → GoesOn text doc text doc
stays text doc n room = (n, room, refl)

joined : (a : List ℕ) (first : Document) (b : List ℕ) (second : Document)
    (c : List ℕ) (third : Document) →
    GoesOn a first b second → GoesOn b second c third → GoesOn a first c third
joined a first b second c third front back n room =
    let (m, some, e) = front n room in
    let (k, more, f) = back m some in
    (k, more, e ∙ f)

a_line : (text : List ℕ) (doc : Document) (e : Expression) (rest : List ℕ) (next : Document) →
    IsLine text e rest → define doc e ≡ Some next → GoesOn text doc rest next
a_line text doc e rest next read step n room =
    let shorter = read.shorter in
    let within = skip_within text in
    let other : (length (skip_blank text) == 0) ≡ false = grind (arith, nat_tests) in
    (n - 1, omega arith, lines_more n doc next text e rest (omega arith) other read.is step)

-- The pairs of a table up to a later text.
abbrev pub ReadsPairs : List ℕ → Members → List ℕ → Type 0
ReadsPairs text ms rest = (path : List (List ℕ)) (root_of : Nodes → Nodes) → IsPlace path root_of →
    (ns : Nodes) × (close ns ≡ ms) × GoesOn text (root_of no_nodes, path) rest (root_of ns, path)

pub no_pairs : (text : List ℕ) → ReadsPairs text no_members text
no_pairs text path root_of place = (no_nodes, refl, stays text (root_of no_nodes, path))

pub one_more_pair : (text here rest k : List ℕ) (ms : Members) (d : Data) →
    ReadsPairs text ms here → IsLine here (([], k), key_value d) rest →
    get_member k ms ≡ None → ReadsPairs text (insert_member k d ms) rest
one_more_pair text here rest k ms d reads read none path root_of place =
    let (ns, same, goes) = reads path root_of place in
    let more = insert k (value d) ns in
    let step = define_pair path root_of k d ns place
    (new_node-at k ns (ap (get_member k) same ∙ none)) in
    let next = a_line here (root_of ns, path) (([], k), key_value d) rest
    (root_of more, path) read step in (
      more,
      close-insert k (value d) ns ∙ ap (insert_member k d) same,
      joined text (root_of no_nodes, path) here (root_of ns, path) rest
          (root_of more, path) goes next,
    )

comment_ends : (c next : ℕ) → is_some (skip_turn true true c next) ≡ false →
    is_some (skip_turn true false c next) ≡ false
comment_ends c next stop = grind (arith, nat_tests)

stops_again : (inside : Bool) (c next : ℕ) → is_some (skip_turn true inside c next) ≡ false →
    is_some (skip_turn true false c next) ≡ false
stops_again false c next stop = stop
stops_again true c next stop = comment_ends c next stop

-- What stops the skipping of blanks stops it again.
skip_again : (inside : Bool) (text : List ℕ) →
    skip_blank (skip_from true inside text) ≡ skip_from true inside text
unfolding skip_from
skip_again inside [] = refl
skip_again inside (c ∷ cs) =
    elim (cases_Bool (is_some (skip_turn true inside c (first cs)))) [
      | inl more ↦ rw more (skip_again (unwrap_or (skip_turn true inside c (first cs)) false) cs)
      | inr stop ↦
          rw (stop, stops_again inside c (first cs) stop)
    ]

lines_skipped : (m : ℕ) (doc : Document) (text : List ℕ) →
    lines m doc text ≡ lines m doc (skip_blank text)
unfolding lines
lines_skipped zero doc text = refl
lines_skipped (suc m) doc text = rw (skip_again false text)

-- the pairs, and the blanks behind them
pub table_of_pairs : (path : List (List ℕ)) (text : List ℕ) (ms : Members) (rest : List ℕ) →
    ReadsPairs text ms rest → ReadsTable path text ms (skip_blank rest)
table_of_pairs path text ms rest reads root_of place =
    let (ns, same, goes) = reads path root_of place in (
      ns,
      path,
      same,
      λ n room.
          let (m, some, e) = goes n room in
          let within = skip_within rest in
          (m, omega arith, e ∙ lines_skipped m (root_of ns, path) rest),
    )

pub one_more_array : (path : List (List ℕ)) (text here behind rest k : List ℕ)
    (ms : Members) (items : Items) →
    ReadsTable path text ms here → IsLine here ((path, k), array_table) behind →
    ReadsArray path k behind items rest → get_member k ms ≡ None →
    ReadsTable path text (insert_member k (array items) ms) rest
one_more_array path text here behind rest k ms items reads read elements none root_of place =
    let (ns, section, same, goes) = reads root_of place in
    let (done, last, later, all, further) = elements root_of place ns in
    let begun = root_of (insert k (open_array no_items no_nodes) ns) in
    let more = insert k (open_array done last) ns in
    let step = define_array path root_of k ns section place
    (new_node-at k ns (ap (get_member k) same ∙ none)) in
    let next = a_line here (root_of ns, section) ((path, k), array_table) behind
    (begun, path ++ k ∷ []) read step in
    let front = joined text (root_of no_nodes, path) here (root_of ns, section) behind
    (begun, path ++ k ∷ []) goes next in (
      more,
      later,
      close-insert k (open_array done last) ns ∙ rw (all, same),
      joined text (root_of no_nodes, path) behind (begun, path ++ k ∷ []) rest
          (root_of more, later) front further,
    )

-- The elements of an array before a header of it, from behind the first one to behind that one.
abbrev pub ReadsElements : List (List ℕ) → List ℕ → List ℕ → Items → List ℕ → Type 0
ReadsElements path k text items rest = (root_of : Nodes → Nodes) → IsPlace path root_of →
    (ns : Nodes) → GoesOn text
    (root_of (insert k (open_array no_items no_nodes) ns), path ++ k ∷ [])
    rest
    (root_of (insert k (open_array items no_nodes) ns), path ++ k ∷ [])

pub no_elements : (path : List (List ℕ)) (k text : List ℕ) → ReadsElements path k text no_items text
no_elements path k text root_of place ns =
    stays text (root_of (insert k (open_array no_items no_nodes) ns), path ++ k ∷ [])

pub last_element : (path : List (List ℕ)) (k text here rest : List ℕ)
    (items : Items) (ms : Members) →
    ReadsElements path k text items here → ReadsTable (path ++ k ∷ []) here ms rest →
    ReadsArray path k text (push_item items (table ms)) rest
last_element path k text here rest items ms reads element root_of place ns =
    let inner = λ (x : Nodes). root_of (insert k (open_array items x) ns) in
    let (last, later, same, goes) = element inner (element_place path root_of k items ns place) in
    let begun = root_of (insert k (open_array no_items no_nodes) ns) in (
      items,
      last,
      later,
      ap (λ ms. push_item items (table ms)) same,
      joined text (begun, path ++ k ∷ []) here (inner no_nodes, path ++ k ∷ []) rest
          (inner last, later)
          (reads root_of place ns) goes,
    )

-- behind another header of the array
pub next_element : (path : List (List ℕ)) (k text rest behind : List ℕ) (items : Items) →
    ReadsArray path k text items rest → IsLine rest ((path, k), array_table) behind →
    ReadsElements path k text items behind
next_element path k text rest behind items reads read root_of place ns =
    let (done, last, later, same, goes) = reads root_of place ns in
    let begun = root_of (insert k (open_array no_items no_nodes) ns) in
    let before = root_of (insert k (open_array done last) ns) in
    let after = root_of (insert k (open_array (push_item done (table (close last))) no_nodes) ns) in
    let step = define_element path root_of k done last ns later place in
    let next = a_line rest (before, later) ((path, k), array_table) behind
    (after, path ++ k ∷ []) read step in
    rw (← same)
    (joined text (begun, path ++ k ∷ []) rest (before, later) behind (after, path ++ k ∷ [])
    goes next)

pub one_more_element : (path : List (List ℕ)) (k text here rest behind : List ℕ)
    (items : Items) (ms : Members) →
    ReadsElements path k text items here → ReadsTable (path ++ k ∷ []) here ms rest →
    IsLine rest ((path, k), array_table) behind →
    ReadsElements path k text (push_item items (table ms)) behind
one_more_element path k text here rest behind items ms reads element =
    next_element path k text rest behind (push_item items (table ms))
    (last_element path k text here rest items ms reads element)

without_mark : (text : List ℕ) → (first text == 0xEF) ≡ false → skip_bom text ≡ text
unfolding skip_bom
without_mark text other = rw other

-- A text that the top table takes to its end is a document.
pub whole_document : (text rest : List ℕ) (ms : Members) → (first text == 0xEF) ≡ false →
    ReadsTable [] text ms rest → length (skip_blank rest) ≡ 0 →
    parse_document text ≡ Some ms
whole_document text rest ms other reads ended =
    let (ns, section, same, goes) = reads (λ x. x) top_place in
    let (m, room, e) = goes (suc (length text)) (omega arith) in
    let over = lines_end m (ns, section) rest (omega arith) ended in
    let all : lines (suc (length text)) (no_nodes, []) (skip_bom text) ≡ Some (ns, section) =
    rw (without_mark text other) (e ∙ over) in
    document_some text (ns, section) all ∙ ap Some same

pub begins_with_more : (text here rest k : List ℕ) (ms : Members) (items : Items) →
    BeginsWith text ms here → HasArray here k items rest → get_member k ms ≡ None →
    BeginsWith text (insert_member k (array items) ms) rest
begins_with_more text here rest k ms items begins has none = record {
  unmarked = begins.unmarked;
  reads = one_more_array [] text here has.behind rest k ms items begins.reads has.header has.reads none;
}

pub begun_to_the_end : (text rest : List ℕ) (ms : Members) →
    BeginsWith text ms rest → length (skip_blank rest) ≡ 0 → parse_document text ≡ Some ms
begun_to_the_end text rest ms begins ended =
    whole_document text rest ms begins.unmarked begins.reads ended
