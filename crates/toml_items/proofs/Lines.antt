-- What stands in a plain line, as the grammar of TOML reads it.
use Rattle.std.proofs.Common.{◌≡◌, ℕ, suc, ◌+◌, ◌-◌, IsUtf8, ◌<◌, Bool, true, false, ◌==◌, List, [], ◌∷◌, ◌++◌, codes, length, drop, slice_index, is_some, Option, Some, None, Bor, take, take_at, take-append-drop, append_assoc, length-append, refl, sym, ap, ◌∙◌, inl, inr, arith, append-nil, get_or-drop, drop-drop}
use Rattle.std.proofs.lemmas.Bool.{cases_Bool, false≢true, and_parts}
use Rattle.std.proofs.lemmas.Bool.Decides.{nat_tests}
use Rattle.std.specs.Char.{is_ascii_lowercase}
use Rattle.std.specs.List.{prefix_len, list_all}
use Rattle.toml_parser.specs.Lexical.{first, split_while, skip_turn, skip_from, skip_blank, skip_ws, is_ws, is_bare, is_word}
use Rattle.toml_parser.specs.Strings.{Key, key, simple_key, starts_string, is_plain, special, prepend, quoted, one_line}
use Rattle.toml_parser.specs.Numbers.{unquoted}
use Rattle.toml_parser.specs.declared.scalar.Scalar.{Scalar}
use Rattle.toml_parser.proofs.LexicalLemmas.{skip_ws_none, skip_ws_space, split_while-run, IsCharBoundary-ascii_run, IsCharBoundary-wide_run}
use Rattle.toml_parser.proofs.StringsLemmas.{after_special, body_run, key_after_turn}
use Rattle.toml.specs.Data.{Data, string}
use Rattle.toml.specs.Tables.{key_value, array_table}
use Rattle.toml.specs.Parse.{key_equals, scalar_data, atom, val, header_key, expression, ends_line, line}
use Rattle.std.specs.Str.{IsCharBoundary}
use Rattle.toml_items.specs.Plain.{path_of, is_bare_key, are_bare_keys, dotted, spelling}
use Rattle.toml.proofs.Turns.{keyval_ok, val_atom}

-- a run of bytes in a text ends where a character does
pub bare_boundary : (text : List ℕ) → IsUtf8 text → IsCharBoundary text (prefix_len is_bare text)
bare_boundary text utf8 = IsCharBoundary-ascii_run is_bare text utf8 (λ c e. grind (arith, nat_tests))

-- the bytes of a key, counted from small letters on
wider_len : (p q : ℕ → Bool) → ((c : ℕ) → q c ≡ true → p c ≡ true) → (cs : List ℕ)
    → prefix_len p cs ≡ prefix_len q cs + prefix_len p (drop (prefix_len q cs) cs)
wider_len p q wider [] = refl
wider_len p q wider (c ∷ cs) =
    elim (cases_Bool (q c)) [
      | inl passes ↦
          let more : 1 + prefix_len q cs ≡ suc (prefix_len q cs) = omega arith in
          rw (passes, wider c passes, more) (omega (arith, wider_len p q wider cs))
      | inr fails ↦ rw fails (omega arith)
    ]

pub small_and_more : (text : List ℕ) → prefix_len is_bare text
    ≡ prefix_len is_ascii_lowercase text + prefix_len is_bare (drop (prefix_len is_ascii_lowercase text) text)
small_and_more text = wider_len is_bare is_ascii_lowercase (λ c small. grind (arith, nat_tests)) text

-- a line's end before a byte that is neither blank nor begins a comment
pub after_line_feed : (text : List ℕ) → first text ≡ 10 → 35 < slice_index text 1
    → skip_blank text ≡ drop 1 text
unfolding skip_from
after_line_feed [] feed more = absurd (omega (arith, feed))
after_line_feed (c ∷ []) feed more = absurd (omega (arith, more))
after_line_feed (c ∷ d ∷ ds) feed more =
    let stop : is_some (skip_turn true false d (first ds)) ≡ false = grind (arith, nat_tests) in rw (feed, stop) refl

pub plain_boundary : (text : List ℕ) → IsCharBoundary text (prefix_len (is_plain 34 false) text)
plain_boundary text = IsCharBoundary-wide_run (is_plain 34 false) text (λ c e. grind (arith, nat_tests))

pub skip_ws-one : (text : List ℕ) → is_ws (first text) ≡ true → skip_ws text ≡ skip_ws (drop 1 text)
unfolding skip_ws
skip_ws-one [] ws = absurd (false≢true ws)
skip_ws-one (c ∷ cs) ws =
    let more : 1 + prefix_len is_ws cs ≡ suc (prefix_len is_ws cs) = omega arith in
    rw (ws, more) refl

-- a bare key
pub simple_key-bare : (text : List ℕ) → is_bare (first text) ≡ true → simple_key text ≡ Some (split_while is_bare text)
unfolding simple_key
simple_key-bare text bare =
    let other : starts_string text ≡ false = grind (arith, nat_tests) in
    rw (other, bare)

pub key-one : (text k rest : List ℕ) → simple_key text ≡ Some (k, rest) → (first (skip_ws rest) == 46) ≡ false
    → key text ≡ Some (([], k), skip_ws rest)
key-one text k rest read stop = key_after_turn 80 [] text (omega arith) ∙ rw (read, stop)

-- the keys of a header, at the bracket behind them
keys-one : (text k rest : List ℕ) → simple_key text ≡ Some (k, rest) → first rest ≡ 93
    → key text ≡ Some (([], k), rest)
keys-one text k rest read closed =
    let here : skip_ws rest ≡ rest = skip_ws_none rest (rw closed refl) in
    let stop : (first (skip_ws rest) == 46) ≡ false = rw (here, closed) refl in
    key-one text k rest read stop ∙ rw here refl

keys-two : (text k rest l end : List ℕ) → simple_key text ≡ Some (k, rest) → first rest ≡ 46
    → is_bare (first (drop 1 rest)) ≡ true
    → simple_key (drop 1 rest) ≡ Some (l, end) → first end ≡ 93 → key text ≡ Some ((k ∷ [], l), end)
keys-two text k rest l end read dot bare more closed =
    let here : skip_ws rest ≡ rest = skip_ws_none rest (rw dot refl) in
    let next : skip_ws (drop 1 rest) ≡ drop 1 rest = skip_ws_none (drop 1 rest) (grind (arith, nat_tests)) in
    let at_end : skip_ws end ≡ end = skip_ws_none end (rw closed refl) in
    let found : (first rest == 46) ≡ true = rw dot refl in
    let stop : (first end == 46) ≡ false = rw closed refl in
    key_after_turn 80 [] text (omega arith)
    ∙ rw (read, here, found, next) (key_after_turn 79 (k ∷ []) (drop 1 rest) (omega arith) ∙ rw (more, at_end, stop))

pub key_equals-one : (text k rest : List ℕ) → simple_key text ≡ Some (k, rest) → first (skip_ws rest) ≡ 61
    → key_equals text ≡ Some (([], k), skip_ws (drop 1 (skip_ws rest)))
unfolding key_equals
key_equals-one text k rest read found =
    let stop : (first (skip_ws rest) == 46) ≡ false = rw found refl in
    let equals : (first (skip_ws rest) == 61) ≡ true = rw found refl in
    rw (key-one text k rest read stop, equals)

-- a run of bytes of keys
run_passes : (p : ℕ → Bool) (xs : List ℕ) → list_all p (take (prefix_len p xs) xs) ≡ true
run_passes p [] = refl
run_passes p (c ∷ cs) =
    elim (cases_Bool (p c)) [
      | inl passes ↦
          let more : 1 + prefix_len p cs ≡ suc (prefix_len p cs) = omega arith in
          rw (passes, more) (rw passes (run_passes p cs))
      | inr fails ↦ rw fails refl
    ]

bare_whole : (k : List ℕ) → 0 < length k → list_all is_bare k ≡ true → is_bare_key k ≡ true
bare_whole [] some all = absurd (omega (arith, some))
bare_whole (c ∷ k) some all = all

bare_run_of : (k : List ℕ) → is_bare_key k ≡ true → list_all is_bare k ≡ true
bare_run_of [] bare = refl
bare_run_of (c ∷ k) bare = bare

some_run : (text : List ℕ) → is_bare (first text) ≡ true → 0 < length (take (prefix_len is_bare text) text)
some_run [] bare = absurd (false≢true bare)
some_run (c ∷ cs) bare =
    let more : 1 + prefix_len is_bare cs ≡ suc (prefix_len is_bare cs) = omega arith in
    rw (bare, more) (omega arith)

pub bare_run : (text k rest : List ℕ) → (k, rest) ≡ split_while is_bare text → is_bare (first text) ≡ true
    → (is_bare_key k ≡ true) × (text ≡ k ++ rest)
bare_run text k rest parts bare =
    let front : k ≡ take (prefix_len is_bare text) text = ap (λ q. q.0) parts in
    let back : rest ≡ drop (prefix_len is_bare text) text = ap (λ q. q.1) parts in
    rw (front, back) (
      bare_whole (take (prefix_len is_bare text) text) (some_run text bare) (run_passes is_bare text),
      sym (take-append-drop (prefix_len is_bare text) text),
    )

bare_front : (k rest : List ℕ) → is_bare_key k ≡ true → is_bare (first (k ++ rest)) ≡ true
bare_front [] rest bare = absurd (false≢true bare)
bare_front (c ∷ k) rest bare =
    (and_parts (is_bare c) (list_all is_bare k) (bare_run_of (c ∷ k) bare)).0

simple_key-run : (k rest : List ℕ) → is_bare_key k ≡ true → is_bare (first rest) ≡ false
    → simple_key (k ++ rest) ≡ Some (k, rest)
simple_key-run k rest bare stop =
    simple_key-bare (k ++ rest) (bare_front k rest bare)
    ∙ ap Some (split_while-run is_bare k rest (bare_run_of k bare) stop)

-- a key and an equals sign with a space on each side
key_equals-spaced : (k value : List ℕ) → is_bare_key k ≡ true → is_ws (first value) ≡ false
    → key_equals (k ++ (codes " = " ++ value)) ≡ Some (([], k), value)
key_equals-spaced k value bare stop =
    let behind : List ℕ = codes " = " ++ value in
    let at_equals : skip_ws behind ≡ codes "= " ++ value
    = skip_ws_space (codes "= " ++ value) ∙ skip_ws_none (codes "= " ++ value) refl in
    let at_value : skip_ws (codes " " ++ value) ≡ value = skip_ws_space value ∙ skip_ws_none value stop in
    key_equals-one (k ++ behind) k behind (simple_key-run k behind bare refl) (rw at_equals refl)
    ∙ rw (at_equals, at_value) refl

-- a string of plain bytes
some_plain : (p : ℕ → Bool) (text content end : List ℕ) → (content, end) ≡ split_while p text → 0 < length content
    → p (first text) ≡ true
some_plain p [] content end parts some = absurd (omega (arith, ap (λ q. length q.0) parts))
some_plain p (c ∷ cs) content end parts some =
    elim (cases_Bool (p c)) [
      | inl plain ↦ plain
      | inr other ↦
          let none : length content ≡ length (split_while p (c ∷ cs)).0 = ap (λ q. length q.0) parts in
          let empty = rw other at none in
          absurd (omega arith)
    ]

closed-string : (m : ℕ) (content end : List ℕ) → (first end == 34) ≡ true
    → prepend content (after_special 34 false m end) ≡ Some (content, drop 1 end)
unfolding special
closed-string m content end closed = rw (closed, append-nil content)

quoted-run : (text content end : List ℕ) → (content, end) ≡ split_while (is_plain 34 false) text → 0 < length content
    → (first end == 34) ≡ true → quoted (34 ∷ text) ≡ Some (content, drop 1 end)
unfolding quoted one_line
quoted-run text content end parts some closed =
    let plain = some_plain (is_plain 34 false) text content end parts some in
    let other : (first text == 34) ≡ false = grind (arith, nat_tests) in
    let (m, room, run) = body_run 34 false text (length (34 ∷ text)) (omega arith) in
    let front : content ≡ (split_while (is_plain 34 false) text).0 = ap (λ q. q.0) parts in
    let back : end ≡ (split_while (is_plain 34 false) text).1 = ap (λ q. q.1) parts in
    rw other (run ∙ rw (← front, ← back) (closed-string m content end closed))

pub quoted-plain : (text content end : List ℕ) → first text ≡ 34
    → (content, end) ≡ split_while (is_plain 34 false) (drop 1 text)
    → 0 < length content → first end ≡ 34 → quoted text ≡ Some (content, drop 1 end)
quoted-plain [] content end quote parts some closed = absurd (omega (arith, quote))
quoted-plain (c ∷ cs) content end quote parts some closed =
    rw quote (quoted-run cs content end parts some (rw closed refl))

pub val-text : (text content rest : List ℕ) → first text ≡ 34 → quoted text ≡ Some (content, rest)
    → val 80 text ≡ Some (string content, rest)
unfolding atom
val-text text content rest quote read =
    rw (val_atom 80 text (rw quote refl) (rw quote refl)) (rw (quote, read))

pub val-word : (text : List ℕ) (x : Scalar) (rest : List ℕ) → is_word (first text) ≡ true
    → unquoted text ≡ Some (x, rest) → val 80 text ≡ Some (scalar_data x, rest)
unfolding atom
val-word text x rest word read =
    let other : starts_string text ≡ false = grind (arith, nat_tests) in
    rw (val_atom 80 text (grind (arith, nat_tests)) (grind (arith, nat_tests)), other, read)

pub line-pair : (text k at_value : List ℕ) (d : Data) (rest : List ℕ) → is_bare (first text) ≡ true
    → key_equals text ≡ Some (([], k), at_value)
    → val 80 at_value ≡ Some (d, rest) → ends_line (skip_ws rest) ≡ true
    → line text ≡ Some ((([], k), key_value d), rest)
unfolding line expression
line-pair text k at_value d rest bare read value ends =
    let other : (first text == 91) ≡ false = grind (arith, nat_tests) in
    rw (other, keyval_ok (val 80) text at_value rest ([], k) d read value, ends)

pub line-spaced : (text k value : List ℕ) (d : Data) (rest : List ℕ) → text ≡ k ++ (codes " = " ++ value)
    → is_bare_key k ≡ true → is_ws (first value) ≡ false
    → val 80 value ≡ Some (d, rest) → ends_line (skip_ws rest) ≡ true
    → line text ≡ Some ((([], k), key_value d), rest)
line-spaced text k value d rest is bare stop read ends =
    ap line is
    ∙ line-pair (k ++ (codes " = " ++ value)) k value d rest (bare_front k (codes " = " ++ value) bare)
    (key_equals-spaced k value bare stop) read ends

line-array : (text : List ℕ) (k : Key) (rest : List ℕ) → first text ≡ 91 → slice_index text 1 ≡ 91
    → is_bare (first (drop 2 text)) ≡ true → key (drop 2 text) ≡ Some (k, rest) → first rest ≡ 93
    → slice_index rest 1 ≡ 93
    → ends_line (skip_ws (drop 2 rest)) ≡ true → line text ≡ Some ((k, array_table), drop 2 rest)
unfolding line expression header_key
line-array text k rest one two bare read close_one close_two ends =
    let not_ws : is_ws (first (drop 2 text)) ≡ false = grind (arith, nat_tests) in
    let open_one : (first text == 91) ≡ true = rw one refl in
    let open_two : (slice_index text 1 == 91) ≡ true = rw two refl in
    let closed : (first rest == 93) ≡ true = rw close_one refl in
    let next : first (drop 1 rest) ≡ slice_index rest 1 = get_or-drop 1 rest 0 0 in
    let closed_again : (first (drop 1 rest) == 93) ≡ true = rw (next, close_two) refl in
    let behind : drop 1 (drop 1 rest) ≡ drop 2 rest = drop-drop 1 1 rest in
    rw (open_one, open_two, skip_ws_none (drop 2 text) not_ws, read, closed, closed_again, behind, ends)

-- a header of bare keys, whatever line end stands behind it
header_line : (parent : Option (Bor (List ℕ))) (k behind : List ℕ) → are_bare_keys parent k ≡ true
    → ends_line (skip_ws behind) ≡ true
    → line (91 ∷ 91 ∷ (dotted parent k ++ 93 ∷ 93 ∷ behind)) ≡ Some (((path_of parent, k), array_table), behind)
header_line None k behind bare ends =
    let end : List ℕ = 93 ∷ 93 ∷ behind in
    line-array (91 ∷ 91 ∷ (k ++ end)) ([], k) end refl refl (bare_front k end bare)
    (keys-one (k ++ end) k end (simple_key-run k end bare refl) refl) refl refl ends
header_line (Some parent) k behind bare ends =
    let end : List ℕ = 93 ∷ 93 ∷ behind in
    let second : List ℕ = 46 ∷ (k ++ end) in
    let (first_bare, bare_key) = and_parts (is_bare_key parent.now) (is_bare_key k) bare in
    rw (append_assoc parent.now (46 ∷ k) end)
    (line-array (91 ∷ 91 ∷ (parent.now ++ second)) (parent.now ∷ [], k) end refl refl
    (bare_front parent.now second first_bare)
    (keys-two (parent.now ++ second) parent.now second k end (simple_key-run parent.now second first_bare refl) refl
    (bare_front k end bare_key) (simple_key-run k end bare_key refl) refl) refl refl ends)

two_first : (text : List ℕ) (b : ℕ) → 0 < b → first text ≡ b → slice_index text 1 ≡ b → text ≡ b ∷ b ∷ drop 2 text
two_first [] b some one two = absurd (omega (arith, one))
two_first (c ∷ []) b some one two = absurd (omega (arith, two))
two_first (c ∷ d ∷ ds) b some one two = rw (one, two) refl

pub spelled_line : (parent : Option (Bor (List ℕ))) (k text spelled rest : List ℕ) → are_bare_keys parent k ≡ true
    → spelled ≡ spelling parent k → text ≡ spelled ++ rest → ends_line (skip_ws rest) ≡ true
    → line text ≡ Some (((path_of parent, k), array_table), rest)
spelled_line parent k text spelled rest bare is all ends =
    rw (all, is, append_assoc (dotted parent k) (93 ∷ 93 ∷ []) rest) (header_line parent k rest bare ends)

pub behind_header : (parent : Option (Bor (List ℕ))) (k text spelled rest : List ℕ) → spelled ≡ spelling parent k
    → text ≡ spelled ++ rest → length rest < length text
behind_header parent k text spelled rest is all =
    omega (arith, ap length is, ap length all, length-append spelled rest)

pub header_front : (parent : Option (Bor (List ℕ))) (k text end rest : List ℕ)
    → first text ≡ 91 → slice_index text 1 ≡ 91 → drop 2 text ≡ dotted parent k ++ end
    → first end ≡ 93 → slice_index end 1 ≡ 93 → rest ≡ drop 2 end → text ≡ spelling parent k ++ rest
header_front parent k text end rest open_one open_two inner close_one close_two behind =
    let closed : end ≡ 93 ∷ 93 ∷ rest = rw behind (two_first end 93 (omega arith) close_one close_two) in
    two_first text 91 (omega arith) open_one open_two
    ∙ ap (λ (s : List ℕ). 91 ∷ 91 ∷ s) (inner ∙ ap (λ (s : List ℕ). dotted parent k ++ s) closed
    ∙ sym (append_assoc (dotted parent k) (93 ∷ 93 ∷ []) rest))

pub front_of : (text head rest : List ℕ) → text ≡ head ++ rest → take (length text - length rest) text ≡ head
front_of text head rest all =
    let long : length head ≡ length text - length rest = omega (arith, ap length all, length-append head rest) in
    ap (λ (s : List ℕ). take (length text - length rest) s) all ∙ take_at head rest _ long
