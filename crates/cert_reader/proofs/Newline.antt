-- A newline behind a printed JSON text leaves its tokens.
use Rattle.std.proofs.Common.{◌≡◌, ℕ, Bool, true, false, cond, ◌&&◌, List, [], ◌∷◌, ◌++◌, refl, sym, ap, ap₂, ◌∙◌, append_assoc}
use Rattle.json.specs.Token.{Token, begin_object, end_object, begin_array, end_array, key, string, number, boolean, null, bad}
use Rattle.json.specs.Word.{ends_word, word}
use Rattle.json.specs.Lex.{token, comma, colon, string_token, lex, between, fresh, punctuate, tokens}
use Rattle.json.specs.Print.{escape, quoted, token_text, begins, ends, print_from, print, IsPrintable, ArePrintable}
use Rattle.json.proofs.Printed.Strings.{content-escape, lex-escape}
use Rattle.json.proofs.Printed.Numbers.{lex-number, in_word-ended}
use Rattle.json.proofs.Printed.Tokens.{tokens-print}

-- after a value stands a comma, a closing bracket, a newline or nothing
value_ends : (ts : List Token) → ends_word (print_from true ts) ≡ true
unfolding print_from
value_ends [] = refl
value_ends (begin_object ∷ ts) = refl
value_ends (end_object ∷ ts) = refl
value_ends (begin_array ∷ ts) = refl
value_ends (end_array ∷ ts) = refl
value_ends (key s ∷ ts) = refl
value_ends (string s ∷ ts) = refl
value_ends (number s ∷ ts) = refl
value_ends (boolean b ∷ ts) = refl
value_ends (null ∷ ts) = refl
value_ends (bad ∷ ts) = refl

ends_before : (r : List ℕ) → ends_word r ≡ true → ends_word (r ++ 10 ∷ []) ≡ true
ends_before [] e = refl
ends_before (x ∷ r) e = e

lex_quoted : (s r : List ℕ) → lex between (quoted s ++ r) ≡ token (string s) ∷ lex between r
unfolding lex
lex_quoted s r =
    let e = append_assoc (escape s) (34 ∷ []) r in
    ap (λ l. lex between (34 ∷ l)) e ∙ ap₂ (λ o l. token (string_token o) ∷ l) (content-escape s r) (lex-escape s r)

-- what is read behind a token is read where it stands
record SameBehind (t : Token) (r u : List ℕ) : Type 0 where
  lexes : lex between r ≡ lex between u
  left : ends t ≡ true → ends_word r ≡ true
  right : ends t ≡ true → ends_word u ≡ true

token_same : (t : Token) (r u : List ℕ) → IsPrintable t → SameBehind t r u
    → lex between (token_text t ++ r) ≡ lex between (token_text t ++ u)
unfolding lex word
token_same begin_object r u h s = ap (λ l. token begin_object ∷ l) s.lexes
token_same end_object r u h s = ap (λ l. token end_object ∷ l) s.lexes
token_same begin_array r u h s = ap (λ l. token begin_array ∷ l) s.lexes
token_same end_array r u h s = ap (λ l. token end_array ∷ l) s.lexes
token_same (key k) r u h s =
    ap (lex between) (append_assoc (quoted k) (58 ∷ []) r) ∙ lex_quoted k (58 ∷ r)
    ∙ ap (λ l. token (string k) ∷ colon ∷ l) s.lexes
    ∙ sym (ap (lex between) (append_assoc (quoted k) (58 ∷ []) u) ∙ lex_quoted k (58 ∷ u))
token_same (string k) r u h s = lex_quoted k r ∙ ap (λ l. token (string k) ∷ l) s.lexes ∙ sym (lex_quoted k u)
token_same (number n) r u h s =
    lex-number n r h (s.left refl) ∙ ap (λ l. token (number n) ∷ l) s.lexes ∙ sym (lex-number n u h (s.right refl))
token_same (boolean true) r u h s =
    ap₂ (λ b l. token (cond b (boolean true) bad) ∷ l) (s.left refl) (in_word-ended r (s.left refl))
    ∙ ap (λ l. token (boolean true) ∷ l) s.lexes
    ∙ sym (ap₂ (λ b l. token (cond b (boolean true) bad) ∷ l) (s.right refl) (in_word-ended u (s.right refl)))
token_same (boolean false) r u h s =
    ap₂ (λ b l. token (cond b (boolean false) bad) ∷ l) (s.left refl) (in_word-ended r (s.left refl))
    ∙ ap (λ l. token (boolean false) ∷ l) s.lexes
    ∙ sym (ap₂ (λ b l. token (cond b (boolean false) bad) ∷ l) (s.right refl) (in_word-ended u (s.right refl)))
token_same null r u h s =
    ap₂ (λ b l. token (cond b null bad) ∷ l) (s.left refl) (in_word-ended r (s.left refl))
    ∙ ap (λ l. token null ∷ l) s.lexes
    ∙ sym (ap₂ (λ b l. token (cond b null bad) ∷ l) (s.right refl) (in_word-ended u (s.right refl)))
token_same bad r u h s = absurd h

separator_same : (b : Bool) (r u : List ℕ) → lex between r ≡ lex between u
    → lex between (cond b (44 ∷ []) [] ++ r) ≡ lex between (cond b (44 ∷ []) [] ++ u)
unfolding lex
separator_same true r u e = ap (λ l. comma ∷ l) e
separator_same false r u e = e

same_print : (c : Bool) (ts : List Token) → ArePrintable ts
    → lex between (print_from c ts ++ 10 ∷ []) ≡ lex between (print_from c ts)
unfolding lex print_from ArePrintable
same_print c [] h = refl
same_print c (t ∷ ts) h =
    let rest : List ℕ = print_from (ends t) ts in
    let sep : List ℕ = cond (c && begins t) (44 ∷ []) [] in
    ap (lex between) (append_assoc sep (token_text t ++ rest) (10 ∷ [])
    ∙ ap (λ l. sep ++ l) (append_assoc (token_text t) rest (10 ∷ [])))
    ∙ separator_same (c && begins t) (token_text t ++ (rest ++ 10 ∷ [])) (token_text t ++ rest)
    (token_same t (rest ++ 10 ∷ []) rest h.0 (record {
      lexes = same_print (ends t) ts h.1;
      left = λ e. ends_before rest (ap (λ b. ends_word (print_from b ts)) e ∙ value_ends ts);
      right = λ e. ap (λ b. ends_word (print_from b ts)) e ∙ value_ends ts;
    }))

-- the round trip of tokens, with a newline behind them
pub tokens_newline : (ts : List Token) → ArePrintable ts → tokens (print ts ++ 10 ∷ []) ≡ ts
tokens_newline ts h = ap (punctuate fresh) (same_print false ts h) ∙ tokens-print ts h
