-- The records of whole lines of a plain text, and those of what comes behind these lines.
use Rattle.std.proofs.Common.{◌≡◌, ◌==◌, ◌<◌, ◌≤◌, ◌+◌, ℕ, zero, suc, false, List, [], ◌∷◌, ◌++◌, length, take, drop, get_or, Option, Some, None, refl, sym, ◌∙◌, ap, subst, arith, inl, inr}
use Rattle.std.proofs.lemmas.Bool.{cases_Bool, eqb-true}
use Rattle.csv.specs.Machine.{Read, next_record, ends_at_end}
use Rattle.csv.specs.Reading.{default_config, records, records_from, records_next}
use Rattle.csv.specs.declared.parser.State.{State}
use Rattle.csv.specs.declared.parser.State.TheVariants as st
use Rattle.csv_rows.specs.PlainText.{IsPlainText}
use Rattle.csv_rows.specs.Reading.{records_of}
use Rattle.csv_rows.proofs.Consuming.{between_records, shorter}
use Rattle.csv_rows.proofs.Splitting.{left_is, left_of, read_on, no_mark, on_blank, on_comma, on_line, on_other}

-- a plain text that is empty or ends with a line feed
abbrev pub AreLines : List ℕ → Type 0
AreLines [] = Unit {0}
AreLines (c ∷ []) = c ≡ 10
AreLines (c ∷ d ∷ rest) = ((c == 34) ≡ false) × ((c == 13) ≡ false) × AreLines (d ∷ rest)

-- as many turns as there are bytes are enough for all records
same_next : (n k : ℕ) (o : Option Read)
    → ((p : Read) → o ≡ Some p → records_from default_config n p.1 p.2 ≡ records_from default_config k p.1 p.2)
    → records_next (records_from default_config n) o ≡ records_next (records_from default_config k) o
same_next n k None same = refl
same_next n k (Some p) same = ap (λ (z : List (List (List ℕ))). p.0 ∷ z) (same p refl)

enough : (n k : ℕ) (s : State) (xs : List ℕ) → ends_at_end s ≡ false → length xs < n → length xs < k
    → records_from default_config n s xs ≡ records_from default_config k s xs
unfolding records_from
enough zero k s xs between a b = absurd (omega (arith, a))
enough (suc n) zero s xs between a b = absurd (omega (arith, b))
enough (suc n) (suc k) s xs between a b =
    same_next n k (next_record default_config s [] [] xs)
    (λ p e. let short = shorter default_config s [] [] xs p between e in
    enough n k p.1 p.2 (between_records s [] [] xs p e) (omega (arith, short, a)) (omega (arith, short, b)))

-- the records from the middle of one on, behind these fields and this front of a field
abbrev from_here : ℕ → List (List ℕ) → List ℕ → List ℕ → List (List (List ℕ))
from_here n fields field xs = records_next (records_from default_config n) (read_on fields field xs)

here_is : (n : ℕ) (xs : List ℕ) → from_here n [] [] xs ≡ records_from default_config (suc n) st.StartRecord xs
unfolding records_from
here_is n xs = refl

enough_here : (n k : ℕ) (xs : List ℕ) → length xs ≤ n → length xs ≤ k → from_here n [] [] xs ≡ from_here k [] [] xs
enough_here n k xs a b =
    here_is n xs
    ∙ (enough (suc n) (suc k) st.StartRecord xs refl (omega (arith, a)) (omega (arith, b)) ∙ sym (here_is k xs))

none_here : (n : ℕ) → from_here n [] [] [] ≡ []
unfolding next_record
none_here n = refl

-- a line behind which the records are those of two parts
abbrev Parts : List ℕ → List ℕ → ℕ → Type 0
Parts cs ys k =
    (n m : ℕ) → length (cs ++ ys) ≤ n → length cs ≤ m
    → from_here n [] [] (cs ++ ys) ≡ from_here m [] [] cs ++ from_here k [] [] ys

ended : (fields : List (List ℕ)) (field u : List ℕ) (n : ℕ) → (length field ≡ 0 → length fields ≡ 0 → ⊥)
    → from_here (suc n) fields field (10 ∷ u) ≡ (fields ++ field ∷ []) ∷ from_here n [] [] u
ended fields field u n some =
    ap (records_next (records_from default_config (suc n))) (on_line fields field u some)
    ∙ ap (λ (z : List (List (List ℕ))). (fields ++ field ∷ []) ∷ z) (sym (here_is n u))

line_some : (fields : List (List ℕ)) (field cs ys : List ℕ) (n m k : ℕ)
    → (length field ≡ 0 → length fields ≡ 0 → ⊥) → length (cs ++ ys) < suc n → length cs < suc m → Parts cs ys k
    → from_here (suc n) fields field (10 ∷ (cs ++ ys))
    ≡ from_here (suc m) fields field (10 ∷ cs) ++ from_here k [] [] ys
line_some fields field cs ys n m k some a b parts =
    ended fields field (cs ++ ys) n some
    ∙ (ap (λ (z : List (List (List ℕ))). (fields ++ field ∷ []) ∷ z) (parts n m (omega (arith, a)) (omega (arith, b)))
    ∙ ap (λ (z : List (List (List ℕ))). z ++ from_here k [] [] ys) (sym (ended fields field cs m some)))

line_blank : (cs ys : List ℕ) (n m k : ℕ) → length (cs ++ ys) < n → length cs < m → Parts cs ys k
    → from_here n [] [] (10 ∷ (cs ++ ys)) ≡ from_here m [] [] (10 ∷ cs) ++ from_here k [] [] ys
line_blank cs ys n m k a b parts =
    ap (records_next (records_from default_config n)) (on_blank (cs ++ ys))
    ∙ (parts n m (omega (arith, a)) (omega (arith, b))
    ∙ ap (λ (z : List (List (List ℕ))). z ++ from_here k [] [] ys)
    (sym (ap (records_next (records_from default_config m)) (on_blank cs))))

line_end : (fields : List (List ℕ)) (field cs ys : List ℕ) (n m k : ℕ) → length (cs ++ ys) < n → length cs < m
    → Parts cs ys k
    → from_here n fields field (10 ∷ (cs ++ ys)) ≡ from_here m fields field (10 ∷ cs) ++ from_here k [] [] ys
line_end fields field cs ys zero m k a b parts = absurd (omega (arith, a))
line_end fields field cs ys (suc n) zero k a b parts = absurd (omega (arith, b))
line_end [] [] cs ys (suc n) (suc m) k a b parts = line_blank cs ys (suc n) (suc m) k a b parts
line_end [] (x ∷ field) cs ys (suc n) (suc m) k a b parts =
    line_some [] (x ∷ field) cs ys n m k (λ e _. absurd (omega (arith, e))) a b parts
line_end (f ∷ fields) field cs ys (suc n) (suc m) k a b parts =
    line_some (f ∷ fields) field cs ys n m k (λ _ e. absurd (omega (arith, e))) a b parts

lines_from : (c : ℕ) (cs ys : List ℕ) (fields : List (List ℕ)) (field : List ℕ) (n m k : ℕ) → AreLines (c ∷ cs)
    → length (cs ++ ys) < n → length cs < m → length ys ≤ k
    → from_here n fields field (c ∷ (cs ++ ys)) ≡ from_here m fields field (c ∷ cs) ++ from_here k [] [] ys
lines_from c [] ys fields field n m k h a b l =
    rw h (line_end fields field [] ys n m k a b (λ x y low _. enough_here x k ys low l
    ∙ ap (λ (z : List (List (List ℕ))). z ++ from_here k [] [] ys) (sym (none_here y))))
lines_from c (d ∷ ds) ys fields field n m k h a b l = elim (cases_Bool (c == 44)) [
  | inl comma ↦
      let is : c ≡ 44 = eqb-true c 44 comma in
      rw is (ap (records_next (records_from default_config n)) (on_comma fields field (d ∷ (ds ++ ys)))
      ∙ (lines_from d ds ys (fields ++ field ∷ []) [] n m k h.2 (omega (arith, a)) (omega (arith, b)) l
      ∙ ap (λ (z : List (List (List ℕ))). z ++ from_here k [] [] ys)
      (sym (ap (records_next (records_from default_config m)) (on_comma fields field (d ∷ ds))))))
  | inr no_comma ↦ elim (cases_Bool (c == 10)) [
    | inl line ↦
        let is : c ≡ 10 = eqb-true c 10 line in
        rw is (line_end fields field (d ∷ ds) ys n m k a b
        (λ x y low high. lines_from d ds ys [] [] x y k h.2 (omega (arith, low)) (omega (arith, high)) l))
    | inr no_line ↦
        ap (records_next (records_from default_config n))
        (on_other fields field c (d ∷ (ds ++ ys)) h.0 h.1 no_comma no_line)
        ∙ (lines_from d ds ys fields (field ++ c ∷ []) n m k h.2 (omega (arith, a)) (omega (arith, b)) l
        ∙ ap (λ (z : List (List (List ℕ))). z ++ from_here k [] [] ys)
        (sym (ap (records_next (records_from default_config m))
        (on_other fields field c (d ∷ ds) h.0 h.1 no_comma no_line))))
  ]
]

records_here : (n : ℕ) (xs : List ℕ) → length xs ≤ n → records default_config xs ≡ from_here n [] [] xs
records_here n xs l =
    enough (length xs + 1) (suc n) st.StartRecord xs refl (omega arith) (omega (arith, l)) ∙ sym (here_is n xs)

pub seam : (front ys : List ℕ) → AreLines front
    → records default_config (front ++ ys) ≡ records default_config front ++ records default_config ys
seam [] ys h =
    ap (λ (z : List (List (List ℕ))). z ++ records default_config ys)
    (sym (records_here 0 [] (omega arith) ∙ none_here 0))
seam (c ∷ cs) ys h =
    records_here (suc (length (cs ++ ys))) (c ∷ (cs ++ ys)) (omega arith)
    ∙ (lines_from c cs ys [] [] (suc (length (cs ++ ys))) (suc (length cs)) (length ys) h (omega arith) (omega arith)
    (omega arith)
    ∙ (ap (λ (z : List (List (List ℕ))). z ++ from_here (length ys) [] [] ys)
    (sym (records_here (suc (length cs)) (c ∷ cs) (omega arith)))
    ∙ ap (λ (z : List (List (List ℕ))). records default_config (c ∷ cs) ++ z)
    (sym (records_here (length ys) ys (omega arith)))))

-- a line feed at the front of a text says nothing but that no mark stands there
pub fed : (xs : List ℕ) → records_of (10 ∷ xs) ≡ records default_config xs
unfolding next_record
fed xs =
    ap (records default_config) (no_mark (10 ∷ xs) (inr refl))
    ∙ (seam (10 ∷ []) xs refl
    ∙ ap (λ (z : List (List (List ℕ))). z ++ records default_config xs)
    (records_here 1 (10 ∷ []) (omega arith)))

-- the front of a plain text up to a line feed, also behind another plain text
tail_plain : (c : ℕ) (cs : List ℕ) → IsPlainText (c ∷ cs) → IsPlainText cs
tail_plain c cs plain i l = plain (suc i) (omega (arith, l))

lines_take : (xs : List ℕ) (i n : ℕ) → n ≡ suc i → IsPlainText xs → i < length xs → get_or xs i 0 ≡ 10
    → AreLines (take n xs)
lines_take [] i n is plain l e = absurd (omega (arith, l))
lines_take (c ∷ cs) zero n is plain l e = rw is e
lines_take (c ∷ []) (suc i) n is plain l e = absurd (omega (arith, l))
lines_take (c ∷ d ∷ ds) (suc i) n is plain l e =
    let here = plain 0 (omega arith) in
    rw is (here.0, here.1, lines_take (d ∷ ds) i (suc i) refl (tail_plain c (d ∷ ds) plain) (omega (arith, l)) e)

pub lines_upto : (a xs : List ℕ) (i n : ℕ) → n ≡ suc i → IsPlainText a → IsPlainText xs → i < length xs
    → get_or xs i 0 ≡ 10 → AreLines (a ++ take n xs)
lines_upto [] xs i n is first plain l e = lines_take xs i n is plain l e
lines_upto (c ∷ []) [] i n is first plain l e = absurd (omega (arith, l))
lines_upto (c ∷ []) (x ∷ xs) i n is first plain l e =
    let here = first 0 (omega arith) in
    rw is (here.0, here.1, lines_take (x ∷ xs) i (suc i) refl plain l e)
lines_upto (c ∷ d ∷ ds) xs i n is first plain l e =
    let here = first 0 (omega arith) in
    (here.0, here.1, lines_upto (d ∷ ds) xs i n is (tail_plain c (d ∷ ds) first) plain l e)

-- parts of plain texts are plain
pub plain_append : (a b : List ℕ) → IsPlainText a → IsPlainText b → IsPlainText (a ++ b)
plain_append [] b first plain i l = plain i l
plain_append (c ∷ cs) b first plain zero l = first 0 (omega arith)
plain_append (c ∷ cs) b first plain (suc i) l = plain_append cs b (tail_plain c cs first) plain i (omega (arith, l))

plain_drop : (n : ℕ) (xs : List ℕ) → IsPlainText xs → IsPlainText (drop n xs)
plain_drop zero xs plain = plain
plain_drop (suc n) [] plain = plain
plain_drop (suc n) (c ∷ cs) plain = plain_drop n cs (tail_plain c cs plain)

pub plain_left : (xs : List ℕ) (n : ℕ) → IsPlainText xs → IsPlainText (left_of xs n)
plain_left xs n plain = subst IsPlainText (left_is xs n) (plain_drop n xs plain)

-- and a line feed alone
pub only_line : IsPlainText (10 ∷ [])
only_line zero l = (refl, refl)
only_line (suc i) l = absurd (omega (arith, l))
