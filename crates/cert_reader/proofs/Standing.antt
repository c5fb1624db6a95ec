-- Pieces of text that stand one behind another, and lists of them.
use Rattle.std.proofs.Common.{◌≡◌, ℕ, suc, ◌+◌, ◌-◌, ◌*◌, ◌/◌, ◌%◌, ◌^◌, ◌<◌, ◌≤◌, List, [], ◌∷◌, ◌++◌, length, drop, get_or, refl, sym, ap, ◌∙◌, subst, arith, inl, inr, append_assoc, append-nil}
use Rattle.std.proofs.Math.Nat.{pow-le-pow_right}
use Rattle.std.specs.Prelude.{decimal, codes, Ok}
use Rattle.std.proofs.lemmas.Bool.{cases_lt}
use Rattle.std.proofs.lemmas.Fmt.{decimal_step_wide}
use Rattle.std.proofs.lemmas.List.{drop-drop, drop_all, get_or_append_left, get_or_push, length_push}
use Rattle.tree_model.specs.CertificateView.{NodeView}
use Rattle.cert_reader.specs.CertificateFile.{certificate_of}
use Rattle.cert_reader.specs.Printed.{AreInRange}
use Rattle.cert_reader.specs.Text.{behind, listed, node_text}
use Rattle.cert_reader.specs.inner.Text.{Stands}
use Rattle.cert_reader.proofs.Pieces.{certificate_same}
use Rattle.cert_reader.proofs.TextBack.{text_spells}

pub stands_here : (bytes : List ℕ) (at : ℕ) → Stands bytes at at []
stands_here bytes at = record { ahead = omega arith; reads = refl }

pub stands_then : (bytes : List ℕ) (a b c : ℕ) (s t : List ℕ) → Stands bytes a b s → Stands bytes b c t
    → Stands bytes a c (s ++ t)
stands_then bytes a b c s t first next = record {
  ahead = omega (arith, first.ahead, next.ahead);
  reads = first.reads ∙ (ap (λ (rest : List ℕ). s ++ rest) next.reads ∙ sym (append_assoc s t (drop c bytes)));
}

-- a word that was taken from the front of what stands at a place
pub word_stands : (bytes : List ℕ) (at to : ℕ) (word rest : List ℕ) → at ≤ length bytes
    → rest ≡ drop (length word) (drop at bytes) → drop at bytes ≡ word ++ rest
    → length rest + length word + at ≡ length bytes → to ≡ length bytes - length rest → Stands bytes at to word
word_stands bytes at to word rest within is split long to_is =
    let same : at + length word ≡ to = omega arith in
    record {
      ahead = omega arith;
      reads =
          split
          ∙ ap (λ (s : List ℕ). word ++ s)
          (is ∙ (drop-drop (length word) at bytes ∙ ap (λ (n : ℕ). drop n bytes) same));
    }

-- a digit more
pub digit_more : (bytes : List ℕ) (at to number digit : ℕ) → 1 ≤ number → digit < 10 → 10 * number + digit < 10 ^ 64
    → Stands bytes at to (decimal number) → Stands bytes to (to + 1) ((48 + digit) ∷ [])
    → Stands bytes at (to + 1) (decimal (10 * number + digit))
digit_more bytes at to number digit some small fits before here =
    let n : ℕ = 10 * number + digit in
    let front : n / 10 ≡ number = omega arith in
    let last : n % 10 ≡ digit = omega arith in
    let same : decimal n ≡ decimal number ++ ((48 + digit) ∷ [])
    = decimal_step_wide n (omega arith) fits
    ∙ (ap (λ (m : ℕ). decimal m ++ ((48 + n % 10) ∷ [])) front
    ∙ ap (λ (d : ℕ). decimal number ++ ((48 + d) ∷ [])) last) in
    subst (λ (text : List ℕ). Stands bytes at (to + 1) text) (sym same)
    (stands_then bytes at to (to + 1) (decimal number) ((48 + digit) ∷ []) before here)

-- a number of so many digits with a digit more
pub more_fits : (number digit k : ℕ) → number < 10 ^ k → digit < 10 → k ≤ 18 → 10 * number + digit < 2 ^ 64
more_fits number digit k below small few = omega (arith, pow-le-pow_right {n = 10} (omega arith) few)

-- elements with a comma behind each
abbrev pub opened : {A : Type 0} → (A → List ℕ) → List A → List ℕ
opened text [] = []
opened text (x ∷ xs) = text x ++ 44 ∷ opened text xs

opened_more : {A : Type 0} (text : A → List ℕ) (xs : List A) (x : A)
    → opened text xs ++ (text x ++ 44 ∷ []) ≡ opened text (xs ++ x ∷ [])
opened_more text [] x = refl
opened_more text (y ∷ xs) x =
    append_assoc (text y) (44 ∷ opened text xs) (text x ++ 44 ∷ [])
    ∙ ap (λ (s : List ℕ). text y ++ 44 ∷ s) (opened_more text xs x)

behind_last : {A : Type 0} (text : A → List ℕ) (xs : List A) (x : A)
    → 44 ∷ (opened text xs ++ text x) ≡ behind text (xs ++ x ∷ [])
behind_last text [] x = ap (λ (s : List ℕ). 44 ∷ s) (sym (append-nil (text x)))
behind_last text (y ∷ xs) x =
    ap (λ (s : List ℕ). 44 ∷ s)
    (append_assoc (text y) (44 ∷ opened text xs) (text x) ∙ ap (λ (s : List ℕ). text y ++ s) (behind_last text xs x))

listed_last : {A : Type 0} (text : A → List ℕ) (xs : List A) (x : A)
    → opened text xs ++ text x ≡ listed text (xs ++ x ∷ [])
listed_last text [] x = sym (append-nil (text x))
listed_last text (y ∷ xs) x =
    append_assoc (text y) (44 ∷ opened text xs) (text x) ∙ ap (λ (s : List ℕ). text y ++ s) (behind_last text xs x)

-- the elements that were read, each with its comma, and what is so of each
pub record IsOpened {A : Type 0} (text : A → List ℕ) (Good : A → Type 0) (bytes : List ℕ) (at to : ℕ)
    (xs : List A) : Type 0 where
  pub stands : Stands bytes at to (opened text xs)
  pub good : (k : ℕ) (d : A) → k < length xs → Good (get_or xs k d)

pub none_opened : {A : Type 0} (text : A → List ℕ) (Good : A → Type 0) (bytes : List ℕ) (at : ℕ)
    → IsOpened text Good bytes at at []
none_opened text Good bytes at = record { stands = stands_here bytes at; good = λ k d l. absurd (omega arith) }

good_push : {A : Type 0} (Good : A → Type 0) (xs : List A) (x : A)
    → ((k : ℕ) (d : A) → k < length xs → Good (get_or xs k d)) → Good x → (k : ℕ) (d : A) → k < length (xs ++ x ∷ [])
    → Good (get_or (xs ++ x ∷ []) k d)
good_push Good xs x before good k d l = elim (cases_lt k (length xs)) [
  | inl sooner ↦ subst Good (sym (get_or_append_left xs (x ∷ []) d k sooner)) (before k d sooner)
  | inr late ↦
      let same : length xs ≡ k = omega (arith, length_push xs x) in
      subst Good (sym (get_or_push xs x d k same)) good
]

pub one_opened : {A : Type 0} (text : A → List ℕ) (Good : A → Type 0) (bytes : List ℕ) (at from to next : ℕ)
    (xs : List A) (x : A) → IsOpened text Good bytes at from xs → Stands bytes from to (text x)
    → Stands bytes to next (44 ∷ []) → Good x
    → IsOpened text Good bytes at next (xs ++ x ∷ [])
one_opened text Good bytes at from to next xs x before here comma good = record {
  stands =
      subst (λ (s : List ℕ). Stands bytes at next s) (opened_more text xs x)
      (stands_then bytes at from next (opened text xs) (text x ++ 44 ∷ []) before.stands
      (stands_then bytes from to next (text x) (44 ∷ []) here comma));
  good = good_push Good xs x before.good good;
}

-- the last has no comma
pub all_listed : {A : Type 0} (text : A → List ℕ) (Good : A → Type 0) (bytes : List ℕ) (at from to : ℕ)
    (xs : List A) (x : A) → IsOpened text Good bytes at from xs → Stands bytes from to (text x)
    → Stands bytes at to (listed text (xs ++ x ∷ []))
all_listed text Good bytes at from to xs x before here =
    subst (λ (s : List ℕ). Stands bytes at to s) (listed_last text xs x)
    (stands_then bytes at from to (opened text xs) (text x) before.stands here)

pub all_good : {A : Type 0} (text : A → List ℕ) (Good : A → Type 0) (bytes : List ℕ) (at from : ℕ) (xs : List A)
    (x : A) → IsOpened text Good bytes at from xs → Good x → (k : ℕ) (d : A) → k < length (xs ++ x ∷ [])
    → Good (get_or (xs ++ x ∷ []) k d)
all_good text Good bytes at from xs x before good = good_push Good xs x before.good good

-- a text of nodes from its first byte to its last is the certificate's
pub printed_spells : (bytes : List ℕ) (nodes : List NodeView) (end : ℕ) → end ≡ length bytes
    → Stands bytes 0 end (codes "{\"format\":1,\"nodes\":[" ++ (listed node_text nodes ++ codes "]}\n"))
    → AreInRange nodes → length nodes ≤ 576 → certificate_of bytes ≡ Ok nodes
printed_spells bytes nodes end is stands in_range few =
    let text : List ℕ = codes "{\"format\":1,\"nodes\":[" ++ (listed node_text nodes ++ codes "]}\n") in
    let whole : bytes ≡ text
    = stands.reads
    ∙ (ap (λ (s : List ℕ). text ++ s)
    (ap (λ (n : ℕ). drop n bytes) is ∙ drop_all (length bytes) bytes (omega arith)) ∙ append-nil text) in
    ap certificate_of (whole ∙ sym (certificate_same nodes in_range)) ∙ text_spells nodes in_range few
