-- What the bytes of a piece do to the records that were taken and to what is left.
use Rattle.std.proofs.Common.{◌≡◌, ◌==◌, ◌<◌, ◌+◌, ℕ, false, List, [], ◌∷◌, ◌++◌, length, take, get_or, sym, ◌∙◌, ap, refl, subst, arith, inr}
use Rattle.std.proofs.lemmas.List.{append_assoc, append-nil, get_or_append_left, take-append-drop}
use Rattle.std.proofs.lemmas.Bool.{false≢true}
use Rattle.csv.specs.Reading.{default_config, records}
use Rattle.csv_rows.specs.Feed.{IsBegun, TakesFirst}
use Rattle.csv_rows.specs.PlainText.{IsPlainText}
use Rattle.csv_rows.specs.Reading.{records_of}
use Rattle.csv_rows.specs.Taker.{Took}
use Rattle.csv_rows.proofs.Lines.{AreLines, fed, lines_upto, only_line, plain_append, plain_left, seam}
use Rattle.csv_rows.proofs.Splitting.{left_is, left_of, no_mark}

some_bytes : (piece : List ℕ) → (length piece == 0) ≡ false → 0 < length piece
some_bytes [] none = absurd (false≢true (sym none))
some_bytes (b ∷ piece) none = omega arith

-- one record more
pub took_on : {T : Type 0} (has_taken : T → T → List (List (List ℕ)) → Type 0) (first old new : T)
    (read : List (List (List ℕ))) (row : List (List ℕ)) → Took has_taken first old read
    → Took has_taken old new (row ∷ []) → Took has_taken first new (read ++ row ∷ [])
took_on has_taken first old new read row took more start records h =
    subst (λ (z : List (List (List ℕ))). has_taken start new z) (append_assoc records read (row ∷ []))
    (more start (records ++ read) (took start records h))

module _ {T : Type 0} (has_taken : T → T → List (List (List ℕ)) → Type 0) (start : T) (text : List ℕ) where
  -- bytes behind the text
  pub more_bytes : (taker : T) (left piece : List ℕ) → TakesFirst has_taken start text taker left
      → TakesFirst has_taken start (text ++ piece) taker (left ++ piece)
  more_bytes taker left piece h = record {
    read = h.read;
    taken = h.taken;
    later =
        λ more. ap records_of (append_assoc text piece more)
        ∙ (h.later (piece ++ more)
        ∙ ap (λ (z : List ℕ). h.read ++ records_of z) (sym (append_assoc left piece more)));
  }

  -- a line feed before bytes that do not begin with a mark
  fed_before : (taker : T) (piece : List ℕ) → (length piece == 0) ≡ false → (get_or piece 0 0 == 239) ≡ false
      → TakesFirst has_taken start text taker piece → TakesFirst has_taken start text taker (10 ∷ piece)
  fed_before taker piece some other h = record {
    read = h.read;
    taken = h.taken;
    later =
        λ more. h.later more
        ∙ ap (λ (z : List (List (List ℕ))). h.read ++ z)
        (ap (records default_config) (no_mark (piece ++ more)
        (inr (ap (λ (b : ℕ). b == 239) (get_or_append_left piece more 0 0 (some_bytes piece some)) ∙ other)))
        ∙ sym (fed (piece ++ more)));
  }

  pub line_kept : (taker : T) (piece old kept : List ℕ) → old ≡ [] → kept ≡ old ++ 10 ∷ []
      → (length piece == 0) ≡ false → (get_or piece 0 0 == 239) ≡ false
      → TakesFirst has_taken start text taker piece → TakesFirst has_taken start text taker (kept ++ piece)
  line_kept taker piece old kept none pushed some other h =
      rw (pushed, none) (fed_before taker piece some other h)

  -- records that were taken behind the first ones
  took_more : (old new : T) (left rest : List ℕ) (more_read : List (List (List ℕ)))
      → Took has_taken old new more_read
      → ((more : List ℕ) → records_of (left ++ more) ≡ more_read ++ records_of (rest ++ more))
      → TakesFirst has_taken start text old left → TakesFirst has_taken start text new rest
  took_more old new left rest more_read took split h = record {
    read = h.read ++ more_read;
    taken = took start h.read h.taken;
    later =
        λ more. h.later more
        ∙ (ap (λ (z : List (List (List ℕ))). h.read ++ z) (split more)
        ∙ sym (append_assoc h.read more_read (records_of (rest ++ more))));
  }

  -- those of the lines at the front of what was left, which begins with a line feed
  pub took_front : (old new : T) (front rest : List ℕ) → AreLines (10 ∷ front)
      → Took has_taken old new (records default_config (10 ∷ front))
      → TakesFirst has_taken start text old (10 ∷ (front ++ rest)) → TakesFirst has_taken start text new (10 ∷ rest)
  took_front old new front rest lines took h =
      took_more old new (10 ∷ (front ++ rest)) (10 ∷ rest) (records default_config (10 ∷ front)) took
      (λ more. ap (λ (z : List ℕ). records_of (10 ∷ z)) (append_assoc front rest more)
      ∙ (ap (records default_config) (no_mark (10 ∷ (front ++ (rest ++ more))) (inr refl_line))
      ∙ (seam (10 ∷ front) (rest ++ more) lines
      ∙ ap (λ (z : List (List (List ℕ))). records default_config (10 ∷ front) ++ z) (sym (fed (rest ++ more)))))) h
    where
      refl_line : (10 == 239) ≡ false
      refl_line = refl

  -- those of the lines behind that line feed
  pub took_lines : (old new : T) (front rest : List ℕ) → AreLines front
      → Took has_taken old new (records default_config front)
      → TakesFirst has_taken start text old (10 ∷ (front ++ rest)) → TakesFirst has_taken start text new (10 ∷ rest)
  took_lines old new front rest lines took h =
      took_more old new (10 ∷ (front ++ rest)) (10 ∷ rest) (records default_config front) took
      (λ more. ap (λ (z : List ℕ). records_of (10 ∷ z)) (append_assoc front rest more)
      ∙ (fed (front ++ (rest ++ more))
      ∙ (seam front (rest ++ more) lines
      ∙ ap (λ (z : List (List (List ℕ))). records default_config front ++ z) (sym (fed (rest ++ more)))))) h

  -- and the last ones, behind which no byte comes
  pub took_last : (old new : T) (left : List ℕ) → Took has_taken old new (records_of left)
      → TakesFirst has_taken start text old left → has_taken start new (records_of text)
  took_last old new left took h =
      subst (λ (z : List (List (List ℕ))). has_taken start new z)
      (sym (ap records_of (sym (append-nil text))
      ∙ (h.later [] ∙ ap (λ (z : List ℕ). h.read ++ records_of z) (append-nil left))))
      (took start h.read h.taken)

-- a text is its front and what is left behind it
two_parts : (piece : List ℕ) (n : ℕ) → piece ≡ take n piece ++ left_of piece n
two_parts piece n =
    sym (take-append-drop n piece) ∙ ap (λ (z : List ℕ). take n piece ++ z) (left_is piece n)

module _ {T : Type 0} (has_taken : T → T → List (List (List ℕ)) → Type 0) (start : T) (text : List ℕ) (old new : T)
    (piece : List ℕ) (at : ℕ) (plain : IsPlainText piece) (within : at < length piece)
    (line : get_or piece at 0 ≡ 10) where
  -- the line at hand has ended in the piece
  pub line_ended : (kept : List ℕ) → IsBegun kept
      → Took has_taken old new (records default_config (kept ++ take (at + 1) piece))
      → TakesFirst has_taken start text old (kept ++ piece)
      → TakesFirst has_taken start text new (take 1 (kept ++ take (at + 1) piece) ++ left_of piece (at + 1))
  line_ended kept begun took h =
      let front = begun.front in
      let whole : TakesFirst has_taken start text old (10 ∷ (front ++ piece)) = rw begun.begins at h in
      rw begun.begins
      (took_front has_taken start text old new (front ++ take (at + 1) piece) (left_of piece (at + 1))
      (lines_upto (10 ∷ front) piece at (at + 1) (omega arith) (rw begun.begins at begun.plain) plain within line)
      (rw begun.begins at took)
      (subst (λ (z : List ℕ). TakesFirst has_taken start text old (10 ∷ z))
      (ap (λ (z : List ℕ). front ++ z) (two_parts piece (at + 1))
      ∙ sym (append_assoc front (take (at + 1) piece) (left_of piece (at + 1)))) whole))

  -- the lines of the piece were taken
  pub lines_taken : Took has_taken old new (records default_config (take (at + 1) piece))
      → TakesFirst has_taken start text old (10 ∷ piece)
      → TakesFirst has_taken start text new (10 ∷ left_of piece (at + 1))
  lines_taken took h =
      took_lines has_taken start text old new (take (at + 1) piece) (left_of piece (at + 1))
      (lines_upto [] piece at (at + 1) (omega arith) (λ i l. absurd (omega (arith, l))) plain within line) took
      (subst (λ (z : List ℕ). TakesFirst has_taken start text old (10 ∷ z)) (two_parts piece (at + 1)) h)

-- a line feed, and behind it what is left of a plain text
pub begun_again : (piece : List ℕ) (n : ℕ) → IsPlainText piece → IsBegun (10 ∷ left_of piece n)
begun_again piece n plain = record {
  front = left_of piece n;
  begins = refl;
  plain = plain_append (10 ∷ []) (left_of piece n) only_line (plain_left piece n plain);
}
