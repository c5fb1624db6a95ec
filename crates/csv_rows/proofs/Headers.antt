-- What is made of a header, by which its row is judged. A row with no fields is no good header.
use Rattle.std.proofs.Common.{◌≡◌, ℕ, List, [], ◌∷◌, Option, None, inl, inr, sym, ◌∙◌, ap}
use Rattle.csv_rows.specs.declared.records.Records.{Records}
use Rattle.csv_rows.specs.declared.records.Source.{Source}
use Rattle.csv_rows.specs.declared.records.Source.TheVariants.{Plain, Any}
use Rattle.csv_rows.specs.Reading.{HasHeader, HasRead, records_of, row_from, row_read}
use Rattle.csv_rows.proofs.Advancing.{has_front}

-- wherever the last record is, it has no fields where none are kept
pub no_row : (s : Source) (split any : List (List ℕ)) → split ≡ [] → any ≡ [] → row_from s split any ≡ []
no_row (Plain rest) split any no_split no_any = no_split
no_row (Any reader) split any no_split no_any = no_any

module _ (text : List ℕ) (r : Records) (h : HasHeader text r) where
  pub header_taken : {T : Type 0} (judge : List (List ℕ) → T) (good : T) → (judge [] ≡ good → ⊥)
      → judge (row_read r) ≡ good → (header : List (List ℕ)) × (judge header ≡ good) × HasRead text (header ∷ []) r
  header_taken judge good empty is = elim h [
    | inl read ↦ (row_read r, is, read)
    | inr none ↦ absurd (empty (ap judge (sym none.1) ∙ is))
  ]

  pub header_refused : {T : Type 0} (parts : List (List (List ℕ)) → Option T) → parts [] ≡ None
      → ((more : List (List (List ℕ))) → parts (row_read r ∷ more) ≡ None) → parts (records_of text) ≡ None
  header_refused parts empty refused = elim h [
    | inl read ↦ let (more, front) = has_front text (row_read r ∷ []) r read in ap parts front ∙ refused more
    | inr none ↦ ap parts none.0 ∙ empty
  ]
