-- The records of a text whose bytes are taken piece by piece.
use Rattle.std.specs.Prelude.{◌≡◌, ℕ, List, [], ◌∷◌, ◌++◌}
use Rattle.csv_rows.specs.PlainText.{IsPlainText}
use Rattle.csv_rows.specs.Reading.{records_of}
use Rattle.csv_rows.specs.declared.feed.RecordFeed.{RecordFeed}
use Rattle.csv_rows.specs.declared.feed.Way.{Way}
use Rattle.csv_rows.specs.declared.feed.Way.TheVariants.{Front, Plain, Any}

-- A taker has taken the first records of a text, and this is what is left behind them: whatever
-- bytes come behind the text, its later records are those of what is left and of these bytes.
pub record TakesFirst {T : Type 0} (has_taken : T → T → List (List (List ℕ)) → Type 0)
    (start : T) (text : List ℕ) (taker : T) (left : List ℕ) : Type 0 where
  pub read : List (List (List ℕ))
  pub taken : has_taken start taker read
  pub later : (more : List ℕ) → records_of (text ++ more) ≡ read ++ records_of (left ++ more)

-- of a plain text a line feed is kept, and behind it the front of the record at hand
pub record IsBegun (kept : List ℕ) : Type 0 where
  pub front : List ℕ
  pub begins : kept ≡ 10 ∷ front
  pub plain : IsPlainText kept

abbrev pub IsKept : Way → List ℕ → Type 0
IsKept Front kept = kept ≡ []
IsKept Plain kept = IsBegun kept
IsKept Any kept = Unit {0}

-- the bytes of a text were taken
pub record IsFed {T : Type 0} (has_taken : T → T → List (List (List ℕ)) → Type 0) (start : T)
    (text : List ℕ) (feed : RecordFeed T) : Type 0 where
  pub first : TakesFirst has_taken start text feed.taker feed.kept.items
  pub kept : IsKept feed.way feed.kept.items
