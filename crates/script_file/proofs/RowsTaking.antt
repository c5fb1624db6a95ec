-- The rows of a script that were read.
use Rattle.std.proofs.Common.{◌≡◌, ℕ, true, not, List, [], ◌∷◌, ◌++◌, length, Option, Some, None, refl, sym, ◌∙◌, ap, subst}
use Rattle.std.specs.Prelude.{is_some, unwrap_or}
use Rattle.std.proofs.lemmas.List.{map-append}
use Rattle.csv_rows.specs.declared.records.Records.{Records}
use Rattle.csv_rows.specs.Reading.{HasRead}
use Rattle.csv_rows.specs.Rules.{RowsKeep, IsFirstFault, fault_if, row_of}
use Rattle.admission_session.specs.declared.edit.Edit.{Edit}
use Rattle.admission_session.specs.declared.edit.Edit.TheVariants.{Remove}
use Rattle.script_file.specs.declared.fault.ScriptFault.{ScriptFault}
use Rattle.script_file.specs.declared.fault.ScriptFault.TheVariants.{BadRow}
use Rattle.script_file.specs.declared.script_rows.ScriptRows.{ScriptRows}
use Rattle.script_file.specs.Script.{edit_in, edit_of, edits_of, script_rules, is_script_header, script_rows, SpellsScript, IsScriptFault}
use Rattle.script_file.specs.inner.Taken.{HasTakenRows}

pub edits_more : (rows : List (List (List ℕ))) (row : List (List ℕ))
    → edits_of (rows ++ row ∷ []) ≡ edits_of rows ++ edit_of row ∷ []
edits_more rows row = map-append edit_of rows (row ∷ [])

-- a record that spells an edit keeps the rules, and one that spells none breaks them
pub keeps : (rows : List (List (List ℕ))) (row : List (List ℕ)) (edit : Edit) → Some edit ≡ edit_in row
    → script_rules rows row ≡ None
keeps rows row edit e =
    ap (λ (o : Option Edit). fault_if (not (is_some o)) (BadRow (row_of (length rows))) None) (sym e)

-- and that edit is the one of the row
pub edit_is : (row : List (List ℕ)) (edit : Edit) → Some edit ≡ edit_in row → edit ≡ edit_of row
edit_is row edit e = ap (λ (o : Option Edit). unwrap_or o (Remove [])) e

-- a header was read, and no row behind it
abbrev pub HeaderRead : List ℕ → Records → Type 0
HeaderRead text records =
    (header : List (List ℕ)) × (is_script_header header ≡ true) × HasRead text (header ∷ []) records

-- the rows behind a header
pub behind_header : (records : List (List (List ℕ))) (header : List (List ℕ)) (read : List (List (List ℕ)))
    → records ≡ header ∷ read → is_script_header header ≡ true → script_rows records ≡ Some read
behind_header records header read is is_header = ap script_rows is ∙ rw (is_header) refl

pub spelt_all : (records : List (List (List ℕ))) (s t : ScriptRows) (header : List (List ℕ))
    → is_script_header header ≡ true
    → (read : List (List (List ℕ))) × (records ≡ header ∷ read) × RowsKeep script_rules read (length read)
    × HasTakenRows s t read → SpellsScript records t.edits.items
spelt_all records s t header is_header all =
    let (read, is, keep, taken) = all in
    record {
      rows = read;
      header = behind_header records header read is is_header;
      keep = keep;
      edits_are = taken.edits;
    }

pub first_of_file : (records : List (List (List ℕ))) (header : List (List ℕ)) (fault : ScriptFault)
    → is_script_header header ≡ true
    → (read : List (List (List ℕ))) × (records ≡ header ∷ read) × IsFirstFault script_rules read fault
    → IsScriptFault (script_rows records) fault
first_of_file records header fault is_header all =
    let (read, is, first) = all in
    subst (λ o. IsScriptFault o fault) (sym (behind_header records header read is is_header)) first
