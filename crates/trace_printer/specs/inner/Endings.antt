-- What the rows of a trace have behind their moments.
use Rattle.std.specs.Prelude.{◌≡◌, ℕ, ◌+◌, ◌*◌, true, List, [], ◌∷◌, length, slice_index_or, Option, None, IfSome}
use Rattle.csv.specs.Writing.{default_writer, row_text}
use Rattle.tree_model.specs.View.{SystemView}
use Rattle.trace_file.specs.declared.event.What.{What}
use Rattle.trace_file.specs.declared.event.What.TheVariants.{Start, Wake, Block, Run, Stop, End}
use Rattle.trace_printer.specs.declared.endings.Ending.{Ending}
use Rattle.trace_file.specs.File.{fits_word}
use Rattle.trace_printer.specs.Printing.{word_of, core_field, vcpu_field}
use Rattle.trace_file.specs.Rules.{is_known, named}

-- what the row of an event has behind its moment: the text of its row with no moment
abbrev pub ending_text : SystemView → ℕ → What → List ℕ
ending_text sys c what = row_text default_writer
    ([] ∷ core_field sys c what ∷ word_of what ∷ vcpu_field sys (named what) ∷ [])

-- the fields of a known event fit its word
abbrev pub FitsWord : SystemView → ℕ → What → Type 0
FitsWord sys c what =
    is_known sys c what ≡ true →
    fits_word (core_field sys c what) (word_of what) (vcpu_field sys (named what)) ≡ true

-- an ending is that of its event
pub record IsEnding (sys : SystemView) (e : Ending) : Type 0 where
  pub text : e.text ≡ ending_text sys e.core e.what
  pub fits : FitsWord sys e.core e.what

-- each ending that is kept is one
abbrev pub AreEndings : SystemView → List (Option Ending) → Type 0
AreEndings sys made = (i : ℕ) → IfSome (slice_index_or made i None) (IsEnding sys)

-- where the ending of an event is kept: one for each word of a VCPU, then one for the stop of each
-- core, then the end
abbrev pub place_of : SystemView → ℕ → What → ℕ
place_of sys c (Start v) = v
place_of sys c (Wake v) = length sys.parts + v
place_of sys c (Block v) = 2 * length sys.parts + v
place_of sys c (Run v) = 3 * length sys.parts + v
place_of sys c Stop = 4 * length sys.parts + c
place_of sys c End = 4 * length sys.parts + length sys.cores
