-- A text that reads as the printed document reads as the system.
use Rattle.std.proofs.Common.{◌∙◌, ◌≡◌, ℕ, List, Some}
use Rattle.std.specs.Prelude.{Ok}
use Rattle.std.specs.Str.{IsUtf8}
use Rattle.std.proofs.lemmas.Str.{is_utf8-from_IsUtf8}
use Rattle.toml.specs.Parse.{parse_document}
use Rattle.tree_model.specs.View.{SystemView}
use Rattle.tree_model.specs.System.{IsSystem}
use Rattle.system_file.specs.SystemFile.{system_of, file_format, needed_format}
use Rattle.system_file.specs.Printed.{printed}
use Rattle.system_file.specs.inner.Named.{CoresAreNamed, PartsAreNamed}
use Rattle.system_file.proofs.Texts.{system_text}
use Rattle.system_file.proofs.PrintedSystem.{printed_faultless, printed_spelled, printed_format}

pub reads_back : (sys : SystemView) (text : List ℕ) → IsSystem sys → CoresAreNamed sys.cores → PartsAreNamed sys.parts
    → IsUtf8 text → parse_document text ≡ Some (printed sys) → system_of text ≡ Ok sys
reads_back sys text is cores parts utf8 document =
    system_text text utf8 ∙ rw (document, printed_faultless sys is cores parts, printed_spelled sys is)

-- and has the format that the system needs
pub format_told : (sys : SystemView) (text : List ℕ) → IsUtf8 text → parse_document text ≡ Some (printed sys)
    → file_format text ≡ Some (needed_format sys)
format_told sys text utf8 document = rw (is_utf8-from_IsUtf8 text utf8, document, printed_format sys)
