-- The system of bytes that are text, and of bytes that are none.
use Rattle.std.proofs.Common.{◌≡◌, ◌≢◌, ℕ, List, Option, Some, Result, Ok, Err, IfErr, ap, ◌∙◌}
use Rattle.std.specs.Str.{is_utf8, IsUtf8}
use Rattle.std.proofs.lemmas.Bool.{false_from_ne_true}
use Rattle.std.proofs.lemmas.Str.{IsUtf8-from_is_utf8, is_utf8-from_IsUtf8}
use Rattle.toml.specs.Data.{Members, table}
use Rattle.toml.specs.Parse.{parse_document}
use Rattle.tree_model.specs.View.{SystemView}
use Rattle.tree_model.specs.Lists.{first_of}
use Rattle.tree_model.proofs.Lists.{first_decides}
use Rattle.system_file.specs.declared.fault.SystemFault.{SystemFault}
use Rattle.system_file.specs.declared.fault.SystemFault.TheVariants.{NotToml, NoMemory}
use Rattle.system_file.specs.Document.{spelled_system}
use Rattle.system_file.specs.Faults.{faults}
use Rattle.system_file.specs.SystemFile.{system_of, system_of_document}

pub system_none : (bytes : List ℕ) → (IsUtf8 bytes → ⊥) → system_of bytes ≡ Err NotToml
unfolding system_of
system_none bytes no_text = rw (false_from_ne_true (is_utf8 bytes) (λ h. no_text (IsUtf8-from_is_utf8 bytes h)))

pub system_text : (bytes : List ℕ) → IsUtf8 bytes → system_of bytes ≡ system_of_document (parse_document bytes)
unfolding system_of
system_text bytes text = rw (is_utf8-from_IsUtf8 bytes text)

pub document_refused : (r : Result SystemView SystemFault) (t : Members) (o : Option Members) → o ≡ Some t →
    IfErr r (λ fault. fault ≢ NoMemory → first_of (faults (table t)) ≡ Some fault)
    → IfErr r (λ fault. fault ≢ NoMemory → system_of_document o ≡ Err fault)
document_refused (Ok sys) t o e h = tt
document_refused (Err fault) t o e h =
    λ memory. ap system_of_document e ∙ first_decides (spelled_system (table t)) (faults (table t)) fault (h memory)
