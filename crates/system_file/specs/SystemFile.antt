-- The system of a file's bytes, or the first fault of its document, and the format of a file.
use Rattle.std.specs.Prelude.{ℕ, ◌==◌, Bool, not, List, if◌then◌else◌, Option, Some, None, option_map, Result, Err}
use Rattle.std.specs.List.{list_any}
use Rattle.std.specs.Str.{is_utf8}
use Rattle.toml.specs.Data.{table, Members}
use Rattle.toml.specs.Parse.{parse_document}
use Rattle.tree_model.specs.View.{NamedTask, PartView, SystemView}
use Rattle.tree_model.specs.Lists.{first_fault_or}
use Rattle.system_file.specs.declared.format.Format.{Format}
use Rattle.system_file.specs.declared.format.Format.TheVariants.{One, Two}
use Rattle.system_file.specs.declared.fault.SystemFault.{SystemFault}
use Rattle.system_file.specs.declared.fault.SystemFault.TheVariants.{NotToml}
use Rattle.system_file.specs.Document.{format_of, spelled_system}
use Rattle.system_file.specs.Faults.{faults}

-- the document of the bytes, which have to be text
abbrev pub document_of : List ℕ → Option Members
document_of bytes = if is_utf8 bytes then parse_document bytes else None

abbrev pub system_of_document : Option Members → Result SystemView SystemFault
system_of_document None = Err NotToml
system_of_document (Some members) =
    first_fault_or (spelled_system (table members)) (faults (table members))

unfoldable pub system_of : List ℕ → Result SystemView SystemFault
system_of bytes = system_of_document (document_of bytes)

-- the format that a document of the bytes tells
abbrev pub file_format : List ℕ → Option Format
file_format bytes = option_map (λ members. format_of (table members)) (document_of bytes)

-- the format that a system needs: 2 where some task has release jitter, else 1
abbrev pub has_jitter : NamedTask → Bool
has_jitter t = not (t.task.jitter == 0)

abbrev pub part_has_jitter : PartView → Bool
part_has_jitter part = list_any has_jitter part.tasks

abbrev pub needed_format : SystemView → Format
needed_format sys = if list_any part_has_jitter sys.parts then Two else One
