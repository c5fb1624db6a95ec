use Rattle.std.proofs.Common.{◌≡◌, Some, false, ap, ◌∙◌, sym, Err, string_bytes}
use Rattle.std.proofs.lemmas.Bool.{false≢true}
use Rattle.std.proofs.lemmas.Str.{IsUtf8-string_bytes}
use Rattle.toml.specs.Data.{members_have_valid_dates}
use Rattle.toml.specs.View.{table_view}
use Rattle.toml.specs.Parse.{parse_document}
use Rattle.system_file.specs.Printed.{printed}
use Rattle.system_file.proofs.PrintedShape.{printed_dated, printed_depth}
use Rattle.system_file.proofs.PrintedText.{reads_back, format_told}
use Rattle.system_file.proofs.print.print_system.Goals as goal

pub returns-in-Ok : goal.returns-in-Ok
returns-in-Ok c =
    let document : parse_document (string_bytes c.in-Ok.text) ≡ Some (printed c.args.sys.now)
    = c.in-Ok.ensures.reads_back (rw c.in_ok-table.ensures.printed (printed_depth c.args.sys.now))
    ∙ ap Some c.in_ok-table.ensures.printed in
    rw c.into_bytes.ensures.value (record {
      spells =
          reads_back c.args.sys.now (string_bytes c.in-Ok.text) c.in_ok-table.ensures.system c.in_ok-table.ensures.cores
          c.in_ok-table.ensures.parts (IsUtf8-string_bytes c.in-Ok.text) document;
      format = format_told c.args.sys.now (string_bytes c.in-Ok.text) (IsUtf8-string_bytes c.in-Ok.text) document;
      text = rw c.in_ok-table.ensures.printed at c.in-Ok.ensures.text;
    })

pub unreachable-requires : goal.unreachable-requires
unreachable-requires c =
    let undated : members_have_valid_dates (table_view c.in_ok-table.table) ≡ false
    = c.table_to_string.ensures.dates.0 (c.in-Err-DateInvalid.is ∙ ap Err c.in-Err-DateInvalid.field-0-is) in
    false≢true
    (sym undated ∙ (ap members_have_valid_dates c.in_ok-table.ensures.printed ∙ printed_dated c.args.sys.now))
