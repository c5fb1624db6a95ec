use Rattle.std.proofs.Common.{◌∙◌, refl, sym, ap, inr, Some, None}
use Rattle.std.proofs.lemmas.Bool.{cond-false, false≢true}
use Rattle.csv_rows.proofs.Headers.{header_refused, header_taken}
use Rattle.script_file.specs.Script.{is_script_header, script_rows}
use Rattle.script_file.proofs.script_reading.read_header.Goals as goal

pub returns-then-not-is_script_header-clause-fault : goal.returns-then-not-is_script_header-clause-fault
returns-then-not-is_script_header-clause-fault c text has =
    let none
    = ap is_script_header (sym c.row.ensures) ∙ (sym c.is_script_header.ensures ∙ c.if-not-is_script_header.true) in
    inr (
      refl,
      header_refused text c.read_header.new.self (c.in-Ok.ensures.read text has) script_rows refl
          (λ more. cond-false _ (Some more) None none),
    )

pub returns-clause-header : goal.returns-clause-header
returns-clause-header c text has =
    header_taken text c.read_header.new.self (c.in-Ok.ensures.read text has) is_script_header _ false≢true
    (ap is_script_header (sym c.row.ensures) ∙ (sym c.is_script_header.ensures ∙ c.if-not-is_script_header.false))
