use Rattle.std.proofs.Common.{◌∙◌, refl, sym, ap, inr, option_map}
use Rattle.std.proofs.lemmas.Option.{none-some}
use Rattle.csv_rows.proofs.Headers.{header_refused, header_taken}
use Rattle.release_file.specs.declared.release_spelling.Version.{Version}
use Rattle.release_file.specs.ReleaseFile.{header_version, release_rows}
use Rattle.release_file.proofs.release_reading.read_header.Goals as goal

pub returns-in-None-clause-fault : goal.returns-in-None-clause-fault
returns-in-None-clause-fault c text has =
    let none = ap header_version (sym c.row.ensures) ∙ (sym c.header_version.ensures ∙ c.in-None.is) in
    inr (
      refl,
      header_refused text c.read_header.new.self (c.in-Ok.ensures.read text has) release_rows refl
          (λ more. ap (option_map (λ (v : Version). (v, more))) none),
    )

pub returns-in-Some-clause-version : goal.returns-in-Some-clause-version
returns-in-Some-clause-version c text has =
    header_taken text c.read_header.new.self (c.in-Ok.ensures.read text has) header_version _ (none-some _)
    (ap header_version (sym c.row.ensures) ∙ (sym c.header_version.ensures ∙ c.in-Some.is))
