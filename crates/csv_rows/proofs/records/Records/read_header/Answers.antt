use Rattle.std.proofs.Common.{[], ap, inl, inr}
use Rattle.csv_rows.specs.Row.{texts_of}
use Rattle.csv_rows.proofs.Headers.{no_row}
use Rattle.csv_rows.proofs.records.Records.read_header.Goals as goal

pub returns-then-branch-clause-read : goal.returns-then-branch-clause-read
returns-then-branch-clause-read c text has = inl (rw c.if-branch.true at (c.in_ok-advance.ensures.read text [] has))

pub returns-clause-read : goal.returns-clause-read
returns-clause-read c text has =
    inr (
      rw c.if-branch.false at (c.in_ok-advance.ensures.read text [] has),
      no_row c.advance.new.self.source _ _ (ap texts_of c.clear.ensures.items) c.clear-2.ensures.fields,
    )
