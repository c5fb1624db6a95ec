use Rattle.std.proofs.Common.{◌∙◌, sym, inl, inr, length}
use Rattle.std.proofs.lemmas.Bool.{eqb-true}
use Rattle.csv_rows.proofs.Splitting.{no_mark}
use Rattle.csv_rows.proofs.plain_text.may_have_mark.Goals as goal

pub returns-then-not-is_empty : goal.returns-then-not-is_empty
returns-then-not-is_empty c other = no_mark c.args.text.now (inr other)

pub returns-else-not-is_empty : goal.returns-else-not-is_empty
returns-else-not-is_empty c other =
    no_mark c.args.text.now
    (inl (eqb-true (length c.args.text.now) 0 (sym c.is_empty.ensures ∙ c.if-not-is_empty.false)))
