use Rattle.std.proofs.Common.{◌≡◌, ◌∷◌, ◌++◌, [], ℕ, List, ◌∙◌, ap, arith, subst, append_assoc}
use Rattle.std.specs.Prelude.{decimal, OnOk}
use Rattle.csv.specs.Writing.{default_writer, row_text}
use Rattle.trace_printer.specs.inner.Endings.{ending_text}
use Rattle.trace_printer.specs.Printing.{word_of, core_field, vcpu_field, event_row}
use Rattle.trace_file.specs.Rules.{named}
use Rattle.trace_printer.proofs.EndingRows.{row_split}
use Rattle.trace_printer.proofs.printing.write_event.Goals as goal

pub returns-clause-written : goal.returns-clause-written
returns-clause-written c are =
    let sys = c.args.endings.now.sys.now in
    let e = c.args.event in
    let n : ℕ = c.in_unit.result in
    let row : decimal n ++ ending_text sys e.core e.what ≡ row_text default_writer (event_row sys c.args.unit e) =
    row_split n (core_field sys e.core e.what) (word_of e.what) (vcpu_field sys (named e.what)) (omega arith)
    ∙ ap (λ (z : ℕ). row_text default_writer
    (decimal z ∷ core_field sys e.core e.what ∷ word_of e.what ∷ vcpu_field sys (named e.what) ∷ []))
    c.in_unit.ensures in
    let old : List ℕ = c.args.text.now.items in
    subst (λ (z : List ℕ). OnOk c.write.result (c.write.new.text.items ≡ z))
    (append_assoc old (decimal n) (ending_text sys e.core e.what) ∙ ap (λ (z : List ℕ). old ++ z) row)
    (c.write.ensures.text are)
