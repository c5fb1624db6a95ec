use Rattle.std.proofs.Common.{◌∙◌, ◌++◌, ℕ, List, ap, subst, sym}
use Rattle.csv.specs.Writing.{default_writer, row_text}
use Rattle.tree_model.specs.View.{SystemView}
use Rattle.trace_printer.specs.inner.Endings.{AreEndings, FitsWord}
use Rattle.trace_printer.specs.Printing.{event_row}
use Rattle.trace_printer.proofs.Printers.{row_more, fit_more}
use Rattle.trace_printer.proofs.printing.TracePrinterEventTaker.take.Goals as goal

pub returns : goal.returns
returns c start events so_far =
    let sys = start.endings.sys.now in
    let unit = start.unit in
    let p = c.args.self.now in
    let wrote = c.in_ok-write_event.ensures in
    let are : AreEndings p.endings.sys.now p.endings.made.items
    = subst (λ (s : SystemView). AreEndings s p.endings.made.items) (sym so_far.sys_is) so_far.are in
    let old : List ℕ = p.text.items in
    record {
      unit_is = so_far.unit_is;
      sys_is = ap (λ b. b.now) wrote.sys ∙ so_far.sys_is;
      are =
          subst (λ (s : SystemView). AreEndings s c.write_event.new.endings.made.items)
          (ap (λ b. b.now) wrote.sys ∙ so_far.sys_is) (wrote.are are);
      written = wrote.written are
          ∙ (ap (λ (s : SystemView). old ++ row_text default_writer (event_row s p.unit c.args.event)) so_far.sys_is
          ∙ (ap (λ u. old ++ row_text default_writer (event_row sys u c.args.event)) so_far.unit_is
          ∙ (ap (λ (z : List ℕ). z ++ row_text default_writer (event_row sys unit c.args.event)) so_far.written
          ∙ row_more sys unit events c.args.event)));
      fits =
          fit_more sys events c.args.event so_far.fits
          (subst (λ (s : SystemView). FitsWord s c.args.event.core c.args.event.what) so_far.sys_is (wrote.named are));
    }
