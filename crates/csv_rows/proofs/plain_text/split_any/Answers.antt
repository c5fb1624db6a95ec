use Rattle.std.proofs.Common.{◌+◌, ◌∙◌, sym, ap, arith}
use Rattle.csv_rows.specs.Row.{texts_of}
use Rattle.csv_rows.proofs.Passing.{at_front, over}
use Rattle.csv_rows.proofs.Splitting.{after_comma, after_line, after_blank, after_other, as_many, ends_record, has_none, pushed}
use Rattle.csv_rows.proofs.plain_text.split_any.Goals.{then-byte-eq44+in_ok-push, else-byte-eq44+then-byte-eq10+else-has_begun, else-byte-eq44+else-byte-eq10}
use Rattle.csv_rows.proofs.plain_text.split_any.Goals as goal

pub loop-at-init : goal.loop-at-init
loop-at-init c =
    let text = c.args.text.now in
    let passes = c.next_stop-at.ensures in
    record {
      order = omega arith;
      within = passes.high;
      reads =
          λ plain. over text (texts_of c.clear.new.self.items) 0 0 c.next_stop-at.result plain (omega arith) passes
          (at_front text (texts_of c.clear.new.self.items) (ap texts_of c.clear.ensures.items));
    }

pub returns-then-has_begun-clause-first : goal.returns-then-has_begun-clause-first
returns-then-has_begun-clause-first c plain =
    let l = c.loop-at in
    after_line c.args.text.now (texts_of l.fields.items) l.from l.at (texts_of c.push-then-has_begun.new.self.items)
    l.invariant.order c.loop-at-test.true c.if-byte-eq10.true
    (λ here none. c.has_begun.ensures.begun c.if-has_begun.true here
    (c.len.ensures ∙ (l.fields.ok.0 ∙ (sym (as_many l.fields.items) ∙ none))))
    (pushed l.fields.items c.push-then-has_begun.new.self.items _ c.in_ok-push-2.ensures.items)
    (l.invariant.reads plain)

pub loop-at-preserved : goal.loop-at-preserved
loop-at-preserved c =
    let l = c.loop-at in
    let text = c.args.text.now in
    let next = c.next_stop-at-in-loop-at.result in
    let passes = c.next_stop-at-in-loop-at.ensures in
    elim c.if-byte-eq44.branch [
      | then-byte-eq44+in_ok-push w ↦
          rw (w.fields-is, w.from-is) (record {
            order = passes.low;
            within = passes.high;
            reads =
                λ plain. let fields = texts_of w.push.new.self.items in
                over text fields (l.at + 1) (l.at + 1) next plain (omega arith) passes
                (after_comma text (texts_of l.fields.items) l.from l.at fields c.loop-at-test.true w.if-byte-eq44.true
                (pushed l.fields.items w.push.new.self.items _ w.in_ok-push.ensures.items) (l.invariant.reads plain));
          })
      | else-byte-eq44+then-byte-eq10+else-has_begun w ↦
          let none = w.has_begun.ensures.not_begun w.if-has_begun.false in
          rw (w.fields-is, w.from-is) (record {
            order = passes.low;
            within = passes.high;
            reads =
                λ plain. over text (texts_of l.fields.items) (l.at + 1) (l.at + 1) next plain (omega arith) passes
                (after_blank text (texts_of l.fields.items) l.from l.at c.loop-at-test.true
                w.if-byte-eq10.true none.0 (as_many l.fields.items ∙ (sym (w.len.ensures ∙ l.fields.ok.0) ∙ none.1))
                (l.invariant.reads plain));
          })
      | else-byte-eq44+else-byte-eq10 w ↦
          rw (w.fields-is, w.from-is) (record {
            order = omega (arith, l.invariant.order, passes.low);
            within = passes.high;
            reads =
                λ plain. over text (texts_of l.fields.items) l.from (l.at + 1) next plain
                (omega (arith, l.invariant.order)) passes
                (after_other text (texts_of l.fields.items) l.from l.at l.invariant.order
                c.loop-at-test.true plain w.if-byte-eq44.false w.if-byte-eq10.false (l.invariant.reads plain));
          })
    ]

pub returns-then-not-has_begun-clause-first : goal.returns-then-not-has_begun-clause-first
returns-then-not-has_begun-clause-first c plain =
    let l = c.loop-at in
    let none = c.has_begun-2.ensures.not_begun c.if-not-has_begun.true in
    has_none c.args.text.now (texts_of l.fields.items) l.from l.at (omega (arith, l.invariant.within)) none.0
    (as_many l.fields.items ∙ (sym (c.len-2.ensures ∙ l.fields.ok.0) ∙ none.1)) (l.invariant.reads plain)

pub returns-clause-first : goal.returns-clause-first
returns-clause-first c plain =
    let l = c.loop-at in
    ends_record c.args.text.now (texts_of l.fields.items) l.from l.at (texts_of c.push-2.new.self.items)
    l.invariant.order (omega (arith, l.invariant.within))
    (λ here none. c.has_begun-2.ensures.begun c.if-not-has_begun.false here
    (c.len-2.ensures ∙ (l.fields.ok.0 ∙ (sym (as_many l.fields.items) ∙ none))))
    (pushed l.fields.items c.push-2.new.self.items _ c.in_ok-push-3.ensures.items) (l.invariant.reads plain)
