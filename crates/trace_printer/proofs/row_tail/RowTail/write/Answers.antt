use Rattle.std.proofs.Common.{◌≡◌, ◌-◌, ◌∙◌, ◌++◌, ℕ, List, length, take, drop, sym, ap, arith, subst, append_assoc}
use Rattle.std.specs.Prelude.{decimal, OnOk}
use Rattle.std.proofs.lemmas.Fmt.{length-decimal-le}
use Rattle.std.proofs.lemmas.List.{length-drop, take_all, with_items_is}
use Rattle.trace_printer.proofs.RowTails.{behind_stays, digits_front}
use Rattle.trace_printer.proofs.row_tail.RowTail.write.Goals as goal

pub write_digits-from-requires : goal.write_digits-from-requires
write_digits-from-requires c = (
  length-decimal-le 20 c.args.at (omega arith) (omega arith) (omega arith),
  omega (arith, c.deref_mut.ensures.len, c.self.invariant),
)

pub returns-clause-same : goal.returns-clause-same
returns-clause-same c =
    let written = c.write_digits-from in
    let stays : drop 20 written.new.buf ≡ drop 20 c.self.inside.row.items
    = behind_stays (decimal c.args.at) 20 written.result c.self.inside.row.items written.new.buf
    written.ensures.start
    (written.ensures.written ∙ ap (λ (z : List ℕ). decimal c.args.at ++ drop 20 z) c.deref_mut.ensures.value) in
    let behind : ℕ = c.self.inside.end - 20 in
    ap (λ (z : List ℕ). take behind (drop 20 z))
    (with_items_is c.self.inside.row written.new.buf (omega (arith, written.auto.buf, c.deref_mut.ensures.len)))
    ∙ (ap (take behind) stays ∙ c.self.view_is)

pub returns-clause-text : goal.returns-clause-text
returns-clause-text c =
    let written = c.write_digits-from in
    let digits : List ℕ = decimal c.args.at in
    let row : List ℕ = c.self.inside.row.items in
    let old : List ℕ = c.args.text.now.items in
    let now : List ℕ = c.deref.result.now in
    let bytes_are : take (length now - written.result) (drop written.result now) ≡ digits ++ drop 20 row
    = take_all (length now - written.result) (drop written.result now) (omega (arith, length-drop written.result now))
    ∙ ap (drop written.result) (c.deref.ensures.value
    ∙ with_items_is c.self.inside.row written.new.buf (omega (arith, written.auto.buf, c.deref_mut.ensures.len)))
    ∙ (written.ensures.written ∙ ap (λ (z : List ℕ). digits ++ drop 20 z) c.deref_mut.ensures.value) in
    subst (λ (z : List ℕ). OnOk c.add_front.result (c.add_front.new.text.items ≡ z))
    (ap (λ (z : List ℕ). old ++ take (c.self.inside.end - written.result) z) bytes_are
    ∙ (ap (λ (z : List ℕ). old ++ z)
    (digits_front digits row written.result 20 c.self.inside.end written.ensures.start
    (omega (arith, c.self.invariant)))
    ∙ (ap (λ (z : List ℕ). old ++ (digits ++ z)) c.self.view_is ∙ sym (append_assoc old digits c.args.self.now))))
    c.add_front.ensures
