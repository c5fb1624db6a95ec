use Rattle.std.proofs.Common.{◌≡◌, ◌∙◌, ℕ, ◌+◌, ◌<◌, ◌≤◌, List, Some, length, inl, inr, sym, ap, arith}
use Rattle.std.proofs.lemmas.Bool.{cases_lt}
use Rattle.std.proofs.lemmas.List.{length_push}
use Rattle.std.proofs.lemmas.Nat.Bits.{bit_at-zero}
use Rattle.std.specs.Int.{bit_at}
use Rattle.csv.specs.declared.parser.State.TheVariants as st
use Rattle.csv_rows.specs.Row.{texts_of}
use Rattle.csv_rows.proofs.Passing.{over_others}
use Rattle.csv_rows.proofs.Splitting.{after_comma, after_line, as_many, left_is, pushed}
use Rattle.csv_rows.proofs.near.split_line.Goals as goal

-- what is marked still, where the first mark is gone, stands behind it
behind : (at k : ℕ) (old now : ℕ → ℕ) → ((j : ℕ) → j < at → old j ≡ 0) → now at ≡ 0 → old k ≡ 1 → now k ≡ 1 → at + 1 ≤ k
behind at k old now below gone was set =
    elim (cases_lt at k) [
      | inl l ↦ omega arith
      | inr le ↦
          elim (cases_lt k at) [
            | inl less ↦ absurd (omega (arith, below k less, was))
            | inr ge ↦ let e : k ≡ at = omega arith in absurd (omega (arith, gone, set, ap now e))
          ]
    ]

pub loop-commas-preserved : goal.loop-commas-preserved
loop-commas-preserved c =
    let text = c.args.text.now in
    let l = c.loop-commas in
    let comma = c.first_mark-comma.result in
    let at = comma.place in
    let low = c.first_mark-comma.ensures.first in
    let here = l.invariant.only at low.set in
    let fields = texts_of l.fields.items in
    let rest = c.first_mark-comma.ensures.others in
    record {
      order = omega (arith, here.1);
      front =
          λ none. absurd (omega (arith, none, ap length c.in_ok-push.ensures.items ∙ length_push l.fields.items _));
      reads =
          λ plain. after_comma text fields l.from at (texts_of c.push.new.self.items)
          (omega (arith, here.1, c.requires.near, c.requires.room)) here.2
          (pushed l.fields.items c.push.new.self.items _ c.in_ok-push.ensures.items)
          (over_others text fields l.from l.from at plain (omega arith) here.0
          (omega (arith, here.1, c.requires.near, c.requires.room))
          (λ k from less. (
            (λ e. absurd (omega (arith, low.below k less, l.invariant.ahead k from (omega (arith, here.1)) e))),
            c.requires.line k (omega (arith, here.1)),
          ))
          (l.invariant.reads plain));
      ahead =
          λ k from less e.
          rest.kept k (omega (arith, c.requires.near)) (λ same. absurd (omega (arith, same, from)))
          ∙ l.invariant.ahead k (omega (arith, here.0)) less e;
      only =
          λ k set. let was = rest.no_more k set in
          let stood = l.invariant.only k was in (
            behind at k (bit_at l.commas) (bit_at comma.others) low.below rest.gone was set,
            stood.1,
            stood.2,
          );
    }

pub returns : goal.returns
returns c plain =
    let text = c.args.text.now in
    let l = c.loop-commas in
    let end = c.args.end in
    let fields = texts_of l.fields.items in
    let unmarked : (k : ℕ) → bit_at l.commas k ≡ 0
    = λ k. ap (λ z. bit_at z k) c.loop-commas-test.false ∙ bit_at-zero k in
    after_line text fields l.from end (texts_of c.push-2.new.self.items) l.invariant.order
    (omega (arith, c.requires.near, c.requires.room)) c.requires.ends
    (λ here none. omega (arith, c.requires.begun, here, l.invariant.front (sym (as_many l.fields.items) ∙ none)))
    (pushed l.fields.items c.push-2.new.self.items _ c.in_ok-push-2.ensures.items)
    (over_others text fields l.from l.from end plain (omega arith) l.invariant.order
    (omega (arith, c.requires.near, c.requires.room))
    (λ k from less. (
      (λ e.
          absurd (omega (arith, l.invariant.ahead k from less e, unmarked k))),
      c.requires.line k less,
    ))
    (l.invariant.reads plain))
    ∙ ap (λ (z : List ℕ). Some (texts_of c.push-2.new.self.items, st.StartRecord, z)) (sym (left_is text (end + 1)))
