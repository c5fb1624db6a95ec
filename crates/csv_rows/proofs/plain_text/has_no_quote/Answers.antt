use Rattle.std.proofs.Common.{◌≡◌, ◌∙◌, ℕ, ◌+◌, ◌++◌, List, take, drop, sym, subst, ap, arith}
use Rattle.std.proofs.lemmas.List.{drop-take, take-append-drop, take-take}
use Rattle.csv_rows.specs.PlainText.{IsPlainText}
use Rattle.csv_rows.proofs.Lines.{plain_append}
use Rattle.csv_rows.proofs.Splitting.{left_is, left_of}
use Rattle.csv_rows.proofs.plain_text.has_no_quote.Goals as goal

-- a front of a text and some bytes behind it
front_more : (text : List ℕ) (at n : ℕ) → take at text ++ take n (left_of text at) ≡ take (at + n) text
front_more text at n =
    ap (λ (z : List ℕ). take at text ++ take n z) (sym (left_is text at))
    ∙ (ap (λ (z : List ℕ). take at text ++ z) (sym (drop-take at n text))
    ∙ (ap (λ (z : List ℕ). z ++ drop at (take (at + n) text)) (sym (take-take at (at + n) text (omega arith)))
    ∙ take-append-drop at (take (at + n) text)))

pub loop-at-preserved : goal.loop-at-preserved
loop-at-preserved c =
    let text = c.args.text.now in
    let at = c.loop-at.at in
    record {
      within = omega (arith, c.loop-at-test.true, c.loop-at.invariant.within);
      plain =
          subst IsPlainText (front_more text at 64)
          (plain_append (take at text) (take 64 (left_of text at)) c.loop-at.invariant.plain
          (c.begins_plain.ensures c.if-not-begins_plain.false));
    }

pub returns : goal.returns
returns c plain =
    let text = c.args.text.now in
    let at = c.loop-at.at in
    subst IsPlainText
    (ap (λ (z : List ℕ). take at text ++ z) (sym (left_is text at)) ∙ take-append-drop at text)
    (plain_append (take at text) (left_of text at) c.loop-at.invariant.plain (c.is_plain_end.ensures plain))
