use Rattle.std.proofs.Common.{◌≡◌, ◌-◌, List, ℕ, take, length, refl, sym, ◌∙◌, arith}
use Rattle.toml_items.specs.Plain.{spelling}
use Rattle.toml_items.proofs.Lines.{front_of, spelled_line}
use Rattle.toml_items.proofs.line.header_at.Goals as goal

pub invariant_of-result : goal.invariant_of-result
invariant_of-result c =
    let keys = c.in_ok-keys.keys in
    let text = c.args.text.now in
    let spelled : List ℕ = c.in_ok-get.field-0.now in
    let taken : spelled ≡ take (length text - length keys.rest.now) text = grind (arith, c.in_ok-get.ensures.cases.0) in
    record {
      bare = c.in_ok-keys.ensures.keys;
      spells = taken ∙ front_of text (spelling keys.parent keys.key.now) keys.rest.now c.in_ok-keys.ensures.text;
    }

pub returns-clause-line : goal.returns-clause-line
returns-clause-line c =
    let keys = c.in_ok-keys.keys in
    spelled_line keys.parent keys.key.now c.args.text.now _ keys.rest.now c.in_ok-keys.ensures.keys refl
    c.in_ok-keys.ensures.text (sym c.ends_here.ensures ∙ c.if-not-ends_here.false)
