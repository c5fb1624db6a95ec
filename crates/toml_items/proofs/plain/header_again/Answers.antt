use Rattle.std.proofs.Common.{◌≡◌, ◌++◌, List, ℕ, sym, ◌∙◌, rules}
use Rattle.toml_items.proofs.Lines.{behind_header, spelled_line}
use Rattle.toml_items.proofs.plain.header_again.Goals as goal

pub returns-then-ends_here-clause-line : goal.returns-then-ends_here-clause-line
returns-then-ends_here-clause-line c =
    let header = c.args.header in
    let start : List ℕ = c.after_blank.result.now in
    let rest : List ℕ = c.in_ok-rest.rest.now in
    let all : start ≡ header.spelled.now ++ rest = search rules in
    let ends = sym c.ends_here.ensures ∙ c.if-ends_here.true in
    let read
    = spelled_line header.parent header.key.now start header.spelled.now rest header.bare header.spells all ends in
    record {
      is = rw c.after_blank.ensures.rest at read;
      shorter =
          rw c.after_blank.ensures.rest at
          (behind_header header.parent header.key.now start _ rest header.spells all);
    }
