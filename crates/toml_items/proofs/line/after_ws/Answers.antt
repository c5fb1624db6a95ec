use Rattle.std.proofs.Common.{sym, ◌∙◌}
use Rattle.toml_parser.proofs.LexicalLemmas.{skip_ws_none}
use Rattle.toml_items.proofs.Lines.{skip_ws-one}
use Rattle.toml_items.proofs.line.after_ws.Goals as goal

pub returns-then-not-is_ws-clause-rest : goal.returns-then-not-is_ws-clause-rest
returns-then-not-is_ws-clause-rest c =
    let other = sym c.is_ws.ensures ∙ c.if-not-is_ws.true in
    sym (skip_ws_none c.args.text.now (rw c.first.ensures at other))

pub returns-then-is_ws-clause-rest : goal.returns-then-is_ws-clause-rest
returns-then-is_ws-clause-rest c =
    let ws = sym c.is_ws.ensures ∙ c.if-not-is_ws.false in
    let one = skip_ws-one c.args.text.now (rw c.first.ensures at ws) in
    rw (c.skip_ws.ensures.rest, c.skip-rest.ensures.rest) (sym one)

pub returns-else-is_ws-clause-rest : goal.returns-else-is_ws-clause-rest
returns-else-is_ws-clause-rest c =
    let ws = sym c.is_ws.ensures ∙ c.if-not-is_ws.false in
    let one = skip_ws-one c.args.text.now (rw c.first.ensures at ws) in
    let other = sym c.is_ws-2.ensures ∙ c.if-is_ws.false in
    sym (one ∙ rw (← c.skip-rest.ensures.rest) (skip_ws_none c.skip-rest.result.now (rw c.first-2.ensures at other)))
