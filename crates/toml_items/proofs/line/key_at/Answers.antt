use Rattle.std.proofs.Common.{sym, ◌∙◌}
use Rattle.toml_items.proofs.Lines.{key_equals-one}
use Rattle.toml_items.proofs.line.key_at.Goals as goal

pub returns-clause-key : goal.returns-clause-key
returns-clause-key c =
    let at_equals = c.after_ws-at_equals.ensures.rest in
    let found = sym c.first.ensures ∙ c.if-first-ne61.false in
    rw (c.after_ws.ensures.rest, c.skip.ensures.rest, at_equals)
    (key_equals-one c.args.text.now _ _ c.in_ok-key.ensures.key (rw at_equals at found))
