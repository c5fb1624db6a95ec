use Rattle.toml_items.proofs.Lines.{bare_boundary}
use Rattle.toml_items.proofs.line.split_bare.Goals as goal

pub split_at-requires : goal.split_at-requires
split_at-requires c = rw (c.bare_len.ensures.len, c.as_bytes.ensures.value) (bare_boundary c.args.text.now c.utf8.text)
