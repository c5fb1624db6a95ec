use Rattle.toml_items.proofs.Lines.{plain_boundary}
use Rattle.toml_items.proofs.line.split_plain.Goals as goal

pub split_at-requires : goal.split_at-requires
split_at-requires c = rw (c.plain_len.ensures.len, c.as_bytes.ensures.value) (plain_boundary c.args.text.now)
