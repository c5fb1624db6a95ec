use Rattle.std.proofs.Common.{length}
use denote.Text.{Utf8}
use denote.Shadow.{shadow}
use Rattle.toml.specs.Data.{Members}
use Rattle.toml_items.proofs.Going.{ReadsPairs}
use Rattle.system_file.specs.inner.Told.{Tells}
use Rattle.system_file.proofs.told.told_lines.Given as goal

abbrev pub invariant-lines : goal.invariant-lines
invariant-lines l = record {
  is_text : shadow (Utf8 l.rest);
  members : Members;
  reads : ReadsPairs l.fn.text members l.rest;
  tells : Tells l.format l.told members;
}

abbrev pub decreases-lines : goal.decreases-lines
decreases-lines l = length l.rest
