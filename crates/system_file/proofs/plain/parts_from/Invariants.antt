use denote.Text.{Utf8}
use denote.Shadow.{shadow}
use Rattle.std.proofs.Common.{◌-◌, vec_len}
use Rattle.toml_items.specs.Plain.{path_of}
use Rattle.system_file.proofs.AtEnd.{PartsSoFar}
use Rattle.system_file.proofs.plain.parts_from.Given as goal

abbrev pub invariant-elements : goal.invariant-elements
invariant-elements l = record {
  is_text : shadow (Utf8 l.rest);
  so_far : PartsSoFar (path_of l.header.parent) l.header.key.now l.header.rest.now l.format l.cores l.fn.names
      l.parts.items l.names l.rest;
}

abbrev pub decreases-elements : goal.decreases-elements
decreases-elements l = 512 - vec_len l.parts
