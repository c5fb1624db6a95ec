use denote.Text.{Utf8}
use denote.Shadow.{shadow}
use Rattle.std.proofs.Common.{◌-◌, vec_len}
use Rattle.toml_items.specs.Plain.{path_of}
use Rattle.system_file.specs.Document.{spelled_core}
use Rattle.system_file.specs.Faults.{core_faults}
use Rattle.system_file.proofs.AtEnd.{SoFar}
use Rattle.system_file.proofs.plain.cores_from.Given as goal

abbrev pub invariant-elements : goal.invariant-elements
invariant-elements l = record {
  is_text : shadow (Utf8 l.rest);
  so_far : SoFar core_faults spelled_core (path_of l.header.parent) l.header.key.now l.header.rest.now
      l.cores.items l.names l.rest;
}

abbrev pub decreases-elements : goal.decreases-elements
decreases-elements l = 64 - vec_len l.cores
