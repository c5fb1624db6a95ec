use denote.Text.{Utf8}
use denote.Shadow.{shadow}
use Rattle.std.proofs.Common.{◌-◌, vec_len}
use Rattle.toml_items.specs.Plain.{path_of}
use Rattle.system_file.specs.Document.{spelled_task}
use Rattle.system_file.specs.Faults.{task_faults}
use Rattle.system_file.proofs.AtEnd.{SoFar}
use Rattle.system_file.proofs.at_front.tasks_from.Given as goal

abbrev pub invariant-elements : goal.invariant-elements
invariant-elements l = record {
  is_text : shadow (Utf8 l.rest);
  so_far : SoFar (task_faults l.format l.part) spelled_task (path_of l.header.parent) l.header.key.now l.header.rest.now
      l.tasks.items l.names l.rest;
}

abbrev pub decreases-elements : goal.decreases-elements
decreases-elements l = 256 - vec_len l.tasks
