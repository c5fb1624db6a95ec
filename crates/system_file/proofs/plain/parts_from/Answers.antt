use Rattle.std.proofs.Common.{arith, rules}
use Rattle.toml_items.specs.Plain.{path_of}
use Rattle.system_file.proofs.AtEnd.{no_parts, one_more_part, last_part}
use Rattle.system_file.proofs.plain.parts_from.Goals as goal

pub elements-init : goal.elements-init
elements-init c = record {
  is_text = search rules;
  so_far = rw c.new-parts.ensures.items
      (no_parts (path_of c.args.header.parent) c.args.header.key.now c.args.header.rest.now c.args.format
      c.args.cores c.args.names.now c.requires.names);
}

pub elements-preserved : goal.elements-preserved
elements-preserved c = record {
  is_text = search rules;
  so_far = rw c.in_ok-push.ensures.items
      (one_more_part c.elements.invariant.so_far c.in_ok-there.ensures.read c.deref.ensures.value
      c.in_ok-there.ensures.named c.in-Some.after.now c.in-Some.ensures.line);
}

pub returns-in-None : goal.returns-in-None
returns-in-None c =
    rw c.in_ok-push.ensures.items
    (last_part c.elements.invariant.so_far c.in_ok-there.ensures.read c.deref.ensures.value
    c.in_ok-there.ensures.named (omega arith))
