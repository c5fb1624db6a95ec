use Rattle.std.proofs.Common.{arith, refl, rules}
use Rattle.toml_items.specs.Plain.{path_of}
use Rattle.system_file.specs.Document.{spelled_task}
use Rattle.system_file.specs.Faults.{task_faults}
use Rattle.system_file.proofs.AtEnd.{none_so_far, one_more, with_last}
use Rattle.system_file.proofs.at_front.tasks_from.Goals as goal

pub elements-init : goal.elements-init
elements-init c = record {
  is_text = search rules;
  so_far = rw (c.new-tasks.ensures.items, c.clear.ensures)
      (none_so_far (task_faults c.args.format c.args.part) spelled_task
      (path_of c.args.header.parent) c.args.header.key.now c.args.header.rest.now);
}

pub elements-preserved : goal.elements-preserved
elements-preserved c = record {
  is_text = search rules;
  so_far = rw c.in_ok-push.ensures.items
      (one_more c.elements.invariant.so_far (c.in_ok-there.ensures _ _ _ refl) (omega arith) c.in-Some.after.now
      c.in-Some.ensures.line);
}

pub returns-in-None : goal.returns-in-None
returns-in-None c =
    rw c.in_ok-push.ensures.items
    (with_last c.elements.invariant.so_far (c.in_ok-there.ensures _ _ _ refl) (omega arith) 256 (omega arith))
