use Rattle.std.proofs.Common.{◌≡◌, [], ◌∷◌, codes, refl, rules}
use Rattle.system_file.proofs.WithTasks.{with_tasks}
use Rattle.system_file.proofs.at_front.part_at.Goals as goal

pub returns-in_default-clause-read : goal.returns-in_default-clause-read
returns-in_default-clause-read c = (c.in_ok-there.ensures.read _).whole

pub returns-clause-read : goal.returns-clause-read
returns-clause-read c =
    let server = c.in_ok-there.ensures.read (c.args.header.key.now ∷ []) in
    let is_task : c.in-Some.inner.key.now ≡ codes "task" = search rules in
    rw (c.requires.top, c.with_tasks.ensures)
    (with_tasks server is_task c.in-Some.ensures.line (rw c.in-Some.ensures.path at c.in_ok-read.ensures) refl)
