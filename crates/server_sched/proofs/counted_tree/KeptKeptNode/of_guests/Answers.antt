use Rattle.std.proofs.Common.{List, map, ap, sym, subst, Vec, Global}
use Rattle.slot_model.specs.Task.{sporadic_tasks}
use Rattle.guest_sched.specs.Spans.{Window}
use Rattle.tree_spans.specs.Levels.{IsGuestLevel}
use Rattle.tree_spans.specs.KeptNodes.{IsKeptOf}
use Rattle.server_sched.specs.inner.Kept.{IsStillKept}
use Rattle.server_sched.proofs.ServerKept.{guests_kept}
use Rattle.server_sched.proofs.counted_tree.KeptKeptNode.of_guests.Goals as goal

pub returns : goal.returns
returns c =
    let T = sporadic_tasks c.args.tasks.now in
    let counts = c.in_ok-counts.counts in
    let r = c.in_ok-counts.ensures in
    subst (λ (shares : List (List Window)). IsKeptOf IsStillKept
    (IsGuestLevel c.args.sched T c.args.jobs.now c.args.given.now c.args.slots)
    (record { shares = shares; counts = counts }))
    (sym (ap (map (λ (s : Vec Window Global). s.items)) c.new.ensures.items))
    (guests_kept c.args.sched T c.args.jobs.now c.args.given.now c.args.slots counts r.0 r.1 r.2)
