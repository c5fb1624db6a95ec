use Rattle.std.specs.Option.{is_some}
use Rattle.std.proofs.Common.{◌≡◌, ℕ, ◌+◌, ◌<◌, Bool, true, not, Option, Some, None, length, refl, arith, ap, sym, ◌∙◌, subst}
use Rattle.std.proofs.lemmas.Bool.{true≢false}
use Rattle.std.proofs.lemmas.List.{length-map}
use Rattle.slot_model.specs.declared.miss.Miss.{Miss}
use Rattle.slot_model.specs.Task.{SporadicTask, sporadic_task, sporadic_tasks, task_at}
use Rattle.slot_model.specs.Release.{synchronous}
use Rattle.slot_model.proofs.Constrained.{are_constrained}
use Rattle.slot_model.proofs.LegalJobs.{task_at-read}
use Rattle.server_sched.specs.declared.tally.Tally.{Tally}
use Rattle.server_sched.specs.inner.Serving.{IsChosen, Tallies, is_late}
use Rattle.server_sched.proofs.Tallying.{one_in_time, all_in_time, one_late}
use Rattle.server_sched.proofs.tally.close.Goals as goal
use Rattle.server_sched.proofs.tally.close.Goals.{then-server-moment+then-server-gt0, else-server-moment, else-server-moment-via-then-server-moment+else-server-gt0, else-server-moment-via-else-server-moment}

pub loop-i-preserved : goal.loop-i-preserved
loop-i-preserved c =
    let T = sporadic_tasks c.args.tasks.now in
    let x = c.args.moment in
    let i = c.loop-i.i in
    let old = c.loop-i.invariant in
    let in_tasks : i < length c.args.tasks.now = omega (arith, c.loop-i-test.true, c.requires.one_each) in
    let l : i < length T = omega (arith, in_tasks, length-map c.args.tasks.now sporadic_task) in
    elim c.if-server-moment.branch [
      | then-server-moment+then-server-gt0 w ↦
          let read : task_at T i ≡ sporadic_task w.index-tasks-i.result
          = task_at-read c.args.tasks.now i w.index-tasks-i.result in_tasks w.index-tasks-i.is in
          let made = w.late_of-late.ensures in
          record {
            tallied = λ sched n run released m chosen h t.
                subst (λ (v : Tally). Tallies T (synchronous T 0 n) run (is_late T (synchronous T 0 n) run x (i + 1))
                v.missed v.first) (sym w.tally-is)
                (one_late sched T (are_constrained c.args.tasks.now) c.requires.tasks n run x released
                c.args.servers.now m h i c.loop-i.tally.missed c.loop-i.tally.first w.late_of-late.result
                w.earlier.result l (omega (arith, w.if-server-moment.true)) (omega (arith, w.if-server-gt0.true))
                made.place
                (ap (λ (z : Miss). z.task) made.miss)
                (omega (
                  arith,
                  ap (λ (z : Miss). z.release) made.miss,
                  ap (λ (v : SporadicTask). v.period) read,
                  w.if-server-moment.true,
                ))
                (omega (arith, ap (λ (z : Miss). z.deadline) made.miss, w.if-server-moment.true))
                (omega (arith, ap (λ (z : Miss). z.got) made.miss, ap (λ (v : SporadicTask). v.work) read))
                (omega (arith, ap (λ (z : Miss). z.work) made.miss, ap (λ (v : SporadicTask). v.work) read))
                w.earlier.ensures (old.tallied sched n run released m chosen h t));
            few = omega (arith, old.few, ap (λ (v : Tally). v.missed) w.tally-is);
          }
      | else-server-moment w ↦
          record {
            tallied = λ sched n run released m chosen h t.
                subst (λ (v : Tally). Tallies T (synchronous T 0 n) run (is_late T (synchronous T 0 n) run x (i + 1))
                v.missed v.first) (sym w.tally-is)
                (one_in_time sched T (are_constrained c.args.tasks.now) c.requires.tasks n run x released
                c.args.servers.now m h i c.loop-i.tally.missed c.loop-i.tally.first
                (λ e. elim w.else-server-moment.branch [
                  | else-server-moment-via-then-server-moment+else-server-gt0 v ↦ omega (arith, v.if-server-gt0.false)
                  | else-server-moment-via-else-server-moment v ↦ absurd (v.if-server-moment.false e)
                ])
                (old.tallied sched n run released m chosen h t));
            few = omega (arith, old.few, ap (λ (v : Tally). v.missed) w.tally-is);
          }
    ]

no_best : (best : Option ℕ) (none : Bool) → is_some best ≡ not none → none ≡ true → best ≡ None
no_best None none e t = refl
no_best (Some b) none e t = absurd (true≢false (e ∙ ap not t))

pub returns-then-is_none : goal.returns-then-is_none
returns-then-is_none c = λ sched n run released m chosen h t.
    let T = sporadic_tasks c.args.tasks.now in
    all_in_time sched T (are_constrained c.args.tasks.now) c.requires.tasks n run c.args.moment released
    c.args.servers.now m h (subst (IsChosen c.args.servers.now)
    (no_best c.args.best c.is_none.result c.is_none.ensures c.if-is_none.true) chosen) c.args.tally.now.missed
    c.args.tally.now.first (length T) (omega arith) t

pub returns : goal.returns
returns c = λ sched n run released m chosen h t.
    let T = sporadic_tasks c.args.tasks.now in
    let all : c.loop-i.i ≡ length T
    = omega (
      arith,
      c.loop-i-test.false,
      c.loop-i.auto.i-end,
      c.requires.one_each,
      length-map c.args.tasks.now sporadic_task,
    ) in
    subst (λ (p : ℕ). Tallies T (synchronous T 0 n) run (is_late T (synchronous T 0 n) run c.args.moment p)
    c.loop-i.tally.missed c.loop-i.tally.first) all
    (c.loop-i.invariant.tallied sched n run released m chosen h t)
