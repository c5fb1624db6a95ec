use Rattle.std.proofs.Common.{◌≡◌, ℕ, ◌+◌, ◌<◌, ◌≤◌, List, Option, length, set, arith, ap, sym, ◌∙◌, subst, inl, inr, get_or-set_other}
use Rattle.std.proofs.lemmas.Bool.{cases_eq}
use Rattle.std.proofs.lemmas.List.{length-map}
use Rattle.slot_model.specs.Task.{SporadicTask, sporadic_task, sporadic_tasks, task_at}
use Rattle.slot_model.specs.Release.{synchronous}
use Rattle.slot_model.proofs.Constrained.{are_constrained}
use Rattle.slot_model.proofs.LegalJobs.{task_at-read}
use Rattle.server_sched.specs.declared.serving.Come.{Come}
use Rattle.server_sched.specs.declared.serving.Server.{Server}
use Rattle.server_sched.specs.inner.Serving.{server_at, no_server, IsKeyed, AtMoment}
use Rattle.server_sched.proofs.Renewing.{one_renewed, one_waiting, all_renewed}
use Rattle.server_sched.proofs.serving.renew.Goals as goal
use Rattle.server_sched.proofs.serving.renew.Goals.{After-min, then-servers-i, else-servers-i}

-- no server releases before the least next release of the first so many
least_more : (servers : List Server) (i old new : ℕ) → ((k : ℕ) → k < i → old ≤ (server_at servers k).next) → new ≤ old
    → new ≤ (server_at servers i).next → (k : ℕ) → k < i + 1 → new ≤ (server_at servers k).next
least_more servers i old new h a b k l =
    elim (cases_eq k i) [
      | inl e ↦
          omega (arith, b, ap (λ (z : ℕ). (server_at servers z).next) e)
      | inr ne ↦ omega (arith, a, h k (omega arith))
    ]

-- what is released by now, whether or not server i is due
released_now : (c : After-min) (n : ℕ) (run : List (Option ℕ)) (released : ℕ) (servers : List Server)
    → c.if-servers-i.come.released ≡ released → c.if-servers-i.servers ≡ servers
    → c.if-servers-i.come.next ≡ c.loop-i.come.next → c.loop-i.i < length (sporadic_tasks c.args.tasks.now)
    → c.args.moment < c.loop-i.come.next
    → AtMoment c.args.sched (sporadic_tasks c.args.tasks.now) (synchronous (sporadic_tasks c.args.tasks.now) 0 n) run
    c.args.moment (c.loop-i.i + 1) released servers
    → (AtMoment c.args.sched (sporadic_tasks c.args.tasks.now) (synchronous (sporadic_tasks c.args.tasks.now) 0 n) run
    c.args.moment (c.loop-i.i + 1) c.if-servers-i.come.released c.if-servers-i.servers)
    × (c.args.moment < c.min.result)
released_now c n run released servers of_released of_servers of_next l later more =
    let T = sporadic_tasks c.args.tasks.now in
    let i = c.loop-i.i in
    let now : AtMoment c.args.sched T (synchronous T 0 n) run c.args.moment (i + 1) c.if-servers-i.come.released
    c.if-servers-i.servers
    =
    subst (λ (s : List Server). AtMoment c.args.sched T (synchronous T 0 n) run c.args.moment (i + 1)
    c.if-servers-i.come.released s) (sym of_servers)
    (subst (λ (r : ℕ). AtMoment c.args.sched T (synchronous T 0 n) run c.args.moment (i + 1) r servers)
    (sym of_released) more) in (
      now,
      omega (arith, c.min.ensures, later, of_next, (now.past i (omega arith) l).from),
    )

-- no server so far releases before the next moment
least_now : (c : After-min) → c.if-servers-i.come.next ≡ c.loop-i.come.next
    → ((k : ℕ) → k < c.loop-i.i → c.loop-i.come.next ≤ (server_at c.if-servers-i.servers k).next)
    → (k : ℕ) → k < c.loop-i.i + 1 → c.min.result ≤ (server_at c.if-servers-i.servers k).next
least_now c of_next so_far =
    least_more c.if-servers-i.servers c.loop-i.i c.loop-i.come.next c.min.result so_far
    (omega (arith, c.min.ensures, of_next)) (omega (arith, c.min.ensures))

pub loop-i-preserved : goal.loop-i-preserved
loop-i-preserved c =
    let at = (goal.at.loop-i-preserved c).After-min in
    let T = sporadic_tasks c.args.tasks.now in
    let x = c.args.moment in
    let i = c.loop-i.i in
    let old = c.loop-i.invariant in
    let servers = c.loop-i.servers in
    let inside : i < length servers = omega (arith, c.loop-i-test.true, c.loop-i.auto.servers) in
    let in_tasks : i < length c.args.tasks.now = omega (arith, inside, old.long) in
    let l : i < length T = omega (arith, in_tasks, length-map c.args.tasks.now sporadic_task) in
    elim c.if-servers-i.branch [
      | then-servers-i w ↦
          let read : task_at T i ≡ sporadic_task w.index-tasks-i.result
          = task_at-read c.args.tasks.now i w.index-tasks-i.result in_tasks w.index-tasks-i.is in
          let new : Server = w.renewed.result in
          let made = w.renewed.ensures in
          let period : new.next ≡ x + (task_at T i).period
          = made.next ∙ ap (λ (t : SporadicTask). x + t.period) (sym read) in
          let keyed : IsKeyed c.args.sched (task_at T i) i new
          = subst (λ (t : SporadicTask). IsKeyed c.args.sched t i new) (sym read) made.keyed in
          record {
            released = λ n run m holds h.
                let before = old.released n run m holds h in
                let more : AtMoment c.args.sched T (synchronous T 0 n) run x (i + 1) (c.loop-i.come.released + 1)
                (set servers i new)
                =
                one_renewed c.args.sched T (are_constrained c.args.tasks.now) c.requires.tasks n run x i
                c.loop-i.come.released servers new m holds l (omega (
                  arith,
                  c.requires.in_time,
                  ap (λ (t : SporadicTask). t.period) read,
                  w.index-tasks-i.result.in_limit,
                )) (omega (arith, w.if-servers-i.true))
                (made.left ∙ ap (λ (t : SporadicTask). t.work) (sym read)) period made.place keyed before.0 in
                released_now at n run (c.loop-i.come.released + 1) (set servers i new)
                (ap (λ (v : Come). v.released) w.come-is) w.servers-is (ap (λ (v : Come). v.next) w.come-is) l before.1
                more;
            least =
                least_now at (ap (λ (v : Come). v.next) w.come-is) (λ q b. omega (
                  arith,
                  old.least q b,
                  ap (λ (s : List Server). (server_at s q).next) w.servers-is,
                  ap (λ (s : Server). s.next) (get_or-set_other servers i q new no_server (λ e. omega arith)),
                ));
            few = omega (arith, old.few, ap (λ (v : Come). v.released) w.come-is);
            long = omega (arith, old.long, c.loop-i.auto.servers, c.if-servers-i.auto.servers);
          }
      | else-servers-i w ↦
          record {
            released = λ n run m holds h.
                let before = old.released n run m holds h in
                let more : AtMoment c.args.sched T (synchronous T 0 n) run x (i + 1) c.loop-i.come.released servers
                =
                one_waiting c.args.sched T n run x i c.loop-i.come.released servers l (λ e. w.if-servers-i.false e)
                before.0 in
                released_now at n run c.loop-i.come.released servers (ap (λ (v : Come). v.released) w.come-is)
                w.servers-is (ap (λ (v : Come). v.next) w.come-is) l before.1 more;
            least =
                least_now at (ap (λ (v : Come). v.next) w.come-is)
                (λ q b. omega (arith, old.least q b, ap (λ (s : List Server). (server_at s q).next) w.servers-is));
            few = omega (arith, old.few, ap (λ (v : Come). v.released) w.come-is);
            long = omega (arith, old.long, c.loop-i.auto.servers, c.if-servers-i.auto.servers);
          }
    ]

pub returns-clause-rest : goal.returns-clause-rest
returns-clause-rest c = λ n run m holds h.
    let T = sporadic_tasks c.args.tasks.now in
    let i = c.loop-i.invariant in
    let done = i.released n run m holds h in (
      all_renewed c.args.sched T n run c.args.moment c.loop-i.i c.loop-i.come.released c.loop-i.come.next
          c.loop-i.servers m done.1 (omega (
            arith,
            c.loop-i-test.false,
            c.loop-i.auto.i-end,
            c.requires.one_each,
            length-map c.args.tasks.now sporadic_task,
          )) i.least done.0,
      done.1,
    )
