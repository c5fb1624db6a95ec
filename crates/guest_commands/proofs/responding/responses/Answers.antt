use Rattle.std.proofs.Common.{◌≡◌, ℕ, ◌<◌, ◌≤◌, List, length, get_or, IfOk, arith}
use Rattle.std.proofs.lemmas.Result.{IfOk-weaker}
use Rattle.slot_model.specs.declared.sched.Sched.{Sched}
use Rattle.slot_model.specs.declared.task.Task.{Task}
use Rattle.slot_model.specs.Task.{sporadic_tasks}
use Rattle.slot_model.specs.Supply.{GivesBudget}
use Rattle.slot_model.specs.Order.{before_of, ranks_above}
use Rattle.slot_model.specs.Bound.{sbf, Passes}
use Rattle.slot_model.proofs.Constrained.{are_constrained}
use Rattle.slot_model.proofs.WorstPattern.{periodic_laws}
use Rattle.fp_request.proofs.Gathered.{of_ranked, to_ranked}
use Rattle.fp_request.proofs.Parts.{sporadic_tasks-length}
use Rattle.fp_test.specs.Hits.{IsLeastHit}
use Rattle.response_times.specs.Response.{IsGreatestResponse}
use Rattle.response_times.proofs.WorstRuns.{shows_least}
use Rattle.guest_commands.proofs.responding.responses.Goals as goal

pub responses_in-requires-clause-few : goal.responses_in-requires-clause-few
responses_in-requires-clause-few c =
    to_ranked (λ (sched : Sched) (ts : List Task). length ts ≤ 256) c.gather-level.result c.args.sched
    c.args.tasks.now c.gather-level.ensures.level c.requires.few

pub responses_in-requires-clause-passes : goal.responses_in-requires-clause-passes
responses_in-requires-clause-passes c =
    to_ranked (λ (sched : Sched) (ts : List Task). Passes sched (sporadic_tasks ts)
    (sbf c.args.supply.now.period c.args.supply.now.budget)) c.gather-level.result c.args.sched c.args.tasks.now
    c.gather-level.ensures.level c.requires.passes

pub returns-clause-long : goal.returns-clause-long
returns-clause-long c =
    of_ranked (λ (sched : Sched) (ts : List Task). IfOk c.responses_in.result
    (λ worst. length worst.items ≡ length ts)) c.gather-level.result c.args.sched c.args.tasks.now
    c.gather-level.ensures.level c.responses_in.ensures.long

pub returns-clause-least : goal.returns-clause-least
returns-clause-least c =
    of_ranked (λ (sched : Sched) (ts : List Task). IfOk c.responses_in.result
    (λ worst. (i : ℕ) → i < length ts → IsLeastHit (ranks_above sched (sporadic_tasks ts)) (sporadic_tasks ts)
    (sbf c.args.supply.now.period c.args.supply.now.budget) i (get_or worst.items i 0))) c.gather-level.result
    c.args.sched c.args.tasks.now c.gather-level.ensures.level c.responses_in.ensures.least

pub returns-clause-greatest : goal.returns-clause-greatest
returns-clause-greatest c =
    of_ranked (λ (sched : Sched) (ts : List Task). IfOk c.responses_in.result
    (λ worst. (i : ℕ) → i < length ts → IsGreatestResponse
    (GivesBudget c.args.supply.now.period c.args.supply.now.budget) (before_of sched (sporadic_tasks ts))
    (sporadic_tasks ts) i (get_or worst.items i 0))) c.gather-level.result c.args.sched c.args.tasks.now
    c.gather-level.ensures.level c.responses_in.ensures.greatest

pub returns-clause-shown : goal.returns-clause-shown
returns-clause-shown c =
    let T = sporadic_tasks c.args.tasks.now in
    let supply = c.args.supply.now in
    IfOk-weaker c.responses_in.result _ _
    (λ worst least i l. shows_least c.args.sched c.requires.fixed T (are_constrained c.args.tasks.now)
    (periodic_laws supply.period supply.budget supply.some_period supply.in_period) i (get_or worst.items i 0)
    (omega (arith, l, sporadic_tasks-length c.args.tasks.now)) (least i l)) (returns-clause-least c)
