-- What is listed in a certificate shows what it is to show, so that the certificate proves the
-- system.
use Rattle.std.proofs.Common.{◌≡◌, ℕ, ◌-◌, Bool, true, false, List, [], Option, Some, refl, subst, arith}
use Rattle.slot_model.specs.declared.sched.Sched.{Sched}
use Rattle.slot_model.specs.declared.sched.Sched.TheVariants.{Edf, Rm, Dm, Listed}
use Rattle.slot_model.specs.Task.{SporadicTask}
use Rattle.slot_model.specs.Order.{ranks_above}
use Rattle.slot_model.specs.Bound.{sbf}
use Rattle.miss_witness.specs.declared.defeat.Defeat.{Defeat}
use Rattle.miss_witness.specs.Defeat.{IsShortTaskWindow, IsShortWindow, IsDefeat}
use Rattle.fp_test.specs.Falls.{AreFalls}
use Rattle.fp_test.proofs.FallSteps.{falls_chain}
use Rattle.tree_model.specs.CertificateView.{NodeView}
use Rattle.tree_model.specs.View.{SystemView}
use Rattle.tree_model.specs.Tree.{node_tasks, node_sched, node_cycle, node_bound}
use Rattle.cert_verify.specs.Proves.{node_at, AreHits, IsChainOf, ShowsPass, ShowsShort, ShowsLeast, NodeProves, Proves, budgets_of}
use Rattle.certificate.specs.Made.{AreLeastHits, IsFirstTask, ListsPass, ListsShort, ListsLeast, IsMade, IsCertificate}

-- the least hits are hits
least_hits : (above : ℕ → ℕ → Bool) (tasks : List SporadicTask) (bound : ℕ → ℕ) (node : NodeView)
    → AreLeastHits above tasks bound node.hits → node.points ≡ [] → AreHits above tasks bound node
least_hits above tasks bound node hits none =
    record { lists = record { one_each = hits.one_each; no_points = none }; each = hits.each }

pub pass_shows : (sched : Sched) (tasks : List SporadicTask) (bound : ℕ → ℕ) (cycle : ℕ) (node : NodeView)
    → ListsPass sched tasks bound cycle node.points node.hits → ShowsPass sched tasks bound cycle node
pass_shows Edf tasks bound cycle node lists = (
  (lists.0.horizon, lists.0.is_horizon, lists.0.small),
  record { horizon = lists.0.horizon; is_horizon = lists.0.is_horizon; cover = lists.0.cover; no_hits = lists.1 },
)
pass_shows Rm tasks bound cycle node lists = least_hits (ranks_above Rm tasks) tasks bound node lists.0 lists.1
pass_shows Dm tasks bound cycle node lists = least_hits (ranks_above Dm tasks) tasks bound node lists.0 lists.1
pass_shows Listed tasks bound cycle node lists = least_hits (ranks_above Listed tasks) tasks bound node lists.0 lists.1

-- the falls of the first task without a hit are a chain
first_chain : (above : ℕ → ℕ → Bool) (tasks : List SporadicTask) (bound : ℕ → ℕ) (node : NodeView)
    → IsFirstTask above tasks bound node.witness node.falls → IsChainOf above tasks bound node
first_chain above tasks bound node first =
    record {
      task = first.task;
      witness = first.is;
      is_task = first.first.is_task;
      chain = falls_chain above tasks bound first.task node.falls first.are_falls;
    }

pub short_shows : (sched : Sched) (tasks : List SporadicTask) (bound : ℕ → ℕ) (node : NodeView)
    → ListsShort sched tasks bound node.witness node.falls → ShowsShort sched tasks bound node
short_shows Edf tasks bound node short =
    record {
      window = short.window;
      witness = short.is;
      some_slots = short.first.some_slots;
      short = short.first.short;
      no_falls = short.no_falls;
    }
short_shows Rm tasks bound node short = first_chain (ranks_above Rm tasks) tasks bound node short
short_shows Dm tasks bound node short = first_chain (ranks_above Dm tasks) tasks bound node short
short_shows Listed tasks bound node short = first_chain (ranks_above Listed tasks) tasks bound node short

pub least_shows : (computed : Bool) (sched : Sched) (tasks : List SporadicTask) (node : NodeView)
    → ListsLeast computed sched tasks node.period node.budget node.witness node.falls
    → ShowsLeast computed sched tasks node
least_shows true sched tasks node lists = short_shows sched tasks (sbf node.period (node.budget - 1)) node lists
least_shows false sched tasks node lists = record { no_witness = lists.0; no_falls = lists.1 }

made_proves : (sys : SystemView) (budgets : List ℕ) (node : NodeView) → IsMade sys budgets node
    → NodeProves sys budgets node
made_proves sys budgets node made = record {
  passes =
      pass_shows (node_sched sys node.place) (node_tasks sys budgets node.place) (node_bound sys budgets node.place)
      (node_cycle sys node.place) node made.pass;
  least = least_shows node.computed (node_sched sys node.place) (node_tasks sys budgets node.place) node made.least;
}

pub certificate_proves : (sys : SystemView) (nodes : List NodeView) → IsCertificate sys nodes → Proves sys nodes
certificate_proves sys nodes c = record {
  are_nodes = c.are_nodes;
  budgets = λ k l. (c.each k l).has;
  each = λ k l. made_proves sys (budgets_of sys nodes) (node_at nodes k) (c.each k l);
}

-- the first task without a hit, as a defeat has it, and its falls
first_task : (above : ℕ → ℕ → Bool) (tasks : List SporadicTask) (bound : ℕ → ℕ) (span task : ℕ) (falls : List ℕ)
    → IsShortTaskWindow above tasks bound span (Some task) → AreFalls above tasks bound task falls
    → IsFirstTask above tasks bound (Some task) falls
first_task above tasks bound span task falls short are =
    record { task = task; is = refl; first = short.0; are_falls = are }

pub task_lists : (sched : Sched) (tasks : List SporadicTask) (bound : ℕ → ℕ) (span task : ℕ) (falls : List ℕ)
    → IsShortWindow sched tasks bound span (Some task) → AreFalls (ranks_above sched tasks) tasks bound task falls
    → ListsShort sched tasks bound (Some task) falls
task_lists Edf tasks bound span task falls short are = absurd short
task_lists Rm tasks bound span task falls short are =
    first_task (ranks_above Rm tasks) tasks bound span task falls short are
task_lists Dm tasks bound span task falls short are =
    first_task (ranks_above Dm tasks) tasks bound span task falls short are
task_lists Listed tasks bound span task falls short are =
    first_task (ranks_above Listed tasks) tasks bound span task falls short are

pub defeat_lists : (sched : Sched) (tasks : List SporadicTask) (period least task : ℕ) (falls : List ℕ)
    (defeat : Defeat) → IsDefeat sched tasks period least defeat → defeat.task ≡ Some task
    → AreFalls (ranks_above sched tasks) tasks (sbf period (least - 1)) task falls
    → ListsShort sched tasks (sbf period (least - 1)) (Some task) falls
defeat_lists sched tasks period least task falls defeat is named are =
    let same : defeat.budget ≡ least - 1 = omega (arith, is.next_smaller) in
    task_lists sched tasks (sbf period (least - 1)) defeat.span task falls
    (subst (λ (b : ℕ). IsShortWindow sched tasks (sbf period b) defeat.span (Some task)) same
    (subst (λ (o : Option ℕ). IsShortWindow sched tasks (sbf period defeat.budget) defeat.span o) named is.short))
    are
