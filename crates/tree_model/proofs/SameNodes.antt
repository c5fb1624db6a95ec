-- The first run at a node depends on its scheduler, its tasks, its jobs and its slots alone, and
-- the slots of a part on its parent's servers and run and on its place among them. So two nodes
-- that have the same, of one system or of two, have the same run.
use Rattle.std.proofs.Common.{◌≡◌, ℕ, Bool, List, Option, ◌∙◌, ap, subst}
use Rattle.slot_model.specs.declared.job.Job.{Job}
use Rattle.slot_model.specs.declared.sched.Sched.{Sched}
use Rattle.slot_model.specs.Task.{SporadicTask}
use Rattle.slot_model.specs.Release.{synchronous}
use Rattle.slot_model.specs.Run.{guest, server, FirstRun, child_supply}
use Rattle.slot_model.specs.Order.{before_of}
use Rattle.tree_model.specs.declared.place.Place.{Place}
use Rattle.tree_model.specs.View.{SystemView}
use Rattle.tree_model.specs.System.{part_at, own_tasks_at}
use Rattle.tree_model.specs.Tree.{place_of, node_sched, server_tasks, server_jobs, run_of, rank_among, supply_of}
use Rattle.tree_model.specs.FirstTree.{FirstServers, FirstLeaf}

pub first_servers_same : (sys other : SystemView) (budgets more : List ℕ) (n : ℕ) (node place : Place)
    (slots given : List Bool) (run : List (Option ℕ)) →
    node_sched sys node ≡ node_sched other place → server_tasks sys budgets node ≡ server_tasks other more place
    → slots ≡ given → FirstServers sys budgets n node slots run → FirstServers other more n place given run
first_servers_same sys other budgets more n node place slots given run by tasks same first =
    subst (λ (s : Sched). FirstRun server (before_of s (server_tasks other more place)) (server_tasks other more place)
    (server_jobs other more place n) given run) by
    (subst (λ (ts : List SporadicTask). FirstRun server (before_of (node_sched sys node) ts) ts (synchronous ts 0 n)
    given run) tasks
    (subst (λ (v : List Bool). FirstServers sys budgets n node v run) same first))

pub first_leaf_same : (sys other : SystemView) (q r : ℕ) (jobs list : List Job) (slots given : List Bool)
    (run : List (Option ℕ)) →
    (part_at sys q).sched ≡ (part_at other r).sched → own_tasks_at sys q ≡ own_tasks_at other r → jobs ≡ list
    → slots ≡ given → FirstLeaf sys q jobs slots run → FirstLeaf other r list given run
first_leaf_same sys other q r jobs list slots given run by tasks works same first =
    subst (λ (s : Sched). FirstRun guest (before_of s (own_tasks_at other r)) (own_tasks_at other r) list given run) by
    (subst (λ (ts : List SporadicTask). FirstRun guest (before_of (part_at sys q).sched ts) ts list given run) tasks
    (subst (λ (js : List Job). FirstLeaf sys q js given run) works
    (subst (λ (v : List Bool). FirstLeaf sys q jobs v run) same first)))

pub slots_same : (sys other : SystemView) (budgets more : List ℕ) (n : ℕ)
    (core_runs part_runs cores parts : List (List (Option ℕ))) (q r : ℕ) →
    server_tasks sys budgets (place_of (part_at sys q).parent)
    ≡ server_tasks other more (place_of (part_at other r).parent)
    → run_of core_runs part_runs (place_of (part_at sys q).parent)
    ≡ run_of cores parts (place_of (part_at other r).parent) → rank_among sys q ≡ rank_among other r →
    supply_of sys budgets n core_runs part_runs q ≡ supply_of other more n cores parts r
slots_same sys other budgets more n core_runs part_runs cores parts q r tasks run rank =
    ap (λ (ts : List SporadicTask). child_supply (synchronous ts 0 n)
    (run_of core_runs part_runs (place_of (part_at sys q).parent)) (rank_among sys q)) tasks
    ∙ (ap (λ (x : List (Option ℕ)). child_supply (server_jobs other more (place_of (part_at other r).parent) n) x
    (rank_among sys q)) run
    ∙ ap (λ (k : ℕ). child_supply (server_jobs other more (place_of (part_at other r).parent) n)
    (run_of cores parts (place_of (part_at other r).parent)) k) rank)
