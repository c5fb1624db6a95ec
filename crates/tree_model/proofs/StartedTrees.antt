-- Permitted runs of a tree whose parts have starts: with all starts 0 they are those of a tree that
-- begins at 0, and there is one whenever each part starts.
use Rattle.std.proofs.Common.{◌≡◌, ℕ, zero, suc, ◌<◌, ◌≤◌, Bool, true, false, List, [], ◌∷◌, ◌++◌, length, get_or, drop, Option, refl, sym, ◌∙◌, ap, arith, subst, inl, inr}
use Rattle.std.proofs.lemmas.Bool.{cases_eq, cases_Bool, true≢false, false≢true}
use Rattle.std.proofs.lemmas.List.{length-map, get_or-map, get_or_append_left, get_or_push, length_push}
use Rattle.slot_model.specs.Slots.{places_where}
use Rattle.slot_model.specs.Task.{SporadicTask}
use Rattle.slot_model.specs.Order.{before_of}
use Rattle.slot_model.specs.Release.{start_at}
use Rattle.slot_model.specs.Run.{server, guest, PermittedRun, child_supply}
use Rattle.slot_model.specs.declared.job.Job.{Job}
use Rattle.slot_model.proofs.Staggered.{AtZero, staggered_at_zero}
use Rattle.slot_model.proofs.FirstRuns.{run_exists}
use Rattle.tree_model.specs.declared.place.Place.{Place}
use Rattle.tree_model.specs.declared.place.Place.TheVariants.{Core, Part}
use Rattle.tree_model.specs.View.{SystemView}
use Rattle.tree_model.specs.System.{IsSystem, part_at, own_tasks_at, is_leaf_at}
use Rattle.tree_model.specs.Tree.{place_of, is_child, node_sched, server_task, server_tasks, server_jobs, rank_among, run_at, run_of, supply_of, GuestRun, PermittedTree, child_starts, started_jobs, started_supply, StartedServers, StartedTree, HasStartedRun}
use Rattle.tree_model.proofs.FirstTrees.{AllStrict, listed, listed_long, listed_at, run_same}

abbrev pub AllAtZero : List ℕ → Type 0
AllAtZero starts = (q : ℕ) → start_at starts q ≡ 0

children_at_zero : (sys : SystemView) (budgets starts : List ℕ) (node : Place) → AllAtZero starts
    → AtZero (server_tasks sys budgets node) (child_starts sys starts node)
children_at_zero sys budgets starts node zeros =
    let places : List ℕ = places_where (is_child sys node) (length sys.parts) in record {
      prompt =
          λ i l. ap (λ (t : SporadicTask). t.jitter) (get_or-map (server_task sys budgets) places i 0 _
          (omega (arith, l, length-map places (server_task sys budgets))));
      at_zero =
          λ i l. get_or-map (start_at starts) places i 0 _
          (omega (arith, l, length-map places (server_task sys budgets))) ∙ zeros (get_or places i 0);
    }

pub jobs_at_zero : (sys : SystemView) (budgets starts : List ℕ) (node : Place) (n : ℕ) → AllAtZero starts
    → started_jobs sys budgets starts node n ≡ server_jobs sys budgets node n
jobs_at_zero sys budgets starts node n zeros =
    staggered_at_zero (server_tasks sys budgets node) (child_starts sys starts node)
    (children_at_zero sys budgets starts node zeros) n

pub supply_at_zero : (sys : SystemView) (budgets starts : List ℕ) (n : ℕ) (core_runs part_runs : List (List (Option ℕ)))
    (q : ℕ) → AllAtZero starts
    → started_supply sys budgets starts n core_runs part_runs q ≡ supply_of sys budgets n core_runs part_runs q
supply_at_zero sys budgets starts n core_runs part_runs q zeros =
    let parent : Place = place_of (part_at sys q).parent in
    ap (λ (s : ℕ). drop s (child_supply (started_jobs sys budgets starts parent n) (run_of core_runs part_runs parent)
    (rank_among sys q))) (zeros q)
    ∙ ap (λ (jobs : List Job). child_supply jobs (run_of core_runs part_runs parent) (rank_among sys q))
    (jobs_at_zero sys budgets starts parent n zeros)

abbrev RunOver : SystemView → List ℕ → Place → List (Option ℕ) → List Job → List Bool → Type 0
RunOver sys budgets node run jobs slots =
    PermittedRun server (before_of (node_sched sys node) (server_tasks sys budgets node))
    (server_tasks sys budgets node) jobs slots run

servers_over : (sys : SystemView) (budgets : List ℕ) (node : Place) (run : List (Option ℕ)) (jobs more : List Job)
    (slots other : List Bool) → jobs ≡ more → slots ≡ other → RunOver sys budgets node run jobs slots
    → RunOver sys budgets node run more other
servers_over sys budgets node run jobs more slots other e f h =
    subst (λ (v : List Bool). RunOver sys budgets node run more v) f
    (subst (λ (v : List Job). RunOver sys budgets node run v slots) e h)

-- with all starts 0 the two definitions of a permitted run of the tree are one
pub permitted_of_started : (sys : SystemView) (budgets starts : List ℕ) (n : ℕ) (supplies : List (List Bool))
    (jobs : List (List Job)) (core_runs part_runs : List (List (Option ℕ))) → AllAtZero starts
    → StartedTree sys budgets starts n supplies jobs core_runs part_runs
    → PermittedTree sys budgets n supplies jobs core_runs part_runs
permitted_of_started sys budgets starts n supplies jobs core_runs part_runs zeros h = record {
  run_each_core = h.run_each_core;
  run_each_part = h.run_each_part;
  cores =
      λ c l. servers_over sys budgets (Core c) _ _ _ _ _ (jobs_at_zero sys budgets starts (Core c) n zeros) refl
      (h.cores c l);
  inner =
      λ q l inner. servers_over sys budgets (Part q) _ _ _ _ _ (jobs_at_zero sys budgets starts (Part q) n zeros)
      (supply_at_zero sys budgets starts n core_runs part_runs q zeros) (h.inner q l inner);
  leaves =
      λ q l leaf. subst (λ (v : List Bool). GuestRun sys q (get_or jobs q []) v (get_or part_runs q []))
      (supply_at_zero sys budgets starts n core_runs part_runs q zeros) (h.leaves q l leaf);
}

pub started_of_permitted : (sys : SystemView) (budgets starts : List ℕ) (n : ℕ) (supplies : List (List Bool))
    (jobs : List (List Job)) (core_runs part_runs : List (List (Option ℕ))) → AllAtZero starts
    → PermittedTree sys budgets n supplies jobs core_runs part_runs
    → StartedTree sys budgets starts n supplies jobs core_runs part_runs
started_of_permitted sys budgets starts n supplies jobs core_runs part_runs zeros h = record {
  run_each_core = h.run_each_core;
  run_each_part = h.run_each_part;
  cores =
      λ c l. servers_over sys budgets (Core c) _ _ _ _ _ (sym (jobs_at_zero sys budgets starts (Core c) n zeros)) refl
      (h.cores c l);
  inner =
      λ q l inner. servers_over sys budgets (Part q) _ _ _ _ _ (sym (jobs_at_zero sys budgets starts (Part q) n zeros))
      (sym (supply_at_zero sys budgets starts n core_runs part_runs q zeros)) (h.inner q l inner);
  leaves =
      λ q l leaf. subst (λ (v : List Bool). GuestRun sys q (get_or jobs q []) v (get_or part_runs q []))
      (sym (supply_at_zero sys budgets starts n core_runs part_runs q zeros)) (h.leaves q l leaf);
}

-- runs one after another, each over slots that rest on the earlier ones
record RunsTo (P : ℕ → List Bool → List (Option ℕ) → Type 0) (supply : List (List (Option ℕ)) → ℕ → List Bool) (m : ℕ)
    (runs : List (List (Option ℕ))) : Type 0 where
  long : length runs ≡ m
  each : (q : ℕ) → q < m → P q (supply runs q) (run_at runs q)

runs_to : (P : ℕ → List Bool → List (Option ℕ) → Type 0)
    → ((q : ℕ) (slots : List Bool) → (run : List (Option ℕ)) × P q slots run)
    → (supply : List (List (Option ℕ)) → ℕ → List Bool) (total : ℕ)
    → ((p r : List (List (Option ℕ))) (q : ℕ) → q < total → ((i : ℕ) → i < q → run_at p i ≡ run_at r i)
    → supply p q ≡ supply r q)
    → (m : ℕ) → m ≤ total → (runs : List (List (Option ℕ))) × RunsTo P supply m runs
runs_to P one supply total rests zero l = ([], record { long = refl; each = λ q l. absurd (omega arith) })
runs_to P one supply total rests (suc m) l =
    let r : (runs : List (List (Option ℕ))) × RunsTo P supply m runs
    = runs_to P one supply total rests m (omega arith) in
    let x : (run : List (Option ℕ)) × P m (supply r.0 m) run = one m (supply r.0 m) in
    let more : List (List (Option ℕ)) = r.0 ++ x.0 ∷ [] in
    let earlier : (i : ℕ) → i < m → run_at r.0 i ≡ run_at more i
    = λ i li. sym (get_or_append_left r.0 (x.0 ∷ []) [] i (omega (arith, r.1.long))) in
    let same : (q : ℕ) → q ≤ m → supply r.0 q ≡ supply more q
    = λ q lq. rests r.0 more q (omega arith) (λ i li. earlier i (omega arith)) in (
      more,
      record {
        long = omega (arith, length_push r.0 x.0, r.1.long);
        each = λ q lq. elim (cases_eq q m) [
          | inl now ↦ subst (λ (z : ℕ). P z (supply more z) (run_at more z)) (sym now)
              (subst (λ (v : List Bool). P m v (run_at more m)) (same m (omega arith))
              (subst (λ (v : List (Option ℕ)). P m (supply r.0 m) v) (sym (get_or_push r.0 x.0 [] m r.1.long)) x.1))
          | inr ne ↦
              subst (λ (v : List Bool). P q v (run_at more q)) (same q (omega arith))
              (subst (λ (v : List (Option ℕ)). P q (supply r.0 q) v) (earlier q (omega arith))
              (r.1.each q (omega arith)))
        ];
      },
    )

-- a permitted run of one part over its slots
record PartRun (sys : SystemView) (budgets starts : List ℕ) (n : ℕ) (jobs : List (List Job)) (q : ℕ) (slots : List Bool)
    (run : List (Option ℕ)) : Type 0 where
  inner : is_leaf_at sys q ≡ false → StartedServers sys budgets starts n (Part q) slots run
  leaf : is_leaf_at sys q ≡ true → GuestRun sys q (get_or jobs q []) slots run

servers_run : AllStrict → (sys : SystemView) (budgets starts : List ℕ) (n : ℕ) (node : Place) (slots : List Bool)
    → (run : List (Option ℕ)) × StartedServers sys budgets starts n node slots run
servers_run strict sys budgets starts n node slots =
    run_exists server _ (strict _ (server_tasks sys budgets node)) (server_tasks sys budgets node)
    (started_jobs sys budgets starts node n) slots

part_run : AllStrict
    → (sys : SystemView) (budgets starts : List ℕ) (n : ℕ) (jobs : List (List Job)) (q : ℕ) (slots : List Bool)
    → (run : List (Option ℕ)) × PartRun sys budgets starts n jobs q slots run
part_run strict sys budgets starts n jobs q slots = elim (cases_Bool (is_leaf_at sys q)) [
  | inl t ↦ let r =
      run_exists guest _ (strict (part_at sys q).sched (own_tasks_at sys q)) (own_tasks_at sys q) (get_or jobs q [])
      slots in (r.0, record { inner = λ f. absurd (true≢false (sym t ∙ f)); leaf = λ e. r.1 })
  | inr f ↦ let r =
      servers_run strict sys budgets starts n (Part q) slots in
      (r.0, record { inner = λ e. r.1; leaf = λ t. absurd (false≢true (sym f ∙ t)) })
]

-- a permitted run of the tree exists, whenever each part starts
pub started_exists : AllStrict
    → (sys : SystemView) (budgets starts : List ℕ) (n : ℕ) (supplies : List (List Bool)) (jobs : List (List Job))
    → IsSystem sys → HasStartedRun sys budgets starts n supplies jobs
started_exists strict sys budgets starts n supplies jobs fits =
    let core_run = λ (c : ℕ). servers_run strict sys budgets starts n (Core c) (get_or supplies c []) in
    let core_runs : List (List (Option ℕ)) = listed (λ c. (core_run c).0) (length sys.cores) in
    let r
    = runs_to (PartRun sys budgets starts n jobs) (part_run strict sys budgets starts n jobs)
    (λ p q. started_supply sys budgets starts n core_runs p q) (length sys.parts)
    (λ p r q l same. ap (λ v. drop (start_at starts q)
    (child_supply (started_jobs sys budgets starts (place_of (part_at sys q).parent) n) v (rank_among sys q)))
    (run_same core_runs p r sys q (part_at sys q).parent (fits.parents q l) same))
    (length sys.parts) (omega arith) in (
      core_runs,
      r.0,
      record {
        run_each_core = listed_long (λ c. (core_run c).0) (length sys.cores);
        run_each_part = r.1.long;
        cores =
            λ c l. subst (StartedServers sys budgets starts n (Core c) (get_or supplies c []))
            (sym (listed_at (λ c. (core_run c).0) [] (length sys.cores) c l)) (core_run c).1;
        inner = λ q l. (r.1.each q l).inner;
        leaves = λ q l. (r.1.each q l).leaf;
      },
    )
