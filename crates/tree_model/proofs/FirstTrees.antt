-- There is exactly one first run of the tree, and it is permitted.
use Rattle.std.proofs.Common.{◌≡◌, ℕ, zero, suc, ◌<◌, ◌≤◌, Bool, true, false, List, [], ◌∷◌, ◌++◌, length, get_or, Option, refl, sym, ◌∙◌, ap, arith, subst, inl, inr}
use Rattle.std.proofs.lemmas.Bool.{cases_eq, cases_Bool, true≢false, false≢true}
use Rattle.std.proofs.lemmas.List.{get_or_append_left, get_or_push, length_push, ext_get_or}
use Rattle.slot_model.specs.declared.job.Job.{Job}
use Rattle.slot_model.specs.declared.sched.Sched.{Sched}
use Rattle.slot_model.specs.Task.{SporadicTask}
use Rattle.slot_model.specs.Run.{guest, server, child_supply}
use Rattle.slot_model.specs.Order.{before_of, IsStrictOrder}
use Rattle.slot_model.proofs.FirstRuns.{run_to, first_permitted}
use Rattle.slot_model.proofs.Unique.{run_unique}
use Rattle.tree_model.specs.declared.place.Parent.{Parent}
use Rattle.tree_model.specs.declared.place.Parent.TheVariants.{Core as on_core, Part as on_part}
use Rattle.tree_model.specs.declared.place.Place.TheVariants.{Core, Part}
use Rattle.tree_model.specs.View.{SystemView}
use Rattle.tree_model.specs.System.{IsSystem, Stands, core_at, part_at, own_tasks_at, is_leaf_at}
use Rattle.tree_model.specs.Tree.{place_of, server_tasks, server_jobs, run_at, run_of, supply_of, rank_among, PermittedTree}
use Rattle.tree_model.specs.FirstTree.{FirstServers, FirstLeaf, FirstTree, OneFirstTree}

-- a first run of the tree is a permitted run
pub first_tree_permitted : (sys : SystemView) (budgets : List ℕ) (n : ℕ) (supplies : List (List Bool))
    (jobs : List (List Job)) (core_runs part_runs : List (List (Option ℕ)))
    → FirstTree sys budgets n supplies jobs core_runs part_runs
    → PermittedTree sys budgets n supplies jobs core_runs part_runs
first_tree_permitted sys budgets n supplies jobs core_runs part_runs h = record {
  run_each_core = h.run_each_core;
  run_each_part = h.run_each_part;
  cores = λ c l. first_permitted server _ _ _ _ _ (h.cores c l);
  inner = λ q l inner. first_permitted server _ _ _ _ _ (h.inner q l inner);
  leaves = λ q l leaf. first_permitted guest _ _ _ _ _ (h.leaves q l leaf);
}

-- the list of f's values below n
pub listed : {X : Type 0} → (ℕ → X) → ℕ → List X
listed f zero = []
listed f (suc n) = listed f n ++ f n ∷ []

pub listed_long : {X : Type 0} (f : ℕ → X) (n : ℕ) → length (listed f n) ≡ n
unfolding listed
listed_long f zero = refl
listed_long f (suc n) = omega (arith, length_push (listed f n) (f n), listed_long f n)

pub listed_at : {X : Type 0} (f : ℕ → X) (d : X) (n i : ℕ) → i < n → get_or (listed f n) i d ≡ f i
unfolding listed
listed_at f d zero i l = absurd (omega arith)
listed_at f d (suc n) i l = elim (cases_eq i n) [
  | inl e ↦ get_or_push (listed f n) (f n) d i (listed_long f n ∙ sym e) ∙ ap f (sym e)
  | inr ne ↦
      get_or_append_left (listed f n) (f n ∷ []) d i (omega (arith, listed_long f n))
      ∙ listed_at f d n i (omega arith)
]

-- the first run of one part over its slots
pub record FirstPart (sys : SystemView) (budgets : List ℕ) (n : ℕ) (jobs : List Job) (q : ℕ) (slots : List Bool)
    (run : List (Option ℕ)) : Type 0 where
  pub inner : is_leaf_at sys q ≡ false → FirstServers sys budgets n (Part q) slots run
  pub leaf : is_leaf_at sys q ≡ true → FirstLeaf sys q jobs slots run

-- the first runs of the first m parts
pub record FirstParts (sys : SystemView) (budgets : List ℕ) (n : ℕ) (jobs : List (List Job))
    (core_runs : List (List (Option ℕ))) (m : ℕ) (part_runs : List (List (Option ℕ))) : Type 0 where
  pub long : length part_runs ≡ m
  pub each : (q : ℕ) → q < m
      → FirstPart sys budgets n (get_or jobs q []) q (supply_of sys budgets n core_runs part_runs q)
      (run_at part_runs q)

pub no_parts : (sys : SystemView) (budgets : List ℕ) (n : ℕ) (jobs : List (List Job))
    (core_runs : List (List (Option ℕ))) → FirstParts sys budgets n jobs core_runs 0 []
no_parts sys budgets n jobs core_runs = record { long = refl; each = λ q l. absurd (omega arith) }

-- the supply of a part rests on the runs of the cores and of earlier parts
pub run_same : (core_runs p r : List (List (Option ℕ))) (sys : SystemView) (q : ℕ) (parent : Parent)
    → Stands sys q parent → ((i : ℕ) → i < q → run_at p i ≡ run_at r i)
    → run_of core_runs p (place_of parent) ≡ run_of core_runs r (place_of parent)
run_same core_runs p r sys q (on_core c) stands same = refl
run_same core_runs p r sys q (on_part i) stands same = same i stands.0

pub supply_same : (sys : SystemView) (budgets : List ℕ) (n : ℕ) (core_runs p r : List (List (Option ℕ))) → IsSystem sys
    → (q : ℕ) → q < length sys.parts → ((i : ℕ) → i < q → run_at p i ≡ run_at r i)
    → supply_of sys budgets n core_runs p q ≡ supply_of sys budgets n core_runs r q
supply_same sys budgets n core_runs p r fits q l same =
    ap (λ v. child_supply (server_jobs sys budgets (place_of (part_at sys q).parent) n) v (rank_among sys q))
    (run_same core_runs p r sys q (part_at sys q).parent (fits.parents q l) same)

-- one part more
pub one_part_more : (sys : SystemView) (budgets : List ℕ) (n : ℕ) (jobs : List (List Job))
    (core_runs : List (List (Option ℕ))) → IsSystem sys → (m : ℕ) → m < length sys.parts
    → (part_runs : List (List (Option ℕ))) → FirstParts sys budgets n jobs core_runs m part_runs → (x : List (Option ℕ))
    → FirstPart sys budgets n (get_or jobs m []) m (supply_of sys budgets n core_runs part_runs m) x
    → FirstParts sys budgets n jobs core_runs (suc m) (part_runs ++ x ∷ [])
one_part_more sys budgets n jobs core_runs fits m l part_runs h x new =
    let earlier : (i : ℕ) → i < m → run_at part_runs i ≡ run_at (part_runs ++ x ∷ []) i
    = λ i li. sym (get_or_append_left part_runs (x ∷ []) [] i (omega (arith, h.long))) in
    let supply : (q : ℕ) → q < length sys.parts → q ≤ m
    → supply_of sys budgets n core_runs part_runs q ≡ supply_of sys budgets n core_runs (part_runs ++ x ∷ []) q
    = λ q lq e. supply_same sys budgets n core_runs part_runs (part_runs ++ x ∷ []) fits q lq
    (λ i li. earlier i (omega arith)) in
    record {
      long = omega (arith, length_push part_runs x, h.long);
      each = λ q lq. elim (cases_eq q m) [
        | inl now ↦
            subst (λ (z : ℕ). FirstPart sys budgets n (get_or jobs z []) z
            (supply_of sys budgets n core_runs (part_runs ++ x ∷ []) z) (run_at (part_runs ++ x ∷ []) z))
            (sym now)
            (subst (λ v. FirstPart sys budgets n (get_or jobs m []) m v (run_at (part_runs ++ x ∷ []) m))
            (supply m l (omega arith)) (subst (λ v. FirstPart sys budgets n (get_or jobs m []) m
            (supply_of sys budgets n core_runs part_runs m) v) (sym (get_or_push part_runs x [] m h.long))
            new))
        | inr ne ↦
            subst (λ v. FirstPart sys budgets n (get_or jobs q []) q v (run_at (part_runs ++ x ∷ []) q))
            (supply q (omega arith) (omega arith)) (subst
            (λ v. FirstPart sys budgets n (get_or jobs q []) q (supply_of sys budgets n core_runs part_runs q) v)
            (earlier q (omega arith)) (h.each q (omega arith)))
      ];
    }

-- the first runs of all parts, and of all cores, are the first run of the tree
pub first_tree : (sys : SystemView) (budgets : List ℕ) (n : ℕ) (supplies : List (List Bool)) (jobs : List (List Job))
    (core_runs part_runs : List (List (Option ℕ))) → length core_runs ≡ length sys.cores
    → ((c : ℕ) → c < length sys.cores → FirstServers sys budgets n (Core c) (get_or supplies c []) (run_at core_runs c))
    → FirstParts sys budgets n jobs core_runs (length sys.parts) part_runs
    → FirstTree sys budgets n supplies jobs core_runs part_runs
first_tree sys budgets n supplies jobs core_runs part_runs long cores parts =
    record {
      run_each_core = long;
      run_each_part = parts.long;
      cores = cores;
      inner = λ q l. (parts.each q l).inner;
      leaves = λ q l. (parts.each q l).leaf;
    }

-- a first run exists at each node
abbrev pub AllStrict : Type 0
AllStrict = (sched : Sched) (tasks : List SporadicTask) → IsStrictOrder (before_of sched tasks)

part_run : AllStrict → (sys : SystemView) (budgets : List ℕ) (n : ℕ) (jobs : List Job) (q : ℕ) (slots : List Bool)
    → (v : Bool) → is_leaf_at sys q ≡ v → (x : List (Option ℕ)) × FirstPart sys budgets n jobs q slots x
part_run strict sys budgets n jobs q slots true e =
    let r
    = run_to guest (before_of (part_at sys q).sched (own_tasks_at sys q))
    (strict (part_at sys q).sched (own_tasks_at sys q)) (own_tasks_at sys q) jobs slots (length slots) in
    (r.0, record { inner = λ f. absurd (true≢false (sym e ∙ f)); leaf = λ t. r.1 })
part_run strict sys budgets n jobs q slots false e =
    let r
    = run_to server (before_of (part_at sys q).sched (server_tasks sys budgets (Part q)))
    (strict (part_at sys q).sched (server_tasks sys budgets (Part q))) (server_tasks sys budgets (Part q))
    (server_jobs sys budgets (Part q) n) slots (length slots) in
    (r.0, record { inner = λ f. r.1; leaf = λ t. absurd (false≢true (sym e ∙ t)) })

part_runs_to : AllStrict
    → (sys : SystemView) (budgets : List ℕ) (n : ℕ) (jobs : List (List Job)) (core_runs : List (List (Option ℕ)))
    → IsSystem sys → (m : ℕ) → m ≤ length sys.parts
    → (part_runs : List (List (Option ℕ))) × FirstParts sys budgets n jobs core_runs m part_runs
part_runs_to strict sys budgets n jobs core_runs fits zero l = ([], no_parts sys budgets n jobs core_runs)
part_runs_to strict sys budgets n jobs core_runs fits (suc m) l =
    let r : (part_runs : List (List (Option ℕ))) × FirstParts sys budgets n jobs core_runs m part_runs
    = part_runs_to strict sys budgets n jobs core_runs fits m (omega arith) in
    let x
    = part_run strict sys budgets n (get_or jobs m []) m (supply_of sys budgets n core_runs r.0 m)
    (is_leaf_at sys m) refl in
    (r.0 ++ x.0 ∷ [], one_part_more sys budgets n jobs core_runs fits m (omega arith) r.0 r.1 x.0 x.1)

pub first_tree_exists : AllStrict
    → (sys : SystemView) (budgets : List ℕ) (n : ℕ) (supplies : List (List Bool)) (jobs : List (List Job))
    → IsSystem sys
    → (core_runs : List (List (Option ℕ))) × (part_runs : List (List (Option ℕ)))
    × FirstTree sys budgets n supplies jobs core_runs part_runs
first_tree_exists strict sys budgets n supplies jobs fits =
    let core_run
    = λ (c : ℕ). run_to server (before_of (core_at sys c).sched (server_tasks sys budgets (Core c)))
    (strict (core_at sys c).sched (server_tasks sys budgets (Core c))) (server_tasks sys budgets (Core c))
    (server_jobs sys budgets (Core c) n) (get_or supplies c []) (length (get_or supplies c [])) in
    let core_runs : List (List (Option ℕ)) = listed (λ c. (core_run c).0) (length sys.cores) in
    let r : (part_runs : List (List (Option ℕ)))
    × FirstParts sys budgets n jobs core_runs (length sys.parts) part_runs
    = part_runs_to strict sys budgets n jobs core_runs fits (length sys.parts) (omega arith) in (
      core_runs,
      r.0,
      first_tree sys budgets n supplies jobs core_runs r.0 (listed_long (λ c. (core_run c).0) (length sys.cores))
          (λ c l. subst (FirstServers sys budgets n (Core c) (get_or supplies c []))
          (sym (listed_at (λ c. (core_run c).0) [] (length sys.cores) c l)) (core_run c).1) r.1,
    )

-- two first runs of the tree are the same, from the cores down
same_cores : (sys : SystemView) (budgets : List ℕ) (n : ℕ) (supplies : List (List Bool)) (jobs : List (List Job))
    (c1 p1 c2 p2 : List (List (Option ℕ))) → FirstTree sys budgets n supplies jobs c1 p1
    → FirstTree sys budgets n supplies jobs c2 p2 → c1 ≡ c2
same_cores sys budgets n supplies jobs c1 p1 c2 p2 h k =
    ext_get_or [] c1 c2 (h.run_each_core ∙ sym k.run_each_core) (λ i l. run_unique server _ _ _ (get_or supplies i [])
    (length (get_or supplies i [])) (run_at c1 i) (run_at c2 i) (h.cores i (omega (arith, h.run_each_core)))
    (k.cores i (omega (arith, h.run_each_core))))

same_part : (sys : SystemView) (budgets : List ℕ) (n : ℕ) (jobs : List Job) (q : ℕ) (slots : List Bool)
    (x y : List (Option ℕ)) → FirstPart sys budgets n jobs q slots x → FirstPart sys budgets n jobs q slots y → x ≡ y
same_part sys budgets n jobs q slots x y h k = elim (cases_Bool (is_leaf_at sys q)) [
  | inl leaf ↦ run_unique guest _ _ _ slots (length slots) x y (h.leaf leaf) (k.leaf leaf)
  | inr inner ↦ run_unique server _ _ _ slots (length slots) x y (h.inner inner) (k.inner inner)
]

part_of : (sys : SystemView) (budgets : List ℕ) (n : ℕ) (supplies : List (List Bool)) (jobs : List (List Job))
    (core_runs part_runs : List (List (Option ℕ))) → FirstTree sys budgets n supplies jobs core_runs part_runs → (q : ℕ)
    → q < length sys.parts
    → FirstPart sys budgets n (get_or jobs q []) q (supply_of sys budgets n core_runs part_runs q) (run_at part_runs q)
part_of sys budgets n supplies jobs core_runs part_runs h q l = record { inner = h.inner q l; leaf = h.leaves q l }

same_to : (sys : SystemView) (budgets : List ℕ) (n : ℕ) (supplies : List (List Bool)) (jobs : List (List Job))
    → IsSystem sys → (core_runs p1 p2 : List (List (Option ℕ))) → FirstTree sys budgets n supplies jobs core_runs p1
    → FirstTree sys budgets n supplies jobs core_runs p2 → (m q : ℕ) → q < m → q < length sys.parts
    → run_at p1 q ≡ run_at p2 q
same_to sys budgets n supplies jobs fits core_runs p1 p2 h k zero q lm l = absurd (omega arith)
same_to sys budgets n supplies jobs fits core_runs p1 p2 h k (suc m) q lm l =
    let supply : supply_of sys budgets n core_runs p1 q ≡ supply_of sys budgets n core_runs p2 q
    = supply_same sys budgets n core_runs p1 p2 fits q l
    (λ i li. same_to sys budgets n supplies jobs fits core_runs p1 p2 h k m i (omega arith) (omega arith)) in
    same_part sys budgets n (get_or jobs q []) q (supply_of sys budgets n core_runs p2 q) (run_at p1 q) (run_at p2 q)
    (subst (λ v. FirstPart sys budgets n (get_or jobs q []) q v (run_at p1 q)) supply
    (part_of sys budgets n supplies jobs core_runs p1 h q l))
    (part_of sys budgets n supplies jobs core_runs p2 k q l)

pub first_tree_unique : (sys : SystemView) (budgets : List ℕ) (n : ℕ) (supplies : List (List Bool))
    (jobs : List (List Job)) → IsSystem sys → (c1 p1 c2 p2 : List (List (Option ℕ)))
    → FirstTree sys budgets n supplies jobs c1 p1 → FirstTree sys budgets n supplies jobs c2 p2 → (c1 ≡ c2) × (p1 ≡ p2)
first_tree_unique sys budgets n supplies jobs fits c1 p1 c2 p2 h k =
    let e : c1 ≡ c2 = same_cores sys budgets n supplies jobs c1 p1 c2 p2 h k in
    let h2 : FirstTree sys budgets n supplies jobs c2 p1
    = subst (λ c. FirstTree sys budgets n supplies jobs c p1) e h in (
      e,
      ext_get_or [] p1 p2 (h.run_each_part ∙ sym k.run_each_part) (λ i l. same_to sys budgets n supplies jobs fits c2
          p1 p2 h2 k (suc i) i (omega arith) (omega (arith, h.run_each_part))),
    )

pub one_first_tree : AllStrict
    → (sys : SystemView) (budgets : List ℕ) (n : ℕ) (supplies : List (List Bool)) (jobs : List (List Job))
    → IsSystem sys → OneFirstTree sys budgets n supplies jobs
one_first_tree strict sys budgets n supplies jobs fits =
    let r = first_tree_exists strict sys budgets n supplies jobs fits in
    record {
      core_runs = r.0;
      part_runs = r.1;
      first = r.2;
      only = λ c p h. first_tree_unique sys budgets n supplies jobs fits c p r.0 r.1 h r.2;
    }
