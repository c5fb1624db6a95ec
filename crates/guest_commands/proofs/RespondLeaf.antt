-- What is answered of the tasks of a leaf, and of the leaves among the first parts.
use Rattle.std.proofs.Common.{◌≡◌, ℕ, ◌+◌, ◌<◌, ◌≤◌, Bool, true, false, cond, List, [], ◌∷◌, ◌++◌, length, map, Option, Some, None, MatchOption, refl, sym, ◌∙◌, ap, arith, subst}
use Rattle.std.specs.List.{flat_map, range_with_len}
use Rattle.std.proofs.lemmas.Bool.{and_parts}
use Rattle.std.proofs.lemmas.Grind.{flat_map-append}
use Rattle.std.proofs.lemmas.List.{append_assoc, append-nil, length-map, map-append}
use Rattle.std.proofs.lemmas.List.Elements.{All-push}
use Rattle.std.proofs.lemmas.List.Folds.{flat_map-map}
use Rattle.std.proofs.lemmas.List.FromFn.{map-range_with_len_more}
use Rattle.slot_model.specs.declared.sched.Sched.{Sched}
use Rattle.slot_model.specs.Task.{SporadicTask, room_of, task_at}
use Rattle.slot_model.specs.Supply.{GivesBudget, worst_slot}
use Rattle.slot_model.specs.Order.{before_of, ranks_above}
use Rattle.slot_model.specs.Bound.{sbf, Passes}
use Rattle.fp_test.specs.Hits.{IsLeastHit}
use Rattle.response_times.specs.Response.{IsGreatestResponse}
use Rattle.response_times.specs.Replay.{ShowsResponse}
use Rattle.tree_model.specs.declared.place.Place.TheVariants.{Part}
use Rattle.tree_model.specs.View.{PartView, SystemView}
use Rattle.tree_model.specs.System.{is_leaf, own_tasks, part_at}
use Rattle.tree_model.specs.Tree.{budget_at}
use Rattle.tree_model.specs.Admission.{Admitted}
use Rattle.tree_model.proofs.NodeTasks.{leaf_tasks}
use Rattle.rt_report.specs.declared.responses.Response.{Response}
use Rattle.guest_commands.specs.Responses.{answered_at, AnswerTasks, IsAnswered, IsReplayOf, IsResponseOf, is_fixed_leaf, places_in}
use Rattle.miss_witness.proofs.ReplayLeaf.{LeafRead}

-- a leaf under a fixed priority has tasks, and another scheduler than earliest deadline first
pub has_tasks : (part : PartView) → is_fixed_leaf part ≡ true → is_leaf part.tasks ≡ true
has_tasks part fixed = (and_parts _ _ fixed).0

-- its tasks pass under its budget
pub read_passes : (sys : SystemView) (budgets : List ℕ) → Admitted sys budgets → (q : ℕ) → q < length sys.parts
    → is_fixed_leaf (part_at sys q) ≡ true
    → (sched : Sched) (tasks : List SporadicTask) (period budget : ℕ) → LeafRead sys budgets q sched tasks period budget
    → Passes sched tasks (sbf period budget)
read_passes sys budgets h q l fixed sched tasks period budget read =
    let own : Passes (part_at sys q).sched (own_tasks (part_at sys q))
    (sbf (part_at sys q).period (budget_at budgets q))
    =
    subst
    (λ (ts : List SporadicTask). Passes (part_at sys q).sched ts (sbf (part_at sys q).period (budget_at budgets q)))
    (leaf_tasks sys budgets q (has_tasks (part_at sys q) fixed)) (h.passes (Part q) l).1 in
    rw (read.sched_is, read.tasks_are, read.period_is, read.least_is) own

-- a replay is told where the run that shows the response ends soon enough
replay_told : (sched : Sched) (tasks : List SporadicTask) (period budget i worst : ℕ)
    → ShowsResponse (before_of sched tasks) tasks (worst_slot period budget) budget worst i worst → (replay : Option ℕ)
    → MatchOption replay (1000000 < budget + worst) (λ t. (budget + worst ≤ 1000000) × (t ≡ worst))
    → IsReplayOf sched tasks period budget i worst replay
replay_told sched tasks period budget i worst shown None past = past
replay_told sched tasks period budget i worst shown (Some t) (within, same) = (
  within,
  same,
  subst (λ (z : ℕ). ShowsResponse (before_of sched tasks) tasks (worst_slot period budget) budget worst i z) (sym same)
      shown,
)

-- what is told of a task, by what was found of it
pub row_is : (sched : Sched) (tasks : List SporadicTask) (period budget i : ℕ) (row : Response) (worst : ℕ)
    → IsLeastHit (ranks_above sched tasks) tasks (sbf period budget) i worst
    → IsGreatestResponse (GivesBudget period budget) (before_of sched tasks) tasks i worst
    → ShowsResponse (before_of sched tasks) tasks (worst_slot period budget) budget worst i worst
    → row.limit ≡ room_of (task_at tasks i) → row.worst ≡ worst
    → MatchOption row.replay (1000000 < budget + row.worst) (λ t. (budget + row.worst ≤ 1000000) × (t ≡ row.worst))
    → IsResponseOf sched tasks period budget i row
row_is sched tasks period budget i row worst least greatest shown limit same told =
    record {
      greatest =
          subst (λ (z : ℕ). IsGreatestResponse (GivesBudget period budget) (before_of sched tasks) tasks i z)
          (sym same) greatest;
      limit_is = limit;
      in_limit = omega (arith, same, limit, least.0.in_deadline);
      replayed =
          replay_told sched tasks period budget i row.worst
          (subst (λ (z : ℕ). ShowsResponse (before_of sched tasks) tasks (worst_slot period budget) budget z i z)
          (sym same) shown) row.replay told;
    }

-- what is answered of what was read is answered of the part
read_answer : (sys : SystemView) (budgets : List ℕ) (q i : ℕ) (sched : Sched) (tasks : List SporadicTask)
    (period budget : ℕ) → LeafRead sys budgets q sched tasks period budget
    → (row : Response) → row.part ≡ q → row.task ≡ i → IsResponseOf sched tasks period budget i row
    → IsAnswered sys budgets row
read_answer sys budgets q i sched tasks period budget read row part task of =
    let at : ℕ → ℕ → Type 0
    = λ k j. IsResponseOf (part_at sys k).sched (own_tasks (part_at sys k)) (part_at sys k).period
    (budget_at budgets k) j row in
    let own : at q i = rw (← read.sched_is, ← read.tasks_are, ← read.period_is, ← read.least_is) of in
    subst (λ (k : ℕ). at k row.task) (sym part) (subst (at q) (sym task) own)

-- one task more of the leaf
pub one_more_task : (sys : SystemView) (budgets : List ℕ) (q i : ℕ) (sched : Sched) (tasks : List SporadicTask)
    (period budget : ℕ) → LeafRead sys budgets q sched tasks period budget
    → (places : List (ℕ × ℕ)) (rows : List Response) (row : Response) → row.part ≡ q → row.task ≡ i
    → IsResponseOf sched tasks period budget i row
    → AnswerTasks sys budgets (places ++ places_in q i) rows
    → AnswerTasks sys budgets (places ++ places_in q (i + 1)) (rows ++ row ∷ [])
one_more_task sys budgets q i sched tasks period budget read places rows row part task of h =
    let place : Response → ℕ × ℕ = λ r. (r.part, r.task) in
    let more : places_in q (i + 1) ≡ places_in q i ++ (q, i) ∷ []
    = map-range_with_len_more (λ (k : ℕ). (q, k)) 0 i i (omega arith) in
    let this : place row ≡ (q, i) = rw (part, task) refl in
    record {
      places_are =
          map-append place rows (row ∷ [])
          ∙ (ap (λ (ps : List (ℕ × ℕ)). ps ++ place row ∷ []) h.places_are
          ∙ (ap (λ (p : ℕ × ℕ). (places ++ places_in q i) ++ p ∷ []) this
          ∙ (append_assoc places (places_in q i) ((q, i) ∷ []) ∙ ap (λ (ps : List (ℕ × ℕ)). places ++ ps) (sym more))));
      each =
          All-push (IsAnswered sys budgets) rows row h.each
          (read_answer sys budgets q i sched tasks period budget read row part task of);
    }

pub all_tasks : (sys : SystemView) (budgets : List ℕ) (q n : ℕ) (places : List (ℕ × ℕ)) (rows : List Response)
    → n ≡ length (own_tasks (part_at sys q)) → is_fixed_leaf (part_at sys q) ≡ true
    → AnswerTasks sys budgets (places ++ places_in q n) rows
    → AnswerTasks sys budgets (places ++ answered_at sys q) rows
all_tasks sys budgets q n places rows e fixed h =
    let many : n ≡ length (part_at sys q).tasks = e ∙ length-map (part_at sys q).tasks (λ t. t.task) in
    let all : answered_at sys q ≡ places_in q n
    = ap (λ (b : Bool). cond b (places_in q (length (part_at sys q).tasks)) []) fixed
    ∙ ap (places_in q) (sym many) in
    subst (λ (ps : List (ℕ × ℕ)). AnswerTasks sys budgets (places ++ ps) rows) (sym all) h

-- the tasks with a line of the first n parts
abbrev pub answered_among : SystemView → ℕ → List (ℕ × ℕ)
answered_among sys n = flat_map (answered_at sys) (range_with_len 0 n)

among_more : (sys : SystemView) (n : ℕ) → answered_among sys (n + 1) ≡ answered_among sys n ++ answered_at sys n
among_more sys n =
    let same : (m : ℕ) → flat_map (answered_at sys) (map (λ (k : ℕ). k) (range_with_len 0 m)) ≡ answered_among sys m
    = λ m. flat_map-map (answered_at sys) (λ (k : ℕ). k) (range_with_len 0 m) in
    sym (same (n + 1))
    ∙ (ap (flat_map (answered_at sys)) (map-range_with_len_more (λ (k : ℕ). k) 0 n n (omega arith))
    ∙ (flat_map-append (answered_at sys) (map (λ (k : ℕ). k) (range_with_len 0 n)) (n ∷ [])
    ∙ (ap (λ (ps : List (ℕ × ℕ)). ps ++ flat_map (answered_at sys) (n ∷ [])) (same n)
    ∙ ap (λ (ps : List (ℕ × ℕ)). answered_among sys n ++ ps) (append-nil (answered_at sys n)))))

-- a part more, which has lines or has none
pub one_more_part : (sys : SystemView) (budgets : List ℕ) (n : ℕ) (rows : List Response)
    → AnswerTasks sys budgets (answered_among sys n ++ answered_at sys n) rows
    → AnswerTasks sys budgets (answered_among sys (n + 1)) rows
one_more_part sys budgets n rows h =
    subst (λ (ps : List (ℕ × ℕ)). AnswerTasks sys budgets ps rows) (sym (among_more sys n)) h

pub no_more_part : (sys : SystemView) (budgets : List ℕ) (n : ℕ) (rows : List Response)
    → is_fixed_leaf (part_at sys n) ≡ false → AnswerTasks sys budgets (answered_among sys n) rows
    → AnswerTasks sys budgets (answered_among sys (n + 1)) rows
no_more_part sys budgets n rows other h =
    let none : answered_at sys n ≡ []
    = ap (λ (b : Bool). cond b (places_in n (length (part_at sys n).tasks)) []) other in
    one_more_part sys budgets n rows (subst (λ (ps : List (ℕ × ℕ)). AnswerTasks sys budgets ps rows)
    (sym (append-nil (answered_among sys n))
    ∙ ap (λ (ps : List (ℕ × ℕ)). answered_among sys n ++ ps) (sym none)) h)
