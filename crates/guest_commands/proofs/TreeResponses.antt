-- Each part gets its budget in a run of the tree, and so the jobs of a leaf respond there as they
-- do over every list that gives it.
use Rattle.std.proofs.Common.{◌≡◌, ◌⊎◌, ℕ, ◌<◌, ◌≤◌, Bool, true, false, List, [], length, get_or, Option, refl, ap, arith, inl, inr}
use Rattle.std.specs.Prelude.{All}
use Rattle.std.proofs.lemmas.Bool.{cases_lt}
use Rattle.std.proofs.lemmas.List.{get_or_past}
use Rattle.std.proofs.lemmas.List.Elements.{All-weaker}
use Rattle.slot_model.specs.declared.job.Job.{Job}
use Rattle.tree_model.specs.View.{SystemView}
use Rattle.tree_model.specs.System.{IsSystem, is_leaf_at}
use Rattle.tree_model.specs.Tree.{run_at, started_supply}
use Rattle.compose_tree.specs.Keeping.{Keeping}
use Rattle.compose_tree.proofs.TreeRuns.{Running, part_has_budget}
use Rattle.rt_report.specs.declared.responses.Response.{Response}
use Rattle.guest_commands.specs.Responses.{IsAnswered, RespondsInRun, RespondsInTree}

-- in a run of the tree the jobs of a leaf respond as they do over every list that gives its budget
leaf_responds : (sys : SystemView) (budgets starts : List ℕ) (n : ℕ) (supplies : List (List Bool))
    (jobs : List (List Job)) (core_runs part_runs : List (List (Option ℕ)))
    → Running sys budgets starts n supplies jobs core_runs part_runs → (row : Response)
    → IsAnswered sys budgets row → row.part < length sys.parts → is_leaf_at sys row.part ≡ true
    → RespondsInRun (get_or jobs row.part []) (run_at part_runs row.part) row.task row.worst
leaf_responds sys budgets starts n supplies jobs core_runs part_runs h row answered l leaf =
    answered.greatest.within (get_or jobs row.part [])
    (started_supply sys budgets starts n core_runs part_runs row.part) (run_at part_runs row.part)
    (part_has_budget sys budgets starts n supplies jobs core_runs part_runs h row.part l)
    (h.inputs.releases row.part l leaf) (h.tree.leaves row.part l leaf)

-- what is no leaf has no jobs
none_respond : (jobs : List Job) (run : List (Option ℕ)) (i t : ℕ) → jobs ≡ [] → RespondsInRun jobs run i t
none_respond jobs run i t none j is_job mine long =
    let no_job : length jobs ≡ 0 = ap (λ (js : List Job). length js) none in absurd (omega (arith, is_job, no_job))

each_responds : (sys : SystemView) (budgets starts : List ℕ) (n : ℕ) (supplies : List (List Bool))
    (jobs : List (List Job)) (core_runs part_runs : List (List (Option ℕ)))
    → Running sys budgets starts n supplies jobs core_runs part_runs → (row : Response)
    → IsAnswered sys budgets row → (leaf : Bool) → is_leaf_at sys row.part ≡ leaf
    → (row.part < length sys.parts) ⊎ (length sys.parts ≤ row.part)
    → RespondsInRun (get_or jobs row.part []) (run_at part_runs row.part) row.task row.worst
each_responds sys budgets starts n supplies jobs core_runs part_runs h row answered true e (inl l) =
    leaf_responds sys budgets starts n supplies jobs core_runs part_runs h row answered l e
each_responds sys budgets starts n supplies jobs core_runs part_runs h row answered false e (inl l) =
    none_respond (get_or jobs row.part []) (run_at part_runs row.part) row.task row.worst
    (h.inputs.none_inner row.part l e)
each_responds sys budgets starts n supplies jobs core_runs part_runs h row answered leaf e (inr past) =
    none_respond (get_or jobs row.part []) (run_at part_runs row.part) row.task row.worst
    (get_or_past jobs row.part [] (omega (arith, h.inputs.jobs_each_part, past)))

-- so what is answered of a task holds in the tree, where no node loses a job
responds_in_tree : (sys : SystemView) → IsSystem sys → (budgets : List ℕ) → Keeping sys budgets → (row : Response)
    → IsAnswered sys budgets row → RespondsInTree sys budgets row
responds_in_tree sys is budgets keeping row answered starts n supplies jobs core_runs part_runs inputs tree =
    each_responds sys budgets starts n supplies jobs core_runs part_runs
    (record { fits = is; pass = keeping; inputs = inputs; tree = tree }) row answered (is_leaf_at sys row.part) refl
    (cases_lt row.part (length sys.parts))

pub all_respond_in_tree : (sys : SystemView) → IsSystem sys → (budgets : List ℕ) → Keeping sys budgets
    → (rows : List Response) → All (IsAnswered sys budgets) rows → All (RespondsInTree sys budgets) rows
all_respond_in_tree sys is budgets keeping =
    All-weaker (IsAnswered sys budgets) (RespondsInTree sys budgets) (responds_in_tree sys is budgets keeping)
