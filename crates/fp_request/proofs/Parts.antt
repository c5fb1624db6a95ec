-- The parts of a request bound, task by task.
use Rattle.std.proofs.Common.{◌≡◌, ◌∙◌, sym, ℕ, suc, ◌+◌, ◌<◌, ◌≤◌, Bool, true, false, List, length, get_or, ap, arith}
use Rattle.std.proofs.lemmas.Bool.{cond-true, cond-false}
use Rattle.std.proofs.lemmas.List.{length-map, get_or-map}
use Rattle.slot_model.specs.declared.task.Task.{Task}
use Rattle.slot_model.specs.Slots.{sum_below}
use Rattle.slot_model.specs.Task.{SporadicTask, task_at, sporadic_task, sporadic_tasks}
use Rattle.slot_model.specs.Bound.{request_of, rbf}
use Rattle.fp_request.specs.Parts.{part_of}
use Rattle.slot_model.proofs.Sums.{sum_below-suc, sum_below-longer}

-- the task at a place as its plain numbers
pub task_at-is : (tasks : List Task) (i : ℕ) (d : Task) → i < length tasks
    → task_at (sporadic_tasks tasks) i ≡ sporadic_task (get_or tasks i d)
task_at-is tasks i d l = get_or-map sporadic_task tasks i d _ l

-- the item that a loop has at a place asks for what the task there asks for
pub item_request : (tasks : List Task) (k t : ℕ) (item : Task) → k < length tasks → item ≡ get_or tasks k item
    → request_of (task_at (sporadic_tasks tasks) k) t ≡ request_of (sporadic_task item) t
item_request tasks k t item l e =
    ap (λ (z : SporadicTask). request_of z t) (task_at-is tasks k item l ∙ ap sporadic_task (sym e))

-- the request bound as far as the first n tasks make it
abbrev pub request_to : (ℕ → ℕ → Bool) → List SporadicTask → ℕ → ℕ → ℕ → ℕ
request_to above tasks i t n = (task_at tasks i).work + sum_below (part_of above tasks i t) n

-- a task that ranks above adds its request, and another nothing
pub request_to-above : (above : ℕ → ℕ → Bool) (tasks : List SporadicTask) (i t k : ℕ) → above k i ≡ true
    → request_to above tasks i t (k + 1) ≡ request_to above tasks i t k + request_of (task_at tasks k) t
request_to-above above tasks i t k h =
    omega (
      arith,
      sum_below-suc (part_of above tasks i t) k,
      cond-true {A = ℕ} (above k i) (request_of (task_at tasks k) t) 0 h,
      ap (sum_below (part_of above tasks i t)) (let e : k + 1 ≡ suc k = omega arith in e),
    )

pub request_to-not_above : (above : ℕ → ℕ → Bool) (tasks : List SporadicTask) (i t k : ℕ) → above k i ≡ false
    → request_to above tasks i t (k + 1) ≡ request_to above tasks i t k
request_to-not_above above tasks i t k h =
    omega (
      arith,
      sum_below-suc (part_of above tasks i t) k,
      cond-false {A = ℕ} (above k i) (request_of (task_at tasks k) t) 0 h,
      ap (sum_below (part_of above tasks i t)) (let e : k + 1 ≡ suc k = omega arith in e),
    )

-- the first tasks alone ask for no more than all
pub request_to-le : (above : ℕ → ℕ → Bool) (tasks : List SporadicTask) (i t n : ℕ) → n ≤ length tasks
    → request_to above tasks i t n ≤ rbf above tasks i t
request_to-le above tasks i t n l = omega (arith, sum_below-longer (part_of above tasks i t) n (length tasks) l)

-- what a task that ranks above adds is a part of the whole
pub request_to-more : (above : ℕ → ℕ → Bool) (tasks : List SporadicTask) (i t k b : ℕ) → above k i ≡ true
    → k < length tasks → b ≤ request_to above tasks i t k + request_of (task_at tasks k) t → b ≤ rbf above tasks i t
request_to-more above tasks i t k b h l m =
    omega (arith, m, request_to-above above tasks i t k h, request_to-le above tasks i t (k + 1) (omega arith))

-- the plain numbers of a list of tasks are as many
pub sporadic_tasks-length : (tasks : List Task) → length (sporadic_tasks tasks) ≡ length tasks
sporadic_tasks-length tasks = length-map tasks sporadic_task
