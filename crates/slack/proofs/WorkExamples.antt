-- One task of one leaf has other work, and nothing else is changed; and what is said of the
-- greatest. A definition that says less breaks one of these.
use Rattle.std.proofs.Common.{◌≡◌, ℕ, ◌<◌, ◌≤◌, List, [], ◌∷◌, None, true, false, length, refl}
use Rattle.std.specs.Prelude.{slice_index_or}
use Rattle.slot_model.specs.declared.sched.Sched.TheVariants.{Edf}
use Rattle.slot_model.specs.Task.{jittery_task, room_of, task_at}
use Rattle.tree_model.specs.declared.place.Parent.TheVariants.{Core, Part}
use Rattle.tree_model.specs.View.{NamedTask, PartView, SystemView}
use Rattle.tree_model.specs.System.{part_at, own_tasks_at}
use Rattle.tree_model.specs.Admission.{Admitted}
use Rattle.slack.specs.MostWork.{AreMostWorks, IsMostWork, with_work}

abbrev task : ℕ → ℕ → NamedTask
task letter work = record { name = letter ∷ []; task = jittery_task 20 15 work 3 }

abbrev leaf : ℕ → List NamedTask → PartView
leaf letter tasks =
    record {
      name = letter ∷ [];
      parent = Part 0;
      sched = Edf;
      period = 10;
      budget = None;
      extra = true;
      tasks = tasks;
    }

abbrev inner : PartView
inner =
    record {
      name = 109 ∷ [];
      parent = Core 0;
      sched = Edf;
      period = 5;
      budget = None;
      extra = false;
      tasks = [];
    }

abbrev host : List NamedTask → SystemView
host tasks = record {
  cores = record { name = 99 ∷ []; sched = Edf; supply = None } ∷ [];
  parts = inner ∷ leaf 120 tasks ∷ leaf 121 (task 117 2 ∷ []) ∷ [];
}

second_task : with_work (host (task 116 2 ∷ task 117 2 ∷ [])) 1 1 7 ≡ host (task 116 2 ∷ task 117 7 ∷ [])
second_task = refl

-- there is no third task
third_task : with_work (host (task 116 2 ∷ task 117 2 ∷ [])) 1 2 7 ≡ host (task 116 2 ∷ task 117 2 ∷ [])
third_task = refl

-- what is said of the greatest work of a task, and of those of a leaf, taken apart
what_most_says : (sys : SystemView) (q i most : ℕ) → IsMostWork sys q i most
    → (1 ≤ most) × (most ≤ room_of (task_at (own_tasks_at sys q) i))
    × ((work : ℕ) → 1 ≤ work → work ≤ most → (budgets : List ℕ) × Admitted (with_work sys q i work) budgets)
    × ((work : ℕ) → most < work → work ≤ room_of (task_at (own_tasks_at sys q) i) → (budgets : List ℕ)
    → Admitted (with_work sys q i work) budgets → ⊥)
what_most_says sys q i most is = (is.some, is.in_room, is.admitted, is.past)

one_for_each_task : (sys : SystemView) (q : ℕ) (works : List ℕ) → AreMostWorks sys q works
    → (length works ≡ length (part_at sys q).tasks)
    × ((i : ℕ) → i < length (part_at sys q).tasks → IsMostWork sys q i (slice_index_or works i 0))
one_for_each_task sys q works are = (are.one_each, are.each)

-- the room of a task is what its deadline leaves past its jitter
the_room_of_a_task : room_of (task_at (own_tasks_at (host (task 116 2 ∷ [])) 1) 0) ≡ 12
the_room_of_a_task = refl
