-- Worked texts of simulations: spelled out by hand, and what defines them comes to just this.
use Rattle.slot_model.specs.Task.{plain_task}
use Rattle.std.proofs.Common.{◌≡◌, ℕ, Bool, true, false, List, [], ◌∷◌, Option, Some, None, refl}
use Rattle.std.specs.Prelude.{codes}
use Rattle.std.specs.Fmt.{digits}
use Rattle.slot_model.specs.declared.job.Job.{Job}
use Rattle.slot_model.specs.declared.miss.Miss.{Miss}
use Rattle.slot_model.specs.declared.sched.Sched.TheVariants.{Edf}
use Rattle.span_counts.specs.declared.counts.Counts.{Counts}
use Rattle.tree_model.specs.declared.place.Parent.{Parent}
use Rattle.tree_model.specs.declared.place.Parent.TheVariants.{Core as on_core, Part as on_part}
use Rattle.tree_model.specs.View.{NamedTask, PartView, SystemView}
use Rattle.tree_spans.specs.TreeCounts.{CountsView, AreTreeCounts}
use Rattle.rt_report.specs.Simulate.{simulate_text, slots_told, IsTextOfRun}

abbrev part : List ℕ → Parent → List NamedTask → PartView
part name parent tasks =
    record { name = name; parent = parent; sched = Edf; period = 10; budget = None; extra = false; tasks = tasks }

abbrev task : List ℕ → NamedTask
task name = record { name = name; task = plain_task 100 100 6 }

-- on a core cpu0 an inner part mid, on which the leaf web stands, and the leaf db
abbrev tree : SystemView
tree = record {
  cores = record { name = codes "cpu0"; sched = Edf; supply = None } ∷ [];
  parts =
      part (codes "mid") (on_core 0) [] ∷ part (codes "db") (on_core 0) (task (codes "t") ∷ [])
      ∷ part (codes "web") (on_part 0) (task (codes "read") ∷ task (codes "write") ∷ []) ∷ [];
}

abbrev counted : ℕ → ℕ → ℕ → Option Miss → Counts
counted given released missed first = record { given = given; released = released; missed = missed; first = first }

abbrev miss : ℕ → Miss
miss task = record { task = task; release = 0; deadline = 10; got = 4; work = 6 }

a_simulation_without_a_miss : simulate_text tree (record {
  cores = counted 100 10 0 None ∷ [];
  parts = counted 30 3 0 None ∷ counted 0 0 0 None ∷ counted 5 1 0 None ∷ [];
})
    ≡ codes
    "verdict=yes\ncore cpu0 given=100 jobs=10 missed=0\npart mid given=30 jobs=3 missed=0\npart db given=0 jobs=0 missed=0\npart web given=5 jobs=1 missed=0\n"
unfolding digits
a_simulation_without_a_miss = refl

-- a core and an inner part tell the child that misses, a leaf its task
misses_on_every_level : simulate_text tree (record {
  cores = counted 10 2 1 (Some (miss 1)) ∷ [];
  parts = counted 6 1 1 (Some (miss 0)) ∷ counted 4 0 0 None ∷ counted 4 2 2 (Some (miss 1)) ∷ [];
})
    ≡ codes
    "verdict=no\ncore cpu0 given=10 jobs=2 missed=1\nfirst db release=0 deadline=10 got=4 of=6\npart mid given=6 jobs=1 missed=1\nfirst web release=0 deadline=10 got=4 of=6\npart db given=4 jobs=0 missed=0\npart web given=4 jobs=2 missed=2\nfirst write release=0 deadline=10 got=4 of=6\n"
unfolding digits
misses_on_every_level = refl

-- there are as many slots as the list of the first core has, and the text tells what is counted
-- over them
slots_of_the_first_core : (slots_told ((true ∷ false ∷ []) ∷ (true ∷ []) ∷ (true ∷ []) ∷ []) ≡ 2) × (slots_told [] ≡ 0)
slots_of_the_first_core = (refl, refl)

what_a_text_tells : (sys : SystemView) (budgets : List ℕ) (supplies : List (List Bool)) (jobs : List (List Job))
    (core_runs part_runs : List (List (Option ℕ))) (text : List ℕ)
    → IsTextOfRun sys budgets supplies jobs core_runs part_runs text →
    (counts : CountsView) × AreTreeCounts sys budgets (slots_told supplies) supplies jobs core_runs part_runs counts
    × (text ≡ simulate_text sys counts)
what_a_text_tells sys budgets supplies jobs core_runs part_runs text h = (h.counts, h.are, h.told)
