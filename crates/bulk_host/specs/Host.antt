-- The host that is generated for a number of guests: eight guests on each full core, of four
-- periods in turn, with two tasks each. Guests and cores are counted from 0.
use Rattle.std.specs.Prelude.{ℕ, ◌+◌, ◌*◌, ◌/◌, ◌%◌, ◌==◌, false, if◌then◌else◌, List, [], ◌∷◌, ◌++◌, map, codes, None}
use Rattle.std.specs.Fmt.{decimal}
use Rattle.std.specs.List.{range_with_len}
use Rattle.slot_model.specs.declared.job.Job.{Job}
use Rattle.slot_model.specs.declared.sched.Sched.{Sched}
use Rattle.slot_model.specs.declared.sched.Sched.TheVariants.{Edf, Rm}
use Rattle.slot_model.specs.Task.{plain_task}
use Rattle.release_pattern.specs.Multiples.{at_multiples}
use Rattle.tree_model.specs.declared.pinned_core.Core.{Core as CoreView}
use Rattle.tree_model.specs.declared.place.Parent.TheVariants.{Core}
use Rattle.tree_model.specs.View.{NamedTask, PartView, SystemView}
use Rattle.tree_model.specs.System.{own_tasks}

-- the period of a guest, in slots, and its scheduler
abbrev pub guest_period : ℕ → ℕ
guest_period i = 1000 * (1 + i % 4)

abbrev pub guest_sched : ℕ → Sched
guest_sched i = if i % 2 == 0 then Edf else Rm

-- the tasks of a guest of this period: a quarter of it in ten periods, and half of it in twenty
abbrev pub guest_tasks : ℕ → List NamedTask
guest_tasks period =
    record { name = codes "a"; task = plain_task (10 * period) (10 * period) (period / 4) }
    ∷ record { name = codes "b"; task = plain_task (20 * period) (20 * period) (period / 2) } ∷ []

-- a guest, whose budget is computed, and a core
abbrev pub guest_at : ℕ → PartView
guest_at i =
    record {
      name = codes "g" ++ decimal i;
      parent = Core (i / 8);
      sched = guest_sched i;
      period = guest_period i;
      budget = None;
      extra = false;
      tasks = guest_tasks (guest_period i);
    }

abbrev pub host_core : ℕ → CoreView
host_core c = record { name = codes "c" ++ decimal c; sched = Edf; supply = None }

-- as many cores as n guests need
abbrev pub cores_for : ℕ → ℕ
cores_for n = (n + 7) / 8

-- the host of n guests
abbrev pub bulk_host : ℕ → SystemView
bulk_host n =
    record {
      cores = map host_core (range_with_len 0 (cores_for n));
      parts = map guest_at (range_with_len 0 n);
    }

-- the budget of a guest: the least whole number that 19 times reaches its period, and the budgets
-- of n guests
abbrev pub guest_budget : ℕ → ℕ
guest_budget i = (guest_period i + 18) / 19

abbrev pub bulk_budgets : ℕ → List ℕ
bulk_budgets n = map guest_budget (range_with_len 0 n)

-- the jobs of each part: every task of a leaf releases a job of full work at each multiple of its
-- period below a number of slots, and the jobs stand by release and then by task
abbrev pub full_jobs : SystemView → ℕ → List (List Job)
full_jobs sys slots = map (λ (part : PartView). at_multiples (own_tasks part) slots) sys.parts
