-- Hosts of one and of nine guests, worked out by hand. A wrong definition breaks one of these.
use Rattle.std.proofs.Common.{◌≡◌, [], ◌∷◌, length, false, None, codes, refl}
use Rattle.std.specs.Fmt.{digits}
use Rattle.slot_model.specs.declared.sched.Sched.TheVariants.{Edf, Rm}
use Rattle.slot_model.specs.Task.{jittery_task, plain_task, plain_job}
use Rattle.slot_model.specs.Release.{staggered}
use Rattle.tree_model.specs.declared.place.Parent.TheVariants.{Core}
use Rattle.tree_model.specs.System.{part_at}
use Rattle.tree_model.specs.View.{SystemView}
use Rattle.bulk_host.specs.Host.{bulk_host, bulk_budgets, full_jobs}

-- the first guest has a period of 1000 slots, and its tasks ask for 250 in 10000 and 500 in 20000
first_guest : (part_at (bulk_host 1) 0).period ≡ 1000
first_guest = refl

first_tasks : (part_at (bulk_host 1) 0).tasks
    ≡ record { name = codes "a"; task = plain_task 10000 10000 250 }
    ∷ record { name = codes "b"; task = plain_task 20000 20000 500 } ∷ []
first_tasks = refl

-- the second guest stands on the first core, under rate monotonic ranks, with a period of 2000
-- slots
second_guest : part_at (bulk_host 9) 1
    ≡ record {
      name = codes "g1";
      parent = Core 0;
      sched = Rm;
      period = 2000;
      budget = None;
      extra = false;
      tasks =
          record { name = codes "a"; task = plain_task 20000 20000 500 }
          ∷ record { name = codes "b"; task = plain_task 40000 40000 1000 } ∷ [];
    }
unfolding digits
second_guest = refl

-- the ninth on the second, under earliest deadline first, as the first guest else
ninth_guest : part_at (bulk_host 9) 8
    ≡ record {
      name = codes "g8";
      parent = Core 1;
      sched = Edf;
      period = 1000;
      budget = None;
      extra = false;
      tasks = (part_at (bulk_host 9) 0).tasks;
    }
unfolding digits
ninth_guest = refl

eighth_guest : (part_at (bulk_host 9) 7).parent ≡ Core 0
eighth_guest = refl

-- both cores are full and run the earliest deadline first
both_cores : (bulk_host 9).cores
    ≡ record { name = codes "c0"; sched = Edf; supply = None }
    ∷ record { name = codes "c1"; sched = Edf; supply = None } ∷ []
unfolding digits
both_cores = refl

cores : length (bulk_host 1).cores ∷ length (bulk_host 8).cores ∷ length (bulk_host 9).cores
    ∷ length (bulk_host 256).cores ∷ [] ≡ 1 ∷ 1 ∷ 2 ∷ 32 ∷ []
cores = refl

-- the budgets of four guests and of one more
budgets : bulk_budgets 5 ≡ 53 ∷ 106 ∷ 158 ∷ 211 ∷ 53 ∷ []
budgets = refl

-- two tasks of periods of 2 and 3 slots, the second with a jitter of 1, and their jobs in five,
-- each of which is released as it arrives
small : SystemView
small =
    record {
      cores = [];
      parts =
          record {
            name = codes "g";
            parent = Core 0;
            sched = Edf;
            period = 2;
            budget = None;
            extra = false;
            tasks =
                record { name = codes "a"; task = plain_task 2 2 1 }
                ∷ record { name = codes "b"; task = jittery_task 3 3 2 1 } ∷ [];
          } ∷ [];
    }

jobs_in_five : full_jobs small 5
    ≡ (plain_job 0 0 1 ∷ plain_job 1 0 2 ∷ plain_job 0 2 1 ∷ plain_job 1 3 2 ∷ plain_job 0 4 1 ∷ []) ∷ []
unfolding small staggered
jobs_in_five = refl
