-- What the first run of a defeat under earliest deadline first shows, told by what is missing at
-- the end of its window.
use Rattle.std.proofs.Common.{◌≡◌, ℕ, zero, suc, ◌+◌, ◌-◌, ◌*◌, ◌<◌, ◌≤◌, Bool, true, false, cond, ◌&&◌, List, [], ◌∷◌, length, Option, refl, sym, ◌∙◌, ap, arith, subst}
use Rattle.slot_model.specs.Slots.{slots_between, sum_below}
use Rattle.slot_model.specs.Task.{AreConstrained, SporadicTask, job_at, sporadic_tasks, task_at}
use Rattle.slot_model.specs.Supply.{worst_slot}
use Rattle.slot_model.specs.Order.{edf_before}
use Rattle.slot_model.specs.EdfOrder.{edf_laws}
use Rattle.slot_model.specs.Run.{guest}
use Rattle.slot_model.specs.Release.{synchronous}
use Rattle.slot_model.specs.Bound.{dbf, sbf, IsFirstShortPoint}
use Rattle.slot_model.specs.Miss.{Missed, WorstList}
use Rattle.slot_model.specs.declared.miss.Miss.{Miss}
use Rattle.slot_model.specs.declared.sched.Sched.TheVariants.{Edf}
use Rattle.slot_model.specs.declared.task.Task.{Task}
use Rattle.slot_model.proofs.FirstRuns.{first_permitted, run_to}
use Rattle.slot_model.proofs.Rising.{bound-le}
use Rattle.slot_model.proofs.Strict.{strict_of}
use Rattle.slot_model.proofs.Sums.{sum_below-suc, sum_below-zero}
use Rattle.slot_model.proofs.WorstLists.{worst_list, worst_list-is}
use Rattle.slot_model.proofs.WorstPattern.{periodic_laws}
use Rattle.edf_test.proofs.EdfMisses.{edf_misses}
use Rattle.miss_witness.specs.declared.defeat.Defeat.{Defeat}
use Rattle.miss_witness.specs.Replay.{ShowsMiss}
use Rattle.miss_witness.specs.inner.DueLast.{LacksFirst, is_due_last, last_release, miss_at, part_from, stands_from, work_from}
use Rattle.miss_witness.proofs.OneLacks.{one_lacks}
use Rattle.miss_witness.proofs.PointMiss.{AtPoint}
use Rattle.miss_witness.proofs.PointShares.{miss_of_numbers, point_miss}

-- the first run of the release at a over the worst pattern of a budget, and that a job misses there
record EndRun (tasks : List SporadicTask) (period budget a n : ℕ) : Type 0 where
  slots : List Bool
  run : List (Option ℕ)
  worst : WorstList (worst_slot period budget) a n slots
  at_point : AtPoint tasks (sbf period budget) a n slots run
  job : ℕ
  missed : Missed tasks (synchronous tasks a n) run job

end_run : (tasks : List SporadicTask) → AreConstrained tasks → (period budget a n : ℕ) → 1 ≤ period → budget ≤ period
    → a ≡ budget → IsFirstShortPoint tasks (sbf period budget) n → EndRun tasks period budget a n
end_run tasks fits period budget a n l m e point =
    let slots : List Bool = worst_list (worst_slot period budget) (a + n) in
    let worst : WorstList (worst_slot period budget) a n slots = worst_list-is (worst_slot period budget) a n in
    let laws = periodic_laws period budget l m in
    let (run, first)
    = run_to guest (edf_before tasks) (strict_of edf_before edf_laws tasks) tasks (synchronous tasks a n) slots
    (length slots) in
    let exact : slots_between slots a (a + n) ≡ sbf period budget n
    = subst (λ (z : ℕ). slots_between slots z (z + n) ≡ sbf period budget n) (sym e)
    (laws.worst_is_exact slots n worst.follows (omega (arith, worst.long, e))) in
    let miss
    = edf_misses (edf_before tasks) tasks fits a n slots run worst.long
    (first_permitted guest (edf_before tasks) tasks (synchronous tasks a n) slots run first)
    (omega (arith, exact, point.short)) in
    record {
      slots = slots;
      run = run;
      worst = worst;
      at_point = record {
        fits = fits;
        slow = laws.rises_by_one;
        windows = λ from to. laws.every_window slots from to (laws.worst_conforms slots worst.follows);
        point = point;
        long = worst.long;
        exact = exact;
        first_run = first;
      };
      job = miss.0;
      missed = miss.1;
    }

-- so a job lacks first
pub end_lacking : (tasks : List SporadicTask) → AreConstrained tasks → (period budget n : ℕ) → 1 ≤ period
    → budget ≤ period → IsFirstShortPoint tasks (sbf period budget) n
    → (i : ℕ) × LacksFirst tasks n (dbf tasks n - sbf period budget n) i
end_lacking tasks fits period budget n l m point =
    let r = end_run tasks fits period budget budget n l m refl point in
    let p = point_miss tasks (sbf period budget) budget n r.slots r.run r.at_point r.job r.missed in
    ((job_at (synchronous tasks budget n) p.0).task, p.2)

-- and the first run shows its miss
pub end_shows : (tasks : List SporadicTask) → AreConstrained tasks → (period : ℕ) (defeat : Defeat) → 1 ≤ period
    → defeat.budget ≤ period → defeat.start ≡ defeat.budget
    → IsFirstShortPoint tasks (sbf period defeat.budget) defeat.span → (i : ℕ)
    → LacksFirst tasks defeat.span (dbf tasks defeat.span - sbf period defeat.budget defeat.span) i → (miss : Miss)
    → miss ≡ miss_at tasks defeat.start defeat.span (dbf tasks defeat.span - sbf period defeat.budget defeat.span) i
    → ShowsMiss Edf tasks period defeat miss
end_shows tasks fits period defeat l m e point i lacks miss is =
    let lack : ℕ = dbf tasks defeat.span - sbf period defeat.budget defeat.span in
    let r = end_run tasks fits period defeat.budget defeat.start defeat.span l m e point in
    let p
    = point_miss tasks (sbf period defeat.budget) defeat.start defeat.span r.slots r.run r.at_point r.job r.missed in
    let same : i ≡ (job_at (synchronous tasks defeat.start defeat.span) p.0).task
    = one_lacks tasks defeat.span lack i _ lacks p.2 in
    record {
      slots = r.slots;
      run = r.run;
      worst = r.worst;
      first_run = r.at_point.first_run;
      first_miss = (p.0, p.1, is ∙ (ap (λ (k : ℕ). miss_at tasks defeat.start defeat.span lack k) same ∙ sym p.3));
    }

-- the same, where the span is told apart
pub end_shows_by : (tasks : List SporadicTask) → AreConstrained tasks → (period : ℕ) (defeat : Defeat) → 1 ≤ period
    → defeat.budget ≤ period → defeat.start ≡ defeat.budget → (n : ℕ) → n ≡ defeat.span
    → IsFirstShortPoint tasks (sbf period defeat.budget) n → (i : ℕ)
    → LacksFirst tasks n (dbf tasks n - sbf period defeat.budget n) i → (miss : Miss)
    → miss ≡ miss_at tasks defeat.start n (dbf tasks n - sbf period defeat.budget n) i
    → ShowsMiss Edf tasks period defeat miss
end_shows_by tasks fits period defeat l m e n span =
    subst (λ (z : ℕ). IsFirstShortPoint tasks (sbf period defeat.budget) z → (i : ℕ)
    → LacksFirst tasks z (dbf tasks z - sbf period defeat.budget z) i → (miss : Miss)
    → miss ≡ miss_at tasks defeat.start z (dbf tasks z - sbf period defeat.budget z) i
    → ShowsMiss Edf tasks period defeat miss) (sym span)
    (λ point i lacks miss is. end_shows tasks fits period defeat l m e point i lacks miss is)

-- a miss of these numbers
pub told_at : (tasks : List SporadicTask) (start n lack given i release got work : ℕ) → lack ≡ given
    → release ≡ last_release (task_at tasks i) n → got ≡ work_from tasks n i → work ≡ (task_at tasks i).work
    → miss_of_numbers i (start + release) (start + n) (got - lack) work ≡ miss_at tasks start n given i
told_at tasks start n lack given i release got work e r g w = rw (e, r, g, w) refl

-- no task asks for more than the longest period
small_work : (tasks : List Task) (k : ℕ) → k < length tasks → (task_at (sporadic_tasks tasks) k).work ≤ 1000000000
small_work [] k l = absurd (omega arith)
small_work (t ∷ ts) zero l = omega (arith, t.in_deadline, t.in_period, t.in_limit)
small_work (t ∷ ts) (suc k) l = small_work ts k (omega arith)

small_part : (b : Bool) (w m : ℕ) → w ≤ m → cond b w 0 ≤ m
small_part true w m l = l
small_part false w m l = omega arith

small_sum : (f : ℕ → ℕ) (n : ℕ) → ((k : ℕ) → k < n → f k ≤ 1000000000) → sum_below f n ≤ n * 1000000000
small_sum f zero h = omega (arith, sum_below-zero f)
small_sum f (suc n) h =
    omega (arith, sum_below-suc f n, small_sum f n (λ k l. h k (omega arith)), h n (omega arith))

-- so 64 bits hold what is missing, and 128 what is asked for
pub small_lack : (tasks : List Task) (period budget n : ℕ) → length tasks ≤ 256 → 1 ≤ period → budget ≤ period
    → n ≤ 1000000 → length (sporadic_tasks tasks) ≡ length tasks
    → (i : ℕ) × LacksFirst (sporadic_tasks tasks) n (dbf (sporadic_tasks tasks) n - sbf period budget n) i
    → (dbf (sporadic_tasks tasks) n - sbf period budget n ≤ 256 * 1000000000)
    × (dbf (sporadic_tasks tasks) n ≤ 256 * 1000000000 + 1000000)
small_lack tasks period budget n few l m reach same lacking =
    let T : List SporadicTask = sporadic_tasks tasks in
    let laws = periodic_laws period budget l m in
    let i : ℕ = lacking.0 in
    let most : work_from T n i ≤ length T * 1000000000
    = small_sum (part_from T n i) (length T)
    (λ k lk. small_part (is_due_last (task_at T k) n && stands_from T n i k) (task_at T k).work 1000000000
    (small_work tasks k (omega (arith, lk, same)))) in
    let given : sbf period budget n ≤ n = bound-le (sbf period budget) laws.none_at_zero laws.rises_by_one n in
    (omega (arith, most, same, few, lacking.1.lacks), omega (arith, most, same, few, lacking.1.lacks, given, reach))
