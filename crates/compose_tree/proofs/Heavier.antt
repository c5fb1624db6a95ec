-- Tasks of the same periods, deadlines and jitter with no less work: what falls short for the
-- lighter ones does so for them, and what they pass the lighter ones pass.
use Rattle.std.proofs.Common.{◌≡◌, ℕ, ◌+◌, ◌-◌, ◌/◌, ◌<◌, ◌≤◌, Bool, true, false, cond, leb, ltb, eqb, ◌&&◌, ◌||◌, List, [], ◌∷◌, ◌++◌, length, refl, sym, ◌∙◌, ap, arith, subst, inl, inr, mul-le-mul_left}
use Rattle.std.proofs.lemmas.Bool.{cases_lt}
use Rattle.std.proofs.lemmas.List.{get_or_append_left, get_or_push, length_push}
use Rattle.std.specs.Int.{◌∣◌}
use Rattle.slot_model.specs.declared.sched.Sched.{Sched}
use Rattle.slot_model.specs.declared.sched.Sched.TheVariants.{Edf, Rm, Dm}
use Rattle.slot_model.specs.declared.sched.Short.{Short}
use Rattle.slot_model.specs.declared.sched.Short.TheVariants.{At, Task}
use Rattle.slot_model.specs.Slots.{sum_below}
use Rattle.slot_model.specs.Task.{SporadicTask, plain_task, default_task, room_of, task_at, jittery_task}
use Rattle.slot_model.specs.Order.{ranks_by, ranks_above}
use Rattle.slot_model.specs.Release.{push_if}
use Rattle.slot_model.specs.Bound.{demand_of, dbf, request_of, rbf, IsShortTask, AllHit, Passes, IsShortfall, IsCommonMultiple, IsSmall, TestPasses}
use Rattle.slot_model.proofs.Sums.{sum_below-le, cond_rises}
use Rattle.slot_model.proofs.Windows.{sum_by-places}

-- the task at a place with other work
abbrev pub with_work : List SporadicTask → ℕ → ℕ → SporadicTask
with_work tasks i work = jittery_task (task_at tasks i).period (task_at tasks i).deadline work (task_at tasks i).jitter

pub record Heavier (light heavy : List SporadicTask) : Type 0 where
  pub same_length : length light ≡ length heavy
  pub each : (i : ℕ) → i < length light
      → (work : ℕ) × (task_at heavy i ≡ with_work light i work) × ((task_at light i).work ≤ work)

pub heavier_same : (tasks : List SporadicTask) → Heavier tasks tasks
heavier_same tasks =
    record { same_length = refl; each = λ i l. ((task_at tasks i).work, refl, omega arith) }

-- one more task of each
heavier_push : (light heavy : List SporadicTask) (b : Bool) (period deadline less more : ℕ) → less ≤ more
    → Heavier light heavy
    → Heavier (push_if light b (plain_task period deadline less)) (push_if heavy b (plain_task period deadline more))
heavier_push light heavy false period deadline less more l h = h
heavier_push light heavy true period deadline less more l h =
    let a : SporadicTask = plain_task period deadline less in
    let b : SporadicTask = plain_task period deadline more in
    record {
      same_length = omega (arith, h.same_length, length_push light a, length_push heavy b);
      each = λ i li. elim (cases_lt i (length light)) [
        | inl old ↦
            let w = h.each i old in
            let e : task_at (light ++ a ∷ []) i ≡ task_at light i
            = get_or_append_left light (a ∷ []) default_task i old in (
              w.0,
              get_or_append_left heavy (b ∷ []) default_task i (omega (arith, h.same_length))
                  ∙ (w.1
                  ∙ ap (λ (t : SporadicTask). record
                  { period = t.period; deadline = t.deadline; work = w.0; jitter = t.jitter }) (sym e)),
              omega (arith, w.2, ap (λ (t : SporadicTask). t.work) e),
            )
        | inr new ↦
            let e : task_at (light ++ a ∷ []) i ≡ a
            = get_or_push light a default_task i (omega (arith, length_push light a)) in (
              more,
              get_or_push heavy b default_task i (omega (arith, h.same_length, length_push light a))
                  ∙ ap (λ (t : SporadicTask). jittery_task t.period t.deadline more t.jitter) (sym e),
              omega (arith, ap (λ (t : SporadicTask). t.work) e),
            )
      ];
    }

pub heavier_push_if : (light heavy : List SporadicTask) (b : Bool) (period deadline less more : ℕ)
    → (b ≡ true → less ≤ more) → Heavier light heavy
    → Heavier (push_if light b (plain_task period deadline less)) (push_if heavy b (plain_task period deadline more))
heavier_push_if light heavy true period deadline less more l h =
    heavier_push light heavy true period deadline less more (l refl) h
heavier_push_if light heavy false period deadline less more l h = h

-- more work asks for no less
demand_more : (task : SporadicTask) (work t : ℕ) → task.work ≤ work
    → demand_of task t ≤ demand_of (jittery_task task.period task.deadline work task.jitter) t
demand_more task work t l =
    cond_rises (leb task.deadline (t + task.jitter)) _ _
    (mul-le-mul_left ((t + task.jitter - task.deadline) / task.period + 1) l)

request_more : (task : SporadicTask) (work t : ℕ) → task.work ≤ work
    → request_of task t ≤ request_of (jittery_task task.period task.deadline work task.jitter) t
request_more task work t l = mul-le-mul_left ((t + task.jitter + (task.period - 1)) / task.period) l

pub dbf_more : (light heavy : List SporadicTask) → Heavier light heavy → (t : ℕ) → dbf light t ≤ dbf heavy t
dbf_more light heavy h t =
    let d : SporadicTask = default_task in
    let term : (i : ℕ) → i < length light → demand_of (task_at light i) t ≤ demand_of (task_at heavy i) t
    = λ i l. subst (λ (b : SporadicTask). demand_of (task_at light i) t ≤ demand_of b t) (sym (h.each i l).1)
    (demand_more (task_at light i) (h.each i l).0 t (h.each i l).2) in
    omega (
      arith,
      sum_by-places (λ (b : SporadicTask). demand_of b t) d light,
      sum_by-places (λ (b : SporadicTask). demand_of b t) d heavy,
      sum_below-le (λ i. demand_of (task_at light i) t) (λ i. demand_of (task_at heavy i) t) (length light) term,
      ap (sum_below (λ i. demand_of (task_at heavy i) t)) h.same_length,
    )

-- ranks look at periods, deadlines and places alone
same_keys : (f g : ℕ → ℕ) (i j : ℕ) → f i ≡ g i → f j ≡ g j → ranks_by f i j ≡ ranks_by g i j
same_keys f g i j a b =
    ap (λ (x : ℕ). ltb x (f j) || (eqb x (f j) && ltb i j)) a
    ∙ ap (λ (y : ℕ). ltb (g i) y || (eqb (g i) y && ltb i j)) b

same_ranks : (sched : Sched) (light heavy : List SporadicTask) → Heavier light heavy → (i j : ℕ) → i < length light
    → j < length light → ranks_above sched light i j ≡ ranks_above sched heavy i j
same_ranks Rm light heavy h i j l m =
    same_keys (λ k. (task_at light k).period) (λ k. (task_at heavy k).period) i j
    (ap (λ (t : SporadicTask). t.period) (sym (h.each i l).1))
    (ap (λ (t : SporadicTask). t.period) (sym (h.each j m).1))
same_ranks Dm light heavy h i j l m =
    same_keys (λ k. (task_at light k).deadline) (λ k. (task_at heavy k).deadline) i j
    (ap (λ (t : SporadicTask). t.deadline) (sym (h.each i l).1))
    (ap (λ (t : SporadicTask). t.deadline) (sym (h.each j m).1))
same_ranks other light heavy h i j l m = refl

pub rbf_more : (sched : Sched) (light heavy : List SporadicTask) → Heavier light heavy → (i t : ℕ) → i < length light
    → rbf (ranks_above sched light) light i t ≤ rbf (ranks_above sched heavy) heavy i t
rbf_more sched light heavy h i t l =
    let term : (k : ℕ) → k < length light
    → cond (ranks_above sched light k i) (request_of (task_at light k) t) 0
    ≤ cond (ranks_above sched heavy k i) (request_of (task_at heavy k) t) 0
    =
    λ k m. subst (λ (b : Bool). cond (ranks_above sched light k i) (request_of (task_at light k) t) 0
    ≤ cond b (request_of (task_at heavy k) t) 0) (same_ranks sched light heavy h k i m l)
    (cond_rises (ranks_above sched light k i) _ _ (subst
    (λ (b : SporadicTask). request_of (task_at light k) t ≤ request_of b t) (sym (h.each k m).1)
    (request_more (task_at light k) (h.each k m).0 t (h.each k m).2))) in
    omega (
      arith,
      ap (λ (b : SporadicTask). b.work) (h.each i l).1,
      (h.each i l).2,
      sum_below-le (λ k. cond (ranks_above sched light k i) (request_of (task_at light k) t) 0)
          (λ k. cond (ranks_above sched heavy k i) (request_of (task_at heavy k) t) 0) (length light) term,
      ap (sum_below (λ k. cond (ranks_above sched heavy k i) (request_of (task_at heavy k) t) 0)) h.same_length,
    )

-- what falls short, first or not
pub record IsShortPlace (above : ℕ → ℕ → Bool) (tasks : List SporadicTask) (bound : ℕ → ℕ) (i : ℕ) : Type 0 where
  pub is_task : i < length tasks
  pub short : IsShortTask above tasks bound i

abbrev pub FallsShort : Sched → List SporadicTask → (ℕ → ℕ) → Short → Type 0
FallsShort Edf tasks bound (At t) = bound t < dbf tasks t
FallsShort Edf tasks bound (Task i) = ⊥
FallsShort rule tasks bound (At t) = ⊥
FallsShort rule tasks bound (Task i) = IsShortPlace (ranks_above rule tasks) tasks bound i

pub shortfall_falls : (sched : Sched) (tasks : List SporadicTask) (bound : ℕ → ℕ) (short : Short)
    → IsShortfall sched tasks bound short → FallsShort sched tasks bound short
shortfall_falls Edf tasks bound (At t) h = h.short
shortfall_falls Edf tasks bound (Task i) h = h
shortfall_falls rule tasks bound (At t) h = h
shortfall_falls rule tasks bound (Task i) h = record { is_task = h.is_task; short = h.short }

heavier_place : (sched : Sched) (light heavy : List SporadicTask) → Heavier light heavy → (bound : ℕ → ℕ) (i : ℕ)
    → IsShortPlace (ranks_above sched light) light bound i → IsShortPlace (ranks_above sched heavy) heavy bound i
heavier_place sched light heavy h bound i s = record {
  is_task = omega (arith, s.is_task, h.same_length);
  short =
      λ t some within. omega (
        arith,
        s.short t some (omega (arith, ap room_of (h.each i s.is_task).1)),
        rbf_more sched light heavy h i t s.is_task,
      );
}

-- more work falls short where less does
pub heavier_falls : (sched : Sched) (light heavy : List SporadicTask) → Heavier light heavy
    → (bound : ℕ → ℕ) (short : Short) → FallsShort sched light bound short → FallsShort sched heavy bound short
heavier_falls Edf light heavy h bound (At t) s = omega (arith, s, dbf_more light heavy h t)
heavier_falls Edf light heavy h bound (Task i) s = s
heavier_falls rule light heavy h bound (At t) s = s
heavier_falls rule light heavy h bound (Task i) s = heavier_place rule light heavy h bound i s

-- less work passes where more does
lighter_hits : (sched : Sched) (light heavy : List SporadicTask) → Heavier light heavy → (bound : ℕ → ℕ)
    → AllHit (ranks_above sched heavy) heavy bound → AllHit (ranks_above sched light) light bound
lighter_hits sched light heavy h bound all i l =
    let hit = all i (omega (arith, l, h.same_length)) in (
      hit.0,
      record {
        some_slots = hit.1.some_slots;
        in_deadline = omega (arith, hit.1.in_deadline, ap room_of (h.each i l).1);
        enough = omega (arith, hit.1.enough, rbf_more sched light heavy h i hit.0 l);
      },
    )

pub lighter_passes : (sched : Sched) (light heavy : List SporadicTask) → Heavier light heavy → (bound : ℕ → ℕ)
    → Passes sched heavy bound → Passes sched light bound
lighter_passes Edf light heavy h bound passes = λ t l. omega (arith, passes t l, dbf_more light heavy h t)
lighter_passes rule light heavy h bound passes = lighter_hits rule light heavy h bound passes

-- a horizon looks at periods alone
lighter_common : (light heavy : List SporadicTask) → Heavier light heavy → (cycle m : ℕ)
    → IsCommonMultiple heavy cycle m → IsCommonMultiple light cycle m
lighter_common light heavy h cycle m common = record {
  some = common.some;
  of_cycle = common.of_cycle;
  of_periods =
      λ i l. subst (λ (p : ℕ). p ∣ m) (ap (λ (t : SporadicTask). t.period) (h.each i l).1)
      (common.of_periods i (omega (arith, l, h.same_length)));
}

heavier_common : (light heavy : List SporadicTask) → Heavier light heavy → (cycle m : ℕ)
    → IsCommonMultiple light cycle m → IsCommonMultiple heavy cycle m
heavier_common light heavy h cycle m common = record {
  some = common.some;
  of_cycle = common.of_cycle;
  of_periods =
      λ i l. let inside : i < length light = omega (arith, l, h.same_length) in
      subst (λ (p : ℕ). p ∣ m) (sym (ap (λ (t : SporadicTask). t.period) (h.each i inside).1))
      (common.of_periods i inside);
}

lighter_small : (sched : Sched) (light heavy : List SporadicTask) → Heavier light heavy → (cycle : ℕ)
    → IsSmall sched heavy cycle → IsSmall sched light cycle
lighter_small Edf light heavy h cycle small = (
  small.0,
  record {
    multiple = small.1.multiple;
    common = lighter_common light heavy h cycle small.1.multiple small.1.common;
    least = λ m common. small.1.least m (heavier_common light heavy h cycle m common);
    is = small.1.is;
  },
  small.2,
)
lighter_small rule light heavy h cycle small = tt

-- so its exact test passes
pub lighter_test : (sched : Sched) (light heavy : List SporadicTask) → Heavier light heavy → (bound : ℕ → ℕ) (cycle : ℕ)
    → TestPasses sched heavy bound cycle → TestPasses sched light bound cycle
lighter_test sched light heavy h bound cycle test =
    (lighter_small sched light heavy h cycle test.0, lighter_passes sched light heavy h bound test.1)
