-- A core under earliest deadline first whose servers ask for more than all slots refuses.
use Rattle.std.proofs.Common.{◌≡◌, ◌⊎◌, ℕ, zero, suc, ◌+◌, ◌*◌, ◌-◌, ◌/◌, ◌^◌, ◌<◌, ◌≤◌, List, length, Option, Some, None, arith, refl, sym, ◌∙◌, ap, subst, inl, inr, mul-le-mul_left, mul-le-mul_right, div-mul-le_self}
use Rattle.std.specs.Int.{◌∣◌}
use Rattle.std.proofs.lemmas.Bool.{cases_lt}
use Rattle.slot_model.specs.declared.sched.Sched.{Sched}
use Rattle.slot_model.specs.declared.sched.Sched.TheVariants.{Edf}
use Rattle.slot_model.specs.declared.sched.Short.TheVariants.{At}
use Rattle.slot_model.specs.Slots.{sum_below}
use Rattle.slot_model.specs.Task.{SporadicTask, IsConstrained, AreConstrained, default_task, room_of, task_at}
use Rattle.slot_model.specs.Bound.{dbf, demand_of, IsCommonMultiple, IsFirstShortPoint}
use Rattle.slot_model.proofs.Demand.{demand_closed, quotient_rises}
use Rattle.slot_model.proofs.FirstRuns.{first_below}
use Rattle.slot_model.proofs.PeriodicSupply.{sbf_short}
use Rattle.slot_model.proofs.Sums.{sum_below-zero, sum_below-suc}
use Rattle.slot_model.proofs.Windows.{sum_by-places}
use Rattle.edf_demand.proofs.Multiples.{quotient_of}
use Rattle.edf_demand.proofs.Horizons.{horizon_exists, horizon_unique}
use Rattle.tree_model.specs.declared.place.Place.{Place}
use Rattle.tree_model.specs.declared.place.Place.TheVariants.{Core}
use Rattle.tree_model.specs.declared.plan.Refusal.{Refusal}
use Rattle.tree_model.specs.declared.plan.Refusal.TheVariants.{Overfull, Wide}
use Rattle.tree_model.specs.View.{SystemView}
use Rattle.tree_model.specs.System.{IsCoreSupply, IsSystem, core_at}
use Rattle.tree_model.specs.Tree.{core_bound, core_cycle, server_tasks}
use Rattle.tree_model.proofs.InRange.{children_fit}
use Rattle.tree_model.proofs.Parents.{servers_constrained}
use Rattle.compose_tree.specs.Steps.{NodeRefuses}
use Rattle.compose_tree.specs.Kept.{IsKept}
use Rattle.compose_tree.proofs.Settling.{before_core, node_refuses}
use Rattle.compose_tree.proofs.Ways.{assigned_later, pass_later, cores_before}
use Rattle.admission_session.specs.Answers.{HasRefusal}
use Rattle.admission_session.specs.inner.Shares.{share, shares}

-- over a multiple of its period a task asks for no less than its share
share_asked : (b : SporadicTask) → IsConstrained b → (m : ℕ) → b.period ∣ m → share b * m ≤ 2 ^ 32 * demand_of b m
share_asked b f m d =
    let some : 1 ≤ b.period = omega (arith, f.works, f.in_deadline, f.in_period) in
    let k : ℕ = m / b.period in
    let is : m ≡ k * b.period = quotient_of b.period m some d in
    let asked : k * b.work ≤ demand_of b m
    = omega (
      arith,
      demand_closed b f m,
      mul-le-mul_right b.work
          (quotient_rises m (m + (b.period - room_of b)) b.period some (omega arith)),
    ) in
    let whole : share b * b.period ≤ b.work * 2 ^ 32 = div-mul-le_self (b.work * 2 ^ 32) b.period in
    let times : k * (share b * b.period) ≤ k * (b.work * 2 ^ 32) = mul-le-mul_left k whole in
    let part : share b * m ≡ k * (share b * b.period) = ap (λ (z : ℕ). share b * z) is ∙ omega arith in
    omega (arith, part, times, mul-le-mul_left (2 ^ 32) asked)

-- and so do all tasks together
shares_below : (tasks : List SporadicTask) → AreConstrained tasks → (m : ℕ)
    → ((i : ℕ) → i < length tasks → (task_at tasks i).period ∣ m) → (n : ℕ) → n ≤ length tasks
    → sum_below (λ i. share (task_at tasks i)) n * m ≤ 2 ^ 32 * sum_below (λ i. demand_of (task_at tasks i) m) n
shares_below tasks fits m divides zero l =
    omega (arith, ap (λ (z : ℕ). z * m) (sum_below-zero (λ i. share (task_at tasks i))))
shares_below tasks fits m divides (suc n) l =
    omega (
      arith,
      sum_below-suc (λ i. share (task_at tasks i)) n,
      sum_below-suc (λ i. demand_of (task_at tasks i) m) n,
      ap (λ (z : ℕ). z * m) (sum_below-suc (λ i. share (task_at tasks i)) n),
      shares_below tasks fits m divides n (omega arith),
      share_asked (task_at tasks n) (fits n (omega arith)) m (divides n (omega arith)),
    )

shares_asked : (tasks : List SporadicTask) → AreConstrained tasks → (m : ℕ)
    → ((i : ℕ) → i < length tasks → (task_at tasks i).period ∣ m) → shares tasks * m ≤ 2 ^ 32 * dbf tasks m
shares_asked tasks fits m divides =
    omega (
      arith,
      ap (λ (z : ℕ). z * m) (sum_by-places share default_task tasks),
      sum_by-places (λ b. demand_of b m) default_task tasks,
      shares_below tasks fits m divides (length tasks) (omega arith),
    )

-- more than all slots is more than any supply gives
past_bound : (tasks : List SporadicTask) → AreConstrained tasks → (bound : ℕ → ℕ) (cycle m : ℕ)
    → IsCommonMultiple tasks cycle m → bound m ≤ m → 2 ^ 32 < shares tasks → bound m < dbf tasks m
past_bound tasks fits bound cycle m common gives past =
    omega (
      arith,
      common.some,
      gives,
      mul-le-mul_right m past,
      shares_asked tasks fits m common.of_periods,
    )

-- so some window is short first
abbrev IsShortHere : List SporadicTask → (ℕ → ℕ) → ℕ → Type 0
IsShortHere tasks bound t = (1 ≤ t) × (bound t < dbf tasks t)

is_short : (tasks : List SporadicTask) (bound : ℕ → ℕ) (t : ℕ)
    → IsShortHere tasks bound t ⊎ (IsShortHere tasks bound t → ⊥)
is_short tasks bound t = elim (cases_lt 0 t) [
  | inl some ↦ elim (cases_lt (bound t) (dbf tasks t)) [
    | inl short ↦ inl (omega (arith, some), short)
    | inr fits ↦ inr (λ h. omega (arith, fits, h.1))
  ]
  | inr none ↦ inr (λ h. omega (arith, none, h.0))
]

short_first : (tasks : List SporadicTask) (bound : ℕ → ℕ) (m : ℕ) → 1 ≤ m → bound m < dbf tasks m
    → (t : ℕ) × IsFirstShortPoint tasks bound t
short_first tasks bound m some short = elim (first_below (IsShortHere tasks bound) (is_short tasks bound) (suc m)) [
  | inl r ↦ (
    r.0,
    record {
      some_slots = r.2.0;
      short = r.2.1;
      before =
          λ u l h. elim (cases_lt (bound u) (dbf tasks u))
          [ inl s ↦ absurd (r.3 u h (l, s)) | inr fits ↦ omega (arith, fits) ];
    },
  )
  | inr none ↦ absurd (none m (omega arith) (some, short))
]

-- and the test refuses: there, or for a horizon that is too wide
level_refuses : (tasks : List SporadicTask) → AreConstrained tasks → (bound : ℕ → ℕ) (cycle : ℕ) → 1 ≤ cycle
    → ((t : ℕ) → bound t ≤ t) → 2 ^ 32 < shares tasks → (node : Place)
    → (r : Refusal) × NodeRefuses Edf tasks bound cycle node r
level_refuses tasks fits bound cycle some gives past node =
    let (h, is) = horizon_exists tasks cycle some fits in
    elim (cases_lt (2 ^ 128 - 2) h) [
      | inl wide ↦ (
        Wide node,
        (refl, λ small. omega (arith, wide, small.2, horizon_unique tasks cycle h small.0 is small.1)),
      )
      | inr near ↦
          (let m : ℕ = is.multiple in
          let (t, first) = short_first tasks bound m is.common.some
          (past_bound tasks fits bound cycle m is.common (gives m) past) in
          (Overfull node (At t), (refl, ((h, is, omega (arith, near)), first))))
    ]

-- no core gives more than all slots
core_gives : (supply : Option (ℕ × ℕ)) → IsCoreSupply supply → (t : ℕ) → core_bound supply t ≤ t
core_gives None is t = omega arith
core_gives (Some supply) is t =
    omega (arith, sbf_short supply.0 supply.1 t is.0.0 is.2)

core_turns : (supply : Option (ℕ × ℕ)) → IsCoreSupply supply → 1 ≤ core_cycle supply
core_turns None is = omega arith
core_turns (Some supply) is = is.0.0

pub past_all_refuses : (sys : SystemView) → IsSystem sys → (budgets : List ℕ) (c : ℕ) → IsKept sys budgets (Core c)
    → (core_at sys c).sched ≡ Edf → 2 ^ 32 < shares (server_tasks sys budgets (Core c)) → HasRefusal sys
past_all_refuses sys is budgets c keeps edf past =
    let supply : IsCoreSupply (core_at sys c).supply = is.supplies c keeps.is_node in
    let assigned = assigned_later sys is budgets (Core c) keeps in
    let (r, refuses) = level_refuses (server_tasks sys budgets (Core c))
    (servers_constrained sys budgets (Core c) (children_fit sys is budgets (Core c) assigned))
    (core_bound (core_at sys c).supply) (core_cycle (core_at sys c).supply)
    (core_turns (core_at sys c).supply supply) (core_gives (core_at sys c).supply supply) past (Core c) in (
      r,
      node_refuses sys budgets (Core c) keeps.is_node
          (before_core sys budgets c assigned (pass_later sys is budgets (Core c) keeps)
          (cores_before sys budgets c keeps)) (server_tasks sys budgets (Core c)) refl r
          (subst (λ (s : Sched). NodeRefuses s (server_tasks sys budgets (Core c))
          (core_bound (core_at sys c).supply) (core_cycle (core_at sys c).supply) (Core c) r) (sym edf) refuses),
    )
