-- A level passes, or something is short first, and never both.
use Rattle.std.proofs.Common.{◌⊎◌, ℕ, zero, suc, ◌<◌, ◌≤◌, Bool, List, length, sym, arith, subst, inl, inr}
use Rattle.std.proofs.lemmas.Bool.{cases_eq, cases_lt}
use Rattle.slot_model.specs.declared.sched.Sched.{Sched}
use Rattle.slot_model.specs.declared.sched.Sched.TheVariants.{Edf, Rm, Dm, Listed}
use Rattle.slot_model.specs.declared.sched.Short.{Short}
use Rattle.slot_model.specs.declared.sched.Short.TheVariants.{At, Task}
use Rattle.slot_model.specs.Task.{SporadicTask, AreConstrained, room_of, task_at}
use Rattle.slot_model.specs.Supply.{SupplyLaws}
use Rattle.slot_model.specs.Order.{ranks_above}
use Rattle.slot_model.specs.Bound.{dbf, rbf, IsHit, IsShortTask, AllHit, IsFirstShortTask, IsFirstShortPoint, DemandFits, Passes, IsShortfall, IsHorizon}
use Rattle.slot_model.proofs.FirstRuns.{first_below}
use Rattle.edf_demand.proofs.Horizons.{horizon_exists, horizon_is_enough, rises_of_laws}

-- whether a window is short
is_short : (tasks : List SporadicTask) (bound : ℕ → ℕ) (t : ℕ)
    → ((1 ≤ t) × (bound t < dbf tasks t)) ⊎ ((1 ≤ t) × (bound t < dbf tasks t) → ⊥)
is_short tasks bound t = elim (cases_lt 0 t) [
  | inr none ↦ inr (λ w. omega (arith, w.0))
  | inl some ↦ elim (cases_lt (bound t) (dbf tasks t)) [ inl l ↦ inl (some, l) | inr l ↦ inr (λ w. omega (arith, w.1)) ]
]

pub demand_fits_or_short : (tasks : List SporadicTask) → AreConstrained tasks
    → {bound : ℕ → ℕ} {amount cycle : ℕ} {pattern : ℕ → Bool} {start : ℕ} {Conforms : List Bool → Type 0}
    → SupplyLaws bound amount cycle pattern start Conforms
    → DemandFits tasks bound ⊎ ((t : ℕ) × IsFirstShortPoint tasks bound t)
demand_fits_or_short tasks fits {bound} {amount} {cycle} {pattern} {start} {Conforms} laws =
    let r : (h : ℕ) × IsHorizon tasks cycle h = horizon_exists tasks cycle laws.some_cycle fits in
    let fitting : (u : ℕ) → 1 ≤ u → ((1 ≤ u) × (bound u < dbf tasks u) → ⊥) → dbf tasks u ≤ bound u =
    λ u lu no'. elim (cases_lt (bound u) (dbf tasks u)) [ inr q ↦ q | inl q ↦ absurd (no' (lu, q)) ] in
    elim (first_below (λ t. (1 ≤ t) × (bound t < dbf tasks t)) (is_short tasks bound) (suc r.0)) [
      | inl w ↦ inr (w.0, record { some_slots = w.2.0; short = w.2.1; before = λ u lu l. fitting u lu (w.3 u l) })
      | inr none ↦
          inl (horizon_is_enough tasks fits bound amount cycle r.0 laws.some_cycle
          (rises_of_laws bound amount cycle pattern start Conforms laws) r.1
          (λ u lu l. fitting u lu (none u (omega arith))))
    ]

-- whether a number of slots is a hit
is_hit : (above : ℕ → ℕ → Bool) (tasks : List SporadicTask) (bound : ℕ → ℕ) (i t : ℕ)
    → IsHit above tasks bound i t ⊎ (IsHit above tasks bound i t → ⊥)
is_hit above tasks bound i t = elim (cases_lt 0 t) [
  | inr a ↦ inr (λ h. omega (arith, h.some_slots))
  | inl a ↦ elim (cases_lt (room_of (task_at tasks i)) t) [
    | inl b ↦ inr (λ h. omega (arith, h.in_deadline))
    | inr b ↦
        elim (cases_lt (bound t) (rbf above tasks i t)) [
          | inl c ↦
              inr (λ h. omega (arith, h.enough))
          | inr c ↦ inl (record { some_slots = a; in_deadline = b; enough = c })
        ]
  ]
]

hit_or_short : (above : ℕ → ℕ → Bool) (tasks : List SporadicTask) (bound : ℕ → ℕ) (i : ℕ)
    → ((t : ℕ) × IsHit above tasks bound i t) ⊎ IsShortTask above tasks bound i
hit_or_short above tasks bound i =
    elim (first_below (λ t. IsHit above tasks bound i t) (is_hit above tasks bound i)
    (suc (room_of (task_at tasks i)))) [
      | inl r ↦ inl (r.0, r.2)
      | inr none ↦
          inr (λ u lu hu. elim (cases_lt (bound u) (rbf above tasks i u)) [
            | inl q ↦
                q
            | inr q ↦ absurd (none u (omega arith) (record { some_slots = lu; in_deadline = hu; enough = q }))
          ])
    ]

hits_below : (above : ℕ → ℕ → Bool) (tasks : List SporadicTask) (bound : ℕ → ℕ) (n : ℕ) → n ≤ length tasks
    → ((i : ℕ) → i < n → (t : ℕ) × IsHit above tasks bound i t) ⊎ ((i : ℕ) × IsFirstShortTask above tasks bound i)
hits_below above tasks bound zero l = inl (λ i li. absurd (omega arith))
hits_below above tasks bound (suc n) l = elim (hits_below above tasks bound n (omega arith)) [
  | inr r ↦ inr r
  | inl all ↦ elim (hit_or_short above tasks bound n) [
    | inl r ↦
        inl (λ i li. elim (cases_eq i n) [
          | inl e ↦
              (r.0, subst (λ (z : ℕ). IsHit above tasks bound z r.0) (sym e) r.1)
          | inr ne ↦ all i (omega arith)
        ])
    | inr short ↦ inr (n, record { is_task = omega arith; short = short; before = all })
  ]
]

pub all_hit_or_short : (above : ℕ → ℕ → Bool) (tasks : List SporadicTask) (bound : ℕ → ℕ)
    → AllHit above tasks bound ⊎ ((i : ℕ) × IsFirstShortTask above tasks bound i)
all_hit_or_short above tasks bound = hits_below above tasks bound (length tasks) (omega arith)

-- over a lawful supply a level passes, or something is short first
pub passes_or_short : (sched : Sched) (tasks : List SporadicTask) → AreConstrained tasks
    → {bound : ℕ → ℕ} {amount cycle : ℕ} {pattern : ℕ → Bool} {start : ℕ} {Conforms : List Bool → Type 0}
    → SupplyLaws bound amount cycle pattern start Conforms
    → Passes sched tasks bound ⊎ ((short : Short) × IsShortfall sched tasks bound short)
passes_or_short Edf tasks fits laws =
    elim (demand_fits_or_short tasks fits laws) [ inl p ↦ inl p | inr r ↦ inr (At r.0, r.1) ]
passes_or_short Rm tasks fits {bound} laws =
    elim (all_hit_or_short (ranks_above Rm tasks) tasks bound) [ inl p ↦ inl p | inr r ↦ inr (Task r.0, r.1) ]
passes_or_short Dm tasks fits {bound} laws =
    elim (all_hit_or_short (ranks_above Dm tasks) tasks bound) [ inl p ↦ inl p | inr r ↦ inr (Task r.0, r.1) ]
passes_or_short Listed tasks fits {bound} laws =
    elim (all_hit_or_short (ranks_above Listed tasks) tasks bound) [ inl p ↦ inl p | inr r ↦ inr (Task r.0, r.1) ]
