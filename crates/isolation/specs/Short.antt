-- Which VCPUs of a core are isolated, by its budgets and periods alone.
use Rattle.std.specs.Prelude.{◌≡◌, ℕ, ◌<◌, ◌≤◌, true, if◌then◌else◌, List, length}
use Rattle.slot_model.specs.Slots.{sum_below}
use Rattle.tree_model.specs.declared.place.Place.TheVariants.{Core}
use Rattle.tree_model.specs.View.{SystemView}
use Rattle.tree_model.specs.System.{part_at}
use Rattle.tree_model.specs.Tree.{is_child, budget_at}
use Rattle.tree_model.specs.Plans.{IsPlan}
use Rattle.rtds_model.specs.Demand.{later}
use Rattle.isolation.specs.Demand.{no_tie, IsIsolatedBy}

-- the sum of the budgets of core c
abbrev pub budgets_on : SystemView → List ℕ → ℕ → ℕ
budgets_on sys budgets c =
    sum_below (λ u. if is_child sys (Core c) u then budget_at budgets u else 0) (length sys.parts)

-- it is no more than the period of any VCPU of the core, and so than the shortest
abbrev pub FitsShortest : SystemView → List ℕ → ℕ → Type 0
FitsShortest sys budgets c =
    (v : ℕ) → v < length sys.parts → is_child sys (Core c) v ≡ true →
    budgets_on sys budgets c ≤ (part_at sys v).period

-- each VCPU of the core is isolated, however ties are broken
abbrev pub AllIsolated : SystemView → List ℕ → ℕ → Type 0
AllIsolated sys budgets c =
    (v : ℕ) → v < length sys.parts → is_child sys (Core c) v ≡ true →
    (t : ℕ) × IsIsolatedBy no_tie sys budgets c v t

-- the one holds exactly where the other does
abbrev pub IsolatedWhereShort : Type 0
IsolatedWhereShort =
    (sys : SystemView) (budgets : List ℕ) (c : ℕ) → IsPlan sys budgets →
    (FitsShortest sys budgets c → AllIsolated sys budgets c)
    × (AllIsolated sys budgets c → FitsShortest sys budgets c)

-- budgets none of which is greater than in another list of them
abbrev pub AreNoGreater : SystemView → List ℕ → List ℕ → Type 0
AreNoGreater sys budgets more =
    (u : ℕ) → u < length sys.parts → budget_at budgets u ≤ budget_at more u

-- isolate a VCPU that the greater ones isolate, by as many slots
abbrev pub FewerIsolate : Type 0
FewerIsolate =
    (sys : SystemView) (budgets more : List ℕ) (c v t : ℕ) → AreNoGreater sys budgets more →
    (IsIsolatedBy no_tie sys more c v t → IsIsolatedBy no_tie sys budgets c v t)
    × (IsIsolatedBy later sys more c v t → IsIsolatedBy later sys budgets c v t)
