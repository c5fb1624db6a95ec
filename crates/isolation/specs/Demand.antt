-- What the VCPUs of a core may take of the last slots of a period of one of them.
use Rattle.std.specs.Prelude.{ℕ, ◌-◌, ◌<◌, ◌≤◌, ◌==◌, if◌then◌else◌, List, length}
use Rattle.rtds_model.specs.Demand.{deferrable_demand}
use Rattle.slot_model.specs.Slots.{sum_below}
use Rattle.tree_model.specs.declared.place.Place.TheVariants.{Core}
use Rattle.tree_model.specs.View.{SystemView}
use Rattle.tree_model.specs.System.{part_at}
use Rattle.tree_model.specs.Tree.{is_child, budget_at}

-- by how many slots a period of u must end before one of v, to go before it, where ties are left
-- open
abbrev pub no_tie : ℕ → ℕ → ℕ
no_tie v u = 0

-- what VCPU u, of this period and budget, takes of the last t slots of a period of v, at the most,
-- and what v must have of them, its whole budget
abbrev pub asked_of : (ℕ → ℕ → ℕ) → ℕ → ℕ → ℕ → ℕ → ℕ → ℕ
asked_of tie v u period budget t =
    if u == v then budget else deferrable_demand period budget (t - tie v u)

-- and that of all VCPUs of core c
abbrev pub asked : (ℕ → ℕ → ℕ) → SystemView → List ℕ → ℕ → ℕ → ℕ → ℕ
asked tie sys budgets c v t =
    sum_below
    (λ u. if is_child sys (Core c) u
    then asked_of tie v u (part_at sys u).period (budget_at budgets u) t
    else 0)
    (length sys.parts)

-- the last t slots of a period of v are enough for all, whatever they do
pub record IsIsolatedBy (tie : ℕ → ℕ → ℕ) (sys : SystemView) (budgets : List ℕ) (c v t : ℕ)
    : Type 0 where
  pub in_period : t ≤ (part_at sys v).period
  pub enough : asked tie sys budgets c v t ≤ t

-- and no fewer are
pub record IsLeastBy (tie : ℕ → ℕ → ℕ) (sys : SystemView) (budgets : List ℕ) (c v t : ℕ)
    : Type 0 where
  pub isolated : IsIsolatedBy tie sys budgets c v t
  pub least : (s : ℕ) → s < t → s < asked tie sys budgets c v s

-- every number of slots up to its period is too few
abbrev pub AsksTooMuch : (ℕ → ℕ → ℕ) → SystemView → List ℕ → ℕ → ℕ → Type 0
AsksTooMuch tie sys budgets c v =
    (t : ℕ) → t ≤ (part_at sys v).period → t < asked tie sys budgets c v t
