-- What the VCPUs of a core take in the end of the periods that have begun in the last slots.
use Rattle.std.specs.Prelude.{ℕ, suc, ◌*◌, ◌-◌, ◌/◌, ◌==◌, if◌then◌else◌, List, length}
use Rattle.slot_model.specs.Slots.{sum_below}
use Rattle.tree_model.specs.declared.place.Place.TheVariants.{Core}
use Rattle.tree_model.specs.View.{SystemView}
use Rattle.tree_model.specs.System.{part_at}
use Rattle.tree_model.specs.Tree.{is_child, budget_at}

-- of VCPU u its budget in each whole period there, and its budget once more in the rest, however
-- few slots there are; and of v its budget
abbrev pub whole_asked_of : (ℕ → ℕ → ℕ) → ℕ → ℕ → ℕ → ℕ → ℕ → ℕ
whole_asked_of tie v u period budget t =
    if u == v then budget else suc ((t - tie v u) / period) * budget

-- and that of all VCPUs of core c
abbrev pub whole_asked : (ℕ → ℕ → ℕ) → SystemView → List ℕ → ℕ → ℕ → ℕ → ℕ
whole_asked tie sys budgets c v t =
    sum_below
    (λ u. if is_child sys (Core c) u
    then whole_asked_of tie v u (part_at sys u).period (budget_at budgets u) t
    else 0)
    (length sys.parts)
