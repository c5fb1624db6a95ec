-- The sum of the budgets and the shortest period of each core that has a part on it.
use Rattle.std.specs.Prelude.{◌≡◌, ℕ, ◌<◌, ◌≤◌, Bool, true, nat_lt, List, length}
use Rattle.slot_model.specs.Slots.{count_below, places_where}
use Rattle.tree_model.specs.declared.place.Place.TheVariants.{Core}
use Rattle.tree_model.specs.View.{SystemView}
use Rattle.tree_model.specs.System.{part_at}
use Rattle.tree_model.specs.Tree.{is_child}
use Rattle.isolation.specs.declared.budgets.CoreBudgets.{CoreBudgets}
use Rattle.isolation.specs.Answers.{OneEach}
use Rattle.isolation.specs.Short.{budgets_on}

-- whether a part stands on core c
abbrev pub has_part : SystemView → ℕ → Bool
has_part sys c = nat_lt 0 (count_below (is_child sys (Core c)) (length sys.parts))

-- the places of these cores, in file order
abbrev pub used_cores : SystemView → List ℕ
used_cores sys = places_where (has_part sys) (length sys.cores)

-- some part on core c has this period, and none a shorter one
pub record IsShortest (sys : SystemView) (c shortest : ℕ) : Type 0 where
  pub part : ℕ
  pub is_part : part < length sys.parts
  pub on_core : is_child sys (Core c) part ≡ true
  pub has_it : (part_at sys part).period ≡ shortest
  pub least : (v : ℕ) → v < length sys.parts → is_child sys (Core c) v ≡ true →
      shortest ≤ (part_at sys v).period

-- what is told of a core
pub record IsCoreBudgets (sys : SystemView) (budgets : List ℕ) (row : CoreBudgets) : Type 0 where
  pub sum_is : row.budgets ≡ budgets_on sys budgets row.core
  pub shortest_is : IsShortest sys row.core row.shortest

-- and of each of these cores
abbrev pub AreCoreBudgets : SystemView → List ℕ → List CoreBudgets → Type 0
AreCoreBudgets sys budgets =
    OneEach (λ (row : CoreBudgets). row.core) (IsCoreBudgets sys budgets) (used_cores sys)
