-- What is answered of a VCPU, and what each answer means.
use Rattle.std.specs.Prelude.{ℕ, List}
use Rattle.tree_model.specs.View.{SystemView}
use Rattle.isolation.specs.declared.isolation.Isolation.{Isolation}
use Rattle.isolation.specs.declared.isolation.Isolation.TheVariants.{Isolated, ByTies, ByBlock}
use Rattle.rtds_model.specs.Demand.{later}
use Rattle.isolation.specs.Demand.{no_tie, IsLeastBy, AsksTooMuch}
use Rattle.isolation.specs.Keeping.{KeepsBudget, KeepsOpenly, IsExposed}
use Rattle.isolation.specs.InTrace.{KeepsInTrace, IsExposedInTrace}

-- isolated by the least number of slots with ties left open, else by the least in the order of the
-- file, else by none
abbrev pub IsIsolation : SystemView → List ℕ → ℕ → ℕ → Isolation → Type 0
IsIsolation sys budgets c v (Isolated last) = IsLeastBy no_tie sys budgets c v last
IsIsolation sys budgets c v (ByTies last) =
    AsksTooMuch no_tie sys budgets c v × IsLeastBy later sys budgets c v last
IsIsolation sys budgets c v ByBlock = AsksTooMuch later sys budgets c v

-- it keeps its budget in every run, or in the one in the order of the file, or some workload is
-- such that it does not
abbrev pub Means : SystemView → List ℕ → ℕ → ℕ → Isolation → Type 0
Means sys budgets c v (Isolated last) =
    KeepsOpenly sys budgets c v last × KeepsBudget sys budgets c v last
Means sys budgets c v (ByTies last) = KeepsBudget sys budgets c v last
Means sys budgets c v ByBlock = IsExposed sys budgets c v

-- and what it means in traces, on a core whose servers pass the test of earliest deadline first
abbrev pub MeansInTrace : SystemView → List ℕ → ℕ → ℕ → Isolation → Type 0
MeansInTrace sys budgets c v (Isolated last) = KeepsInTrace sys budgets v last
MeansInTrace sys budgets c v (ByTies last) = KeepsInTrace sys budgets v last
MeansInTrace sys budgets c v ByBlock = IsExposedInTrace sys budgets c v
