-- The text of what the parts on cores keep whatever the others of their cores do: the verdict, a
-- line a part, and a line each core that has one.
use Rattle.std.specs.Prelude.{ℕ, List, [], ◌∷◌, ◌++◌, codes}
use Rattle.std.specs.Fmt.{decimal}
use Rattle.tree_model.specs.declared.place.Place.TheVariants.{Core}
use Rattle.tree_model.specs.View.{PartView, SystemView}
use Rattle.tree_model.specs.System.{part_at}
use Rattle.isolation.specs.declared.isolation.Isolation.{Isolation}
use Rattle.isolation.specs.declared.isolation.Isolation.TheVariants.{Isolated, ByTies, ByBlock}
use Rattle.isolation.specs.declared.vcpus.PartIsolation.{PartIsolation}
use Rattle.isolation.specs.declared.budgets.CoreBudgets.{CoreBudgets}
use Rattle.isolation.specs.Answers.{are_isolated}
use Rattle.rt_report.specs.Words.{joined, node_words}
use Rattle.rt_report.specs.Simulate.{verdict_line}

-- ` last=T of=P`, of the last T slots of a period of P
abbrev pub last_words : PartView → ℕ → List ℕ
last_words part last =
    joined (codes " last=" ∷ decimal last ∷ codes " of=" ∷ decimal part.period ∷ codes "\n" ∷ [])

-- `isolated NAME last=T of=P`, `exposed NAME by=ties last=T of=P` or `exposed NAME by=block`
abbrev pub isolation_words : PartView → Isolation → List ℕ
isolation_words part (Isolated last) =
    joined (codes "isolated " ∷ part.name ∷ last_words part last ∷ [])
isolation_words part (ByTies last) =
    joined (codes "exposed " ∷ part.name ∷ codes " by=ties" ∷ last_words part last ∷ [])
isolation_words part ByBlock =
    joined (codes "exposed " ∷ part.name ∷ codes " by=block\n" ∷ [])

abbrev pub isolation_line : SystemView → PartIsolation → List ℕ
isolation_line sys row = isolation_words (part_at sys row.part) row.isolation

abbrev pub isolation_lines : SystemView → List PartIsolation → List ℕ
isolation_lines sys [] = []
isolation_lines sys (row ∷ later) = isolation_line sys row ++ isolation_lines sys later

-- `core NAME budgets=S shortest=P`
abbrev pub budgets_line : SystemView → CoreBudgets → List ℕ
budgets_line sys row = joined (
    node_words sys (Core row.core) ∷ codes " budgets=" ∷ decimal row.budgets
    ∷ codes " shortest=" ∷ decimal row.shortest ∷ codes "\n" ∷ [])

abbrev pub budgets_lines : SystemView → List CoreBudgets → List ℕ
budgets_lines sys [] = []
budgets_lines sys (row ∷ later) = budgets_line sys row ++ budgets_lines sys later

-- the verdict is yes where each part is isolated however ties are broken
abbrev pub isolation_text : SystemView → List PartIsolation → List CoreBudgets → List ℕ
isolation_text sys rows cores =
    verdict_line (are_isolated rows) ++ isolation_lines sys rows ++ budgets_lines sys cores
