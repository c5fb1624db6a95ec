-- What each run over some slots gives.
use Rattle.std.proofs.Common.{ℕ, List}
use Rattle.tree_model.specs.View.{SystemView}
use Rattle.tree_model.specs.Plans.{IsPlan}
use Rattle.tree_model.specs.Tree.{run_at}
use Rattle.release_file.specs.declared.workload.Wake.{Wake}
use Rattle.release_file.specs.Workload.{IsWorkload}
use Rattle.rtds_model.specs.Giving.{RunsGive}
use Rattle.rtds_model.proofs.Setting.{setting}
use Rattle.rtds_model.proofs.Giving.{gives_budgets}
use Rattle.rtds_model.proofs.Over.{never_over}

pub runs_give : (sys : SystemView) (budgets : List ℕ) → IsPlan sys budgets → (rows : List Wake) → IsWorkload sys rows
    → (n : ℕ) → RunsGive sys budgets rows n
runs_give sys budgets plan rows workload n =
    record {
      gives =
          λ runs c is l. gives_budgets (setting sys budgets plan rows workload n c (run_at runs c)) (is.cores c l);
      never_over = λ runs c is l. never_over sys budgets plan rows n c (run_at runs c) (is.cores c l);
    }
