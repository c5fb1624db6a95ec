-- Records spell one workload at most, and where they spell one they have no fault.
use Rattle.std.proofs.Common.{◌≡◌, ℕ, List, Option, Some, None, sym, ◌∙◌, ap, subst}
use Rattle.std.proofs.lemmas.Option.{same_Some}
use Rattle.csv_rows.proofs.OneFault.{one_fault, no_fault_kept}
use Rattle.tree_model.specs.View.{SystemView}
use Rattle.release_file.specs.declared.fault.ReleaseFault.{ReleaseFault}
use Rattle.release_file.specs.declared.workload.Wake.{Wake}
use Rattle.release_file.specs.WorkloadFile.{wakes_of, wake_rules, wake_rows, SpellsWorkload, IsWorkloadFault}

pub one_workload : (sys : SystemView) (records : List (List (List ℕ))) (xs ys : List Wake)
    → SpellsWorkload sys records xs → SpellsWorkload sys records ys → xs ≡ ys
one_workload sys records xs ys s t =
    s.wakes_are ∙ (ap (wakes_of sys) (same_Some s.rows t.rows (sym s.header ∙ t.header)) ∙ sym t.wakes_are)

pub no_workload_fault : (sys : SystemView) (records : List (List (List ℕ))) (xs : List Wake) (fault : ReleaseFault)
    → SpellsWorkload sys records xs → IsWorkloadFault sys (wake_rows records) fault → ⊥
no_workload_fault sys records xs fault s h =
    no_fault_kept (wake_rules sys) s.rows fault s.keep
    (subst (λ (z : Option (List (List (List ℕ)))). IsWorkloadFault sys z fault) s.header h)

pub one_workload_fault : (sys : SystemView) (file : Option (List (List (List ℕ)))) (a b : ReleaseFault)
    → IsWorkloadFault sys file a → IsWorkloadFault sys file b → a ≡ b
one_workload_fault sys None a b x y = x ∙ sym y
one_workload_fault sys (Some rows) a b x y = one_fault (wake_rules sys) rows a b x y
