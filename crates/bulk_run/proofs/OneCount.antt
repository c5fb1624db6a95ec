-- A generated host has one list of counts.
use Rattle.std.proofs.Common.{◌≡◌, ℕ, ◌≤◌, List, Option, sym, ◌∙◌, ap, subst}
use Rattle.fp_request.proofs.Strict.{order_strict}
use Rattle.tree_model.specs.FirstTree.{FirstTree, OneFirstTree}
use Rattle.tree_model.proofs.Unique.{one_admission}
use Rattle.tree_model.proofs.FirstTrees.{one_first_tree}
use Rattle.bulk_host.specs.Host.{bulk_host}
use Rattle.bulk_host.proofs.Systems.{host_is_system}
use Rattle.bulk_run.specs.declared.counts.BulkCounts.{BulkCounts}
use Rattle.bulk_run.specs.Summary.{bulk_slots, bulk_supplies, bulk_jobs, counts_in, AreBulkCounts}

pub one_count : (n : ℕ) → 1 ≤ n → n ≤ 256 → (a b : BulkCounts) → AreBulkCounts n a → AreBulkCounts n b → a ≡ b
one_count n some few a b p q =
    let budgets = one_admission (bulk_host n) (host_is_system n some few) p.budgets q.budgets p.admitted q.admitted in
    let one : OneFirstTree (bulk_host n) q.budgets bulk_slots (bulk_supplies n) (bulk_jobs n)
    = one_first_tree order_strict (bulk_host n) q.budgets bulk_slots (bulk_supplies n) (bulk_jobs n)
    (host_is_system n some few) in
    let first : FirstTree (bulk_host n) q.budgets bulk_slots (bulk_supplies n) (bulk_jobs n) p.core_runs p.part_runs
    = subst (λ (x : List ℕ). FirstTree (bulk_host n) x bulk_slots (bulk_supplies n) (bulk_jobs n) p.core_runs
    p.part_runs) budgets p.first in
    let here = one.only p.core_runs p.part_runs first in
    let there = one.only q.core_runs q.part_runs q.first in
    p.counted
    ∙ (ap (λ (x : List ℕ). counts_in n x p.core_runs p.part_runs) budgets
    ∙ (ap (λ (x : List (List (Option ℕ))). counts_in n q.budgets x p.part_runs) (here.0 ∙ sym there.0)
    ∙ (ap (λ (x : List (List (Option ℕ))). counts_in n q.budgets q.core_runs x) (here.1 ∙ sym there.1)
    ∙ sym q.counted)))
