-- The rows of a file that keep its rules are a workload.
use Rattle.std.proofs.Common.{◌≡◌, ◌≤◌, ◌+◌, ℕ, zero, suc, not, List, [], ◌∷◌, ◌++◌, length, take, None, sym, ◌∙◌, ap, subst, arith}
use Rattle.std.proofs.lemmas.List.{take_more, take_all}
use Rattle.csv_rows.specs.Rules.{row_of, row_at, RowsKeep}
use Rattle.csv_rows.proofs.Keeping.{fault_none}
use Rattle.tree_model.specs.View.{SystemView}
use Rattle.release_file.specs.declared.fault.ReleaseFault.TheVariants.{BadRow}
use Rattle.release_file.specs.declared.workload.Wake.{Wake}
use Rattle.release_file.specs.Workload.{IsWorkload}
use Rattle.release_file.specs.WorkloadFile.{is_wake_row, wake_of, wakes_of, wake_fault, wake_rules, SpellsWorkload}
use Rattle.release_file.proofs.WakesMore.{wake_keeps, workload_more}
use Rattle.release_file.proofs.WakesTaking.{no_rows, wakes_more}

first_rows : (sys : SystemView) (rows : List (List (List ℕ))) → RowsKeep (wake_rules sys) rows (length rows) → (n : ℕ)
    → n ≤ length rows → IsWorkload sys (wakes_of sys (take n rows))
first_rows sys rows keep zero l = no_rows sys
first_rows sys rows keep (suc n) l =
    let row = row_at rows n in
    let before = take n rows in
    let rules : wake_rules sys before row ≡ None = keep n (omega (arith, l)) in
    let kept : wake_fault sys (wakes_of sys before) (wake_of sys row) ≡ None
    = (fault_none (not (is_wake_row row)) (BadRow (row_of (length before)))
    (wake_fault sys (wakes_of sys before) (wake_of sys row)) rules).1 in
    let more : wakes_of sys (take (suc n) rows) ≡ wakes_of sys before ++ wake_of sys row ∷ [] =
    ap (λ (m : ℕ). wakes_of sys (take m rows)) (let e : suc n ≡ n + 1 = omega arith in e)
    ∙ (ap (wakes_of sys) (take_more rows n [] (omega (arith, l))) ∙ wakes_more sys before row) in
    subst (IsWorkload sys) (sym more) (workload_more sys (wakes_of sys before) (wake_of sys row)
    (first_rows sys rows keep n (omega (arith, l)))
    (wake_keeps sys (wakes_of sys before) (wake_of sys row) kept))

pub spelt_workload : (sys : SystemView) (records : List (List (List ℕ))) (wakes : List Wake)
    → SpellsWorkload sys records wakes → IsWorkload sys wakes
spelt_workload sys records wakes h =
    subst (IsWorkload sys) (ap (wakes_of sys) (take_all (length h.rows) h.rows (omega arith)) ∙ sym h.wakes_are)
    (first_rows sys h.rows h.keep (length h.rows) (omega arith))
