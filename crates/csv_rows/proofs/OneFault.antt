-- The first fault of some rows is one, and rows that keep the rules have none.
use Rattle.std.proofs.Common.{◌≡◌, ℕ, List, length, take, sym, ◌∙◌, ap, arith, inl, inr}
use Rattle.std.proofs.lemmas.Bool.{cases_lt}
use Rattle.std.proofs.lemmas.Option.{same_Some, none-some}
use Rattle.csv_rows.specs.Rules.{RulesOf, RowsKeep, IsFirstFault, row_at}

pub one_fault : {F : Type 0} (rules : RulesOf F) (rows : List (List (List ℕ))) (a b : F) → IsFirstFault rules rows a
    → IsFirstFault rules rows b → a ≡ b
one_fault rules rows a b x y = elim (cases_lt x.row y.row) [
  | inl before ↦ absurd (none-some a (sym (y.before x.row before) ∙ x.breaks))
  | inr not_before ↦ elim (cases_lt y.row x.row) [
    | inl behind ↦ absurd (none-some b (sym (x.before y.row behind) ∙ y.breaks))
    | inr not_behind ↦
        let same : x.row ≡ y.row = omega (arith, not_before, not_behind) in
        same_Some a b (sym x.breaks ∙ (ap (λ (z : ℕ). rules (take z rows) (row_at rows z)) same ∙ y.breaks))
  ]
]

pub no_fault_kept : {F : Type 0} (rules : RulesOf F) (rows : List (List (List ℕ))) (fault : F)
    → RowsKeep rules rows (length rows) → IsFirstFault rules rows fault → ⊥
no_fault_kept rules rows fault keep h = none-some fault (sym (keep h.row h.is_row) ∙ h.breaks)
