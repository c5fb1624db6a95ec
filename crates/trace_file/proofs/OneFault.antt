-- A list of events has one first fault at most, and none where it keeps the rules.
use Rattle.std.proofs.Common.{◌≡◌, List, length, sym, ◌∙◌, ap, arith, inl, inr}
use Rattle.std.proofs.lemmas.Bool.{cases_lt, false≢true}
use Rattle.std.proofs.lemmas.Option.{same_Some, none-some}
use Rattle.tree_model.specs.View.{SystemView}
use Rattle.trace_file.specs.declared.event.Event.{Event}
use Rattle.trace_file.specs.declared.fault.TraceFault.{TraceFault}
use Rattle.trace_file.specs.Rules.{row_fault, RowsKeep, Kept, BreaksRule, IsFirstFault}

one_row : (sys : SystemView) (events : List Event) (a b : TraceFault) → BreaksRule sys events a
    → BreaksRule sys events b → a ≡ b
one_row sys events a b x y = elim (cases_lt x.row y.row) [
  | inl before ↦ absurd (none-some a (sym (y.before x.row before) ∙ x.breaks))
  | inr not_before ↦ elim (cases_lt y.row x.row) [
    | inl behind ↦ absurd (none-some b (sym (x.before y.row behind) ∙ y.breaks))
    | inr not_behind ↦
        let same : x.row ≡ y.row = omega (arith, not_before, not_behind) in
        same_Some a b (sym x.breaks ∙ (ap (row_fault sys events) same ∙ y.breaks))
  ]
]

kept_row : (sys : SystemView) (events : List Event) (fault : TraceFault) → RowsKeep sys events (length events)
    → BreaksRule sys events fault → ⊥
kept_row sys events fault keep h = none-some fault (sym (keep h.row h.is_row) ∙ h.breaks)

one_fault : (sys : SystemView) (events : List Event) (a b : TraceFault) → IsFirstFault sys events a
    → IsFirstFault sys events b → a ≡ b
one_fault sys events a b x y = elim x [
  | inl row ↦ elim y [
    | inl other ↦ one_row sys events a b row other
    | inr lacks ↦ absurd (kept_row sys events a lacks.rows row)
  ]
  | inr lacks ↦ elim y [
    | inl other ↦ absurd (kept_row sys events b lacks.rows other)
    | inr again ↦ lacks.fault_is ∙ sym again.fault_is
  ]
]

no_fault : (sys : SystemView) (events : List Event) (fault : TraceFault) → Kept sys events
    → IsFirstFault sys events fault → ⊥
no_fault sys events fault kept h = elim h [
  | inl row ↦ kept_row sys events fault kept.rows row
  | inr lacks ↦ false≢true (sym lacks.no_end ∙ kept.ended)
]
