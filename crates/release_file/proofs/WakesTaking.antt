-- The rows of a workload that were read.
use Rattle.std.proofs.Common.{◌≡◌, ℕ, Bool, true, not, List, [], ◌∷◌, ◌++◌, length, Option, Some, None, refl, sym, ◌∙◌, ap, subst, arith, replicate}
use Rattle.std.proofs.lemmas.List.{map-append, get_or-replicate, length-replicate}
use Rattle.csv_rows.specs.Rules.{RowsKeep, IsFirstFault, fault_if, row_of}
use Rattle.tree_model.specs.View.{SystemView}
use Rattle.release_file.specs.declared.fault.ReleaseFault.{ReleaseFault}
use Rattle.release_file.specs.declared.fault.ReleaseFault.TheVariants.{BadRow}
use Rattle.release_file.specs.declared.workload.Wake.{Wake}
use Rattle.release_file.specs.declared.wake_rows.WakeRows.{WakeRows}
use Rattle.release_file.specs.Workload.{row_at, is_of, IsWorkload}
use Rattle.release_file.specs.WorkloadFile.{is_wake_row, wake_of, wakes_of, wake_fault, wake_rules, is_wake_header, wake_rows, SpellsWorkload, IsWorkloadFault}
use Rattle.release_file.specs.inner.WakesTaken.{last_at, IsBehind, HasTakenWakes}
use Rattle.csv_rows.proofs.Last.{last_below-zero}

pub wakes_more : (sys : SystemView) (rows : List (List (List ℕ))) (row : List (List ℕ))
    → wakes_of sys (rows ++ row ∷ []) ≡ wakes_of sys rows ++ wake_of sys row ∷ []
wakes_more sys rows row = map-append (wake_of sys) rows (row ∷ [])

-- the first rule that a row breaks, told of what is kept of the rows before it
pub row_breaks : (start now : WakeRows) (rows : List (List (List ℕ))) (row : List (List ℕ)) (fault : ReleaseFault)
    → HasTakenWakes start now rows → is_wake_row row ≡ true
    → wake_fault now.sys.now now.wakes.items (wake_of now.sys.now row) ≡ Some fault
    → wake_rules start.sys.now rows row ≡ Some fault
row_breaks start now rows row fault has is breaks =
    ap (λ (z : Bool). fault_if (not z) (BadRow (row_of (length rows)))
    (wake_fault start.sys.now (wakes_of start.sys.now rows) (wake_of start.sys.now row))) is
    ∙ (ap (λ z. wake_fault z.now (wakes_of start.sys.now rows) (wake_of z.now row)) (sym has.sys)
    ∙ (ap (λ (z : List Wake). wake_fault now.sys.now z (wake_of now.sys.now row)) (sym has.wakes) ∙ breaks))

-- before the first row
pub no_rows : (sys : SystemView) → IsWorkload sys []
no_rows sys =
    record {
      in_limit = λ i l. absurd (omega arith);
      in_order = λ i l. absurd (omega arith);
      known = λ i l. absurd (omega arith);
      one_a_slot = λ i j l m. absurd (omega arith);
      in_turn = λ i l. absurd (omega arith);
    }

pub none_behind : (wakes : List Wake) (m : ℕ) (rows : WakeRows) → wakes ≡ [] → rows.slot ≡ 0
    → rows.last ≡ replicate m None → m ≡ 512 → IsBehind wakes rows
none_behind wakes m rows none slot last em = subst (λ (ws : List Wake). IsBehind ws rows) (sym none) (record {
  workload = no_rows rows.sys.now;
  slot = slot;
  room = ap (λ (z : List (Option Wake)). length z) last ∙ (length-replicate {A = Option Wake} m None ∙ em);
  last =
      λ v l. ap (λ (z : List (Option Wake)). last_at z v) last
      ∙ (get_or-replicate {A = Option Wake} m v None None (omega arith) ∙ sym (last_below-zero (is_of v) (row_at [])));
})

-- the rows behind a header
pub behind_header : (records : List (List (List ℕ))) (header : List (List ℕ)) (rows : List (List (List ℕ)))
    → records ≡ header ∷ rows → is_wake_header header ≡ true → wake_rows records ≡ Some rows
behind_header records header rows is told = ap wake_rows is ∙ rw (told) refl

-- what is made of all rows, or of the first that breaks a rule
pub spelt_all : (sys : SystemView) (records : List (List (List ℕ))) (s t : WakeRows) (header : List (List ℕ))
    → s.sys.now ≡ sys → is_wake_header header ≡ true
    → (read : List (List (List ℕ))) × (records ≡ header ∷ read) × RowsKeep (wake_rules s.sys.now) read (length read)
    × HasTakenWakes s t read → SpellsWorkload sys records t.wakes.items
spelt_all sys records s t header same told all =
    let (read, is, keep, taken) = all in
    record {
      rows = read;
      header = behind_header records header read is told;
      keep = rw (same) at keep;
      wakes_are = taken.wakes ∙ ap (λ z. wakes_of z read) same;
    }

pub workload_all : (sys : SystemView) (records : List (List (List ℕ))) (s t : WakeRows) (header : List (List ℕ))
    → s.sys.now ≡ sys
    → (read : List (List (List ℕ))) × (records ≡ header ∷ read) × RowsKeep (wake_rules s.sys.now) read (length read)
    × HasTakenWakes s t read → IsWorkload sys t.wakes.items
workload_all sys records s t header same all =
    let (read, is, keep, taken) = all in
    subst (λ z. IsWorkload z t.wakes.items) (ap (λ z. z.now) taken.sys ∙ same) taken.behind.workload

pub first_of_file : (sys : SystemView) (records : List (List (List ℕ))) (s : WakeRows) (header : List (List ℕ))
    (fault : ReleaseFault) → s.sys.now ≡ sys → is_wake_header header ≡ true
    → (read : List (List (List ℕ))) × (records ≡ header ∷ read) × IsFirstFault (wake_rules s.sys.now) read fault
    → IsWorkloadFault sys (wake_rows records) fault
first_of_file sys records s header fault same told breaks =
    let (read, is, first) = breaks in
    subst (λ o. IsWorkloadFault sys o fault) (sym (behind_header records header read is told))
    (subst (λ z. IsFirstFault (wake_rules z) read fault) same first)
