-- What is told by each core in the order of its slots, and slot by slot by all of them.
use Rattle.std.proofs.Common.{◌≡◌, ℕ, zero, suc, ◌+◌, ◌-◌, ◌<◌, ◌≤◌, List, [], ◌++◌, length, Option, None, sym, ◌∙◌, ap, arith, append_assoc}
use Rattle.tree_model.specs.View.{SystemView}
use Rattle.tree_model.specs.Tree.{run_at}
use Rattle.trace_file.specs.declared.event.Event.{Event}
use Rattle.release_file.specs.declared.workload.Wake.{Wake as Row}
use Rattle.rtds_trace.specs.Printed.{AreBefore, push_some, gathered, stop_at, row_event_at, switch_at, printed_at, printed_below}
use Rattle.rtds_model.specs.Rtds.{RtdsRun}
use Rattle.rtds_sim.specs.inner.Running.{RowsFrom}
use Rattle.rtds_sim.specs.inner.Telling.{told_on, told_by}
use Rattle.rtds_trace.proofs.Gathered.{gathered-suc, gathered-rest, gathered-none, push_behind, printed_below-suc}
use Rattle.rtds_sim.proofs.Merging.{told_by-zero, told_by-suc}
use Rattle.rtds_sim.proofs.Visits.{stops_none, rows_none}

-- a core tells what is at slot t, and nothing at those behind it and before u
pub told_more : (f : ℕ → Option Event) (x t u : ℕ) (before told : List Event) → x ≤ t → t < u
    → ((y : ℕ) → t < y → y < u → f y ≡ None) → told ≡ before ++ told_on f x (t - x)
    → push_some told (f t) ≡ before ++ told_on f x (u - x)
told_more f x t u before told l m quiet is =
    let at : x + (t - x) ≡ t = omega (arith, l) in
    ap (λ (es : List Event). push_some es (f t)) is
    ∙ (sym (push_behind before (told_on f x (t - x)) (f t))
    ∙ ap (λ (es : List Event). before ++ es)
    (ap (λ (o : Option Event). push_some (told_on f x (t - x)) o) (ap f (sym at))
    ∙ (sym (gathered-suc (λ i. f (x + i)) (t - x))
    ∙ sym (gathered-rest (λ i. f (x + i)) (suc (t - x)) (u - x) (omega (arith, l, m))
    (λ i a b. quiet (x + i) (omega (arith, a, l)) (omega (arith, b, l, m)))))))

-- behind slot x, at which rows may come, the cores alone tell what is told, as long as no row comes
module _ (sys : SystemView) (budgets : List ℕ) (rows : List Row) (n : ℕ) (runs : List (List (Option ℕ)))
    (is : RtdsRun sys budgets rows n runs) (x k to : ℕ) (fits : to ≤ n) (taken : AreBefore rows k (suc x))
    (later : RowsFrom rows k to) where
  abbrev cores : ℕ
  cores = length sys.cores

  abbrev first : List Event
  first = gathered (stop_at rows runs x) cores ++ gathered (row_event_at sys rows x) (length rows)

  printed_quiet : (y : ℕ) → x < y → y < to → printed_at sys rows runs y ≡ gathered (switch_at rows runs y) cores
  printed_quiet y a b =
      let stops : gathered (stop_at rows runs y) cores ≡ []
      = gathered-none (stop_at rows runs y) cores
      (λ c lc. stops_none sys budgets rows n c (run_at runs c) (is.cores c lc) x k to fits taken later y a b) in
      ap (λ (es : List Event). es
      ++ (gathered (row_event_at sys rows y) (length rows) ++ gathered (switch_at rows runs y) cores)) stops
      ∙ ap (λ (es : List Event). es ++ gathered (switch_at rows runs y) cores)
      (rows_none sys rows x k to taken later y a b)

  pub printed_on : (m : ℕ) → x + suc m ≤ to
      → printed_below sys rows runs (x + suc m)
      ≡ printed_below sys rows runs x ++ (first ++ told_by (switch_at rows runs) x cores (suc m))
  printed_on zero l =
      let e : x + suc 0 ≡ suc x = omega arith in
      let e' : x ≡ x + 0 = omega arith in
      ap (printed_below sys rows runs) e
      ∙ (printed_below-suc sys rows runs x
      ∙ ap (λ (es : List Event). printed_below sys rows runs x ++ es)
      (sym (append_assoc (gathered (stop_at rows runs x) cores) (gathered (row_event_at sys rows x) (length rows))
      (gathered (switch_at rows runs x) cores))
      ∙ ap (λ (es : List Event). first ++ es) (ap (λ (y : ℕ). gathered (switch_at rows runs y) cores) e'
      ∙ sym (told_by-suc (switch_at rows runs) x cores 0
      ∙ ap (λ (es : List Event). es ++ gathered (switch_at rows runs (x + 0)) cores)
      (told_by-zero (switch_at rows runs) x cores)))))
  printed_on (suc m) l =
      let e : x + suc (suc m) ≡ suc (x + suc m) = omega arith in
      let told : List Event = told_by (switch_at rows runs) x cores (suc m) in
      let now : List Event = gathered (switch_at rows runs (x + suc m)) cores in
      ap (printed_below sys rows runs) e
      ∙ (printed_below-suc sys rows runs (x + suc m)
      ∙ (ap (λ (es : List Event). es ++ printed_at sys rows runs (x + suc m)) (printed_on m (omega (arith, l)))
      ∙ (ap (λ (es : List Event). (printed_below sys rows runs x ++ (first ++ told)) ++ es)
      (printed_quiet (x + suc m) (omega arith) (omega (arith, l)))
      ∙ (append_assoc (printed_below sys rows runs x) (first ++ told) now
      ∙ ap (λ (es : List Event). printed_below sys rows runs x ++ es)
      (append_assoc first told now
      ∙ ap (λ (es : List Event). first ++ es) (sym (told_by-suc (switch_at rows runs) x cores (suc m))))))))
