use Rattle.std.proofs.Common.{◌≡◌, ℕ, ◌≤◌, ◌<◌, length}
use Rattle.release_file.specs.Workload.{row_at}
use Rattle.trace_file.specs.Taker.{Took}
use Rattle.rtds_trace.specs.Printed.{gathered, row_event_at}
use Rattle.rtds_sim.proofs.rows.print_rows.Given as goal

-- the events of the rows so far
abbrev pub invariant-loop-i : goal.invariant-loop-i
invariant-loop-i g l =
    (x : ℕ) → ((i : ℕ) → i < l.from → (row_at l.rows i).at < x)
    → ((i : ℕ) → l.from ≤ i → i < l.until → (row_at l.rows i).at ≡ x)
    → ((i : ℕ) → l.until ≤ i → i < length l.rows → x < (row_at l.rows i).at) →
    Took g.T.EventTaker.has_taken l.initial.events l.events (gathered (row_event_at l.sys l.rows x) l.i)
