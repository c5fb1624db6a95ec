use Rattle.std.proofs.Common.{◌≡◌, ◌<◌, ℕ, [], length, get_or}
use Rattle.release_file.specs.declared.leaf_rows.LeafRows.{LeafRows}
use Rattle.release_file.specs.inner.ReleasesTaken.{IsLeafOf}
use Rattle.release_file.proofs.release_rows.no_jobs.Given as goal

-- the parts so far
abbrev pub invariant-loop-part : goal.invariant-loop-part
invariant-loop-part l = record {
  long : length l.leaves.items ≡ l.part-index;
  each : (q : ℕ) (d : LeafRows) → q < l.part-index → IsLeafOf l.fn.sys [] q (get_or l.leaves.items q d);
}
