use Rattle.std.proofs.Common.{◌≡◌, ◌≤◌, ◌+◌, ◌-◌, true}
use Rattle.outside.specs.Counts.{raised}
use Rattle.outside.proofs.ReadSoFar.{HasRead}
use Rattle.outside.proofs.read.read_pieces.Given as goal

abbrev pub invariant-pieces : goal.invariant-pieces
invariant-pieces g l = record {
  open_now : g.S.Store.is_open l.store ≡ true;
  files : g.S.Store.files l.store ≡ g.S.Store.files l.fn.store;
  faults : g.S.Store.faults l.store ≡ g.S.Store.faults l.fn.store;
  absences : g.S.Store.absences l.store ≡ g.S.Store.absences l.fn.store;
  short : l.taken ≤ l.limit;
  taken : raised (g.S.Store.taken l.fn.store) l.taken ≤ g.S.Store.taken l.store;
  no_more : g.S.Store.taken l.store ≤ g.S.Store.taken l.fn.store + l.taken;
  taken_last : g.S.Store.taken l.fn.store ≤ g.S.Store.taken l.store;
  read : HasRead g.T.ByteTaker.has_taken l.fn.taker l.taker (g.S.Store.files l.fn.store) l.name
      (g.S.Store.rest l.store) l.taken;
}

abbrev pub decreases-pieces : goal.decreases-pieces
decreases-pieces g l = l.limit - l.taken
