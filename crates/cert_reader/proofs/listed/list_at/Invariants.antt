use Rattle.std.proofs.Common.{◌-◌, length}
use Rattle.cert_reader.proofs.Standing.{IsOpened}
use Rattle.cert_reader.proofs.listed.list_at.Given as goal

abbrev pub invariant-loop-values : goal.invariant-loop-values
invariant-loop-values g l = IsOpened g.T.ReadAt.text g.T.ReadAt.in_range l.bytes l.at l.from l.values.items

abbrev pub decreases-loop-values : goal.decreases-loop-values
decreases-loop-values g l = length l.bytes - l.from
