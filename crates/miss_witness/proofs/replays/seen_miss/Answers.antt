use Rattle.std.proofs.Common.{arith}
use Rattle.miss_witness.proofs.replays.seen_miss.Goals as goal

pub returns-in-Edf : goal.returns-in-Edf
returns-in-Edf c =
    rw c.in-Edf.is (omega (arith, c.in-Some.ensures.0, c.in-Some.ensures.1), c.miss_at_end.ensures)
