use Rattle.std.proofs.Common.{arith}
use Rattle.fp_request.proofs.Ceiling.{arrivals-is}
use Rattle.fp_request.proofs.request_bound.arrivals.Goals as goal

pub returns : goal.returns
returns c = omega (arith, arrivals-is c.args.t c.args.period c.args.jitter (omega arith), c.div_ceil.ensures)
