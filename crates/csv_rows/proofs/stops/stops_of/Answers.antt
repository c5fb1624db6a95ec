use Rattle.std.proofs.Common.{leb, w8, arith}
use Rattle.std.proofs.lemmas.Simd.{bitmask_splat}
use Rattle.csv_rows.proofs.stops.stops_of.Goals as goal

pub returns : goal.returns
returns c = bitmask_splat w8 leb c.args.bytes 16 44 c.fits-bytes.0 (omega arith)
