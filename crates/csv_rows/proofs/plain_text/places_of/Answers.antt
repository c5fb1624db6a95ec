use Rattle.std.proofs.Common.{eqb, w8, arith}
use Rattle.std.proofs.lemmas.Simd.{bitmask_splat, length-chunk}
use lib.Lanes.{chunk}
use Rattle.csv_rows.proofs.plain_text.places_of.Goals as goal

pub returns : goal.returns
returns c =
    let text = c.args.text.now in
    bitmask_splat w8 eqb (chunk 0 64 text) 64 c.args.byte (length-chunk 0 64 text c.requires) (omega arith)
