use Rattle.std.proofs.Common.{eqb, w8, arith}
use Rattle.std.proofs.lemmas.Simd.{bitmask_splat, length-chunk}
use lib.Lanes.{chunk}
use Rattle.csv_rows.proofs.Marking.{marks}
use Rattle.csv_rows.proofs.near.places_of.Goals as goal

pub returns : goal.returns
returns c =
    let text = c.args.text.now in
    marks text c.args.byte _ c.requires
    (bitmask_splat w8 eqb (chunk 0 32 text) 32 c.args.byte (length-chunk 0 32 text c.requires) (omega arith))
