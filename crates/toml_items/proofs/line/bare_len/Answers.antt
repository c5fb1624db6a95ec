use Rattle.std.proofs.Common.{arith}
use Rattle.std.proofs.lemmas.List.{take_rest}
use Rattle.toml_items.proofs.Lines.{small_and_more}
use Rattle.toml_items.proofs.line.bare_len.Goals as goal

pub returns-clause-len : goal.returns-clause-len
returns-clause-len c =
    let behind = rw (take_rest c.args.bytes.now c.small_len-small.result) at c.run_len.ensures.len in
    let run = rw c.small_len-small.ensures.len at behind in
    omega (arith, c.small_len-small.ensures.len, run, small_and_more c.args.bytes.now)
