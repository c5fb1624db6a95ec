use Rattle.std.proofs.Common.{◌∷◌, [], arith}
use Rattle.trace_printer.proofs.endings.row_text.Goals as goal

pub write-requires : goal.write-requires
write-requires c = ([], c.new-rows.ensures, λ i l. absurd (omega arith))

pub returns : goal.returns
returns c =
    c.finish.ensures ((c.args.at.now ∷ c.args.core.now ∷ c.args.word.now ∷ c.args.vcpu.now ∷ []) ∷ [])
    (c.in_ok-write.ensures [] c.new-rows.ensures)
