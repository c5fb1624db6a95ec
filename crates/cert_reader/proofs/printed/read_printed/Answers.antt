use Rattle.std.proofs.Common.{arith}
use Rattle.cert_verify.specs.Proves.{no_node}
use Rattle.cert_reader.proofs.Standing.{stands_then, printed_spells}
use Rattle.cert_reader.proofs.printed.read_printed.Goals as goal

pub returns-then-len-le-MAX_NODES : goal.returns-then-len-le-MAX_NODES
returns-then-len-le-MAX_NODES c =
    printed_spells c.args.bytes.now c.in_ok-nodes.nodes.items c.in_ok-end.end c.if-end-bytes.true
    (stands_then _ _ _ _ _ _ c.in_ok-from.ensures
    (stands_then _ _ _ _ _ _ c.in_ok-nodes.ensures.text c.in_ok-end.ensures))
    (λ k l. c.in_ok-nodes.ensures.in_range k no_node l)
    (omega (arith, c.if-len-le-MAX_NODES.true))
