use Rattle.std.proofs.Common.{◌≡◌, length, arith}
use Rattle.rtds_queues.proofs.Turning.{in_turn_all}
use Rattle.rtds_queues.proofs.Setting.{none_started}
use Rattle.rtds_queues.proofs.vcpus.Vcpus.new.Goals as goal

pub invariant_of-result : goal.invariant_of-result
invariant_of-result c =
    let count : length c.args.accounts.items ≡ c.len-count.result
    = omega (arith, c.len-count.ensures, c.args.accounts.ok.0) in
    none_started c.args.accounts.items c.new.result c.in_ok-by_end.by_end.items c.requires.idle
    (c.new.ensures.are c.args.accounts.items count) c.new.ensures.none
    (in_turn_all (length c.args.accounts.items) c.in_ok-by_end.by_end.items
    (omega (arith, count, c.in_ok-by_end.ensures.long))
    (λ i l. c.in_ok-by_end.ensures.each i (omega (arith, l, count))))
