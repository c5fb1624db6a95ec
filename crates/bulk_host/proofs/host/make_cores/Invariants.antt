use Rattle.std.proofs.Common.{◌≡◌, map}
use Rattle.std.specs.List.{range_with_len}
use Rattle.bulk_host.specs.Host.{host_core}
use Rattle.bulk_host.proofs.host.make_cores.Given as goal

abbrev pub invariant-loop-place : goal.invariant-loop-place
invariant-loop-place l = l.cores.items ≡ map host_core (range_with_len 0 l.place)
