use Rattle.std.proofs.Common.{◌≡◌, map}
use Rattle.std.specs.List.{range_with_len}
use Rattle.bulk_host.specs.Host.{guest_at}
use Rattle.bulk_host.proofs.host.make_guests.Given as goal

abbrev pub invariant-loop-place : goal.invariant-loop-place
invariant-loop-place l = l.parts.items ≡ map guest_at (range_with_len 0 l.place)
