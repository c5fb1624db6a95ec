use Rattle.std.proofs.Common.{◌≡◌, ◌∷◌, [], ◌++◌, rules, arith}
use Rattle.std.proofs.lemmas.List.FromFn.{map-range_with_len_more}
use Rattle.bulk_host.specs.Host.{guest_at}
use Rattle.bulk_host.proofs.host.make_guests.Goals as goal

pub loop-place-preserved : goal.loop-place-preserved
loop-place-preserved c =
    let more = map-range_with_len_more guest_at 0 c.loop-place.place c.loop-place.place (omega arith) in
    let pushed : c.push.new.self.items ≡ c.loop-place.parts.items ++ c.in_ok-make_guest.field-0 ∷ [] = search rules in
    cc (more, pushed, c.loop-place.invariant, c.in_ok-make_guest.ensures)
