use Rattle.std.proofs.Common.{◌≡◌, ◌∷◌, [], ◌++◌, rules, arith}
use Rattle.std.proofs.lemmas.List.FromFn.{map-range_with_len_more}
use Rattle.bulk_host.specs.Host.{host_core}
use Rattle.bulk_host.proofs.host.make_cores.Goals as goal

pub loop-place-preserved : goal.loop-place-preserved
loop-place-preserved c =
    let more = map-range_with_len_more host_core 0 c.loop-place.place c.loop-place.place (omega arith) in
    let pushed : c.push.new.self.items ≡ c.loop-place.cores.items ++ c.in_ok-make_core.field-0 ∷ [] = search rules in
    cc (more, pushed, c.loop-place.invariant, c.in_ok-make_core.ensures)
