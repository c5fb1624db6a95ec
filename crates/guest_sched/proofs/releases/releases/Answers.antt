use Rattle.std.proofs.Common.{rules}
use Rattle.std.proofs.lemmas.List.Sorted.{IsNonDecreasingBy-from_sort_by_key}
use Rattle.guest_sched.proofs.Sorted.{sorted_releases}
use Rattle.guest_sched.proofs.releases.releases.Goals as goal

pub returns : goal.returns
returns c =
    sorted_releases _ c.in_ok-releases.releases.items _ c.in_ok-releases.ensures.long c.in_ok-releases.ensures.each
    c.sort_by_key.ensures.permutation
    (IsNonDecreasingBy-from_sort_by_key (λ a. a.release) _ c.in_ok-sort_by_key.ensures.sorted (λ a r q k. search rules))
