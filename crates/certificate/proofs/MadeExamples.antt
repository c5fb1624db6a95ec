-- The certificate of a small system by hand, and lists that are not made. A wrong definition breaks
-- one of these.
use Rattle.std.proofs.Common.{◌≡◌, ℕ, zero, suc, ◌+◌, ◌-◌, ◌<◌, ◌≤◌, [], ◌∷◌, get_or, arith, refl}
use Rattle.slot_model.specs.declared.sched.Sched.TheVariants.{Rm}
use Rattle.slot_model.specs.Slots.{sum_below}
use Rattle.slot_model.specs.Order.{ranks_above}
use Rattle.slot_model.specs.Bound.{sbf, dbf, IsHit, IsFirstShortPoint}
use Rattle.slot_model.specs.Points.{IsBackward}
use Rattle.fp_test.specs.Falls.{IsNextFall, AreFalls}
use Rattle.tree_model.proofs.FewPlaces.{only, each_of_three}
use Rattle.cert_verify.specs.Proves.{node_at}
use Rattle.cert_verify.proofs.ProvesExamples.{host, by_deadline, by_rank, full_core, three_nodes, they_are_its_nodes, they_have_its_budgets, one_in_four, two_servers, six_slots, three_slots, three_and_seven_cover, two_and_four_cover}
use Rattle.certificate.specs.Made.{IsBackwardCover, AreLeastHits, IsMade, IsCertificate}

-- two slots give nothing of one slot in 2, so 3 is the least point before 7, and the least hit
nothing_in_two : (u : ℕ) → u < 3 → sbf 2 1 u ≡ 0
nothing_in_two zero l = refl
nothing_in_two (suc zero) l = refl
nothing_in_two (suc (suc zero)) l = refl
nothing_in_two (suc (suc (suc u))) l = absurd (omega (arith, l))

back_to_three : IsBackward one_in_four (sbf 2 1) 6 (3 ∷ 7 ∷ [])
back_to_three = record {
  ends = refl;
  least = λ j u l. only
      (λ j. u < get_or (3 ∷ 7 ∷ []) j 0 → sbf 2 1 u < dbf one_in_four (get_or (3 ∷ 7 ∷ []) (j + 1) 0 - 1))
      (λ less. let none = nothing_in_two u less in omega (arith, none)) j (omega (arith, l));
}

back_to_two : IsBackward two_servers (λ t. t) 3 (2 ∷ 4 ∷ [])
back_to_two = record {
  ends = refl;
  least = λ j u l. only (λ j. u < get_or (2 ∷ 4 ∷ []) j 0 → u < dbf two_servers (get_or (2 ∷ 4 ∷ []) (j + 1) 0 - 1))
      (λ less. omega (arith, less)) j (omega (arith, l));
}

three_is_the_least_hit : AreLeastHits (ranks_above Rm one_in_four) one_in_four (sbf 2 1) (3 ∷ [])
unfolding sum_below
three_is_the_least_hit = record {
  one_each = refl;
  each = only (λ i. IsHit (ranks_above Rm one_in_four) one_in_four (sbf 2 1) i (get_or (3 ∷ []) i 0))
      (record { some_slots = omega arith; in_deadline = omega arith; enough = omega arith });
  least = λ i u l. only
      (λ i. u < get_or (3 ∷ []) i 0 → IsHit (ranks_above Rm one_in_four) one_in_four (sbf 2 1) i u → ⊥)
      (λ less hit.
      let none = nothing_in_two u less in
      let enough : 1 ≤ sbf 2 1 u = hit.enough in omega (arith, none, enough))
      i l;
}

-- no slots give nothing, so that a window of 4 is the first that is short, and one fall is left
nothing_of_none : (u : ℕ) → u < 5 → sbf 2 0 u ≡ 0
nothing_of_none zero l = refl
nothing_of_none (suc zero) l = refl
nothing_of_none (suc (suc zero)) l = refl
nothing_of_none (suc (suc (suc zero))) l = refl
nothing_of_none (suc (suc (suc (suc zero)))) l = refl
nothing_of_none (suc (suc (suc (suc (suc u))))) l = absurd (omega (arith, l))

none_due : (u : ℕ) → u < 4 → dbf one_in_four u ≡ 0
none_due zero l = refl
none_due (suc zero) l = refl
none_due (suc (suc zero)) l = refl
none_due (suc (suc (suc zero))) l = refl
none_due (suc (suc (suc (suc u)))) l = absurd (omega (arith, l))

four_is_short_first : IsFirstShortPoint one_in_four (sbf 2 0) 4
four_is_short_first = record {
  some_slots = omega arith;
  short = omega arith;
  before = λ u some less. let none = none_due u less in omega (arith, none);
}

from_one_to_five : AreFalls (ranks_above Rm one_in_four) one_in_four (sbf 2 0) 0 (1 ∷ 5 ∷ [])
unfolding sum_below
from_one_to_five = record {
  some_point = omega arith;
  from_one = refl;
  rising = λ j l. only (λ j. get_or (1 ∷ 5 ∷ []) j 0 < get_or (1 ∷ 5 ∷ []) (j + 1) 0)
      (omega arith) j (omega (arith, l));
  steps = λ j l. only
      (λ j. IsNextFall (ranks_above Rm one_in_four) one_in_four (sbf 2 0) 0 (get_or (1 ∷ 5 ∷ []) j 0)
      (get_or (1 ∷ 5 ∷ []) (j + 1) 0))
      (record {
        within = omega arith;
        below = λ t less. let none = nothing_of_none t less in omega (arith, none);
        gives = λ within. let past : 5 ≤ 4 = within in omega (arith, past);
      })
      j (omega (arith, l));
  to_deadline = refl;
}

by_deadline_is_made : IsMade host (1 ∷ 1 ∷ []) by_deadline
by_deadline_is_made = record {
  has = they_have_its_budgets 0 (omega arith);
  pass = (
    record {
      horizon = 6;
      is_horizon = six_slots;
      small = omega arith;
      cover = three_and_seven_cover;
      backward = back_to_three;
    },
    refl,
  );
  least = record { window = 4; is = refl; first = four_is_short_first; no_falls = refl };
}

by_rank_is_made : IsMade host (1 ∷ 1 ∷ []) by_rank
unfolding sum_below
by_rank_is_made = record {
  has = they_have_its_budgets 1 (omega arith);
  pass = (three_is_the_least_hit, refl);
  least = record {
    task = 0;
    is = refl;
    first = record {
      is_task = omega arith;
      short = λ t some within. let none = nothing_of_none t (omega (arith, within)) in omega (arith, none);
      before = λ k l. absurd (omega (arith, l));
    };
    are_falls = from_one_to_five;
  };
}

full_core_is_made : IsMade host (1 ∷ 1 ∷ []) full_core
unfolding sum_below
full_core_is_made = record {
  has = they_have_its_budgets 2 (omega arith);
  pass = (
    record {
      horizon = 3;
      is_horizon = three_slots;
      small = omega arith;
      cover = two_and_four_cover;
      backward = back_to_two;
    },
    refl,
  );
  least = (refl, refl);
}

so_it_is_the_certificate : IsCertificate host three_nodes
so_it_is_the_certificate = record {
  are_nodes = they_are_its_nodes;
  each = each_of_three (λ k. IsMade host (1 ∷ 1 ∷ []) (node_at three_nodes k)) by_deadline_is_made by_rank_is_made
      full_core_is_made;
}

-- a later point, a later hit and a later window would show as much, and are not made
a_later_point_is_not_made : IsBackwardCover one_in_four (sbf 2 1) 2 (4 ∷ 7 ∷ []) → ⊥
a_later_point_is_not_made cover =
    let less : 1 < 1 = cover.backward.least 0 3 (omega arith) (omega arith) in omega (arith, less)

a_later_hit_is_not_made : AreLeastHits (ranks_above Rm one_in_four) one_in_four (sbf 2 1) (4 ∷ []) → ⊥
a_later_hit_is_not_made hits =
    hits.least 0 3 (omega arith) (omega arith) (three_is_the_least_hit.each 0 (omega arith))

a_later_window_is_not_made : IsFirstShortPoint one_in_four (sbf 2 0) 5 → ⊥
a_later_window_is_not_made first = let fits : 1 ≤ 0 = first.before 4 (omega arith) (omega arith) in omega (arith, fits)
