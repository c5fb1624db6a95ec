-- Worked examples of the next window of a pattern, by hand. A wrong definition breaks one of them.
use Rattle.std.proofs.Common.{◌≡◌, true, false, Some, None, refl, arith}
use Rattle.std.proofs.lemmas.Bool.Decides.{nat_tests}
use Rattle.slot_model.specs.Supply.{worst_slot, worst_slot_by}
use Rattle.supply_bound.specs.NextWindow.{IsNextWindow}

-- 2 slots in every 5: slots 0 and 1, then 8 and 9, then 13 and 14
the_first_budget_is_early : IsNextWindow (worst_slot 5 2) 0 20 (Some (record { from = 0; until = 2 }))
the_first_budget_is_early = record {
  not_before = omega arith;
  some = omega arith;
  in_slots = omega arith;
  none_before = λ x a b. absurd (omega arith);
  every = λ x a b. grind (arith, nat_tests);
  ends = λ l. refl;
}

the_next_ends_its_period : IsNextWindow (worst_slot 5 2) 2 20 (Some (record { from = 8; until = 10 }))
the_next_ends_its_period = record {
  not_before = omega arith;
  some = omega arith;
  in_slots = omega arith;
  none_before = λ x a b. grind (arith, nat_tests);
  every = λ x a b. grind (arith, nat_tests);
  ends = λ l. refl;
}

one_that_has_begun_is_cut : IsNextWindow (worst_slot 5 2) 9 20 (Some (record { from = 9; until = 10 }))
one_that_has_begun_is_cut = record {
  not_before = omega arith;
  some = omega arith;
  in_slots = omega arith;
  none_before = λ x a b. absurd (omega arith);
  every = λ x a b. grind (arith, nat_tests);
  ends = λ l. refl;
}

it_is_not_the_one_after_it : IsNextWindow (worst_slot 5 2) 2 20 (Some (record { from = 13; until = 15 })) → ⊥
it_is_not_the_one_after_it next =
    let none : true ≡ false = next.none_before 8 (omega arith) (omega arith) in absurd (cc)

it_is_no_part_of_it : IsNextWindow (worst_slot 5 2) 2 20 (Some (record { from = 8; until = 9 })) → ⊥
it_is_no_part_of_it next = let none : true ≡ false = next.ends (omega arith) in absurd (cc)

its_end_is_cut : IsNextWindow (worst_slot 5 2) 2 9 (Some (record { from = 8; until = 9 }))
its_end_is_cut = record {
  not_before = omega arith;
  some = omega arith;
  in_slots = omega arith;
  none_before = λ x a b. grind (arith, nat_tests);
  every = λ x a b. grind (arith, nat_tests);
  ends = λ l. absurd (omega arith);
}

none_in_the_first_gap : IsNextWindow (worst_slot 5 2) 2 8 None
none_in_the_first_gap = λ x a b. grind (arith, nat_tests)

one_slot_is_some : IsNextWindow (worst_slot 5 2) 2 9 None → ⊥
one_slot_is_some none = let gone : true ≡ false = none 8 (omega arith) (omega arith) in absurd (cc)

-- the same by slot 4 of every period: slots 7 and 8 in place of 8 and 9
before_the_deadline : IsNextWindow (worst_slot_by 5 2 4) 2 20 (Some (record { from = 7; until = 9 }))
before_the_deadline = record {
  not_before = omega arith;
  some = omega arith;
  in_slots = omega arith;
  none_before = λ x a b. grind (arith, nat_tests);
  every = λ x a b. grind (arith, nat_tests);
  ends = λ l. refl;
}

-- every slot
all_that_are_left : IsNextWindow (λ x. true) 3 20 (Some (record { from = 3; until = 20 }))
all_that_are_left = record {
  not_before = omega arith;
  some = omega arith;
  in_slots = omega arith;
  none_before = λ x a b. absurd (omega arith);
  every = λ x a b. refl;
  ends = λ l. absurd (omega arith);
}
