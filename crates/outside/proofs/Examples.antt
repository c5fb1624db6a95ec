-- Worked cases of counts, files and written bytes. A wrong definition breaks one of them.
use Rattle.std.proofs.Common.{◌≡◌, zero, suc, ◌-◌, ◌^◌, [], ◌∷◌, Some, None, refl, arith}
use Rattle.std.specs.Prelude.{codes}
use Rattle.outside.specs.Counts.{raised, Rose, RoseBeyond}
use Rattle.outside.specs.Files.{Files, Told, file_named}
use Rattle.outside.specs.Written.{AppendsProperPrefix}

-- a count that stays did not rise, and one at its last value may have
a_count_rises_by_one : Rose 5 6
a_count_rises_by_one = omega arith

a_count_that_stays_did_not_rise : Rose 5 5 → ⊥
a_count_that_stays_did_not_rise rose = omega (arith, rose)

a_count_at_its_last_value_stays_there : (raised (2 ^ 64 - 1) 1 ≡ 2 ^ 64 - 1) × Rose (2 ^ 64 - 1) (2 ^ 64 - 1)
a_count_at_its_last_value_stays_there = (refl, omega arith)

-- eleven bytes are beyond ten, and ten are not
eleven_are_beyond_ten : RoseBeyond 10 3 14
eleven_are_beyond_ten = omega arith

ten_are_not_beyond_ten : RoseBeyond 10 3 13 → ⊥
ten_are_not_beyond_ten rose = omega (arith, rose)

-- two files of one name, and another
abbrev files : Files
files = (codes "b", 1 ∷ []) ∷ (codes "ab", 2 ∷ []) ∷ (codes "b", 3 ∷ []) ∷ []

the_first_of_a_name_counts : file_named (codes "b") files ≡ Some (1 ∷ [])
the_first_of_a_name_counts = refl

a_longer_name_is_another : file_named (codes "ab") files ≡ Some (2 ∷ [])
a_longer_name_is_another = refl

the_front_of_a_name_is_no_name : file_named (codes "a") files ≡ None
the_front_of_a_name_is_no_name = refl

what_is_told_is_so : Told (Some files) (codes "ab") (λ file. file ≡ None) → ⊥
what_is_told_is_so told = cc

-- a front that is not all of the bytes, behind what was written before
a_front_is_added : AppendsProperPrefix (Some (9 ∷ [])) (Some (9 ∷ 1 ∷ [])) (1 ∷ 2 ∷ [])
a_front_is_added = (1, omega arith, refl)

nothing_is_a_front_too : AppendsProperPrefix (Some []) (Some []) (1 ∷ [])
nothing_is_a_front_too = (0, omega arith, refl)

all_bytes_are_no_proper_front : AppendsProperPrefix (Some []) (Some (1 ∷ [])) (1 ∷ []) → ⊥
all_bytes_are_no_proper_front (zero, l, e) = cc
all_bytes_are_no_proper_front (suc n, l, e) = omega (arith, l)
