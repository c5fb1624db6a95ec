-- The keys of a table, which are listed or not.
use Rattle.std.proofs.Common.{◌≡◌, ℕ, true, false, not, ◌&&◌, List, ◌++◌, Some, Ordering, Less, Equal, Greater, nat_cmp, bytes_eq, refl, ap, ◌∙◌, sym}
use Rattle.std.proofs.lemmas.Bool.{and_parts}
use Rattle.std.specs.Cmp.Lexicographic.{slice_cmp}
use Rattle.std.specs.List.{list_any}
use Rattle.toml.specs.Data.{Data, Members, no_members, member}
use Rattle.toml_items.specs.Plain.{insert_member}
use Rattle.tree_model.specs.Lists.{fault_if, first_of}
use Rattle.system_file.specs.declared.fault.Spot.{Spot}
use Rattle.system_file.specs.declared.fault.SystemFault.{SystemFault}
use Rattle.system_file.specs.declared.fault.SystemFault.TheVariants.{UnknownKey}
use Rattle.system_file.specs.Faults.{has_only}

module _ (spot : Spot) (listed : List (List ℕ)) (members : Members) (at_keys : List SystemFault) where
  -- a key that is not listed is the first
  pub unknown_first : (fault : SystemFault)
      → (has_only listed members ≡ false) × (fault ≡ UnknownKey spot)
      → first_of (fault_if (not (has_only listed members)) (UnknownKey spot) ++ at_keys) ≡ Some fault
  unknown_first fault h =
      ap (λ all. first_of (fault_if (not all) (UnknownKey spot) ++ at_keys)) h.0 ∙ ap Some (sym h.1)

  -- where all keys are listed, they are those at the keys
  pub at_listed : has_only listed members ≡ true
      → fault_if (not (has_only listed members)) (UnknownKey spot) ++ at_keys ≡ at_keys
  at_listed h = ap (λ all. fault_if (not all) (UnknownKey spot) ++ at_keys) h

-- a listed key that is put leaves a table's keys listed
pub put_listed : (listed : List (List ℕ)) (k : List ℕ) (d : Data) (ms : Members)
    → list_any (bytes_eq k) listed ≡ true → has_only listed ms ≡ true
    → has_only listed (insert_member k d ms) ≡ true
put_listed listed k d no_members here all = ap (λ b. b && true) here
put_listed listed k d (member l e ms) here all =
    by (slice_cmp nat_cmp k l) (put_listed listed k d ms here (and_parts _ _ all).1) refl
  where
    by : (o : Ordering) → has_only listed (insert_member k d ms) ≡ true → slice_cmp nat_cmp k l ≡ o
        → has_only listed (insert_member k d (member l e ms)) ≡ true
    by Less behind h = rw h (ap (λ b. b && has_only listed (member l e ms)) here ∙ all)
    by Equal behind h = rw h all
    by Greater behind h =
        rw h (ap (λ b. b && has_only listed (insert_member k d ms)) (and_parts _ _ all).0 ∙ behind)
