-- The members of a table with one more.
use Rattle.std.proofs.Common.{◌≡◌, ℕ, Ordering, Less, Equal, Greater, nat_cmp, is_eq, false, cond, List, Some, refl, sym, ap, subst, ◌∙◌}
use Rattle.std.proofs.lemmas.Cmp.{nat_list_cmp_total}
use Rattle.std.proofs.lemmas.Map.Text.{is_eq-slice_cmp}
use Rattle.std.proofs.lemmas.Slice.Eq.{bytes_eq-Decides}
use Rattle.std.specs.Cmp.{tied_itself}
use Rattle.std.specs.Cmp.Lexicographic.{slice_cmp}
use Rattle.std.specs.Ordering.{match_ordering}
use Rattle.toml.specs.Data.{Data, Members, no_members, member, get_member, same_key}
use Rattle.toml_items.specs.Plain.{insert_member}

-- what is put at a key stands there
pub get_member-insert : (k : List ℕ) (d : Data) (ms : Members) →
    get_member k (insert_member k d ms) ≡ Some d
get_member-insert k d no_members =
    let tie : slice_cmp nat_cmp k k ≡ Equal = tied_itself nat_list_cmp_total k in rw tie
get_member-insert k d (member l e ms) =
    by (slice_cmp nat_cmp k l) (get_member-insert k d ms) refl
  where
    by : (o : Ordering) → get_member k (insert_member k d ms) ≡ Some d →
        slice_cmp nat_cmp k l ≡ o → get_member k (insert_member k d (member l e ms)) ≡ Some d
    by Less behind h =
        let tie : slice_cmp nat_cmp k k ≡ Equal = tied_itself nat_list_cmp_total k in rw (h, tie)
    by Equal behind h = rw (h, h)
    by Greater behind h = rw (h, h) behind

-- what stands at a key is the first member, where that is of the key
pub get_member-first : (j l : List ℕ) (e : Data) (ms : Members) →
    get_member j (member l e ms) ≡ cond (same_key j l) (Some e) (get_member j ms)
get_member-first j l e ms = by (slice_cmp nat_cmp j l)
  where
    by : (o : Ordering) → match_ordering o (get_member j ms) (Some e) (get_member j ms)
        ≡ cond (is_eq o) (Some e) (get_member j ms)
    by Less = refl
    by Equal = refl
    by Greater = refl

passed : (j l : List ℕ) (e : Data) (ms : Members) → same_key j l ≡ false →
    get_member j (member l e ms) ≡ get_member j ms
passed j l e ms other = get_member-first j l e ms ∙ ap (λ b. cond b (Some e) (get_member j ms)) other

same_keys : (k l : List ℕ) → slice_cmp nat_cmp k l ≡ Equal → k ≡ l
same_keys k l h = (bytes_eq-Decides k l).0 (sym (is_eq-slice_cmp k l) ∙ ap is_eq h)

-- and the other keys hold what they held
pub get_member-insert_other : (j k : List ℕ) (d : Data) (ms : Members) → same_key j k ≡ false →
    get_member j (insert_member k d ms) ≡ get_member j ms
get_member-insert_other j k d no_members other = passed j k d no_members other
get_member-insert_other j k d (member l e ms) other =
    by (slice_cmp nat_cmp k l) (get_member-insert_other j k d ms other) refl
  where
    by : (o : Ordering) → get_member j (insert_member k d ms) ≡ get_member j ms →
        slice_cmp nat_cmp k l ≡ o →
        get_member j (insert_member k d (member l e ms)) ≡ get_member j (member l e ms)
    by Less behind h = rw h (passed j k d (member l e ms) other)
    by Equal behind h =
        let here = subst (λ (x : List ℕ). same_key j x ≡ false) (same_keys k l h) other in
        rw h (passed j l d ms here ∙ sym (passed j l e ms here))
    by Greater behind h =
        rw h (ap (λ x. match_ordering (slice_cmp nat_cmp j l) x (Some e) x) behind)
