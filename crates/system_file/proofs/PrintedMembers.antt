-- What stands at the keys of members into which something is put.
use Rattle.std.proofs.Common.{◌≡◌, ℕ, true, false, List, Option, Some, None, refl}
use Rattle.std.specs.Prelude.{bytes_eq}
use Rattle.std.specs.List.{list_any}
use Rattle.toml.specs.Data.{Data, Members, get_member, same_key}
use Rattle.toml_items.proofs.Members.{get_member-insert, get_member-insert_other}
use Rattle.system_file.specs.Faults.{has_only}
use Rattle.system_file.specs.Printed.{with_some}
use Rattle.system_file.proofs.ListedKeys.{put_listed}

-- at another key stands what stood there
pub other_key : (k l : List ℕ) (o : Option Data) (ms : Members) → same_key k l ≡ false
    → get_member k (with_some l o ms) ≡ get_member k ms
other_key k l None ms other = refl
other_key k l (Some d) ms other = get_member-insert_other k l d ms other

-- and at its own what is put there
pub own_key : (k : List ℕ) (o : Option Data) (ms : Members) → get_member k ms ≡ None
    → get_member k (with_some k o ms) ≡ o
own_key k None ms none = none
own_key k (Some d) ms none = get_member-insert k d ms

-- with one key more that is listed all are listed
pub listed_key : (listed : List (List ℕ)) (k : List ℕ) (o : Option Data) (ms : Members)
    → list_any (bytes_eq k) listed ≡ true → has_only listed ms ≡ true → has_only listed (with_some k o ms) ≡ true
listed_key listed k None ms here all = all
listed_key listed k (Some d) ms here all = put_listed listed k d ms here all
