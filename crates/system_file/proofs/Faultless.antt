-- What stands in a document where a definition finds no fault.
use Rattle.std.proofs.Common.{◌≡◌, ℕ, ◌==◌, ◌≤◌, pos, negsuc, Bool, true, false, not, ◌&&◌, nat_le, nat_lt, ◌<◌, List, [], ◌∷◌, length, Option, Some, None, refl, codes, arith, unwrap_or, if◌then◌else◌}
use Rattle.std.proofs.lemmas.Bool.Decides.{nat_tests}
use Rattle.std.proofs.lemmas.Bool.{not-false}
use Rattle.std.specs.List.{list_any}
use Rattle.slot_model.specs.Name.{is_name}
use Rattle.slot_model.specs.declared.task.TheConstants.{LIMIT}
use Rattle.toml.specs.Data.{Data, string, integer, float, boolean, datetime, array, table, get}
use Rattle.tree_model.specs.System.{IsGivenBudget, IsCoreSupply}
use Rattle.tree_model.specs.Lists.{fault_if}
use Rattle.tree_model.proofs.Lists.{none_left, none_right}
use Rattle.system_file.specs.declared.fault.Spot.{Spot}
use Rattle.system_file.specs.declared.fault.Spot.TheVariants.{Top}
use Rattle.system_file.specs.declared.fault.SystemFault.{SystemFault}
use Rattle.system_file.specs.declared.fault.SystemFault.TheVariants.{BadName, NameTaken, Empty}
use Rattle.system_file.specs.Document.{elements_of, array_of, number_of, given_number, is_named, supply_of}
use Rattle.system_file.specs.Faults.{required, optional, text_faults, new_name_faults, range_faults, below_faults, supply_faults, array_faults, core_array_faults, table_faults}
use Rattle.system_file.specs.Written.{IsTableOf, IsWhole, IsArray, There, BothOrNeither}

pub not_wrong : (b : Bool) (fault : SystemFault) → fault_if b fault ≡ [] → b ≡ false
not_wrong true fault h = cc
not_wrong false fault h = refl

-- a table has listed keys, and no faults at them
pub table_there : (spot : Spot) (listed : List (List ℕ)) (at_keys : List SystemFault) (d : Data)
    → table_faults spot listed at_keys d ≡ [] → IsTableOf listed d × (at_keys ≡ [])
table_there spot listed at_keys (string s) h = cc
table_there spot listed at_keys (integer z) h = cc
table_there spot listed at_keys (float x) h = cc
table_there spot listed at_keys (boolean b) h = cc
table_there spot listed at_keys (datetime t) h = cc
table_there spot listed at_keys (array ds) h = cc
table_there spot listed at_keys (table m) h =
    (record { members = m; is = refl; only = not-false _ (not_wrong _ _ (none_left _ _ h)) }, none_right _ at_keys h)

pub table_inside : (spot : Spot) (listed : List (List ℕ)) (at_keys : List SystemFault) (d : Data)
    → table_faults spot listed at_keys d ≡ [] → at_keys ≡ []
table_inside spot listed at_keys d h = (table_there spot listed at_keys d h).1

-- a text without faults
pub record TextAt (at_text : List ℕ → List SystemFault) (o : Option Data) : Type 0 where
  pub text : List ℕ
  pub is : o ≡ Some (string text)
  pub none : at_text text ≡ []

pub text_there : (spot : Spot) (at_text : List ℕ → List SystemFault) (o : Option Data)
    → required spot (text_faults spot at_text) o ≡ [] → TextAt at_text o
text_there spot at_text None h = cc
text_there spot at_text (Some (string s)) h = record { text = s; is = refl; none = h }
text_there spot at_text (Some (integer z)) h = cc
text_there spot at_text (Some (float x)) h = cc
text_there spot at_text (Some (boolean b)) h = cc
text_there spot at_text (Some (datetime t)) h = cc
text_there spot at_text (Some (array ds)) h = cc
text_there spot at_text (Some (table m)) h = cc

-- a name that no earlier element has
pub record NewName (earlier : List Data) (d : Data) : Type 0 where
  pub name : List ℕ
  pub is : get (codes "name") d ≡ Some (string name)
  pub new : list_any (is_named name) earlier ≡ false

pub name_fits : (spot : Spot) (taken b : Bool) → (if b then fault_if taken (NameTaken spot) else BadName spot ∷ []) ≡ []
    → (b ≡ true) × (taken ≡ false)
name_fits spot taken true h = (refl, not_wrong taken _ h)
name_fits spot taken false h = cc

pub new_name_there : (spot : Spot) (earlier : List Data) (d : Data)
    → required spot (text_faults spot (new_name_faults spot earlier)) (get (codes "name") d) ≡ [] → NewName earlier d
new_name_there spot earlier d h =
    let t = text_there spot (new_name_faults spot earlier) (get (codes "name") d) h in
    record {
      name = t.text;
      is = t.is;
      new = (name_fits spot (list_any (is_named t.text) earlier) (is_name t.text) t.none).1;
    }

-- a number in its range
abbrev pub IsNumberTo : ℕ → Option Data → Type 0
IsNumberTo highest o = (1 ≤ number_of o) × (number_of o ≤ highest)

in_range : (spot : SystemFault) (n highest : ℕ) → fault_if (not (nat_le 1 n && nat_le n highest)) spot ≡ []
    → (1 ≤ n) × (n ≤ highest)
in_range fault n highest h = tests (not_wrong _ fault h)
  where
    tests : not (nat_le 1 n && nat_le n highest) ≡ false → (1 ≤ n) × (n ≤ highest)
    tests e = grind (arith, nat_tests)

pub whole_there : (spot : Spot) (highest : ℕ) (d : Data) → range_faults spot highest d ≡ []
    → IsWhole d × IsNumberTo highest (Some d)
whole_there spot highest (string s) h = cc
whole_there spot highest (integer (pos n)) h = ((n, refl), in_range _ n highest h)
whole_there spot highest (integer (negsuc n)) h = cc
whole_there spot highest (float x) h = cc
whole_there spot highest (boolean b) h = cc
whole_there spot highest (datetime t) h = cc
whole_there spot highest (array ds) h = cc
whole_there spot highest (table m) h = cc

pub number_there : (spot : Spot) (highest : ℕ) (d : Data) → range_faults spot highest d ≡ []
    → IsNumberTo highest (Some d)
number_there spot highest d h = (whole_there spot highest d h).1

pub required_number : (spot : Spot) (highest : ℕ) (o : Option Data) → required spot (range_faults spot highest) o ≡ []
    → IsNumberTo highest o
required_number spot highest None h = cc
required_number spot highest (Some d) h = number_there spot highest d h

pub optional_number : (spot : Spot) (highest : ℕ) (o : Option Data) → optional (range_faults spot highest) o ≡ []
    → IsGivenBudget highest (given_number o)
optional_number spot highest None h = tt
optional_number spot highest (Some d) h = number_there spot highest d h

-- a number, or its default, which is the highest
pub number_or : (spot : Spot) (highest : ℕ) (o : Option Data) → 1 ≤ highest
    → optional (range_faults spot highest) o ≡ []
    → (1 ≤ unwrap_or (given_number o) highest) × (unwrap_or (given_number o) highest ≤ highest)
number_or spot highest None some h = (some, omega arith)
number_or spot highest (Some d) some h = number_there spot highest d h

-- a number below a bound, or 0
pub whole_below : (spot : Spot) (bound : ℕ) (d : Data) → below_faults spot bound d ≡ []
    → IsWhole d × (number_of (Some d) < bound)
whole_below spot bound (string s) h = cc
whole_below spot bound (integer (pos n)) h = ((n, refl), below n (not_wrong _ _ h))
  where
    below : (n : ℕ) → not (nat_lt n bound) ≡ false → n < bound
    below n e = grind (arith, nat_tests)
whole_below spot bound (integer (negsuc n)) h = cc
whole_below spot bound (float x) h = cc
whole_below spot bound (boolean b) h = cc
whole_below spot bound (datetime t) h = cc
whole_below spot bound (array ds) h = cc
whole_below spot bound (table m) h = cc

pub below_there : (spot : Spot) (bound : ℕ) (o : Option Data) → 1 ≤ bound → optional (below_faults spot bound) o ≡ []
    → number_of o < bound
below_there spot bound None some h = some
below_there spot bound (Some d) some h = (whole_below spot bound d h).1

pub supplies_there : (spot : Spot) (a b : Option Data) → supply_faults spot a b ≡ []
    → BothOrNeither a b × IsCoreSupply (supply_of a b)
supplies_there spot None None h = (tt, tt)
supplies_there spot (Some period) None h = absurd (wrong (none_right (range_faults spot LIMIT period) _ h))
  where
    wrong : {A : Type 0} {x : A} → x ∷ [] ≡ [] → ⊥
    wrong h = cc
supplies_there spot None (Some budget) h = cc
supplies_there spot (Some period) (Some budget) h =
    let p = whole_there spot LIMIT period (none_left _ _ h) in
    let b = whole_there spot (number_of (Some period)) budget (none_right (range_faults spot LIMIT period) _ h) in
    ((p.0, b.0), (p.1, b.1.0, b.1.1))

pub supply_there : (spot : Spot) (a b : Option Data) → supply_faults spot a b ≡ [] → IsCoreSupply (supply_of a b)
supply_there spot a b h = (supplies_there spot a b h).1

-- an array of few elements
pub array_there : (spot : Spot) (most : ℕ) (d : Data) → array_faults spot most d ≡ []
    → IsArray d × (length (array_of (Some d)) ≤ most)
array_there spot most (string s) h = cc
array_there spot most (integer z) h = cc
array_there spot most (float x) h = cc
array_there spot most (boolean b) h = cc
array_there spot most (datetime t) h = cc
array_there spot most (table m) h = cc
array_there spot most (array ds) h = ((ds, refl), at_most (length (elements_of ds)) (not_wrong _ _ h))
  where
    at_most : (n : ℕ) → nat_lt most n ≡ false → n ≤ most
    at_most n e = grind (arith, nat_tests)

pub few_there : (spot : Spot) (most : ℕ) (o : Option Data) → optional (array_faults spot most) o ≡ []
    → length (array_of o) ≤ most
few_there spot most None h = omega arith
few_there spot most (Some d) h = (array_there spot most d h).1

-- 1 to 64 cores
pub cores_there : (o : Option Data) → required Top core_array_faults o ≡ []
    → There IsArray o × ((1 ≤ length (array_of o)) × (length (array_of o) ≤ 64))
cores_there None h = cc
cores_there (Some (string s)) h = cc
cores_there (Some (integer z)) h = cc
cores_there (Some (float x)) h = cc
cores_there (Some (boolean b)) h = cc
cores_there (Some (datetime t)) h = cc
cores_there (Some (table m)) h = cc
cores_there (Some (array ds)) h = (
  (ds, refl),
  by (length (elements_of ds)) (not_wrong _ _ (none_left _ _ h))
      (not_wrong _ _ (none_right (fault_if (length (elements_of ds) == 0) (Empty Top)) _ h)),
)
  where
    by : (n : ℕ) → (n == 0) ≡ false → nat_lt 64 n ≡ false → (1 ≤ n) × (n ≤ 64)
    by n some few = grind (arith, nat_tests)
