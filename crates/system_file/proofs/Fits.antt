-- Values of their kind and in their range have no fault.
use Rattle.std.proofs.Common.{◌≡◌, ℕ, ◌<◌, ◌≤◌, pos, Bool, true, false, not, ◌&&◌, nat_le, nat_lt, List, [], ◌∷◌, map, length, take, get_or, Option, Some, None, refl, sym, ap, ◌∙◌, codes, arith, bytes_eq, length-take-le, unwrap_or, if◌then◌else◌, ◌==◌}
use Rattle.std.proofs.lemmas.Bool.Decides.{nat_tests}
use Rattle.std.proofs.lemmas.List.{get_or_default, get_or-map, get_or-take}
use Rattle.std.proofs.lemmas.List.Folds.{list_any_none}
use Rattle.std.proofs.lemmas.Slice.Eq.{bytes_eq-Decides}
use Rattle.std.proofs.lemmas.Bool.{le-ltb}
use Rattle.std.specs.List.{list_any}
use Rattle.slot_model.specs.Name.{is_name}
use Rattle.slot_model.specs.declared.task.TheConstants.{LIMIT}
use Rattle.toml.specs.Data.{Data, integer, boolean, get}
use Rattle.tree_model.specs.System.{IsGivenBudget, IsCoreSupply, AreDistinct}
use Rattle.tree_model.specs.Lists.{fault_if}
use Rattle.tree_model.proofs.Lists.{length_map, none_both}
use Rattle.system_file.specs.declared.fault.Spot.{Spot}
use Rattle.system_file.specs.declared.fault.SystemFault.{SystemFault}
use Rattle.system_file.specs.declared.fault.SystemFault.TheVariants.{BadName, NameTaken, TooMany}
use Rattle.system_file.specs.Document.{elements_of, array_of, text_of, number_of, given_number, is_text, is_named, supply_of}
use Rattle.system_file.specs.Faults.{required, optional, text_faults, new_name_faults, name_faults, sched_faults, range_faults, below_faults, flag_faults, array_faults, supply_faults, table_faults}
use Rattle.system_file.specs.Written.{IsTableOf, IsNameText, IsSchedText, IsWhole, IsFlag, IsArray, There, MayBe, BothOrNeither}

-- a number that is not 0
pub not_none : (n : ℕ) → 1 ≤ n → (n == 0) ≡ false
not_none n h = grind (arith, nat_tests)

pub right : (b : Bool) (fault : SystemFault) → b ≡ false → fault_if b fault ≡ []
right b fault h = ap (λ x. fault_if x fault) h

pub keys_fit : (spot : Spot) (listed : List (List ℕ)) (at_keys : List SystemFault) (d : Data) → IsTableOf listed d
    → at_keys ≡ [] → table_faults spot listed at_keys d ≡ []
keys_fit spot listed at_keys d t none =
    ap (table_faults spot listed at_keys) t.is ∙ none_both _ at_keys (right _ _ (ap not t.only)) none

-- a name that is new
pub name_fits : (spot : Spot) (earlier : List Data) (o : Option Data) (t : IsNameText o)
    → list_any (is_named t.name) earlier ≡ false
    → required spot (text_faults spot (new_name_faults spot earlier)) o ≡ []
name_fits spot earlier o t new =
    ap (required spot (text_faults spot (new_name_faults spot earlier))) t.is ∙ ap (λ b. name_faults spot b t.name) new
    ∙ valid (is_name t.name) t.valid
  where
    valid : (b : Bool) → b ≡ true → (if b then fault_if false (NameTaken spot) else BadName spot ∷ []) ≡ []
    valid true h = refl
    valid false h = cc

pub sched_fits : (spot : Spot) (o : Option Data) → IsSchedText o
    → required spot (text_faults spot (sched_faults spot)) o ≡ []
sched_fits spot o t = ap (required spot (text_faults spot (sched_faults spot))) t.is ∙ right _ _ t.listed

in_range : (spot : Spot) (n highest : ℕ) → 1 ≤ n → n ≤ highest → range_faults spot highest (integer (pos n)) ≡ []
in_range spot n highest low high =
    right _ _ (let e : not (nat_le 1 n && nat_le n highest) ≡ false = grind (arith, nat_tests) in e)

pub number_fits : (spot : Spot) (highest : ℕ) (d : Data) → IsWhole d → 1 ≤ number_of (Some d)
    → number_of (Some d) ≤ highest → range_faults spot highest d ≡ []
number_fits spot highest d w low high =
    ap (range_faults spot highest) w.1 ∙ in_range spot w.0 highest (rw w.1 at low) (rw w.1 at high)

pub required_fits : (spot : Spot) (highest : ℕ) (o : Option Data) → There IsWhole o → 1 ≤ number_of o
    → number_of o ≤ highest → required spot (range_faults spot highest) o ≡ []
required_fits spot highest None w low high = absurd w
required_fits spot highest (Some d) w low high = number_fits spot highest d w low high

pub optional_fits : (spot : Spot) (highest : ℕ) (o : Option Data) → MayBe IsWhole o
    → IsGivenBudget highest (given_number o) → optional (range_faults spot highest) o ≡ []
optional_fits spot highest None w h = refl
optional_fits spot highest (Some d) w h = number_fits spot highest d w h.0 h.1

pub default_fits : (spot : Spot) (highest : ℕ) (o : Option Data) → MayBe IsWhole o
    → 1 ≤ unwrap_or (given_number o) highest → unwrap_or (given_number o) highest ≤ highest
    → optional (range_faults spot highest) o ≡ []
default_fits spot highest None w low high = refl
default_fits spot highest (Some d) w low high = number_fits spot highest d w low high

pub below_fits : (spot : Spot) (bound : ℕ) (o : Option Data) → MayBe IsWhole o → number_of o < bound
    → optional (below_faults spot bound) o ≡ []
below_fits spot bound None w h = refl
below_fits spot bound (Some d) w h = ap (below_faults spot bound) w.1 ∙ right _ _ (below w.0 (rw w.1 at h))
  where
    below : (n : ℕ) → n < bound → not (nat_lt n bound) ≡ false
    below n lt = grind (arith, nat_tests)

pub flag_fits : (spot : Spot) (o : Option Data) → MayBe IsFlag o → optional (flag_faults spot) o ≡ []
flag_fits spot None w = refl
flag_fits spot (Some d) w = ap (flag_faults spot) w.1

pub array_fits : (spot : Spot) (most : ℕ) (o : Option Data) → MayBe IsArray o → length (array_of o) ≤ most
    → optional (array_faults spot most) o ≡ []
array_fits spot most None w few = refl
array_fits spot most (Some d) w few =
    ap (array_faults spot most) w.1 ∙ right _ (TooMany spot) (le-ltb most (length (elements_of w.0)) (rw w.1 at few))

pub supply_fits : (spot : Spot) (a b : Option Data) → BothOrNeither a b → IsCoreSupply (supply_of a b)
    → supply_faults spot a b ≡ []
supply_fits spot None None w h = refl
supply_fits spot (Some period) None w h = absurd w
supply_fits spot None (Some budget) w h = absurd w
supply_fits spot (Some period) (Some budget) w h =
    none_both _ _ (number_fits spot LIMIT period w.0 h.0.0 h.0.1)
    (number_fits spot (number_of (Some period)) budget w.1 h.1 h.2)

-- names that are all different are new, one after the other
pub new_of_distinct : (ds : List Data) → AreDistinct (map (λ d. text_of (get (codes "name") d)) ds)
    → (named : (i : ℕ) → i < length ds → IsNameText (get (codes "name") (get_or ds i (boolean false)))) →
    (j : ℕ) (h : j < length ds) → list_any (is_named (named j h).name) (take j ds) ≡ false
new_of_distinct ds distinct named j h =
    list_any_none (is_named (named j h).name) (take j ds)
    (λ k d within. other k d (rw (length-take-le j ds (omega arith)) at within))
  where
    name_at : (i : ℕ) (w : i < length ds)
        → get_or (map (λ (d : Data). text_of (get (codes "name") d)) ds) i [] ≡ (named i w).name
    name_at i w =
        get_or-map (λ (d : Data). text_of (get (codes "name") d)) ds i (boolean false) [] w ∙ ap text_of (named i w).is

    few : j < length (map (λ (d : Data). text_of (get (codes "name") d)) ds)
    few = rw (length_map (λ (d : Data). text_of (get (codes "name") d)) ds) h

    apart : (k : ℕ) (lt : k < j) (w : k < length ds) (b : Bool) → bytes_eq (named j h).name (named k w).name ≡ b
        → b ≡ false
    apart k lt w true e =
        absurd (distinct k j [] lt few
        (name_at k w ∙ sym ((bytes_eq-Decides (named j h).name (named k w).name).0 e) ∙ sym (name_at j h)))
    apart k lt w false e = refl

    other : (k : ℕ) (d : Data) → k < j → is_named (named j h).name (get_or (take j ds) k d) ≡ false
    other k d lt =
        let w : k < length ds = omega arith in
        ap (is_named (named j h).name) (get_or-take j ds k d lt ∙ get_or_default ds k d (boolean false) w)
        ∙ ap (is_text (named j h).name) (named k w).is ∙ apart k lt w _ refl
