-- Where a name is found among the cores and the parts so far.
use Rattle.std.proofs.Common.{◌≡◌, ℕ, ◌+◌, ◌-◌, ◌<◌, ◌≤◌, suc, zero, Bool, true, false, not, cond, ◌==◌, nat_lt, List, [], ◌∷◌, ◌++◌, map, length, get_or, Option, Some, None, option_map, refl, sym, ap, ◌∙◌, codes, arith}
use Rattle.std.proofs.lemmas.Bool.Decides.{nat_tests}
use Rattle.std.specs.Prelude.{position, bytes_eq}
use Rattle.std.specs.List.{prefix_len}
use Rattle.toml.specs.Data.{Data, string, boolean, get}
use Rattle.tree_model.specs.declared.place.Parent.{Parent}
use Rattle.tree_model.specs.declared.place.Parent.TheVariants.{Core, Part}
use Rattle.tree_model.specs.View.{PartView}
use Rattle.tree_model.specs.System.{is_leaf}
use Rattle.tree_model.proofs.Lists.{position_map, length_map}
use Rattle.system_file.specs.Document.{is_text, is_named, core_or_part, parent_named, spelled_part, spelled_task, tasks_of}
use Rattle.system_file.specs.Faults.{has_tasks}
use Rattle.system_file.specs.inner.Reading.{HaveNames, Known}

-- the first place by recursion
pub position_cons : {A : Type 0} (p : A → Bool) (x : A) (xs : List A)
    → position p (x ∷ xs) ≡ cond (p x) (Some 0) (option_map suc (position p xs))
position_cons p x xs = by (p x)
  where
    shifted : (n m : ℕ)
        → cond (nat_lt (1 + n) (suc m)) (Some (1 + n)) None ≡ option_map suc (cond (nat_lt n m) (Some n) None)
    shifted n m = grind (arith, nat_tests)

    by : (b : Bool)
        → cond (nat_lt (cond {A = ℕ} (not b) (1 + prefix_len (λ y. not (p y)) xs) 0) (suc (length xs)))
        (Some (cond {A = ℕ} (not b) (1 + prefix_len (λ y. not (p y)) xs) 0)) None
        ≡ cond b (Some 0) (option_map suc (position p xs))
    by true = grind (arith, nat_tests)
    by false = shifted (prefix_len (λ y. not (p y)) xs) (length xs)

-- a place in the first list, or behind it
abbrev pub joined : Option ℕ → ℕ → Option ℕ → Option ℕ
joined (Some i) n o = Some i
joined None n o = option_map (λ j. n + j) o

joined_zero : (o : Option ℕ) → o ≡ joined None 0 o
joined_zero None = refl
joined_zero (Some i) = ap Some (omega arith)

joined_suc : (a : Option ℕ) (n : ℕ) (o : Option ℕ) → option_map suc (joined a n o) ≡ joined (option_map suc a) (suc n) o
joined_suc (Some i) n o = refl
joined_suc None n None = refl
joined_suc None n (Some j) = ap Some (omega arith)

append_step : (b : Bool) (whole a : Option ℕ) (n : ℕ) (o : Option ℕ) → whole ≡ joined a n o
    → cond b (Some 0) (option_map suc whole) ≡ joined (cond b (Some 0) (option_map suc a)) (suc n) o
append_step true whole a n o rest = refl
append_step false whole a n o rest = ap (option_map suc) rest ∙ joined_suc a n o

pub position_append : {A : Type 0} (p : A → Bool) (xs ys : List A)
    → position p (xs ++ ys) ≡ joined (position p xs) (length xs) (position p ys)
position_append p [] ys = joined_zero (position p ys)
position_append p (x ∷ xs) ys =
    position_cons p x (xs ++ ys)
    ∙ append_step (p x) (position p (xs ++ ys)) (position p xs) (length xs) (position p ys) (position_append p xs ys)
    ∙ ap (λ o. joined o (suc (length xs)) (position p ys)) (sym (position_cons p x xs))

-- a place that is found lies in the list
pub position_within : {A : Type 0} (p : A → Bool) (xs : List A) (i : ℕ) → position p xs ≡ Some i → i < length xs
position_within p xs i h = by (prefix_len (λ y. not (p y)) xs) (length xs) h
  where
    by : (n m : ℕ) → cond (nat_lt n m) (Some n) None ≡ Some i → i < m
    by n m e = grind (arith, nat_tests)

-- the place of a name among elements is its place among their names
pub place_is : (ds : List Data) (names : List (List ℕ)) (s : List ℕ) → HaveNames ds names
    → position (is_named s) ds ≡ position (bytes_eq s) names
place_is ds names s have =
    sym (position_map (is_text s) (λ (d : Data). get (codes "name") d) ds)
    ∙ ap (position (is_text s)) have
    ∙ position_map (is_text s) (λ (name : List ℕ). Some (string name)) names

-- what a look-up among all names says of the cores and of the parts
pub looked_up : (cores earlier later : List Data) (count : ℕ) (names : List (List ℕ)) (parts : List PartView)
    (s : List ℕ) (o : Option ℕ) → Known cores earlier later count names parts →
    position (bytes_eq s) names ≡ o → joined (position (is_named s) cores) count (position (is_named s) earlier) ≡ o
looked_up cores earlier later count names parts s o known found =
    ap (λ n. joined (position (is_named s) cores) n (position (is_named s) earlier)) (sym known.counted)
    ∙ sym (position_append (is_named s) cores earlier) ∙ place_is (cores ++ earlier) names s known.named ∙ found

-- as many parts are spelled as came before
pub as_many : {cores earlier later : List Data} {count : ℕ} {names : List (List ℕ)} {parts : List PartView}
    → Known cores earlier later count names parts → length earlier ≡ length parts
as_many {cores} {earlier} {later} known =
    sym (ap length known.spelled ∙ length_map (spelled_part cores (earlier ++ later)) earlier)

pub core_found : (a : Option ℕ) (n : ℕ) (o : Option ℕ) (i : ℕ) → joined a n o ≡ Some i → i < n
    → core_or_part a o ≡ Some (Core i)
core_found (Some c) n o i h lt = ap (option_map Core) h
core_found None n None i h lt = cc
core_found None n (Some j) i h lt = absurd (let e : n + j ≡ i = cc in omega arith)

pub part_found : (a : Option ℕ) (n : ℕ) (o : Option ℕ) (i : ℕ) → ((c : ℕ) → a ≡ Some c → c < n) → joined a n o ≡ Some i
    → n ≤ i → core_or_part a o ≡ Some (Part (i - n))
part_found (Some c) n o i within h le = absurd (let e : c ≡ i = cc in let lt = within c refl in omega arith)
part_found None n None i within h le = cc
part_found None n (Some j) i within h le =
    let e : n + j ≡ i = cc in let f : j ≡ i - n = omega arith in ap (λ r. Some (Part r)) f

pub none_found : (a : Option ℕ) (n : ℕ) (o : Option ℕ) → joined a n o ≡ None → core_or_part a o ≡ None
none_found (Some c) n o h = cc
none_found None n None h = refl
none_found None n (Some j) h = cc

-- a parent that is found stays the parent when more parts come
pub parent_kept : (cores earlier more : List Data) (s : List ℕ) (parent : Parent)
    → parent_named cores earlier s ≡ Some parent → parent_named cores (earlier ++ more) s ≡ Some parent
parent_kept cores earlier more s parent h =
    ap (core_or_part (position (is_named s) cores)) (position_append (is_named s) earlier more)
    ∙ kept (position (is_named s) cores) (position (is_named s) earlier) (length earlier) (position (is_named s) more) h
  where
    kept : (a b : Option ℕ) (n : ℕ) (o : Option ℕ) → core_or_part a b ≡ Some parent
        → core_or_part a (joined b n o) ≡ Some parent
    kept (Some c) b n o e = e
    kept None (Some r) n o e = e
    kept None None n o e = cc

pub leaf_tasks : (ds : List Data) → is_leaf (map spelled_task ds) ≡ not (length ds == 0)
leaf_tasks [] = refl
leaf_tasks (d ∷ ds) = grind (arith, nat_tests)

-- a part that is spelled has the tasks of its element
pub leaf_at : (cores all earlier : List Data) (r : ℕ) (part : PartView) → r < length earlier
    → part ≡ get_or (map (spelled_part cores all) earlier) r part →
    is_leaf part.tasks ≡ has_tasks (get_or earlier r (boolean false))
leaf_at cores all [] r part h is = absurd (omega arith)
leaf_at cores all (d ∷ earlier) zero part h is = ap (λ (p : PartView). is_leaf p.tasks) is ∙ leaf_tasks (tasks_of d)
leaf_at cores all (d ∷ earlier) (suc r) part h is = leaf_at cores all earlier r part (omega arith) is
