-- Lists that are seen through a map, in which an entry is put, or put together from several.
use Rattle.std.proofs.lemmas.Bool.{cases_eq}
use Rattle.std.proofs.lemmas.List.{length-map, get_or-set_same, get_or-set_other}
use Rattle.std.proofs.lemmas.Option.{none-some, same_Some}
use Rattle.std.proofs.Common.{◌≡◌, ◌≢◌, ℕ, ◌+◌, ◌<◌, Bool, not, cond, ◌||◌, List, [], ◌∷◌, ◌++◌, map, length, get_or, set, Some, refl, sym, ◌∙◌, ap, inl, inr, Err}
use Rattle.std.specs.Prelude.{position}
use Rattle.std.specs.List.{list_any, prefix_len}
use Rattle.tree_model.specs.Lists.{first_of, first_fault_or}

-- a test of the images of a list
pub list_any_map : {A B : Type 0} (p : B → Bool) (f : A → B) (xs : List A)
    → list_any p (map f xs) ≡ list_any (λ x. p (f x)) xs
list_any_map p f [] = refl
list_any_map p f (x ∷ xs) = ap (λ b. p (f x) || b) (list_any_map p f xs)

prefix_len-map : {A B : Type 0} (p : B → Bool) (f : A → B) (xs : List A)
    → prefix_len p (map f xs) ≡ prefix_len (λ x. p (f x)) xs
prefix_len-map p f [] = refl
prefix_len-map p f (x ∷ xs) = ap (λ n. cond {A = ℕ} (p (f x)) (1 + n) 0) (prefix_len-map p f xs)

-- `length-map`, under a name that an attribute can cite
pub length_map : {A B : Type 0} (f : A → B) (xs : List A) → length (map f xs) ≡ length xs
length_map f xs = length-map xs f

-- the place of the first image that passes
pub position_map : {A B : Type 0} (p : B → Bool) (f : A → B) (xs : List A)
    → position p (map f xs) ≡ position (λ x. p (f x)) xs
position_map p f xs = rw (prefix_len-map (λ x. not (p x)) f xs, length_map f xs)

-- what is said of each entry, once one is put
pub put_says : {A B : Type 0} (said : A → B) (before now : ℕ → B) (xs : List A) (v : ℕ) (x d : A) → v < length xs
    → said x ≡ now v → ((u : ℕ) → u ≢ v → before u ≡ now u) → (u : ℕ) → said (get_or xs u d) ≡ before u
    → said (get_or (set xs v x) u d) ≡ now u
put_says said before now xs v x d l here others u h = elim (cases_eq u v) [
  | inl e ↦ ap said (ap (λ w. get_or (set xs v x) w d) e ∙ get_or-set_same xs v x d l) ∙ (here ∙ ap now (sym e))
  | inr ne ↦ ap said (get_or-set_other xs v u x d ne) ∙ (h ∙ others u ne)
]

-- the first of a list stays the first where more comes behind
pub first_here : {A : Type 0} (a b : List A) (x : A) → first_of a ≡ Some x → first_of (a ++ b) ≡ Some x
first_here [] b x h = cc
first_here (y ∷ a) b x h = h

-- nothing before leaves the first as it is
pub first_later : {A : Type 0} (a b : List A) (x : A) → a ≡ [] → first_of b ≡ Some x → first_of (a ++ b) ≡ Some x
first_later a b x none h = rw none h

pub none_both : {A : Type 0} (a b : List A) → a ≡ [] → b ≡ [] → a ++ b ≡ []
none_both a b no_a no_b = rw (no_a, no_b)

-- and what is nothing has no parts
pub none_left : {A : Type 0} (a b : List A) → a ++ b ≡ [] → a ≡ []
none_left [] b h = refl
none_left (x ∷ a) b h = cc

pub none_right : {A : Type 0} (a b : List A) → a ++ b ≡ [] → b ≡ []
none_right [] b h = h
none_right (x ∷ a) b h = cc

-- the first fault decides
pub first_decides : {Value Fault : Type 0} (value : Value) (found : List Fault) (fault : Fault)
    → first_of found ≡ Some fault → first_fault_or value found ≡ Err fault
first_decides value [] fault h = absurd (none-some fault h)
first_decides value (x ∷ found) fault h = ap Err (same_Some x fault h)
