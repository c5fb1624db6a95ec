-- The lists of several cores.
use Rattle.std.proofs.Common.{◌≡◌, ◌≢◌, ℕ, ◌<◌, List, [], length, map, set, get_or, sym, ◌∙◌, ap, arith, Vec, Global}
use Rattle.std.proofs.lemmas.List.{map-set, get_or-map, length-map, get_or-set_same, get_or-set_other}
use Rattle.rtds_sim.specs.inner.Lists.{list_at}

-- what is read at a core is its list
pub list_read : {X : Type 0} (lists : List (Vec X Global)) (c : ℕ) (own : Vec X Global) → c < length lists
    → own ≡ get_or lists c own → list_at lists c ≡ own.items
list_read {X} lists c own l r =
    get_or-map (λ (s : Vec X Global). s.items) lists c own [] l ∙ ap (λ (s : Vec X Global). s.items) (sym r)

-- one list is written
pub list_here : {X : Type 0} (lists : List (Vec X Global)) (i : ℕ) (new : Vec X Global) → i < length lists
    → list_at (set lists i new) i ≡ new.items
list_here {X} lists i new l =
    ap (λ (es : List (List X)). get_or es i []) (map-set (λ (s : Vec X Global). s.items) lists i new)
    ∙ get_or-set_same (map (λ (s : Vec X Global). s.items) lists) i new.items []
    (omega (arith, l, length-map lists (λ (s : Vec X Global). s.items)))

pub list_there : {X : Type 0} (lists : List (Vec X Global)) (i d : ℕ) (new : Vec X Global) → d ≢ i
    → list_at (set lists i new) d ≡ list_at lists d
list_there {X} lists i d new ne =
    ap (λ (es : List (List X)). get_or es d []) (map-set (λ (s : Vec X Global). s.items) lists i new)
    ∙ get_or-set_other (map (λ (s : Vec X Global). s.items) lists) i d new.items [] ne
