-- The nodes of a document while plain lines are read.
use Rattle.std.proofs.Common.{◌≡◌, ℕ, Ordering, Less, Equal, Greater, nat_cmp, is_eq, cond, List, [], ◌∷◌, ◌++◌, Option, Some, None, option_map, refl, sym, ap, ◌∙◌}
use Rattle.std.proofs.lemmas.Option.{none-some}
use Rattle.std.specs.Cmp.Lexicographic.{slice_cmp}
use Rattle.std.specs.Ordering.{match_ordering}
use Rattle.toml.specs.Data.{Data, Items, no_items, table, push_item, get_member}
use Rattle.toml.specs.Tables.{Node, Nodes, no_nodes, node, value, open_array, get_node, insert, replace, close, close_node, along_header, along_dots, at_key, key_value, array_table, put, define}
use Rattle.toml.proofs.NodeLaws.{get_node-insert, replace-insert, along_found, along_append}
use Rattle.toml.proofs.Turns.{at_key_new, at_key_ok}
use Rattle.toml_items.specs.Plain.{insert_member, IsPlace}

match_close : (o : Ordering) (a b c : Nodes) →
    close (match_ordering o a b c) ≡ match_ordering o (close a) (close b) (close c)
match_close Less a b c = refl
match_close Equal a b c = refl
match_close Greater a b c = refl

pub close-insert : (k : List ℕ) (x : Node) (ns : Nodes) →
    close (insert k x ns) ≡ insert_member k (close_node x) (close ns)
close-insert k x no_nodes = refl
close-insert k x (node l y ns) =
    match_close (slice_cmp nat_cmp k l) _ _ _ ∙ rw (close-insert k x ns)

found_or : (o : Ordering) (x : Node) (rest : Option Node) (d : Option Data) →
    option_map close_node rest ≡ d →
    option_map close_node (cond (is_eq o) (Some x) rest)
    ≡ match_ordering o d (Some (close_node x)) d
found_or Less x rest d e = e
found_or Equal x rest d e = refl
found_or Greater x rest d e = e

close-get : (k : List ℕ) (ns : Nodes) →
    option_map close_node (get_node k ns) ≡ get_member k (close ns)
close-get k no_nodes = refl
close-get k (node l x ns) = found_or (slice_cmp nat_cmp k l) x _ _ (close-get k ns)

none_from_map : {A B : Type 0} (f : A → B) (o : Option A) → option_map f o ≡ None → o ≡ None
none_from_map f None h = refl
none_from_map f (Some x) h = absurd (none-some _ (sym h))

-- A key that is new among the members is new among the nodes.
pub new_node-at : (k : List ℕ) (ns : Nodes) → get_member k (close ns) ≡ None → get_node k ns ≡ None
new_node-at k ns h = none_from_map close_node (get_node k ns) (close-get k ns ∙ h)

map_same : (o : Option Nodes) → o ≡ option_map (λ ns. ns) o
map_same None = refl
map_same (Some ns) = refl

pub top_place : IsPlace [] (λ ns. ns)
unfolding along_header
top_place edit ns = map_same (edit ns)

map_inner : (root_of : Nodes → Nodes) (k : List ℕ) (done : Items) (x base : Nodes)
    (o : Option Nodes) →
    option_map root_of (option_map (λ y. replace k y (insert k (open_array done x) base))
    (option_map (open_array done) o))
    ≡ option_map (λ y. root_of (insert k (open_array done y) base)) o
map_inner root_of k done x base None = refl
map_inner root_of k done x base (Some y) =
    ap (λ z. Some (root_of z)) (replace-insert k (open_array done x) (open_array done y) base)

-- the last element of an array
pub element_place : (path : List (List ℕ)) (root_of : Nodes → Nodes) (k : List ℕ)
    (done : Items) (base : Nodes) →
    IsPlace path root_of →
    IsPlace (path ++ k ∷ []) (λ x. root_of (insert k (open_array done x) base))
unfolding along_header
element_place path root_of k done base place edit x =
    let made = insert k (open_array done x) base in
    along_append path (k ∷ []) edit (root_of made) ∙ place (along_header (k ∷ []) edit) made
    ∙ ap (option_map root_of)
    (along_found k [] edit made (open_array done x) (get_node-insert k (open_array done x) base))
    ∙ map_inner root_of k done x base (edit x)

pub define_pair : (path : List (List ℕ)) (root_of : Nodes → Nodes) (k : List ℕ)
    (d : Data) (ns : Nodes) →
    IsPlace path root_of → get_node k ns ≡ None →
    define (root_of ns, path) (([], k), key_value d) ≡ Some (root_of (insert k (value d) ns), path)
unfolding define along_dots
define_pair path root_of k d ns place none =
    ap (option_map (λ root. (root, path)))
    (place (put ([], k) d) ns ∙ ap (option_map root_of) (at_key_new k (key_value d) ns none))

pub define_array : (path : List (List ℕ)) (root_of : Nodes → Nodes) (k : List ℕ)
    (ns : Nodes) (section : List (List ℕ)) →
    IsPlace path root_of → get_node k ns ≡ None →
    define (root_of ns, section) ((path, k), array_table)
    ≡ Some (root_of (insert k (open_array no_items no_nodes) ns), path ++ k ∷ [])
unfolding define
define_array path root_of k ns section place none =
    ap (option_map (λ root. (root, path ++ k ∷ [])))
    (place (at_key k array_table) ns ∙ ap (option_map root_of) (at_key_new k array_table ns none))

pub define_element : (path : List (List ℕ)) (root_of : Nodes → Nodes) (k : List ℕ)
    (done : Items) (last ns : Nodes) (section : List (List ℕ)) →
    IsPlace path root_of →
    define (root_of (insert k (open_array done last) ns), section) ((path, k), array_table)
    ≡ Some (
      root_of (insert k (open_array (push_item done (table (close last))) no_nodes) ns),
      path ++ k ∷ [],
    )
unfolding define
define_element path root_of k done last ns section place =
    let old : Node = open_array done last in
    let new : Node = open_array (push_item done (table (close last))) no_nodes in
    let step = at_key_ok k array_table (insert k old ns) (insert k new ns) old new
    (get_node-insert k old ns) refl (sym (replace-insert k old new ns)) in
    ap (option_map (λ root. (root, path ++ k ∷ [])))
    (place (at_key k array_table) (insert k old ns) ∙ ap (option_map root_of) step)
