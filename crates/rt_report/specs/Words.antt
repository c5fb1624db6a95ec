-- Names of nodes and of what a node serves, as the texts write them, and pieces of a text.
use Rattle.slot_model.specs.Task.{default_task}
use Rattle.std.specs.Prelude.{ℕ, List, [], ◌∷◌, ◌++◌, map, length, slice_index_or, codes}
use Rattle.slot_model.specs.Slots.{places_where}
use Rattle.tree_model.specs.declared.place.Place.{Place}
use Rattle.tree_model.specs.declared.place.Place.TheVariants.{Core, Part}
use Rattle.tree_model.specs.View.{NamedTask, PartView, SystemView}
use Rattle.tree_model.specs.System.{core_at, part_at}
use Rattle.tree_model.specs.Tree.{is_child}

-- the pieces of a text, one after another
abbrev pub joined : List (List ℕ) → List ℕ
joined [] = []
joined (piece ∷ []) = piece
joined (piece ∷ next ∷ later) = piece ++ joined (next ∷ later)

-- the name of a task of a leaf; nothing past the end
abbrev pub task_name : PartView → ℕ → List ℕ
task_name part i = (slice_index_or part.tasks i (record { name = []; task = default_task })).name

-- `core NAME` or `part NAME`
abbrev pub node_words : SystemView → Place → List ℕ
node_words sys (Core c) = codes "core " ++ (core_at sys c).name
node_words sys (Part q) = codes "part " ++ (part_at sys q).name

-- the names of a node's children among the first n parts, in file order
abbrev pub names_among : SystemView → Place → ℕ → List (List ℕ)
names_among sys node n = map (λ q. (part_at sys q).name) (places_where (is_child sys node) n)

abbrev pub child_names : SystemView → Place → List (List ℕ)
child_names sys node = names_among sys node (length sys.parts)

abbrev pub child_name : SystemView → Place → ℕ → List ℕ
child_name sys node i = slice_index_or (child_names sys node) i []

-- the name of what a node serves, at a place among a leaf's tasks, else among the children;
-- nothing past the end
abbrev pub name_in_part : SystemView → ℕ → List NamedTask → ℕ → List ℕ
name_in_part sys q [] i = child_name sys (Part q) i
name_in_part sys q (t ∷ tasks) i = task_name (part_at sys q) i

abbrev pub served_name : SystemView → Place → ℕ → List ℕ
served_name sys (Core c) i = child_name sys (Core c) i
served_name sys (Part q) i = name_in_part sys q (part_at sys q).tasks i
