-- All faults of a document, in the order in which they count. Each key and each table has its own
-- faults by a definition of its own; a name is looked for among the elements before, and never in
-- what a reader has collected.
use Rattle.std.specs.Prelude.{ℕ, ◌==◌, nat_lt, nat_le, ℤ, pos, negsuc, Bool, true, false, not, ◌&&◌, if◌then◌else◌, List, [], ◌∷◌, ◌++◌, length, slice_index_or, codes, bytes_eq, Option, Some, None, is_none}
use Rattle.std.specs.List.{list_any}
use Rattle.slot_model.specs.Name.{is_name}
use Rattle.slot_model.specs.Task.{room_of}
use Rattle.slot_model.specs.declared.task.TheConstants.{LIMIT}
use Rattle.toml.specs.Data.{Data, string, integer, boolean, array, table, Members, no_members, member, get}
use Rattle.tree_model.specs.declared.place.Parent.{Parent}
use Rattle.tree_model.specs.declared.place.Parent.TheVariants.{Core as on_core, Part as on_part}
use Rattle.tree_model.specs.Lists.{fault_if}
use Rattle.system_file.specs.declared.format.Format.{Format}
use Rattle.system_file.specs.declared.format.Format.TheVariants.{One, Two}
use Rattle.system_file.specs.declared.fault.Spot.{Spot}
use Rattle.system_file.specs.declared.fault.Spot.TheVariants.{Top, Core, Part, Task}
use Rattle.system_file.specs.declared.fault.SystemFault.{SystemFault}
use Rattle.system_file.specs.declared.fault.SystemFault.TheVariants.{MissingKey, WrongKind, UnknownKey, BadName, NameTaken, OutOfRange, NoSuchParent, Mixed, Empty, TooMany}
use Rattle.system_file.specs.Document.{elements_of, number_of, text_of, format_numbered, format_of, sched_named, is_text, is_named, parent_named, cores_of, parts_of, tasks_of, deadline_of, spelled_task}

-- A key that has to be there, and one that may be left out.
abbrev pub required : Spot → (Data → List SystemFault) → Option Data → List SystemFault
required spot at_value None = MissingKey spot ∷ []
required spot at_value (Some d) = at_value d

abbrev pub optional : (Data → List SystemFault) → Option Data → List SystemFault
optional at_value None = []
optional at_value (Some d) = at_value d

-- A text, judged by its bytes.
abbrev pub text_faults : Spot → (List ℕ → List SystemFault) → Data → List SystemFault
text_faults spot at_text (string s) = at_text s
text_faults spot at_text _ = WrongKind spot ∷ []

-- a name, which may be taken
abbrev pub name_faults : Spot → Bool → List ℕ → List SystemFault
name_faults spot is_taken s =
    if is_name s then fault_if is_taken (NameTaken spot) else BadName spot ∷ []

-- a name that is not to be that of an earlier element
abbrev pub new_name_faults : Spot → List Data → List ℕ → List SystemFault
new_name_faults spot earlier s = name_faults spot (list_any (is_named s) earlier) s

abbrev pub sched_faults : Spot → List ℕ → List SystemFault
sched_faults spot s = fault_if (is_none (sched_named s)) (OutOfRange spot)

-- whether a part has tasks
abbrev pub has_tasks : Data → Bool
has_tasks part = not (length (tasks_of part) == 0)

-- a parent is a core, or an earlier part without tasks
abbrev pub is_parent_faults : Spot → List Data → Option Parent → List SystemFault
is_parent_faults spot earlier None = NoSuchParent spot ∷ []
is_parent_faults spot earlier (Some (on_core c)) = []
is_parent_faults spot earlier (Some (on_part r)) =
    fault_if (has_tasks (slice_index_or earlier r (boolean false))) (Mixed spot)

abbrev pub parent_faults : Spot → List Data → List Data → List ℕ → List SystemFault
parent_faults spot cores earlier s = is_parent_faults spot earlier (parent_named cores earlier s)

-- A whole number from 1 to the highest.
abbrev pub is_in_range : ℕ → ℤ → Bool
is_in_range highest (pos n) = nat_le 1 n && nat_le n highest
is_in_range highest (negsuc n) = false

abbrev pub range_faults : Spot → ℕ → Data → List SystemFault
range_faults spot highest (integer z) = fault_if (not (is_in_range highest z)) (OutOfRange spot)
range_faults spot highest _ = WrongKind spot ∷ []

-- A whole number from 0 on that is less than a bound.
abbrev pub is_below : ℕ → ℤ → Bool
is_below bound (pos n) = nat_lt n bound
is_below bound (negsuc n) = false

abbrev pub below_faults : Spot → ℕ → Data → List SystemFault
below_faults spot bound (integer z) = fault_if (not (is_below bound z)) (OutOfRange spot)
below_faults spot bound _ = WrongKind spot ∷ []

-- the number of a format
abbrev pub format_faults : Data → List SystemFault
format_faults (integer z) = fault_if (is_none (format_numbered z)) (OutOfRange Top)
format_faults _ = WrongKind Top ∷ []

-- true or false
abbrev pub flag_faults : Spot → Data → List SystemFault
flag_faults spot (boolean b) = []
flag_faults spot _ = WrongKind spot ∷ []

-- An array of at most so many elements.
abbrev pub array_faults : Spot → ℕ → Data → List SystemFault
array_faults spot most (array ds) = fault_if (nat_lt most (length (elements_of ds))) (TooMany spot)
array_faults spot most _ = WrongKind spot ∷ []

-- the cores: at least one, at most 64
abbrev pub core_array_faults : Data → List SystemFault
core_array_faults (array ds) =
    fault_if (length (elements_of ds) == 0) (Empty Top)
    ++ fault_if (nat_lt 64 (length (elements_of ds))) (TooMany Top)
core_array_faults _ = WrongKind Top ∷ []

-- A core has both supply keys or neither.
abbrev pub supply_faults : Spot → Option Data → Option Data → List SystemFault
supply_faults spot None None = []
supply_faults spot (Some period) None = range_faults spot LIMIT period ++ MissingKey spot ∷ []
supply_faults spot None (Some budget) = MissingKey spot ∷ []
supply_faults spot (Some period) (Some budget) =
    range_faults spot LIMIT period ++ range_faults spot (number_of (Some period)) budget

-- whether every key of a table is listed
abbrev pub has_only : List (List ℕ) → Members → Bool
has_only listed no_members = true
has_only listed (member key d rest) = list_any (bytes_eq key) listed && has_only listed rest

-- A table of listed keys, with the faults of its keys.
abbrev pub table_faults : Spot → List (List ℕ) → List SystemFault → Data → List SystemFault
table_faults spot listed at_keys (table members) =
    fault_if (not (has_only listed members)) (UnknownKey spot) ++ at_keys
table_faults spot listed at_keys _ = WrongKind spot ∷ []

-- The elements of an array in order, each judged with the elements before it.
abbrev pub in_order : (List Data → Data → List SystemFault) → List Data → List Data →
    List SystemFault
in_order at_element earlier [] = []
in_order at_element earlier (d ∷ later) =
    at_element earlier d ++ in_order at_element (earlier ++ d ∷ []) later

-- A core, the elements before it in `core` being given.
abbrev pub core_keys : List (List ℕ)
core_keys = codes "name" ∷ codes "sched" ∷ codes "supply_period" ∷ codes "supply_budget" ∷ []

abbrev pub core_key_faults : Spot → List Data → Data → List SystemFault
core_key_faults spot earlier d =
    required spot (text_faults spot (new_name_faults spot earlier)) (get (codes "name") d) ++
    (required spot (text_faults spot (sched_faults spot)) (get (codes "sched") d) ++
    supply_faults spot (get (codes "supply_period") d) (get (codes "supply_budget") d))

abbrev pub core_faults : List Data → Data → List SystemFault
core_faults earlier d =
    table_faults (Core (length earlier)) core_keys
    (core_key_faults (Core (length earlier)) earlier d) d

-- A task of part q, the elements before it in `task` being given. Only format 2 lists jitter.
abbrev pub task_keys : Format → List (List ℕ)
task_keys One = codes "name" ∷ codes "period" ∷ codes "deadline" ∷ codes "work" ∷ []
task_keys Two =
    codes "name" ∷ codes "period" ∷ codes "deadline" ∷ codes "jitter" ∷ codes "work" ∷ []

abbrev pub task_number_faults : Spot → Data → List SystemFault
task_number_faults spot d =
    required spot (range_faults spot LIMIT) (get (codes "period") d) ++
    (optional (range_faults spot (number_of (get (codes "period") d))) (get (codes "deadline") d) ++
    (optional (below_faults spot (deadline_of d)) (get (codes "jitter") d) ++
    required spot (range_faults spot (room_of (spelled_task d).task)) (get (codes "work") d)))

abbrev pub task_key_faults : Spot → List Data → Data → List SystemFault
task_key_faults spot earlier d =
    required spot (text_faults spot (new_name_faults spot earlier)) (get (codes "name") d)
    ++ task_number_faults spot d

abbrev pub task_faults : Format → ℕ → List Data → Data → List SystemFault
task_faults format q earlier d =
    table_faults (Task q (length earlier)) (task_keys format)
    (task_key_faults (Task q (length earlier)) earlier d) d

-- A part, the cores and the elements before it in `part` being given.
abbrev pub part_keys : List (List ℕ)
part_keys =
    codes "name" ∷ codes "parent" ∷ codes "sched" ∷ codes "period" ∷ codes "budget" ∷
    codes "extra" ∷ codes "task" ∷ []

abbrev pub server_faults : Spot → Data → List SystemFault
server_faults spot d =
    required spot (range_faults spot LIMIT) (get (codes "period") d) ++
    (optional (range_faults spot (number_of (get (codes "period") d))) (get (codes "budget") d) ++
    (optional (flag_faults spot) (get (codes "extra") d) ++
    optional (array_faults spot 256) (get (codes "task") d)))

abbrev pub part_key_faults : Spot → List Data → List Data → Data → List SystemFault
part_key_faults spot cores earlier d =
    required spot (text_faults spot (new_name_faults spot (cores ++ earlier)))
    (get (codes "name") d) ++
    (required spot (text_faults spot (parent_faults spot cores earlier)) (get (codes "parent") d) ++
    (required spot (text_faults spot (sched_faults spot)) (get (codes "sched") d) ++
    server_faults spot d))

abbrev pub part_faults : Format → List Data → List Data → Data → List SystemFault
part_faults format cores earlier d =
    table_faults (Part (length earlier)) part_keys
    (part_key_faults (Part (length earlier)) cores earlier d ++
    in_order (task_faults format (length earlier)) [] (tasks_of d)) d

-- whether a part is the parent of one of the parts
abbrev pub is_parent : List Data → Data → Bool
is_parent parts d =
    list_any (λ child. is_text (text_of (get (codes "name") d)) (get (codes "parent") child)) parts

-- a part with neither tasks nor children
abbrev pub empty_faults : List Data → List Data → Data → List SystemFault
empty_faults parts earlier d =
    fault_if (not (has_tasks d) && not (is_parent parts d)) (Empty (Part (length earlier)))

-- The top table.
abbrev pub top_keys : List (List ℕ)
top_keys = codes "format" ∷ codes "core" ∷ codes "part" ∷ []

abbrev pub top_faults : Data → List SystemFault
top_faults top =
    table_faults Top top_keys
    (required Top format_faults (get (codes "format") top) ++
    (required Top core_array_faults (get (codes "core") top) ++
    optional (array_faults Top 512) (get (codes "part") top))) top

-- All faults of a document: of the top table, of each core, of each part with its tasks, and then
-- the empty parts.
abbrev pub faults : Data → List SystemFault
faults top =
    top_faults top ++
    (in_order core_faults [] (cores_of top) ++
    (in_order (part_faults (format_of top) (cores_of top)) [] (parts_of top) ++
    in_order (empty_faults (parts_of top)) [] (parts_of top)))
