-- What one core, one task and one part keep where they have no fault.
use Rattle.std.proofs.Common.{◌≡◌, ℕ, ◌+◌, ◌-◌, ◌<◌, ◌≤◌, suc, zero, Bool, true, false, List, [], ◌∷◌, ◌++◌, map, length, take, get_or, Option, Some, None, refl, sym, ap, subst, ◌∙◌, codes, arith, append_assoc, length-take-le}
use Rattle.std.proofs.lemmas.List.{append-nil, get_or-map, get_or-take}
use Rattle.std.proofs.lemmas.Slice.Eq.{bytes_eq-Decides}
use Rattle.std.proofs.lemmas.Bool.{false≢true}
use Rattle.std.specs.List.{list_any}
use Rattle.slot_model.specs.Task.{default_task, room_of, SporadicTask, IsConstrained, task_at}
use Rattle.slot_model.specs.declared.task.TheConstants.{LIMIT}
use Rattle.toml.specs.Data.{Data, string, boolean, get}
use Rattle.tree_model.specs.declared.place.Parent.{Parent}
use Rattle.tree_model.specs.declared.place.Parent.TheVariants.{Core as on_core, Part as on_part}
use Rattle.tree_model.specs.View.{NamedTask}
use Rattle.tree_model.specs.System.{IsPart, IsCoreSupply, AreDistinct, own_tasks}
use Rattle.tree_model.proofs.Lists.{length_map, none_left, none_right}
use Rattle.system_file.specs.declared.format.Format.{Format}
use Rattle.system_file.specs.declared.fault.Spot.{Spot}
use Rattle.system_file.specs.declared.fault.Spot.TheVariants.{Core, Part, Task}
use Rattle.system_file.specs.declared.fault.SystemFault.{SystemFault}
use Rattle.system_file.specs.Document.{text_of, number_of, is_text, is_named, parent_named, spelled_core, spelled_task, spelled_part, tasks_of, deadline_of}
use Rattle.system_file.specs.Faults.{in_order, core_faults, core_keys, core_key_faults, task_faults, task_keys, task_key_faults, task_number_faults, part_faults, part_keys, part_key_faults, is_parent_faults, parent_faults, has_tasks, server_faults, required, optional, text_faults, new_name_faults, sched_faults, range_faults, below_faults, flag_faults}
use Rattle.system_file.proofs.Faultless.{not_wrong, table_inside, text_there, NewName, new_name_there, required_number, optional_number, number_or, below_there, supply_there, few_there}

-- no element of an array has a fault
pub each : (at_element : List Data → Data → List SystemFault) (earlier ds : List Data) (i : ℕ) (e : Data)
    → i < length ds → in_order at_element earlier ds ≡ [] → at_element (earlier ++ take i ds) (get_or ds i e) ≡ []
each f earlier [] i e h none = absurd (omega arith)
each f earlier (d ∷ ds) zero e h none = ap (λ xs. f xs d) (append-nil earlier) ∙ none_left (f earlier d) _ none
each f earlier (d ∷ ds) (suc i) e h none =
    ap (λ xs. f xs (get_or ds i e)) (sym (append_assoc earlier (d ∷ []) (take i ds)))
    ∙ each f (earlier ++ d ∷ []) ds i e (omega arith) (none_right (f earlier d) _ none)

-- where no element passes, the element at a place does not
pub none_at : {A : Type 0} (p : A → Bool) (xs : List A) (i : ℕ) (e : A) → i < length xs → list_any p xs ≡ false
    → p (get_or xs i e) ≡ false
none_at p [] i e h none = absurd (omega arith)
none_at p (x ∷ xs) zero e h none = grind arith
none_at p (x ∷ xs) (suc i) e h none =
    let rest : list_any p xs ≡ false = grind arith in none_at p xs i e (omega arith) rest

-- elements whose names are new one after the other have different names
pub distinct : (ds : List Data) → ((j : ℕ) → j < length ds → NewName (take j ds) (get_or ds j (boolean false)))
    → AreDistinct (map (λ d. text_of (get (codes "name") d)) ds)
distinct ds new = λ i j d before within same.
    let few : j < length ds = rw (length_map (λ (x : Data). text_of (get (codes "name") x)) ds) at within in
    let this = new j few in
    let other = new i (omega arith) in
    let name_i : get_or (map (λ (x : Data). text_of (get (codes "name") x)) ds) i d ≡ other.name
    = get_or-map (λ (x : Data). text_of (get (codes "name") x)) ds i (boolean false) d (omega arith)
    ∙ ap text_of other.is in
    let name_j : get_or (map (λ (x : Data). text_of (get (codes "name") x)) ds) j d ≡ this.name
    = get_or-map (λ (x : Data). text_of (get (codes "name") x)) ds j (boolean false) d few ∙ ap text_of this.is in
    let apart : is_named this.name (get_or ds i (boolean false)) ≡ false =
    ap (is_named this.name) (sym (get_or-take j ds i (boolean false) before))
    ∙ none_at (is_named this.name) (take j ds) i (boolean false) (taken_length j ds i before few) this.new in
    let alike : is_named this.name (get_or ds i (boolean false)) ≡ true =
    ap (is_text this.name) other.is ∙ (bytes_eq-Decides this.name other.name).1 (sym name_j ∙ sym same ∙ name_i) in
    false≢true (sym apart ∙ alike)
  where
    taken_length : (j : ℕ) (xs : List Data) (i : ℕ) → i < j → j < length xs → i < length (take j xs)
    taken_length j xs i h k = rw (length-take-le j xs (omega arith)) h

pub core_name : (earlier : List Data) (d : Data) → core_faults earlier d ≡ [] → NewName earlier d
core_name earlier d h =
    new_name_there (Core (length earlier)) earlier d
    (none_left _ _ (table_inside _ core_keys (core_key_faults (Core (length earlier)) earlier d) d h))

pub core_supply : (earlier : List Data) (d : Data) → core_faults earlier d ≡ [] → IsCoreSupply (spelled_core d).supply
core_supply earlier d h =
    supply_there (Core (length earlier)) _ _
    (none_right _ _ (none_right _ _ (table_inside _ core_keys (core_key_faults (Core (length earlier)) earlier d) d h)))

pub task_name : (format : Format) (q : ℕ) (earlier : List Data) (d : Data) → task_faults format q earlier d ≡ []
    → NewName earlier d
task_name format q earlier d h =
    new_name_there (Task q (length earlier)) earlier d
    (none_left _ _ (table_inside _ (task_keys format) (task_key_faults (Task q (length earlier)) earlier d) d h))

-- work in the room that the jitter leaves fits before the deadline
in_room : (work jitter deadline : ℕ) → work ≤ deadline - jitter → jitter < deadline → work + jitter ≤ deadline
in_room work jitter deadline room below = omega arith

pub task_numbers : (format : Format) (q : ℕ) (earlier : List Data) (d : Data) → task_faults format q earlier d ≡ []
    → IsConstrained (spelled_task d).task × ((spelled_task d).task.period ≤ LIMIT)
task_numbers format q earlier d h =
    let spot = Task q (length earlier) in
    let numbers : task_number_faults (Task q (length earlier)) d ≡ []
    = none_right _ _
    (table_inside _ (task_keys format) (task_key_faults (Task q (length earlier)) earlier d) d h) in
    let period = required_number spot LIMIT (get (codes "period") d) (none_left _ _ numbers) in
    let after_period = none_right (required spot (range_faults spot LIMIT) (get (codes "period") d)) _ numbers in
    let deadline
    = number_or spot (number_of (get (codes "period") d)) (get (codes "deadline") d) period.0
    (none_left _ _ after_period) in
    let after_deadline
    = none_right (optional (range_faults spot (number_of (get (codes "period") d))) (get (codes "deadline") d)) _
    after_period in
    let jitter : number_of (get (codes "jitter") d) < deadline_of d
    = below_there spot (deadline_of d) (get (codes "jitter") d) deadline.0 (none_left _ _ after_deadline) in
    let work
    = required_number spot (room_of (spelled_task d).task) (get (codes "work") d)
    (none_right (optional (below_faults spot (deadline_of d)) (get (codes "jitter") d)) _ after_deadline) in
    (record { works = work.0; in_deadline = in_room _ _ _ work.1 jitter; in_period = deadline.1 }, period.1)

-- a part's parent: a core, or an earlier part without tasks
pub record ParentThere (cores earlier : List Data) (d : Data) : Type 0 where
  pub text : List ℕ
  pub is : get (codes "parent") d ≡ Some (string text)
  pub parent : Parent
  pub found : parent_named cores earlier text ≡ Some parent
  pub inner : (r : ℕ) → parent ≡ on_part r → has_tasks (get_or earlier r (boolean false)) ≡ false

fits_parent : (spot : Spot) (earlier : List Data) (o : Option Parent) → is_parent_faults spot earlier o ≡ []
    → (parent : Parent) × (o ≡ Some parent)
    × ((r : ℕ) → parent ≡ on_part r → has_tasks (get_or earlier r (boolean false)) ≡ false)
fits_parent spot earlier None h = cc
fits_parent spot earlier (Some (on_core c)) h = (on_core c, refl, λ r e. cc)
fits_parent spot earlier (Some (on_part k)) h = (
  on_part k,
  refl,
  λ r e. let same : k ≡ r = cc in ap (λ n. has_tasks (get_or earlier n (boolean false))) (sym same) ∙ not_wrong _ _ h,
)

pub part_keys_none : (format : Format) (cores earlier : List Data) (d : Data) → part_faults format cores earlier d ≡ []
    → part_key_faults (Part (length earlier)) cores earlier d ≡ []
part_keys_none format cores earlier d h =
    none_left _ _ (table_inside (Part (length earlier)) part_keys (part_key_faults (Part (length earlier)) cores earlier
    d ++ in_order (task_faults format (length earlier)) [] (tasks_of d)) d h)

pub part_name : (format : Format) (cores earlier : List Data) (d : Data) → part_faults format cores earlier d ≡ []
    → NewName (cores ++ earlier) d
part_name format cores earlier d h =
    new_name_there (Part (length earlier)) (cores ++ earlier) d
    (none_left _ _ (part_keys_none format cores earlier d h))

pub part_parent : (format : Format) (cores earlier : List Data) (d : Data) → part_faults format cores earlier d ≡ []
    → ParentThere cores earlier d
part_parent format cores earlier d h =
    let t
    = text_there (Part (length earlier)) (parent_faults (Part (length earlier)) cores earlier)
    (get (codes "parent") d) (none_left _ _ (none_right _ _ (part_keys_none format cores earlier d h))) in
    let p = fits_parent (Part (length earlier)) earlier (parent_named cores earlier t.text) t.none in
    record { text = t.text; is = t.is; parent = p.0; found = p.1; inner = p.2 }

pub part_server : (format : Format) (cores earlier : List Data) (d : Data) → part_faults format cores earlier d ≡ []
    → server_faults (Part (length earlier)) d ≡ []
part_server format cores earlier d h =
    let spot = Part (length earlier) in
    none_right (required spot (text_faults spot (sched_faults spot)) (get (codes "sched") d)) _
    (none_right (required spot (text_faults spot (parent_faults spot cores earlier)) (get (codes "parent") d)) _
    (none_right (required spot (text_faults spot (new_name_faults spot (cores ++ earlier))) (get (codes "name") d)) _
    (part_keys_none format cores earlier d h)))

-- the names of spelled tasks
pub task_names : (ds : List Data)
    → map (λ (t : NamedTask). t.name) (map spelled_task ds) ≡ map (λ d. text_of (get (codes "name") d)) ds
task_names [] = refl
task_names (d ∷ ds) = ap (λ ns. text_of (get (codes "name") d) ∷ ns) (task_names ds)

-- a part's numbers and tasks are as a system asks
pub part_is : (format : Format) (cores all earlier : List Data) (d : Data) → part_faults format cores earlier d ≡ []
    → IsPart (spelled_part cores all d)
part_is format cores all earlier d h =
    let spot = Part (length earlier) in
    let numbers = part_server format cores earlier d h in
    let in_tasks : in_order (task_faults format (length earlier)) [] (tasks_of d) ≡ [] =
    none_right (part_key_faults (Part (length earlier)) cores earlier d) _
    (table_inside (Part (length earlier)) part_keys (part_key_faults (Part (length earlier)) cores earlier d
    ++ in_order (task_faults format (length earlier)) [] (tasks_of d)) d h) in
    record {
      period = required_number spot LIMIT (get (codes "period") d) (none_left _ _ numbers);
      budget =
          optional_number spot (number_of (get (codes "period") d)) (get (codes "budget") d)
          (none_left _ _ (none_right (required spot (range_faults spot LIMIT) (get (codes "period") d)) _ numbers));
      few_tasks = rw (length_map spelled_task (tasks_of d)) (few_there spot 256 (get (codes "task") d)
          (none_right (optional (flag_faults spot) (get (codes "extra") d)) _
          (none_right (optional (range_faults spot (number_of (get (codes "period") d))) (get (codes "budget") d)) _
          (none_right (required spot (range_faults spot LIMIT) (get (codes "period") d)) _ numbers))));
      tasks = λ i within.
          let few : i < length (tasks_of d) = rw (length_map spelled_task (tasks_of d)) at within in
          let same : task_at (own_tasks (spelled_part cores all d)) i
          ≡ (spelled_task (get_or (tasks_of d) i (boolean false))).task
          =
          get_or-map (λ (t : NamedTask). t.task) (map spelled_task (tasks_of d)) i (spelled_task (boolean false))
          default_task within
          ∙ ap (λ (t : NamedTask). t.task)
          (get_or-map spelled_task (tasks_of d) i (boolean false) (spelled_task (boolean false)) few) in
          let is : SporadicTask → Type 0 = λ t. IsConstrained t × (t.period ≤ LIMIT) in
          subst is (sym same) (task_numbers format (length earlier) (take i (tasks_of d))
          (get_or (tasks_of d) i (boolean false))
          (each (task_faults format (length earlier)) [] (tasks_of d) i (boolean false) few in_tasks));
      task_names = subst AreDistinct (sym (task_names (tasks_of d)))
          (distinct (tasks_of d) (λ j few. task_name format (length earlier) (take j (tasks_of d))
          (get_or (tasks_of d) j (boolean false))
          (each (task_faults format (length earlier)) [] (tasks_of d) j (boolean false) few in_tasks)));
    }
