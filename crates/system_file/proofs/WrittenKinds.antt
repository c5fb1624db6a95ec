-- A document without faults is written by the rules.
use Rattle.std.proofs.Common.{◌≡◌, ℕ, false, List, [], ◌++◌, length, take, drop, get_or, Option, Some, None, refl, subst, codes}
use Rattle.std.proofs.lemmas.List.{take-append-drop}
use Rattle.std.specs.List.{list_any}
use Rattle.slot_model.specs.Name.{is_name}
use Rattle.slot_model.specs.declared.task.TheConstants.{LIMIT}
use Rattle.slot_model.specs.Task.{room_of}
use Rattle.tree_model.proofs.Lists.{none_left, none_right}
use Rattle.toml.specs.Data.{Data, string, integer, float, boolean, datetime, array, table, get}
use Rattle.system_file.specs.declared.format.Format.{Format}
use Rattle.system_file.specs.declared.fault.Spot.{Spot}
use Rattle.system_file.specs.declared.fault.Spot.TheVariants.{Top, Core, Part, Task}
use Rattle.system_file.specs.declared.fault.SystemFault.{SystemFault}
use Rattle.system_file.specs.Document.{number_of, format_of, is_named, cores_of, parts_of, tasks_of, deadline_of, spelled_task}
use Rattle.system_file.specs.Faults.{required, optional, text_faults, new_name_faults, sched_faults, parent_faults, format_faults, range_faults, below_faults, flag_faults, array_faults, core_array_faults, in_order, core_keys, core_key_faults, core_faults, task_keys, task_key_faults, task_number_faults, task_faults, part_keys, part_key_faults, part_faults, top_keys, top_faults, faults}
use Rattle.system_file.specs.Written.{IsFormatNumber, IsNameText, IsSchedText, IsWhole, IsFlag, IsArray, There, MayBe, IsWrittenTask, IsWrittenCore, IsWrittenPart, IsWritten}
use Rattle.system_file.proofs.Places.{parent_kept}
use Rattle.system_file.proofs.Faultless.{not_wrong, table_there, table_inside, text_there, name_fits, whole_there, whole_below, supplies_there, array_there, cores_there}
use Rattle.system_file.proofs.Rules.{each, part_keys_none, part_server, part_parent}

name_text : (spot : Spot) (earlier : List Data) (o : Option Data)
    → required spot (text_faults spot (new_name_faults spot earlier)) o ≡ [] → IsNameText o
name_text spot earlier o h =
    let t = text_there spot (new_name_faults spot earlier) o h in
    record {
      name = t.text;
      is = t.is;
      valid = (name_fits spot (list_any (is_named t.text) earlier) (is_name t.text) t.none).0;
    }

sched_text : (spot : Spot) (o : Option Data) → required spot (text_faults spot (sched_faults spot)) o ≡ []
    → IsSchedText o
sched_text spot o h =
    let t = text_there spot (sched_faults spot) o h in
    record { text = t.text; is = t.is; listed = not_wrong _ _ t.none }

number_written : (spot : Spot) (highest : ℕ) (o : Option Data) → required spot (range_faults spot highest) o ≡ []
    → There IsWhole o
number_written spot highest None h = cc
number_written spot highest (Some d) h = (whole_there spot highest d h).0

-- a value that may be left out
maybe : (Kind : Data → Type 0) (at_value : Data → List SystemFault) → ((d : Data) → at_value d ≡ [] → Kind d)
    → (o : Option Data) → optional at_value o ≡ [] → MayBe Kind o
maybe Kind at_value each None h = tt
maybe Kind at_value each (Some d) h = each d h

maybe_whole : (spot : Spot) (highest : ℕ) (o : Option Data) → optional (range_faults spot highest) o ≡ []
    → MayBe IsWhole o
maybe_whole spot highest o h = maybe IsWhole (range_faults spot highest) (λ d e. (whole_there spot highest d e).0) o h

maybe_below : (spot : Spot) (bound : ℕ) (o : Option Data) → optional (below_faults spot bound) o ≡ [] → MayBe IsWhole o
maybe_below spot bound o h = maybe IsWhole (below_faults spot bound) (λ d e. (whole_below spot bound d e).0) o h

maybe_array : (spot : Spot) (most : ℕ) (o : Option Data) → optional (array_faults spot most) o ≡ [] → MayBe IsArray o
maybe_array spot most o h = maybe IsArray (array_faults spot most) (λ d e. (array_there spot most d e).0) o h

maybe_flag : (spot : Spot) (o : Option Data) → optional (flag_faults spot) o ≡ [] → MayBe IsFlag o
maybe_flag spot None h = tt
maybe_flag spot (Some (string s)) h = cc
maybe_flag spot (Some (integer z)) h = cc
maybe_flag spot (Some (float x)) h = cc
maybe_flag spot (Some (boolean b)) h = (b, refl)
maybe_flag spot (Some (datetime t)) h = cc
maybe_flag spot (Some (array ds)) h = cc
maybe_flag spot (Some (table m)) h = cc

format_there : (o : Option Data) → required Top format_faults o ≡ [] → IsFormatNumber o
format_there None h = cc
format_there (Some (string s)) h = cc
format_there (Some (integer z)) h = record { number = z; is = refl; listed = not_wrong _ _ h }
format_there (Some (float x)) h = cc
format_there (Some (boolean b)) h = cc
format_there (Some (datetime t)) h = cc
format_there (Some (array ds)) h = cc
format_there (Some (table m)) h = cc

task_written : (format : Format) (q : ℕ) (earlier : List Data) (d : Data) → task_faults format q earlier d ≡ []
    → IsWrittenTask format d
task_written format q earlier d h =
    let spot = Task q (length earlier) in
    let keys : task_key_faults (Task q (length earlier)) earlier d ≡ []
    = table_inside spot (task_keys format) (task_key_faults spot earlier d) d h in
    let numbers : task_number_faults (Task q (length earlier)) d ≡ [] = none_right _ _ keys in
    let after_period = none_right (required spot (range_faults spot LIMIT) (get (codes "period") d)) _ numbers in
    let after_deadline
    = none_right (optional (range_faults spot (number_of (get (codes "period") d))) (get (codes "deadline") d)) _
    after_period in
    let after_jitter
    = none_right (optional (below_faults spot (deadline_of d)) (get (codes "jitter") d)) _ after_deadline in
    record {
      keys = (table_there spot (task_keys format) (task_key_faults spot earlier d) d h).0;
      name = name_text spot earlier (get (codes "name") d) (none_left _ _ keys);
      period = number_written spot LIMIT (get (codes "period") d) (none_left _ _ numbers);
      deadline =
          maybe_whole spot (number_of (get (codes "period") d)) (get (codes "deadline") d) (none_left _ _ after_period);
      jitter = maybe_below spot (deadline_of d) (get (codes "jitter") d) (none_left _ _ after_deadline);
      work = number_written spot (room_of (spelled_task d).task) (get (codes "work") d) after_jitter;
    }

core_written : (earlier : List Data) (d : Data) → core_faults earlier d ≡ [] → IsWrittenCore d
core_written earlier d h =
    let spot = Core (length earlier) in
    let keys : core_key_faults (Core (length earlier)) earlier d ≡ []
    = table_inside spot core_keys (core_key_faults spot earlier d) d h in
    let more
    = none_right (required spot (text_faults spot (new_name_faults spot earlier)) (get (codes "name") d)) _ keys in
    record {
      keys = (table_there spot core_keys (core_key_faults spot earlier d) d h).0;
      name = name_text spot earlier (get (codes "name") d) (none_left _ _ keys);
      sched = sched_text spot (get (codes "sched") d) (none_left _ _ more);
      supply =
          (supplies_there spot (get (codes "supply_period") d) (get (codes "supply_budget") d)
          (none_right (required spot (text_faults spot (sched_faults spot)) (get (codes "sched") d)) _ more)).0;
    }

part_written : (format : Format) (cores earlier later : List Data) (d : Data) → part_faults format cores earlier d ≡ []
    → IsWrittenPart format cores (earlier ++ later) d
part_written format cores earlier later d h =
    let spot = Part (length earlier) in
    let at_keys
    = part_key_faults spot cores earlier d ++ in_order (task_faults format (length earlier)) [] (tasks_of d) in
    let keys = part_keys_none format cores earlier d h in
    let server = part_server format cores earlier d h in
    let in_tasks : in_order (task_faults format (length earlier)) [] (tasks_of d) ≡ []
    = none_right (part_key_faults spot cores earlier d) _ (table_inside spot part_keys at_keys d h) in
    let there = part_parent format cores earlier d h in
    let after_name
    = none_right (required spot (text_faults spot (new_name_faults spot (cores ++ earlier))) (get (codes "name") d))
    _ keys in
    let after_parent
    = none_right (required spot (text_faults spot (parent_faults spot cores earlier)) (get (codes "parent") d)) _
    after_name in
    let after_period = none_right (required spot (range_faults spot LIMIT) (get (codes "period") d)) _ server in
    let after_budget
    = none_right (optional (range_faults spot (number_of (get (codes "period") d))) (get (codes "budget") d)) _
    after_period in
    record {
      keys = (table_there spot part_keys at_keys d h).0;
      name = name_text spot (cores ++ earlier) (get (codes "name") d) (none_left _ _ keys);
      parent =
          record {
            text = there.text;
            is = there.is;
            parent = there.parent;
            named = parent_kept cores earlier later there.text there.parent there.found;
          };
      sched = sched_text spot (get (codes "sched") d) (none_left _ _ after_parent);
      period = number_written spot LIMIT (get (codes "period") d) (none_left _ _ server);
      budget =
          maybe_whole spot (number_of (get (codes "period") d)) (get (codes "budget") d) (none_left _ _ after_period);
      extra = maybe_flag spot (get (codes "extra") d) (none_left _ _ after_budget);
      task =
          maybe_array spot 256 (get (codes "task") d)
          (none_right (optional (flag_faults spot) (get (codes "extra") d)) _ after_budget);
      tasks =
          λ i few. task_written format (length earlier) (take i (tasks_of d)) (get_or (tasks_of d) i (boolean false))
          (each (task_faults format (length earlier)) [] (tasks_of d) i (boolean false) few in_tasks);
    }

pub faultless_is_written : (top : Data) → faults top ≡ [] → IsWritten top
faultless_is_written top h =
    let in_top : top_faults top ≡ [] = none_left _ _ h in
    let rest = none_right (top_faults top) _ h in
    let no_core : in_order core_faults [] (cores_of top) ≡ [] = none_left _ _ rest in
    let no_part : in_order (part_faults (format_of top) (cores_of top)) [] (parts_of top) ≡ []
    = none_left _ _ (none_right (in_order core_faults [] (cores_of top)) _ rest) in
    let at_keys
    = required Top format_faults (get (codes "format") top)
    ++ (required Top core_array_faults (get (codes "core") top)
    ++ optional (array_faults Top 512) (get (codes "part") top)) in
    let keys = table_inside Top top_keys at_keys top in_top in
    let arrays = none_right (required Top format_faults (get (codes "format") top)) _ keys in
    record {
      keys = (table_there Top top_keys at_keys top in_top).0;
      format = format_there (get (codes "format") top) (none_left _ _ keys);
      core = (cores_there (get (codes "core") top) (none_left _ _ arrays)).0;
      part =
          maybe_array Top 512 (get (codes "part") top)
          (none_right (required Top core_array_faults (get (codes "core") top)) _ arrays);
      cores =
          λ c few. core_written (take c (cores_of top)) (get_or (cores_of top) c (boolean false))
          (each core_faults [] (cores_of top) c (boolean false) few no_core);
      parts =
          λ q few. subst (λ (ps : List Data). IsWrittenPart (format_of top) (cores_of top) ps
          (get_or (parts_of top) q (boolean false))) (take-append-drop q (parts_of top))
          (part_written (format_of top) (cores_of top) (take q (parts_of top)) (drop q (parts_of top))
          (get_or (parts_of top) q (boolean false))
          (each (part_faults (format_of top) (cores_of top)) [] (parts_of top) q (boolean false) few no_part));
    }
