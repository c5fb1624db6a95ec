-- A printed part is written by the rules, and spells the part.
use Rattle.std.proofs.Common.{◌≡◌, ℕ, ◌<◌, Bool, true, false, List, [], ◌∷◌, map, length, get_or, Option, Some, None, codes, refl, sym, ap, ◌∙◌, subst}
use Rattle.toml.specs.Data.{Data, Members, boolean, string, get, get_member, same_key}
use Rattle.toml.specs.View.{items_of}
use Rattle.tree_model.specs.View.{NamedTask, PartView, SystemView}
use Rattle.system_file.specs.declared.format.Format.{Format}
use Rattle.system_file.specs.declared.format.Format.TheVariants.{One, Two}
use Rattle.system_file.specs.SystemFile.{has_jitter, part_has_jitter}
use Rattle.system_file.specs.Document.{array_of, flag_of, given_number, tasks_of, parent_named, spelled_task, spelled_part}
use Rattle.system_file.specs.Faults.{part_keys, has_only}
use Rattle.system_file.specs.Written.{IsWhole, IsFlag, IsArray, MayBe, element, IsWrittenTask, IsWrittenPart}
use Rattle.system_file.specs.Printed.{with_some, number, some_number, true_flag, some_array, sched_word, printed_task, server_members, part_members, printed_part, parent_name}
use Rattle.system_file.specs.inner.Named.{IsPartNamed}
use Rattle.system_file.proofs.Elements.{elements_back}
use Rattle.system_file.proofs.Rules.{none_at}
use Rattle.system_file.proofs.PrintedMembers.{other_key, own_key, listed_key}
use Rattle.system_file.proofs.PrintedKeys.{number_written, sched_written, sched_back}
use Rattle.system_file.proofs.PrintedTask.{Tells, task_spelled, task_written}
use Rattle.system_file.proofs.PrintedWalk.{all_spelled, each_printed}

pub array_back : (ds : List Data) → array_of (some_array ds) ≡ ds
array_back [] = refl
array_back (d ∷ ds) = elements_back (d ∷ ds)

pub array_written : (ds : List Data) → MayBe IsArray (some_array ds)
array_written [] = tt
array_written (d ∷ ds) = (items_of (d ∷ ds), refl)

number_given : (n : Option ℕ) → MayBe IsWhole (some_number n)
number_given None = tt
number_given (Some n) = (n, refl)

flag_given : (flag : Bool) → MayBe IsFlag (true_flag flag)
flag_given true = (true, refl)
flag_given false = tt

-- a format in which the jitter of its tasks can be told
abbrev pub PartTells : Format → PartView → Type 0
PartTells One part = part_has_jitter part ≡ false
PartTells Two part = Unit {0}

-- the default of a list of tasks
abbrev no_task : NamedTask
no_task = spelled_task (boolean false)

task_tells : (format : Format) (part : PartView) → PartTells format part → (i : ℕ) → i < length part.tasks
    → Tells format (get_or part.tasks i no_task)
task_tells One part none i h = none_at has_jitter part.tasks i no_task h none
task_tells Two part told i h = tt

module _ (sys : SystemView) (part : PartView) where
  -- the members that may be left out, behind those of the server
  abbrev pub with_budget : Members
  with_budget = with_some (codes "budget") (some_number part.budget) (server_members sys part)

  abbrev pub with_extra : Members
  with_extra = with_some (codes "extra") (true_flag part.extra) with_budget

  -- the keys of a part: those that are always there, and the three that may be left out
  always : (k : List ℕ) → same_key k (codes "task") ≡ false → same_key k (codes "extra") ≡ false
      → same_key k (codes "budget") ≡ false → get k (printed_part sys part) ≡ get_member k (server_members sys part)
  always k task extra budget =
      other_key k (codes "task") (some_array (map printed_task part.tasks)) with_extra task
      ∙ other_key k (codes "extra") (true_flag part.extra) with_budget extra
      ∙ other_key k (codes "budget") (some_number part.budget) (server_members sys part) budget

  pub part_name : get (codes "name") (printed_part sys part) ≡ Some (string part.name)
  part_name = always (codes "name") refl refl refl

  part_parent : get (codes "parent") (printed_part sys part) ≡ Some (string (parent_name sys part.parent))
  part_parent = always (codes "parent") refl refl refl

  part_sched : get (codes "sched") (printed_part sys part) ≡ Some (string (sched_word part.sched))
  part_sched = always (codes "sched") refl refl refl

  part_period : get (codes "period") (printed_part sys part) ≡ Some (number part.period)
  part_period = always (codes "period") refl refl refl

  part_budget : get (codes "budget") (printed_part sys part) ≡ some_number part.budget
  part_budget =
      other_key (codes "budget") (codes "task") (some_array (map printed_task part.tasks)) with_extra refl
      ∙ other_key (codes "budget") (codes "extra") (true_flag part.extra) with_budget refl
      ∙ own_key (codes "budget") (some_number part.budget) (server_members sys part) refl

  part_extra : get (codes "extra") (printed_part sys part) ≡ true_flag part.extra
  part_extra =
      other_key (codes "extra") (codes "task") (some_array (map printed_task part.tasks)) with_extra refl
      ∙ own_key (codes "extra") (true_flag part.extra) with_budget
      (other_key (codes "extra") (codes "budget") (some_number part.budget) (server_members sys part) refl)

  part_array : get (codes "task") (printed_part sys part) ≡ some_array (map printed_task part.tasks)
  part_array =
      own_key (codes "task") (some_array (map printed_task part.tasks)) with_extra
      (other_key (codes "task") (codes "extra") (true_flag part.extra) with_budget refl
      ∙ other_key (codes "task") (codes "budget") (some_number part.budget) (server_members sys part) refl)

  part_tasks : tasks_of (printed_part sys part) ≡ map printed_task part.tasks
  part_tasks = ap array_of part_array ∙ array_back (map printed_task part.tasks)

  -- every key is listed
  part_keys_listed : has_only part_keys (part_members sys part) ≡ true
  part_keys_listed =
      listed_key part_keys (codes "task") (some_array (map printed_task part.tasks)) with_extra refl
      (listed_key part_keys (codes "extra") (true_flag part.extra) with_budget refl
      (listed_key part_keys (codes "budget") (some_number part.budget) (server_members sys part) refl refl))

  pub part_written : (format : Format) (cores parts : List Data) → PartTells format part → IsPartNamed part
      → parent_named cores parts (parent_name sys part.parent) ≡ Some part.parent
      → IsWrittenPart format cores parts (printed_part sys part)
  part_written format cores parts tells named found = record {
    keys = record { members = part_members sys part; is = refl; only = part_keys_listed };
    name = record { name = part.name; is = part_name; valid = named.name };
    parent = record { text = parent_name sys part.parent; is = part_parent; parent = part.parent; named = found };
    sched = sched_written _ part.sched part_sched;
    period = number_written _ part.period part_period;
    budget = subst (MayBe IsWhole) (sym part_budget) (number_given part.budget);
    extra = subst (MayBe IsFlag) (sym part_extra) (flag_given part.extra);
    task = subst (MayBe IsArray) (sym part_array) (array_written (map printed_task part.tasks));
    tasks =
        subst (λ (ds : List Data). (i : ℕ) → i < length ds → IsWrittenTask format (element ds i)) (sym part_tasks)
        (each_printed (IsWrittenTask format) printed_task part.tasks no_task
        (λ i h. task_written format (get_or part.tasks i no_task) (task_tells format part tells i h)
        (named.tasks i no_task h)));
  }

tasks_back : (tasks : List NamedTask) → map spelled_task (map printed_task tasks) ≡ tasks
tasks_back tasks =
    all_spelled spelled_task printed_task tasks no_task (λ i h. task_spelled (get_or tasks i no_task))

budget_back : (budget : Option ℕ) → given_number (some_number budget) ≡ budget
budget_back None = refl
budget_back (Some n) = refl

flag_back : (flag : Bool) → flag_of (true_flag flag) ≡ flag
flag_back true = refl
flag_back false = refl

pub part_spelled : (sys : SystemView) (cores parts : List Data) (part : PartView)
    → parent_named cores parts (parent_name sys part.parent) ≡ Some part.parent
    → spelled_part cores parts (printed_part sys part) ≡ part
part_spelled sys cores parts part found =
    rw (
      part_name sys part,
      part_parent sys part,
      part_sched sys part,
      part_period sys part,
      part_budget sys part,
      part_extra sys part,
      part_tasks sys part,
    )
    (rw (found, sched_back part.sched, budget_back part.budget, flag_back part.extra, tasks_back part.tasks))
