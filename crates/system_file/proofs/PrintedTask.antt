-- A printed task is written by the rules, and spells the task.
use Rattle.std.proofs.Common.{◌≡◌, ℕ, ◌==◌, Bool, true, false, not, List, Some, None, codes, refl, sym, ap, ◌∙◌, subst, arith}
use Rattle.std.specs.Prelude.{unwrap_or}
use Rattle.std.proofs.lemmas.Bool.{eqb-true}
use Rattle.slot_model.specs.Name.{is_name}
use Rattle.toml.specs.Data.{string, Members, no_members, get, get_member, same_key}
use Rattle.tree_model.specs.View.{NamedTask}
use Rattle.system_file.specs.declared.format.Format.{Format}
use Rattle.system_file.specs.declared.format.Format.TheVariants.{One, Two}
use Rattle.system_file.specs.Document.{number_of, given_number, spelled_task}
use Rattle.system_file.specs.Faults.{has_only, task_keys}
use Rattle.system_file.specs.SystemFile.{has_jitter}
use Rattle.system_file.specs.Written.{IsWhole, MayBe, IsWrittenTask}
use Rattle.toml_items.specs.Plain.{insert_member}
use Rattle.system_file.specs.Printed.{with_some, number, other_number, task_members, printed_task}
use Rattle.system_file.proofs.PrintedMembers.{other_key, own_key, listed_key}
use Rattle.system_file.proofs.PrintedKeys.{number_written, other_written}

-- what is always written, and with the deadline
abbrev pub fixed_members : NamedTask → Members
fixed_members t =
    insert_member (codes "work") (number t.task.work)
    (insert_member (codes "period") (number t.task.period) (insert_member (codes "name") (string t.name) no_members))

abbrev pub due_members : NamedTask → Members
due_members t = with_some (codes "deadline") (other_number t.task.period t.task.deadline) (fixed_members t)

-- the keys of a task: those that are always there, and the two that may be left out
always : (k : List ℕ) (t : NamedTask) → same_key k (codes "jitter") ≡ false → same_key k (codes "deadline") ≡ false
    → get k (printed_task t) ≡ get_member k (fixed_members t)
always k t jitter deadline =
    other_key k (codes "jitter") (other_number 0 t.task.jitter) (due_members t) jitter
    ∙ other_key k (codes "deadline") (other_number t.task.period t.task.deadline) (fixed_members t) deadline

task_name : (t : NamedTask) → get (codes "name") (printed_task t) ≡ Some (string t.name)
task_name t = always (codes "name") t refl refl

task_period : (t : NamedTask) → get (codes "period") (printed_task t) ≡ Some (number t.task.period)
task_period t = always (codes "period") t refl refl

task_work : (t : NamedTask) → get (codes "work") (printed_task t) ≡ Some (number t.task.work)
task_work t = always (codes "work") t refl refl

task_deadline : (t : NamedTask) → get (codes "deadline") (printed_task t) ≡ other_number t.task.period t.task.deadline
task_deadline t =
    other_key (codes "deadline") (codes "jitter") (other_number 0 t.task.jitter) (due_members t) refl
    ∙ own_key (codes "deadline") (other_number t.task.period t.task.deadline) (fixed_members t) refl

task_jitter : (t : NamedTask) → get (codes "jitter") (printed_task t) ≡ other_number 0 t.task.jitter
task_jitter t =
    own_key (codes "jitter") (other_number 0 t.task.jitter) (due_members t)
    (other_key (codes "jitter") (codes "deadline") (other_number t.task.period t.task.deadline) (fixed_members t) refl)

-- a number that may be left out is read back
given_back : (usual n : ℕ) → unwrap_or (given_number (other_number usual n)) usual ≡ n
given_back usual n = by (n == usual) refl
  where
    by : (b : Bool) → (n == usual) ≡ b → unwrap_or (given_number (other_number usual n)) usual ≡ n
    by true same = rw same (sym (eqb-true n usual same))
    by false other = rw other

number_back : (n : ℕ) → number_of (other_number 0 n) ≡ n
number_back n = by (n == 0) refl
  where
    by : (b : Bool) → (n == 0) ≡ b → number_of (other_number 0 n) ≡ n
    by true same = rw same (sym (eqb-true n 0 same))
    by false other = rw other

pub task_spelled : (t : NamedTask) → spelled_task (printed_task t) ≡ t
task_spelled t =
    rw (task_name t, task_period t, task_work t, task_deadline t, task_jitter t)
    (rw (given_back t.task.period t.task.deadline, number_back t.task.jitter))

-- a format in which the jitter can be told
abbrev pub Tells : Format → NamedTask → Type 0
Tells One t = has_jitter t ≡ false
Tells Two t = Unit {0}

task_listed : (format : Format) (t : NamedTask) → Tells format t → has_only (task_keys format) (task_members t) ≡ true
task_listed One t none =
    ap (λ jitter. has_only (task_keys One) (with_some (codes "jitter") jitter (due_members t)))
    (left_out t.task.jitter none)
    ∙ listed_key (task_keys One) (codes "deadline") (other_number t.task.period t.task.deadline) (fixed_members t)
    refl refl
  where
    left_out : (n : ℕ) → not (n == 0) ≡ false → other_number 0 n ≡ None
    left_out n e = let zero : (n == 0) ≡ true = grind arith in rw zero
task_listed Two t told =
    listed_key (task_keys Two) (codes "jitter") (other_number 0 t.task.jitter) (due_members t) refl
    (listed_key (task_keys Two) (codes "deadline") (other_number t.task.period t.task.deadline) (fixed_members t)
    refl refl)

pub task_written : (format : Format) (t : NamedTask) → Tells format t → is_name t.name ≡ true
    → IsWrittenTask format (printed_task t)
task_written format t tells named = record {
  keys = record { members = task_members t; is = refl; only = task_listed format t tells };
  name = record { name = t.name; is = task_name t; valid = named };
  period = number_written _ t.task.period (task_period t);
  deadline = subst (MayBe IsWhole) (sym (task_deadline t)) (other_written t.task.period t.task.deadline);
  jitter = subst (MayBe IsWhole) (sym (task_jitter t)) (other_written 0 t.task.jitter);
  work = number_written _ t.task.work (task_work t);
}
