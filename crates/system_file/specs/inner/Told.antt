-- What the lines of a task tell of it while they are read by their known keys.
use Rattle.std.specs.Prelude.{◌≡◌, ℕ, pos, true, List, [], ◌∷◌, codes, Option, Some, None, option_map}
use Rattle.std.specs.List.{AllByRecursion}
use Rattle.std.specs.Borrow.{Bor}
use Rattle.slot_model.specs.Task.{SporadicTask}
use Rattle.toml.specs.Data.{Data, string, integer, table, Members, get_member}
use Rattle.toml.specs.Tables.{key_value}
use Rattle.toml.specs.Parse.{line}
use Rattle.toml_items.specs.Plain.{insert_member, ReadsTable}
use Rattle.system_file.specs.declared.format.Format.{Format}
use Rattle.system_file.specs.declared.told.Told.{Told}
use Rattle.system_file.specs.Document.{spelled_task}
use Rattle.system_file.specs.Faults.{has_only, task_keys}
use Rattle.system_file.specs.Written.{IsWhole, There, MayBe}

-- the data of a number and of a text
abbrev pub of_number : ℕ → Data
of_number n = integer (pos n)

abbrev pub of_text : Bor (List ℕ) → Data
of_text s = string s.now

-- What is told of a task, key by key.
abbrev pub told_at : Told → List (List ℕ × Option Data)
told_at told =
    (codes "name", option_map of_text told.name) ∷
    (codes "period", option_map of_number told.period) ∷
    (codes "deadline", option_map of_number told.deadline) ∷
    (codes "jitter", option_map of_number told.jitter) ∷
    (codes "work", option_map of_number told.work) ∷ []

-- At its key stands what is told.
abbrev pub Stands : Members → List ℕ × Option Data → Type 0
Stands members told = get_member told.0 members ≡ told.1

-- The members of a table hold what is told of a task, and nothing else.
pub record Tells (format : Format) (told : Told) (members : Members) : Type 0 where
  pub held : AllByRecursion (Stands members) (told_at told)
  pub only : has_only (task_keys format) members ≡ true

-- From behind a header on, up to a later text, stand lines that tell this.
pub record TellsLines (format : Format) (path : List (List ℕ)) (text : List ℕ) (told : Told)
    (rest : List ℕ) : Type 0 where
  pub members : Members
  pub reads : ReadsTable path text members rest
  pub tells : Tells format told members

-- A text begins with the line of this key, of which nothing was told, and its value is told now.
pub record TellsFirst {A : Type 0} (data_of : A → Data) (key : List ℕ) (before after : Option A)
    (text rest : List ℕ) : Type 0 where
  pub untold : before ≡ None
  pub value : A
  pub told : after ≡ Some value
  pub line : line text ≡ Some ((([], key), key_value (data_of value)), rest)

-- A text begins with a line that tells one thing more, of which nothing was told.
pub record TellsMore (format : Format) (before after : Told) (text rest : List ℕ) : Type 0 where
  pub key : List ℕ
  pub value : Data
  pub line : line text ≡ Some ((([], key), key_value value), rest)
  pub adds : (members : Members) → Tells format before members →
      (get_member key members ≡ None) × Tells format after (insert_member key value members)

-- From behind a header on, up to a later text, stand lines of a task that give it this name and
-- these numbers, each a number of its kind.
pub record TellsTask (format : Format) (path : List (List ℕ)) (text name : List ℕ)
    (task : SporadicTask) (rest : List ℕ) : Type 0 where
  pub members : Members
  pub reads : ReadsTable path text members rest
  pub only : has_only (task_keys format) members ≡ true
  pub named : get_member (codes "name") members ≡ Some (string name)
  pub period : There IsWhole (get_member (codes "period") members)
  pub deadline : MayBe IsWhole (get_member (codes "deadline") members)
  pub jitter : MayBe IsWhole (get_member (codes "jitter") members)
  pub work : There IsWhole (get_member (codes "work") members)
  pub numbers : (spelled_task (table members)).task ≡ task
