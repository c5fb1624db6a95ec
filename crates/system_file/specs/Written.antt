-- A document that is written by the rules of the file: a format that there is, only listed keys,
-- each value of its kind, names that are names, schedulers that are listed, and parents that are
-- there. What ranges, places and different names have to do with it, the system says that it
-- spells.
use Rattle.std.specs.Prelude.{◌≡◌, ℕ, ◌<◌, ℤ, pos, Bool, true, false, List, length, slice_index_or, codes, Option, Some, None, is_none}
use Rattle.slot_model.specs.Name.{is_name}
use Rattle.toml.specs.Data.{Data, string, integer, boolean, array, table, Items, Members, get}
use Rattle.tree_model.specs.declared.place.Parent.{Parent}
use Rattle.tree_model.specs.View.{SystemView}
use Rattle.tree_model.specs.System.{IsSystem}
use Rattle.system_file.specs.declared.format.Format.{Format}
use Rattle.system_file.specs.Document.{format_numbered, format_of, sched_named, parent_named, cores_of, parts_of, tasks_of, spelled_system}
use Rattle.system_file.specs.Faults.{has_only, top_keys, core_keys, part_keys, task_keys}
use Rattle.system_file.specs.SystemFile.{document_of}

-- a table whose keys are all listed
pub record IsTableOf (listed : List (List ℕ)) (d : Data) : Type 0 where
  pub members : Members
  pub is : d ≡ table members
  pub only : has_only listed members ≡ true

-- the kinds of values
pub record IsFormatNumber (o : Option Data) : Type 0 where
  pub number : ℤ
  pub is : o ≡ Some (integer number)
  pub listed : is_none (format_numbered number) ≡ false

pub record IsNameText (o : Option Data) : Type 0 where
  pub name : List ℕ
  pub is : o ≡ Some (string name)
  pub valid : is_name name ≡ true

pub record IsSchedText (o : Option Data) : Type 0 where
  pub text : List ℕ
  pub is : o ≡ Some (string text)
  pub listed : is_none (sched_named text) ≡ false

pub record IsParentText (cores parts : List Data) (o : Option Data) : Type 0 where
  pub text : List ℕ
  pub is : o ≡ Some (string text)
  pub parent : Parent
  pub named : parent_named cores parts text ≡ Some parent

abbrev pub IsWhole : Data → Type 0
IsWhole d = (n : ℕ) × (d ≡ integer (pos n))

abbrev pub IsFlag : Data → Type 0
IsFlag d = (b : Bool) × (d ≡ boolean b)

abbrev pub IsArray : Data → Type 0
IsArray d = (ds : Items) × (d ≡ array ds)

-- a value that has to be there, and one that may be left out
abbrev pub There : (Data → Type 0) → Option Data → Type 0
There Kind None = ⊥
There Kind (Some d) = Kind d

abbrev pub MayBe : (Data → Type 0) → Option Data → Type 0
MayBe Kind None = Unit {0}
MayBe Kind (Some d) = Kind d

-- both supply keys or neither
abbrev pub BothOrNeither : Option Data → Option Data → Type 0
BothOrNeither None None = Unit {0}
BothOrNeither (Some period) (Some budget) = IsWhole period × IsWhole budget
BothOrNeither _ _ = ⊥

-- the element at a place
abbrev pub element : List Data → ℕ → Data
element ds i = slice_index_or ds i (boolean false)

pub record IsWrittenTask (format : Format) (d : Data) : Type 0 where
  pub keys : IsTableOf (task_keys format) d
  pub name : IsNameText (get (codes "name") d)
  pub period : There IsWhole (get (codes "period") d)
  pub deadline : MayBe IsWhole (get (codes "deadline") d)
  pub jitter : MayBe IsWhole (get (codes "jitter") d)
  pub work : There IsWhole (get (codes "work") d)

pub record IsWrittenCore (d : Data) : Type 0 where
  pub keys : IsTableOf core_keys d
  pub name : IsNameText (get (codes "name") d)
  pub sched : IsSchedText (get (codes "sched") d)
  pub supply : BothOrNeither (get (codes "supply_period") d) (get (codes "supply_budget") d)

pub record IsWrittenPart (format : Format) (cores parts : List Data) (d : Data) : Type 0 where
  pub keys : IsTableOf part_keys d
  pub name : IsNameText (get (codes "name") d)
  pub parent : IsParentText cores parts (get (codes "parent") d)
  pub sched : IsSchedText (get (codes "sched") d)
  pub period : There IsWhole (get (codes "period") d)
  pub budget : MayBe IsWhole (get (codes "budget") d)
  pub extra : MayBe IsFlag (get (codes "extra") d)
  pub task : MayBe IsArray (get (codes "task") d)
  pub tasks : (i : ℕ) → i < length (tasks_of d) →
      IsWrittenTask format (element (tasks_of d) i)

pub record IsWritten (top : Data) : Type 0 where
  pub keys : IsTableOf top_keys top
  pub format : IsFormatNumber (get (codes "format") top)
  pub core : There IsArray (get (codes "core") top)
  pub part : MayBe IsArray (get (codes "part") top)
  pub cores : (c : ℕ) → c < length (cores_of top) → IsWrittenCore (element (cores_of top) c)
  pub parts : (q : ℕ) → q < length (parts_of top) →
      IsWrittenPart (format_of top) (cores_of top) (parts_of top) (element (parts_of top) q)

-- A file that spells a system: its document is written by the rules, and the system is the one of
-- that document.
pub record Spells (bytes : List ℕ) (sys : SystemView) : Type 0 where
  pub members : Members
  pub document : document_of bytes ≡ Some members
  pub written : IsWritten (table members)
  pub spelled : sys ≡ spelled_system (table members)
  pub system : IsSystem sys
