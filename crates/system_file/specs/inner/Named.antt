-- The names of a system that is printed.
use Rattle.std.specs.Prelude.{◌≡◌, true, List, All}
use Rattle.slot_model.specs.Name.{is_name}
use Rattle.tree_model.specs.declared.pinned_core.Core.{Core as CoreView}
use Rattle.tree_model.specs.View.{NamedTask, PartView}

-- all names of a system are names
abbrev pub TasksAreNamed : List NamedTask → Type 0
TasksAreNamed tasks = All (λ t. is_name t.name ≡ true) tasks

pub record IsPartNamed (part : PartView) : Type 0 where
  pub name : is_name part.name ≡ true
  pub tasks : TasksAreNamed part.tasks

abbrev pub CoresAreNamed : List CoreView → Type 0
CoresAreNamed cores = All (λ c. is_name c.name ≡ true) cores

abbrev pub PartsAreNamed : List PartView → Type 0
PartsAreNamed parts = All IsPartNamed parts
