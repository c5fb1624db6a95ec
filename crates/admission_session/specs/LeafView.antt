-- What a leaf says of itself, as contracts see it.
use Rattle.std.specs.Prelude.{ℕ, List, Option}
use Rattle.slot_model.specs.declared.sched.Sched.{Sched}
use Rattle.tree_model.specs.View.{NamedTask}

pub record LeafView : Type 0 where
  pub name : List ℕ
  pub sched : Sched
  pub period : ℕ
  pub budget : Option ℕ
  pub tasks : List NamedTask
