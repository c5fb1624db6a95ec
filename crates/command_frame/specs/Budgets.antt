-- The budgets that a command takes for the parts of a system, each as it is given or the least that
-- passes, tested at every node or not, and what is answered where a node refuses.
use Rattle.std.specs.Prelude.{◌≡◌, ◌⊎◌, ℕ, List}
use Rattle.slot_model.specs.declared.sched.Short.{Short}
use Rattle.tree_model.specs.declared.place.Place.{Place}
use Rattle.tree_model.specs.declared.plan.Refusal.{Refusal}
use Rattle.tree_model.specs.declared.plan.Refusal.TheVariants.{Overfull, Wide as TooWide, NoMemory as NoRefusal}
use Rattle.tree_model.specs.View.{SystemView}
use Rattle.tree_model.specs.Admission.{Admitted, FirstRefusal, Assigned, FirstUnassigned}
use Rattle.compose_tree.specs.Truth.{RefusalHolds}
use Rattle.rt_report.specs.Refusal.{refusal_text}
use Rattle.command_frame.specs.declared.status.Status.{Status}
use Rattle.command_frame.specs.declared.status.Status.TheVariants.{No, Wide, NoMemory}
use Rattle.command_frame.specs.Attempt.{Attempt, OnAttempt}

-- the status that answers a refusal
abbrev pub refusal_status : Refusal → Status
refusal_status (Overfull node short) = No
refusal_status (TooWide node) = Wide
refusal_status NoRefusal = NoMemory

-- budgets admit the system, or the first node that does not pass refuses
abbrev pub composing : SystemView → Attempt (List ℕ) Refusal
composing sys = record {
  Gives = Admitted sys;
  Refuses = FirstRefusal sys;
  status_of = refusal_status;
  text_of = refusal_text sys;
}

abbrev pub OnAdmitted
    : SystemView → (List ℕ → Status → List ℕ → Type 0) → Status → List ℕ → Type 0
OnAdmitted sys Says status text = OnAttempt (composing sys) Says status text

-- budgets are assigned, or the first part that has none refuses
abbrev pub assigning : SystemView → Attempt (List ℕ) Refusal
assigning sys = record {
  Gives = Assigned sys;
  Refuses = FirstUnassigned sys;
  status_of = refusal_status;
  text_of = refusal_text sys;
}

abbrev pub OnAssigned : SystemView → (List ℕ → Status → List ℕ → Type 0) → Status → List ℕ → Type 0
OnAssigned sys Says status text = OnAttempt (assigning sys) Says status text

-- no means: the refusal that the text tells is the first, of those that are asked for, and it
-- holds: a leaf that is refused must miss, over some supply, with each budget that it may have
pub record IsTrueNo (First : SystemView → Refusal → Type 0) (sys : SystemView)
    (text : List ℕ) : Type 0 where
  pub node : Place
  pub short : Short
  pub told : text ≡ refusal_text sys (Overfull node short)
  pub first : First sys (Overfull node short)
  pub holds : RefusalHolds sys (Overfull node short)

-- the first node of the whole system that does not pass
abbrev pub IsTrulyOverfull : SystemView → List ℕ → Type 0
IsTrulyOverfull sys text = IsTrueNo FirstRefusal sys text

-- where only budgets are asked for: the first part that has none
abbrev pub IsTrulyUnassigned : SystemView → List ℕ → Type 0
IsTrulyUnassigned sys text = IsTrueNo FirstUnassigned sys text

-- budgets are assigned to a system
pub record HasBudgets (sys : SystemView) : Type 0 where
  pub budgets : List ℕ
  pub assigned : Assigned sys budgets

-- budgets are assigned, or the text tells the first part that has none
abbrev pub AssignedOrNone : SystemView → List ℕ → Type 0
AssignedOrNone sys text = HasBudgets sys ⊎ IsTrulyUnassigned sys text
