-- The leaf of a name: what is said of it is one, and which statuses it has.
use Rattle.std.proofs.Common.{ℕ, List, refl, inl, inr}
use Rattle.tree_model.specs.View.{SystemView}
use Rattle.tree_model.specs.System.{IsSystem}
use Rattle.tree_model.specs.NamedLeaf.{IsLeafNamed}
use Rattle.tree_model.proofs.NamedLeaf.{one_leaf}
use Rattle.command_frame.specs.declared.status.Status.{Status}
use Rattle.command_frame.specs.declared.answer.Ending.{Ending}
use Rattle.command_frame.specs.declared.answer.Ending.TheVariants.{Answered, Unread, NoMemory as NoRoom}
use Rattle.command_frame.specs.Answer.{IsOne}
use Rattle.command_frame.specs.Attempt.{IsRefused}
use Rattle.command_frame.specs.NamedLeaf.{finding, OnLeaf}
use Rattle.command_frame.specs.Steps.{IfAnswered}
use Rattle.command_frame.proofs.Attempt.{IsDecided, one_attempt}

finding_decided : (sys : SystemView) → IsSystem sys → (name : List ℕ) → IsDecided (finding sys name)
finding_decided sys is name = record {
  one_value = one_leaf sys is name;
  never_both = λ q r found none. none q found;
  one_refusal = λ r s none other. refl;
}

pub one_on_leaf : (sys : SystemView) → IsSystem sys → (name : List ℕ) (Says : ℕ → Status → List ℕ → Type 0)
    → ((q : ℕ) → IsLeafNamed sys name q → IsOne (Says q)) → IsOne (OnLeaf sys name Says)
one_on_leaf sys is name Says one = one_attempt (finding sys name) Says (finding_decided sys is name) one

-- what was said of the leaf, and that there is none, is the answer to the system
pub leaf_said : (sys : SystemView) (name : List ℕ) (Says : ℕ → Status → List ℕ → Type 0) (q : ℕ) (status : Status)
    (text : List ℕ) → IsLeafNamed sys name q → Says q status text → OnLeaf sys name Says status text
leaf_said sys name Says q status text found said = inl (record { value = q; gives = found; said = said })

pub leaf_stopped : (sys : SystemView) (name : List ℕ) (Says : ℕ → Status → List ℕ → Type 0) (q : ℕ) (stop : Ending)
    → IsLeafNamed sys name q → IfAnswered stop (λ a. Says q a.status a.text.items)
    → IfAnswered stop (λ a. OnLeaf sys name Says a.status a.text.items)
leaf_stopped sys name Says q (Answered a) found said = inl (record { value = q; gives = found; said = said })
leaf_stopped sys name Says q Unread found said = tt
leaf_stopped sys name Says q NoRoom found said = tt

pub leaf_refused : (sys : SystemView) (name : List ℕ) (Says : ℕ → Status → List ℕ → Type 0) (stop : Ending)
    → IfAnswered stop (λ a. IsRefused (finding sys name) a.status a.text.items)
    → IfAnswered stop (λ a. OnLeaf sys name Says a.status a.text.items)
leaf_refused sys name Says (Answered a) refused = inr refused
leaf_refused sys name Says Unread refused = tt
leaf_refused sys name Says NoRoom refused = tt
