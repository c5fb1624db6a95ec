-- The steps that assign budgets and that admit a system: each gives one list of budgets or one
-- refusal, of a node of the system; and what a refusal means.
use Rattle.std.proofs.Common.{◌≡◌, List, ℕ, refl, sym, subst, inl, inr}
use Rattle.tree_model.specs.declared.plan.Refusal.{Refusal}
use Rattle.tree_model.specs.declared.plan.Refusal.TheVariants.{Overfull, Wide as TooWide, NoMemory as NoRefusal}
use Rattle.tree_model.specs.View.{SystemView}
use Rattle.tree_model.specs.System.{IsSystem}
use Rattle.tree_model.specs.Admission.{Assigned, FirstRefusal, FirstUnassigned}
use Rattle.tree_model.proofs.Unique.{one_assignment, never_assigned, one_unassigned, one_admission, never_both, one_refusal}
use Rattle.compose_tree.specs.Truth.{RefusalHolds}
use Rattle.compose_tree.proofs.Refusals.{refusal_holds, unassigned_holds}
use Rattle.rt_report.specs.Refusal.{refusal_text, IsRefusalOf}
use Rattle.command_frame.specs.declared.status.Status.{Status}
use Rattle.command_frame.specs.declared.status.Status.TheVariants.{No, Wide}
use Rattle.command_frame.specs.Answer.{IsOne, IfNo}
use Rattle.command_frame.specs.Budgets.{assigning, composing, refusal_status, IsTrueNo, IsTrulyOverfull, OnAssigned, IsTrulyUnassigned, AssignedOrNone}
use Rattle.command_frame.proofs.Attempt.{IsDecided, one_attempt, said_of_given, statuses_attempt}
use Rattle.command_frame.proofs.Statuses.{if_no}

pub assigning_decided : (sys : SystemView) → IsSystem sys → IsDecided (assigning sys)
assigning_decided sys is = record {
  one_value = one_assignment sys is;
  never_both = never_assigned sys is;
  one_refusal = one_unassigned sys is;
}

pub composing_decided : (sys : SystemView) → IsSystem sys → IsDecided (composing sys)
composing_decided sys is = record {
  one_value = one_admission sys is;
  never_both = never_both sys is;
  one_refusal = one_refusal sys is;
}

-- what refuses is a node, and has the status no or wide
pub unassigned_told : (sys : SystemView) (r : Refusal) → FirstUnassigned sys r → IsRefusalOf sys r
unassigned_told sys (Overfull node short) first = first.is_node
unassigned_told sys (TooWide node) first = first.is_node
unassigned_told sys NoRefusal first = absurd first

pub refusal_told : (sys : SystemView) (r : Refusal) → FirstRefusal sys r → IsRefusalOf sys r
refusal_told sys (Overfull node short) first = first.is_node
refusal_told sys (TooWide node) first = first.is_node
refusal_told sys NoRefusal first = absurd first

status_told : (P : Status → Type 0) → P No → P Wide → (sys : SystemView) (r : Refusal) → IsRefusalOf sys r
    → P (refusal_status r)
status_told P at_no at_wide sys (Overfull node short) told = at_no
status_told P at_no at_wide sys (TooWide node) told = at_wide
status_told P at_no at_wide sys NoRefusal told = absurd told

unassigned_status : (P : Status → Type 0) → P No → P Wide → (sys : SystemView) (r : Refusal) → FirstUnassigned sys r
    → P (refusal_status r)
unassigned_status P at_no at_wide sys r first = status_told P at_no at_wide sys r (unassigned_told sys r first)

pub refused_status : (P : Status → Type 0) → P No → P Wide → (sys : SystemView) (r : Refusal) → FirstRefusal sys r
    → P (refusal_status r)
refused_status P at_no at_wide sys r first = status_told P at_no at_wide sys r (refusal_told sys r first)

-- what is said of the budgets that are assigned: it is one, which statuses it has, and that it is
-- said of these
pub one_assigned : (sys : SystemView) → IsSystem sys → (Says : List ℕ → Status → List ℕ → Type 0)
    → ((budgets : List ℕ) → IsOne (Says budgets)) → IsOne (OnAssigned sys Says)
one_assigned sys is Says one =
    one_attempt (assigning sys) Says (assigning_decided sys is) (λ budgets assigned. one budgets)

pub statuses_assigned : (P : Status → Type 0) → P No → P Wide
    → (sys : SystemView) (Says : List ℕ → Status → List ℕ → Type 0) (status : Status) (text : List ℕ)
    → ((budgets : List ℕ) → Says budgets status text → P status) → OnAssigned sys Says status text → P status
statuses_assigned P at_no at_wide sys Says status text said h =
    statuses_attempt P (assigning sys) Says status text (unassigned_status P at_no at_wide sys) said h

pub said_of_assigned : (sys : SystemView) → IsSystem sys
    → (Says : List ℕ → Status → List ℕ → Type 0) (status : Status) (text : List ℕ) (budgets : List ℕ)
    → Assigned sys budgets → OnAssigned sys Says status text → Says budgets status text
said_of_assigned sys is Says status text budgets assigned h =
    said_of_given (assigning sys) Says status text (assigning_decided sys is) budgets assigned h

-- a first refusal of a node, of those that are asked for, means what it is to mean
refusal_means : (First : SystemView → Refusal → Type 0) (Tells : SystemView → Status → List ℕ → Type 0)
    (sys : SystemView)
    → ((text : List ℕ) → IsTrueNo First sys text → Tells sys No text) → ((text : List ℕ) → Tells sys Wide text)
    → (r : Refusal) → IsRefusalOf sys r → First sys r → RefusalHolds sys r
    → Tells sys (refusal_status r) (refusal_text sys r)
refusal_means First Tells sys at_no at_wide (Overfull node short) is_node first holds =
    at_no _ (record { node = node; short = short; told = refl; first = first; holds = holds })
refusal_means First Tells sys at_no at_wide (TooWide node) is_node first holds = at_wide _
refusal_means First Tells sys at_no at_wide NoRefusal is_node first holds = absurd is_node

told_as : (Tells : SystemView → Status → List ℕ → Type 0) (sys : SystemView) (r : Refusal)
    → Tells sys (refusal_status r) (refusal_text sys r) → (status : Status) (text : List ℕ)
    → status ≡ refusal_status r → text ≡ refusal_text sys r → Tells sys status text
told_as Tells sys r means status text is_status told =
    subst (λ (s : Status). Tells sys s text) (sym is_status) (subst (Tells sys (refusal_status r)) (sym told) means)

pub refused_means : (Tells : SystemView → Status → List ℕ → Type 0) (sys : SystemView) → IsSystem sys
    → ((text : List ℕ) → IsTrulyOverfull sys text → Tells sys No text) → ((text : List ℕ) → Tells sys Wide text)
    → (r : Refusal) → FirstRefusal sys r → (status : Status) (text : List ℕ) → status ≡ refusal_status r
    → text ≡ refusal_text sys r → Tells sys status text
refused_means Tells sys is at_no at_wide r first =
    told_as Tells sys r (refusal_means FirstRefusal Tells sys at_no at_wide r (refusal_told sys r first) first
    (refusal_holds sys is r first))

-- and so does a part that has no budget
pub unassigned_means : (Tells : SystemView → Status → List ℕ → Type 0) (sys : SystemView) → IsSystem sys
    → ((text : List ℕ) → IsTrulyUnassigned sys text → Tells sys No text) → ((text : List ℕ) → Tells sys Wide text)
    → (r : Refusal) → FirstUnassigned sys r → (status : Status) (text : List ℕ) → status ≡ refusal_status r
    → text ≡ refusal_text sys r → Tells sys status text
unassigned_means Tells sys is at_no at_wide r first =
    told_as Tells sys r (refusal_means FirstUnassigned Tells sys at_no at_wide r (unassigned_told sys r first) first
    (unassigned_holds sys is r first))

-- so a no, where budgets that are assigned are answered otherwise
pub no_without_budgets : (sys : SystemView) → IsSystem sys → (Says : List ℕ → Status → List ℕ → Type 0)
    (status : Status) (text : List ℕ)
    → ((budgets : List ℕ) → Says budgets status text → IfNo status (IsTrulyUnassigned sys text))
    → OnAssigned sys Says status text → IfNo status (IsTrulyUnassigned sys text)
no_without_budgets sys is Says status text said h = elim h [
  | inl a ↦ said a.value a.said
  | inr a ↦
      unassigned_means (λ s t u. IfNo t (IsTrulyUnassigned s u)) sys is (λ t none. none) (λ t. tt) a.refusal a.refuses
      status text a.status_is a.told
]

-- and any no
pub no_of_assigned : (sys : SystemView) → IsSystem sys → (Says : List ℕ → Status → List ℕ → Type 0)
    (status : Status) (text : List ℕ) → OnAssigned sys Says status text → IfNo status (AssignedOrNone sys text)
no_of_assigned sys is Says status text h = elim h [
  | inl a ↦ if_no status (inl (record { budgets = a.value; assigned = a.gives }))
  | inr a ↦
      unassigned_means (λ s t u. IfNo t (AssignedOrNone s u)) sys is (λ t none. inr none) (λ t. tt) a.refusal a.refuses
      status text a.status_is a.told
]
