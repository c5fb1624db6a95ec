-- The text of a session: the verdict, the answer to each row, and the plan of the system that the
-- rows leave.
use Rattle.std.specs.Prelude.{ℕ, ◌+◌, List, [], ◌∷◌, ◌++◌, codes, ⊤}
use Rattle.std.specs.Fmt.{decimal}
use Rattle.tree_model.specs.declared.plan.Refusal.{Refusal}
use Rattle.tree_model.specs.declared.plan.Refusal.TheVariants.{Overfull, Wide, NoMemory}
use Rattle.tree_model.specs.View.{PartView, SystemView}
use Rattle.admission_session.specs.declared.answer.Answer.{Answer}
use Rattle.admission_session.specs.declared.answer.Answer.TheVariants.{Done, Refused, Denied}
use Rattle.admission_session.specs.declared.fault.EditFault.{EditFault}
use Rattle.admission_session.specs.declared.fault.EditFault.TheVariants.{NameTaken, NoSuchParent, Mixed, NoSuchLeaf, LastChild, BadPart, TooMany}
use Rattle.rt_report.specs.Words.{node_words}
use Rattle.rt_report.specs.Refusal.{short_words, IsRefusalOf}
use Rattle.rt_report.specs.Admit.{part_line}

abbrev pub fault_word : EditFault → List ℕ
fault_word NameTaken = codes "NameTaken"
fault_word NoSuchParent = codes "NoSuchParent"
fault_word Mixed = codes "Mixed"
fault_word NoSuchLeaf = codes "NoSuchLeaf"
fault_word LastChild = codes "LastChild"
fault_word BadPart = codes "BadPart"
fault_word TooMany = codes "TooMany"

-- the node of the edited system that refuses, with what is short there
abbrev pub denied_words : SystemView → Refusal → List ℕ
denied_words sys (Overfull node short) =
    codes "overfull " ++ (node_words sys node ++ short_words sys node short)
denied_words sys (Wide node) = codes "wide " ++ node_words sys node
denied_words sys NoMemory = []

abbrev pub answer_words : Answer → List ℕ
answer_words Done = codes "yes"
answer_words (Refused fault) = codes "refused " ++ fault_word fault
answer_words (Denied sys refusal) = denied_words sys refusal

-- `N yes`, `N refused WORD` or `N overfull ..`, for row N
abbrev pub answer_line : ℕ → Answer → List ℕ
answer_line n answer = decimal n ++ (codes " " ++ (answer_words answer ++ codes "\n"))

-- the lines of these answers, the first of which is to row n
abbrev pub answer_lines : ℕ → List Answer → List ℕ
answer_lines n [] = []
answer_lines n (answer ∷ later) = answer_line n answer ++ answer_lines (n + 1) later

-- the lines of these parts, with one budget a part
abbrev pub plan_lines : List PartView → List ℕ → List ℕ
plan_lines [] budgets = []
plan_lines (part ∷ parts) [] = []
plan_lines (part ∷ parts) (budget ∷ budgets) = part_line part budget ++ plan_lines parts budgets

abbrev pub session_text : List Answer → SystemView → List ℕ → List ℕ
session_text answers sys budgets =
    codes "verdict=yes\n" ++ (answer_lines 1 answers ++ plan_lines sys.parts budgets)

-- a refusal that is told is of a node of the system that was denied
abbrev pub IsToldAnswer : Answer → Type 0
IsToldAnswer Done = ⊤
IsToldAnswer (Refused fault) = ⊤
IsToldAnswer (Denied sys refusal) = IsRefusalOf sys refusal
