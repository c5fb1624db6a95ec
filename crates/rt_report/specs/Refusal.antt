-- The text of a refusal, for every command.
use Rattle.std.specs.Prelude.{ℕ, List, [], ◌∷◌, ◌++◌, codes}
use Rattle.std.specs.Fmt.{decimal}
use Rattle.slot_model.specs.declared.sched.Short.{Short}
use Rattle.slot_model.specs.declared.sched.Short.TheVariants.{At, Task}
use Rattle.tree_model.specs.declared.place.Place.{Place}
use Rattle.tree_model.specs.declared.plan.Refusal.{Refusal}
use Rattle.tree_model.specs.declared.plan.Refusal.TheVariants.{Overfull, Wide, NoMemory}
use Rattle.tree_model.specs.View.{SystemView}
use Rattle.tree_model.specs.Tree.{IsNode}
use Rattle.rt_report.specs.Words.{joined, node_words, served_name}

-- the window in which too much can be asked for, or what is not served in time
abbrev pub short_words : SystemView → Place → Short → List ℕ
short_words sys node (At t) = codes " at=" ++ decimal t
short_words sys node (Task i) = codes " task=" ++ served_name sys node i

abbrev pub refusal_text : SystemView → Refusal → List ℕ
refusal_text sys (Overfull node short) = joined (
    codes "verdict=no\noverfull " ∷ node_words sys node
    ∷ short_words sys node short ∷ codes "\n" ∷ [])
refusal_text sys (Wide node) = joined (
    codes "verdict=wide\nwide " ∷ node_words sys node ∷ codes "\n" ∷ [])
refusal_text sys NoMemory = []

-- a refusal of a node of the system
abbrev pub IsRefusalOf : SystemView → Refusal → Type 0
IsRefusalOf sys (Overfull node short) = IsNode sys node
IsRefusalOf sys (Wide node) = IsNode sys node
IsRefusalOf sys NoMemory = ⊥
