-- The text of a certificate's verdict: that it proves the system, or its first flaw.
use Rattle.std.specs.Prelude.{ℕ, ◌+◌, List, [], ◌∷◌, ◌++◌, codes, Result, Ok, Err, ⊤}
use Rattle.std.specs.Fmt.{decimal}
use Rattle.tree_model.specs.View.{SystemView}
use Rattle.tree_model.specs.Tree.{IsNode}
use Rattle.cert_verify.specs.declared.flaw.Flaw.{Flaw}
use Rattle.cert_verify.specs.declared.flaw.Flaw.TheVariants.{Nodes, Budget, Cover, Hit, Least, Wide}
use Rattle.rt_report.specs.Words.{joined, node_words}

-- the kind of a flaw, and the node; a task is counted from 1
abbrev pub flaw_words : SystemView → Flaw → List ℕ
flaw_words sys Nodes = codes "Nodes"
flaw_words sys (Budget node) = codes "Budget " ++ node_words sys node
flaw_words sys (Cover node) = codes "Cover " ++ node_words sys node
flaw_words sys (Hit node i) =
    codes "Hit " ++ (node_words sys node ++ (codes " task=" ++ decimal (i + 1)))
flaw_words sys (Least node) = codes "Least " ++ node_words sys node
flaw_words sys (Wide node) = codes "Wide " ++ node_words sys node

abbrev pub check_text : SystemView → Result ⊤ Flaw → List ℕ
check_text sys (Ok proved) = codes "verdict=yes\n"
check_text sys (Err flaw) = joined (
    codes "verdict=no\nflaw=" ∷ flaw_words sys flaw ∷ codes "\n" ∷ [])

-- a flaw of a node of the system, or of the nodes themselves
abbrev pub IsFlawOf : SystemView → Flaw → Type 0
IsFlawOf sys Nodes = ⊤
IsFlawOf sys (Budget node) = IsNode sys node
IsFlawOf sys (Cover node) = IsNode sys node
IsFlawOf sys (Hit node i) = IsNode sys node
IsFlawOf sys (Least node) = IsNode sys node
IsFlawOf sys (Wide node) = IsNode sys node
