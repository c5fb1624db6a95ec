-- The text of a certificate, piece by piece.
use Rattle.std.specs.Prelude.{ℕ, Bool, true, false, List, [], ◌∷◌, ◌++◌, codes, decimal, Option, Some, None}
use Rattle.tree_model.specs.declared.place.Place.{Place}
use Rattle.tree_model.specs.CertificateView.{NodeView}
use Rattle.cert_reader.specs.Printed.{kind_text, place_number}

-- the texts of elements, with a comma before each, and between each two
abbrev pub behind : {A : Type 0} → (A → List ℕ) → List A → List ℕ
behind text [] = []
behind text (x ∷ xs) = 44 ∷ (text x ++ behind text xs)

abbrev pub listed : {A : Type 0} → (A → List ℕ) → List A → List ℕ
listed text [] = []
listed text (x ∷ xs) = text x ++ behind text xs

-- a number in quotes
abbrev pub quoted_number : ℕ → List ℕ
quoted_number n = 34 ∷ (decimal n ++ 34 ∷ [])

abbrev pub witness_text : Option ℕ → List ℕ
witness_text None = codes "null"
witness_text (Some n) = quoted_number n

abbrev pub flag_text : Bool → List ℕ
flag_text true = codes "true"
flag_text false = codes "false"

-- the kind, the period and the place of a node
abbrev pub place_text : Place → ℕ → List ℕ
place_text place period =
    kind_text place ++
    (codes "\",\"period\":" ++ (decimal period ++
    (codes ",\"place\":" ++ decimal (place_number place))))

abbrev pub node_text : NodeView → List ℕ
node_text node =
    codes "{\"budget\":" ++ (decimal node.budget ++
    (codes ",\"computed\":" ++ (flag_text node.computed ++
    (codes ",\"falls\":[" ++ (listed decimal node.falls ++
    (codes "],\"hits\":[" ++ (listed decimal node.hits ++
    (codes "],\"kind\":\"" ++ (place_text node.place node.period ++
    (codes ",\"points\":[" ++ (listed quoted_number node.points ++
    (codes "],\"witness\":" ++ (witness_text node.witness ++ codes "}")))))))))))))
