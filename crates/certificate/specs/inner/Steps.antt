-- What the steps of making a certificate answer.
use Rattle.std.specs.Prelude.{◌≡◌, ℕ, ◌<◌, List, length}
use Rattle.tree_model.specs.declared.place.Place.{Place}
use Rattle.tree_model.specs.CertificateView.{NodeView}
use Rattle.tree_model.specs.View.{SystemView}
use Rattle.tree_model.specs.Tree.{budget_at}
use Rattle.cert_verify.specs.Proves.{node_at, nth_place}
use Rattle.certificate.specs.Made.{IsMade}

-- the node of a place
abbrev pub IsMadeAt : SystemView → List ℕ → Place → NodeView → Type 0
IsMadeAt sys budgets place node = (node.place ≡ place) × IsMade sys budgets node

-- the first n nodes, parts with these budgets
pub record AreMade (sys : SystemView) (budgets : List ℕ) (nodes : List NodeView) (n : ℕ)
    : Type 0 where
  pub long : length nodes ≡ n
  pub each : (k : ℕ) → k < n →
      IsMadeAt sys budgets (nth_place (length sys.parts) k) (node_at nodes k)
  pub budgets_are : (q : ℕ) → q < n → q < length sys.parts →
      (node_at nodes q).budget ≡ budget_at budgets q
