-- Where every node but one and that on which it stands is settled, all that is visited before it
-- is. Once it is settled too, every node is but that on which it stands and the one under that.
use Rattle.std.proofs.Common.{◌≡◌, ◌≢◌, ℕ, ◌<◌, ◌≤◌, true, List, length, set, arith, refl, sym, ◌∙◌, ap, subst, inl, inr, length-set, get_or-set_other}
use Rattle.std.proofs.lemmas.Bool.{cases_Bool, cases_eq, eqb-true, false≢true}
use Rattle.tree_model.specs.declared.place.Parent.{Parent}
use Rattle.tree_model.specs.declared.place.Parent.TheVariants.{Core as on_core, Part as on_part}
use Rattle.tree_model.specs.declared.place.Place.{Place}
use Rattle.tree_model.specs.declared.place.Place.TheVariants.{Core, Part}
use Rattle.tree_model.specs.View.{SystemView}
use Rattle.tree_model.specs.System.{IsSystem, part_at, Stands, is_leaf_at}
use Rattle.tree_model.specs.Tree.{place_of, same_place, is_child, budget_at, IsNode, node_tasks}
use Rattle.tree_model.specs.Admission.{NodePasses, AssignedFrom, visited_from, Admitted}
use Rattle.tree_model.proofs.NodeTasks.{leaf_tasks, inner_tasks}
use Rattle.tree_model.proofs.Parents.{child_stands, same_servers}
use Rattle.compose_tree.proofs.Settling.{settled_admits, stands_same, passes_same}
use Rattle.compose_tree.specs.Steps.{PartsPassFrom}
use Rattle.compose_tree.specs.inner.Steps.{CoresPassTo}
use Rattle.compose_tree.specs.Kept.{under, StandsOn, AgreeAt, IsSettledNode, IsKept}

pub same_is : (x y : Place) → same_place x y ≡ true → x ≡ y
same_is (Core c) (Core d) e = ap Core (eqb-true c d e)
same_is (Part q) (Part r) e = ap Part (eqb-true q r e)
same_is (Core c) (Part r) e = absurd (false≢true e)
same_is (Part q) (Core d) e = absurd (false≢true e)

part_is : (q r : ℕ) → Part q ≡ Part r → q ≡ r
part_is q r e = cc

core_is : (c d : ℕ) → Core c ≡ Core d → c ≡ d
core_is c d e = cc

-- a part stands on a node, and fewer parts are visited from there on
pub under_node : (sys : SystemView) → IsSystem sys → (q : ℕ) → q < length sys.parts → IsNode sys (under sys q)
under_node sys is q h = go (part_at sys q).parent (is.parents q h)
  where
    go : (parent : Parent) → Stands sys q parent → IsNode sys (place_of parent)
    go (on_core c) s = s
    go (on_part p) s = omega (arith, s.0, h)

-- all that is visited before the node is settled
settled_later : (sys : SystemView) → IsSystem sys → (kept : List ℕ) (node : Place) → IsKept sys kept node
    → (r : ℕ) → visited_from node ≤ r → r < length sys.parts → IsSettledNode sys kept (Part r)
settled_later sys is kept node keeps r g h =
    keeps.nodes (Part r) h (not_it node g) (not_on node keeps.is_node g) kept
    (record { own = refl; children = λ q i child. refl })
  where
    not_it : (node : Place) → visited_from node ≤ r → Part r ≡ node → ⊥
    not_it (Part e) g p = let same : r ≡ e = part_is r e p in absurd (omega arith)
    not_it (Core c) g p = cc

    not_on : (node : Place) → IsNode sys node → visited_from node ≤ r → StandsOn sys node (Part r) → ⊥
    not_on (Part e) i g stands = absurd (omega (arith, (child_stands sys is r e i stands).later))
    not_on (Core c) i g stands = stands

pub assigned_later : (sys : SystemView) → IsSystem sys → (kept : List ℕ) (node : Place) → IsKept sys kept node
    → AssignedFrom sys kept (visited_from node)
assigned_later sys is kept node keeps = record {
  one_each = keeps.one_each;
  stands = λ r g h. (settled_later sys is kept node keeps r g h).stands;
}

pub pass_later : (sys : SystemView) → IsSystem sys → (kept : List ℕ) (node : Place) → IsKept sys kept node
    → PartsPassFrom sys kept (visited_from node)
pass_later sys is kept node keeps = λ r g h. (settled_later sys is kept node keeps r g h).passes

-- a part whose budget is written after all later ones is settled
pub settles : (sys : SystemView) (kept : List ℕ) (q : ℕ) → q < length sys.parts → (budget : ℕ)
    → AssignedFrom sys (set kept q budget) q → PartsPassFrom sys (set kept q budget) q
    → IsSettledNode sys (set kept q budget) (Part q)
settles sys kept q h budget assigned pass =
    record { stands = assigned.stands q (omega arith) h; passes = pass q (omega arith) h }

-- and then so is every node but that on which it stands, and the one under that
pub kept_up : (sys : SystemView) → IsSystem sys → (kept : List ℕ) (q : ℕ) → IsKept sys kept (Part q) → (budget : ℕ)
    → IsSettledNode sys (set kept q budget) (Part q) → IsKept sys (set kept q budget) (under sys q)
kept_up sys is kept q keeps budget settled = record {
  one_each = length-set kept q budget ∙ keeps.one_each;
  is_node = under_node sys is q keeps.is_node;
  nodes = each;
}
  where
    -- what stands on another node than this part is not this part, and has its kept budget
    kept_child : (node : Place) → (node ≡ under sys q → ⊥) → (b : List ℕ) → AgreeAt sys b (set kept q budget) node
        → (s : ℕ) → s < length sys.parts → is_child sys node s ≡ true → budget_at b s ≡ budget_at kept s
    kept_child node other b agree s i child =
        agree.children s i child
        ∙ get_or-set_other kept q s budget 0 (λ e. other
        (sym (same_is (under sys q) node (subst (λ (k : ℕ). is_child sys node k ≡ true) e child))))

    apart : (node : Place) → (node ≡ under sys q → ⊥) → StandsOn sys (Part q) node → ⊥
    apart node other child = other (sym (same_is (under sys q) node child))

    same_tasks : (b : List ℕ) → AgreeAt sys b (set kept q budget) (Part q)
        → node_tasks sys (set kept q budget) (Part q) ≡ node_tasks sys b (Part q)
    same_tasks b agree = elim (cases_Bool (is_leaf_at sys q)) [
      | inl leaf ↦ leaf_tasks sys (set kept q budget) q leaf ∙ sym (leaf_tasks sys b q leaf)
      | inr inner ↦
          inner_tasks sys (set kept q budget) q inner
          ∙ (same_servers sys (set kept q budget) b (Part q) (λ s i child. sym (agree.children s i child))
          ∙ sym (inner_tasks sys b q inner))
    ]

    own : (b : List ℕ) → AgreeAt sys b (set kept q budget) (Part q) → IsSettledNode sys b (Part q)
    own b agree = record {
      stands =
          stands_same sys (set kept q budget) b q (sym agree.own) (same_tasks b agree) (part_at sys q).budget
          settled.stands;
      passes = passes_same sys (set kept q budget) b q (sym agree.own) (same_tasks b agree) settled.passes;
    }

    each : (node : Place) → IsNode sys node → (node ≡ under sys q → ⊥) → (StandsOn sys (under sys q) node → ⊥)
        → (b : List ℕ) → AgreeAt sys b (set kept q budget) node → IsSettledNode sys b node
    each (Core c) h other on b agree =
        keeps.nodes (Core c) h (λ e. cc) (apart (Core c) other) b
        (record { own = tt; children = kept_child (Core c) other b agree })
    each (Part r) h other on b agree = elim (cases_eq r q) [
      | inl same ↦
          subst (λ (k : ℕ). IsSettledNode sys b (Part k)) (sym same)
          (own b (subst (λ (k : ℕ). AgreeAt sys b (set kept q budget) (Part k)) same agree))
      | inr differ ↦
          keeps.nodes (Part r) h (λ e. differ (part_is r q e)) (apart (Part r) other) b (record {
            own = agree.own ∙ get_or-set_other kept q r budget 0 differ;
            children = kept_child (Part r) other b agree;
          })
    ]

-- at a core all parts are settled, and every other core passes
other_core : (sys : SystemView) (kept : List ℕ) (c : ℕ) → IsKept sys kept (Core c) → (d : ℕ) → d < length sys.cores
    → d ≢ c → NodePasses sys kept (Core d)
other_core sys kept c keeps d h ne =
    (keeps.nodes (Core d) h (λ e. ne (core_is d c e)) (λ on. on) kept
    (record { own = tt; children = λ q i child. refl })).passes

pub cores_before : (sys : SystemView) (kept : List ℕ) (c : ℕ) → IsKept sys kept (Core c) → CoresPassTo sys kept c
cores_before sys kept c keeps =
    λ d l. other_core sys kept c keeps d (omega (arith, l, keeps.is_node)) (λ e. omega arith)

-- so the core, where it passes, admits the system
pub core_admits : (sys : SystemView) → IsSystem sys → (kept : List ℕ) (c : ℕ) → IsKept sys kept (Core c)
    → NodePasses sys kept (Core c) → Admitted sys kept
core_admits sys is kept c keeps passes =
    settled_admits sys kept (assigned_later sys is kept (Core c) keeps) (pass_later sys is kept (Core c) keeps) each
  where
    each : CoresPassTo sys kept (length sys.cores)
    each d h = elim (cases_eq d c) [
      | inl same ↦ subst (λ (k : ℕ). NodePasses sys kept (Core k)) (sym same) passes
      | inr differ ↦ other_core sys kept c keeps d h differ
    ]
