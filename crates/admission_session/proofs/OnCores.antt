-- A leaf that is put on one core after another: its budget is the same on each, and with it every
-- node but that core is settled.
use Rattle.std.proofs.Common.{◌≡◌, ℕ, ◌*◌, ◌/◌, ◌^◌, ◌<◌, ◌≤◌, true, Some, List, [], ◌∷◌, ◌++◌, length, length-set, ◌+◌, get_or, set, arith, refl, sym, ◌∙◌, ap, subst, inl, inr}
use Rattle.std.proofs.Math.Seq.{set-append_seam}
use Rattle.std.proofs.lemmas.Bool.{cases_lt}
use Rattle.std.proofs.lemmas.List.{set-set}
use Rattle.std.proofs.lemmas.List.Sums.{sum_by_push}
use Rattle.slot_model.specs.Bound.{sbf}
use Rattle.slot_model.specs.Task.{SporadicTask, plain_task}
use Rattle.tree_model.specs.declared.place.Parent.TheVariants.{Core as on_core}
use Rattle.tree_model.specs.declared.place.Place.{Place}
use Rattle.tree_model.specs.declared.place.Place.TheVariants.{Core, Part}
use Rattle.tree_model.specs.declared.plan.Refusal.{Refusal}
use Rattle.tree_model.specs.View.{PartView, SystemView}
use Rattle.tree_model.specs.System.{IsSystem, part_at, is_leaf_at}
use Rattle.tree_model.specs.Tree.{place_of, same_place, is_child, budget_at, server_task, child_tasks, server_tasks, node_tasks}
use Rattle.tree_model.specs.Admission.{largest_budget, Admitted}
use Rattle.tree_model.specs.Plans.{IsPlan}
use Rattle.tree_model.proofs.Children.{same_itself}
use Rattle.tree_model.proofs.InRange.{assigned_is_plan}
use Rattle.tree_model.proofs.NodeTasks.{child_tasks_yes, part_here}
use Rattle.compose_tree.specs.Steps.{NodeRefuses, RefusesAt}
use Rattle.compose_tree.specs.Kept.{IsKept, IsSettledNode}
use Rattle.compose_tree.proofs.Settling.{before_part, node_refuses}
use Rattle.compose_tree.proofs.Ways.{assigned_later, pass_later, kept_up}
use Rattle.admission_session.specs.Leaves.{on_parent, with_guest, with_changed}
use Rattle.admission_session.specs.inner.Undone.{moved_to}
use Rattle.admission_session.specs.Edits.{IsNewLeaf}
use Rattle.admission_session.specs.Answers.{HasRefusal, IsRefusedOnAll, IsPutOn}
use Rattle.admission_session.specs.inner.Shares.{share, shares}
use Rattle.admission_session.proofs.Nodes.{same_below, same_leaf, settled_with}
use Rattle.admission_session.proofs.KeptByEdits.{changed_at, changed_here, same_child}
use Rattle.admission_session.proofs.EditedSystems.{added_here}
use Rattle.admission_session.proofs.MadeSystems.{new_leaf_is, add_keeps}

abbrev of_parts : SystemView → List PartView → SystemView
of_parts sys parts = record { cores = sys.cores; parts = parts }

moved_part : (sys : SystemView) (q c : ℕ) → q < length sys.parts
    → part_at (moved_to sys q c) q ≡ on_parent (part_at sys q) (on_core c)
moved_part sys q c h = changed_here sys q (on_parent (part_at sys q) (on_core c)) h

-- it is put on one core and then on another
pub moved_again : (sys : SystemView) (q d c : ℕ) → q < length sys.parts
    → moved_to (moved_to sys q d) q c ≡ moved_to sys q c
moved_again sys q d c h =
    ap (λ (p : PartView). with_changed (moved_to sys q d) q (on_parent p (on_core c))) (moved_part sys q d h)
    ∙ ap (of_parts sys)
    (set-set sys.parts q (on_parent (part_at sys q) (on_core d)) (on_parent (part_at sys q) (on_core c)))

-- the last part, a guest
pub moved_guest : (sys : SystemView) (guest : PartView) (d c : ℕ)
    → moved_to (with_guest sys guest d) (length sys.parts) c ≡ with_guest sys guest c
moved_guest sys guest d c =
    ap (λ (p : PartView). with_changed (with_guest sys guest d) (length sys.parts) (on_parent p (on_core c)))
    (added_here sys (on_parent guest (on_core d)))
    ∙ ap (of_parts sys)
    (set-append_seam sys.parts (on_parent guest (on_core d)) [] (on_parent guest (on_core c)))

-- a leaf that is settled on the core on which it stands is on every other
same_tasks : (sys : SystemView) (q c : ℕ) (b : List ℕ) → q < length sys.parts → is_leaf_at sys q ≡ true
    → node_tasks sys b (Part q) ≡ node_tasks (moved_to sys q c) b (Part q)
same_tasks sys q c b h leaf =
    same_leaf sys (moved_to sys q c) b b q q (sym (ap (λ (p : PartView). p.tasks) (moved_part sys q c h))) leaf

pub kept_on_core : (sys : SystemView) (q c budget : ℕ) (kept : List ℕ) → q < length sys.parts
    → is_leaf_at sys q ≡ true → IsSystem (moved_to sys q c) → IsKept (moved_to sys q c) kept (Part q)
    → IsSettledNode sys (set kept q budget) (Part q) → IsKept (moved_to sys q c) (set kept q budget) (Core c)
kept_on_core sys q c budget kept h leaf is keeps settled =
    subst (λ (node : Place). IsKept (moved_to sys q c) (set kept q budget) node)
    (ap (λ (p : PartView). place_of p.parent) (moved_part sys q c h))
    (kept_up (moved_to sys q c) is kept q keeps budget
    (settled_with sys (moved_to sys q c) (set kept q budget) (set kept q budget) q q (record {
      sched = sym (ap (λ (p : PartView). p.sched) (moved_part sys q c h));
      period = sym (ap (λ (p : PartView). p.period) (moved_part sys q c h));
      budget = sym (ap (λ (p : PartView). p.budget) (moved_part sys q c h));
      tasks = sym (ap (λ (p : PartView). p.tasks) (moved_part sys q c h));
    }) refl (same_tasks sys q c (set kept q budget) h leaf) settled))

-- and one that is refused by itself is refused on every core
pub refused_on_core : (sys : SystemView) (q c : ℕ) (kept : List ℕ) (r : Refusal) → q < length sys.parts
    → is_leaf_at sys q ≡ true → IsSystem (moved_to sys q c) → IsKept (moved_to sys q c) kept (Part q)
    → RefusesAt sys kept (Part q) r → HasRefusal (moved_to sys q c)
refused_on_core sys q c kept r h leaf is keeps refuses =
    let now : SystemView = moved_to sys q c in (
      r,
      node_refuses now kept (Part q) keeps.is_node
          (before_part now kept q (assigned_later now is kept (Part q) keeps) (pass_later now is kept (Part q) keeps))
          (node_tasks sys kept (Part q)) (same_tasks sys q c kept h leaf) r
          (subst (λ (p : PartView). NodeRefuses p.sched (node_tasks sys kept (Part q))
          (sbf p.period (largest_budget p.budget p.period)) p.period (Part q) r) (sym (moved_part sys q c h)) refuses),
    )

-- one core more is refused
pub refused_more : (sys now : SystemView) (q c : ℕ) → now ≡ moved_to sys q c
    → ((d : ℕ) → d < c → HasRefusal (moved_to sys q d)) → HasRefusal now
    → (d : ℕ) → d < c + 1 → HasRefusal (moved_to sys q d)
refused_more sys now q c e before here d l = elim (cases_lt d c) [
  | inl b ↦ before d b
  | inr b ↦
      subst (λ (k : ℕ). HasRefusal (moved_to sys q k)) (let same : c ≡ d = omega arith in same)
      (subst HasRefusal e here)
]

-- a system to which a guest was put, on the first core
pub trial_at : (was now : SystemView) (guest : PartView) (n c : ℕ) → now ≡ with_guest was guest 0
    → n ≡ length was.parts → moved_to now n c ≡ with_guest was guest c
trial_at was now guest n c e l =
    ap (λ (s : SystemView). moved_to s n c) e
    ∙ (ap (λ (k : ℕ). moved_to (with_guest was guest 0) k c) l ∙ moved_guest was guest 0 c)

pub trial_system : (was now : SystemView) (guest : PartView) (n : ℕ) → now ≡ with_guest was guest 0
    → n ≡ length was.parts → IsSystem was → IsNewLeaf was guest → (c : ℕ) → c < length now.cores
    → IsSystem (moved_to now n c)
trial_system was now guest n e l is new c h =
    subst IsSystem (sym (trial_at was now guest n c e l))
    (new_leaf_is was is guest c new (subst (λ (s : SystemView). c < length s.cores) e h))

pub trial_kept : (was now : SystemView) (guest : PartView) (n : ℕ) → now ≡ with_guest was guest 0
    → n ≡ length was.parts → (plan budgets : List ℕ) → budgets ≡ plan ++ 1 ∷ [] → Admitted was plan → (c : ℕ)
    → IsKept (moved_to now n c) budgets (Part n)
trial_kept was now guest n e l plan budgets b admitted c =
    subst (λ (s : SystemView). IsKept s budgets (Part n)) (sym (trial_at was now guest n c e l))
    (add_keeps was (with_guest was guest c) (on_parent guest (on_core c)) plan budgets 1 n refl b l admitted)

-- a part that is to be settled has its place
pub leaf_place : (sys : SystemView) (q c : ℕ) (kept : List ℕ) → IsKept (moved_to sys q c) kept (Part q)
    → q < length sys.parts
leaf_place sys q c kept keeps =
    omega (arith, keeps.is_node, length-set sys.parts q (on_parent (part_at sys q) (on_core c)))

-- the guest is put on the first core that takes it, or on none
pub put_on : (was now after : SystemView) (guest : PartView) (n c : ℕ) (budgets : List ℕ) → now ≡ with_guest was guest 0
    → n ≡ length was.parts → after ≡ moved_to now n c → c < length now.cores → Admitted after budgets
    → ((d : ℕ) → d < c → HasRefusal (moved_to now n d)) → IsPutOn was guest (Some c) after
put_on was now after guest n c budgets e l there h admitted before =
    let put : after ≡ with_guest was guest c = there ∙ trial_at was now guest n c e l in (
      put,
      record {
        is_core = subst (λ (s : SystemView). c < length s.cores) e h;
        admitted = (budgets, subst (λ (s : SystemView). Admitted s budgets) put admitted);
        before = λ d m. subst HasRefusal (trial_at was now guest n d e l) (before d m);
      },
    )

pub put_nowhere : (was now : SystemView) (guest : PartView) (n : ℕ) → now ≡ with_guest was guest 0
    → n ≡ length was.parts → ((d : ℕ) → d < length now.cores → HasRefusal (moved_to now n d))
    → IsRefusedOnAll was guest
put_nowhere was now guest n e l refused =
    λ d h. subst HasRefusal (trial_at was now guest n d e l)
    (refused d (subst (λ (s : SystemView). d < length s.cores) (sym e) h))

-- a system on whose cores the last part is tried
pub trial_plan : (sys : SystemView) (q : ℕ) (b : List ℕ) → 1 ≤ length sys.cores → moved_to sys q 0 ≡ sys
    → ((c : ℕ) → c < length sys.cores → IsSystem (moved_to sys q c))
    → ((c : ℕ) → c < length sys.cores → IsKept (moved_to sys q c) b (Core c)) → IsPlan sys b
trial_plan sys q b some e is keeps =
    let first : 0 < length sys.cores = omega (arith, some) in
    subst (λ (s : SystemView). IsPlan s b) e
    (assigned_is_plan (moved_to sys q 0) (is 0 first) b
    (assigned_later (moved_to sys q 0) (is 0 first) b (Core 0) (keeps 0 first)))

tried_here : (sys : SystemView) (parts : List PartView) (q : ℕ) (part : PartView) → parts ≡ sys.parts
    → length sys.parts ≡ q + 1 → part ≡ get_or parts q part → part ≡ part_at sys q
tried_here sys parts q part same last is =
    part_here sys parts q part same (omega (arith, last, ap (λ (ps : List PartView). length ps) same)) is

pub tried_budget : (sys : SystemView) (parts : List PartView) (q : ℕ) (part : PartView) (b : List ℕ)
    → parts ≡ sys.parts → length sys.parts ≡ q + 1 → part ≡ get_or parts q part → IsPlan sys b
    → budget_at b q ≤ part.period
tried_budget sys parts q part b same last is plan =
    subst (λ (p : PartView). budget_at b q ≤ p.period) (sym (tried_here sys parts q part same last is))
    (plan.in_period q (omega (arith, last)))

pub tried_share : (sys : SystemView) (parts : List PartView) (q : ℕ) (part : PartView) (b : List ℕ) (own : ℕ)
    → parts ≡ sys.parts → length sys.parts ≡ q + 1 → part ≡ get_or parts q part
    → own ≡ budget_at b q * 2 ^ 32 / part.period → own ≡ share (server_task sys b q)
tried_share sys parts q part b own same last is e =
    e ∙ ap (λ (p : PartView). budget_at b q * 2 ^ 32 / p.period) (tried_here sys parts q part same last is)

-- the servers on the core on which it is put: those that are there, and its own
pub servers_with : (sys : SystemView) (q c : ℕ) (b : List ℕ) → length sys.parts ≡ q + 1
    → server_tasks (moved_to sys q c) b (Core c) ≡ child_tasks sys b (Core c) q ++ server_task sys b q ∷ []
servers_with sys q c b last =
    let h : q < length sys.parts = omega (arith, last) in
    let now : SystemView = moved_to sys q c in
    let here : part_at now q ≡ on_parent (part_at sys q) (on_core c) = moved_part sys q c h in
    let is : is_child now (Core c) q ≡ true
    = ap (λ (p : PartView). same_place (place_of p.parent) (Core c)) here ∙ same_itself (Core c) in
    let long : length now.parts ≡ q + 1
    = length-set sys.parts q (on_parent (part_at sys q) (on_core c)) ∙ last in
    ap (child_tasks now b (Core c)) long
    ∙ (child_tasks_yes now b (Core c) q is
    ∙ (ap (λ (ts : List SporadicTask). ts ++ server_task now b q ∷ [])
    (sym (same_below sys now b b (Core c) (Core c) q (λ i l. same_child sys now b b (Core c) i i
    (changed_at sys q (on_parent (part_at sys q) (on_core c)) i (λ e. omega arith)) (λ child. refl))))
    ∙ ap (λ (p : PartView). child_tasks sys b (Core c) q ++ plain_task p.period p.period (budget_at b q) ∷ []) here))

pub asked_with : (sys now : SystemView) (q c : ℕ) (b : List ℕ) (asked own : ℕ) → length sys.parts ≡ q + 1
    → now ≡ moved_to sys q c → asked ≡ shares (child_tasks sys b (Core c) q) → own ≡ share (server_task sys b q)
    → asked + own ≡ shares (server_tasks now b (Core c))
asked_with sys now q c b asked own last e a o =
    omega (
      arith,
      a,
      o,
      sum_by_push share (child_tasks sys b (Core c) q) (server_task sys b q),
      ap shares (servers_with sys q c b last),
      ap (λ (s : SystemView). shares (server_tasks s b (Core c))) e,
    )
