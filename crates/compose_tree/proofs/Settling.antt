-- One step of a composition: a part settled after all later ones, a core tested after all parts.
use Rattle.std.proofs.Common.{◌≡◌, ℕ, suc, ◌<◌, ◌≤◌, List, length, get_or, set, take, drop, ◌++◌, Option, None, Result, Ok, Err, IfOk, sym, ◌∙◌, ap, arith, subst, inl, inr, length-set, get_or-set_other, get_or-set_same}
use Rattle.std.specs.Prelude.{IfErr, MatchResult}
use Rattle.std.proofs.Math.Seq.{take-append_seam}
use Rattle.std.proofs.lemmas.Bool.{cases_eq}
use Rattle.std.proofs.lemmas.List.{set-set, set-get_or}
use Rattle.slot_model.specs.Task.{SporadicTask}
use Rattle.slot_model.specs.Bound.{sbf, IsSmall, TestPasses, TestFails}
use Rattle.tree_model.specs.declared.place.Place.{Place}
use Rattle.tree_model.specs.declared.place.Place.TheVariants.{Core, Part}
use Rattle.tree_model.specs.declared.plan.Refusal.{Refusal}
use Rattle.tree_model.specs.declared.plan.Refusal.TheVariants.{Overfull, Wide, NoMemory}
use Rattle.tree_model.specs.View.{SystemView}
use Rattle.tree_model.specs.System.{IsSystem, part_at}
use Rattle.tree_model.specs.Tree.{IsNode, budget_at, node_tasks, node_sched, node_cycle, given_budget}
use Rattle.tree_model.specs.Admission.{NodePasses, IsGivenOrLeast, BudgetStands, AssignedFrom, Assigned, Admitted, VisitedBefore, visited_from, SettledBefore, refusing_bound, FirstRefusal, FirstUnassigned}
use Rattle.tree_model.proofs.Parents.{part_tasks_same}
use Rattle.tree_model.proofs.Unique.{never_both, never_assigned, one_admission}
use Rattle.compose_tree.specs.Steps.{NodeRefuses, PartsPassFrom}
use Rattle.compose_tree.specs.inner.Steps.{CoresPassTo}

-- what stands and passes does so under budgets that are the same where it matters
pub stands_same : (sys : SystemView) (b c : List ℕ) (q : ℕ) → budget_at b q ≡ budget_at c q
    → node_tasks sys b (Part q) ≡ node_tasks sys c (Part q) → (given : Option ℕ) → BudgetStands sys b q given
    → BudgetStands sys c q given
stands_same sys b c q same tasks given h =
    subst (λ (budget : ℕ). IsGivenOrLeast (part_at sys q).sched (node_tasks sys c (Part q)) (part_at sys q).period given
    budget) same
    (subst (λ (ts : List SporadicTask). IsGivenOrLeast (part_at sys q).sched ts (part_at sys q).period given
    (budget_at b q)) tasks h)

pub passes_same : (sys : SystemView) (b c : List ℕ) (q : ℕ) → budget_at b q ≡ budget_at c q
    → node_tasks sys b (Part q) ≡ node_tasks sys c (Part q) → NodePasses sys b (Part q) → NodePasses sys c (Part q)
passes_same sys b c q same tasks h =
    subst (λ (budget : ℕ). TestPasses (part_at sys q).sched (node_tasks sys c (Part q))
    (sbf (part_at sys q).period budget) (part_at sys q).period) same
    (subst (λ (ts : List SporadicTask). TestPasses (part_at sys q).sched ts (sbf (part_at sys q).period (budget_at b q))
    (part_at sys q).period) tasks h)

-- the budget that is written is that of its part, and those of later parts are kept, and so are
-- the tasks
budget_kept : (budgets : List ℕ) (q budget r : ℕ) → q < r → budget_at budgets r ≡ budget_at (set budgets q budget) r
budget_kept budgets q budget r l = sym (get_or-set_other budgets q r budget 0 (λ e. omega arith))

tasks_kept : (sys : SystemView) → IsSystem sys → (budgets : List ℕ) (q budget r : ℕ) → q ≤ r
    → node_tasks sys budgets (Part r) ≡ node_tasks sys (set budgets q budget) (Part r)
tasks_kept sys is budgets q budget r g =
    part_tasks_same sys is budgets (set budgets q budget) r (λ k l m. budget_kept budgets q budget k (omega arith))

-- one part more is assigned
pub assign_one : (sys : SystemView) → IsSystem sys → (budgets : List ℕ) (q budget : ℕ) → q < length sys.parts
    → AssignedFrom sys budgets (suc q) → (tasks : List SporadicTask) → tasks ≡ node_tasks sys budgets (Part q)
    → IsGivenOrLeast (part_at sys q).sched tasks (part_at sys q).period (part_at sys q).budget budget
    → AssignedFrom sys (set budgets q budget) q
assign_one sys is budgets q budget h assigned tasks same one =
    let now : List ℕ = set budgets q budget in
    let here : budget_at now q ≡ budget = get_or-set_same budgets q budget 0 (omega (arith, assigned.one_each)) in
    let own : BudgetStands sys now q (part_at sys q).budget =
    subst (λ (b : ℕ). IsGivenOrLeast (part_at sys q).sched (node_tasks sys now (Part q)) (part_at sys q).period
    (part_at sys q).budget b) (sym here)
    (subst (λ (ts : List SporadicTask). IsGivenOrLeast (part_at sys q).sched ts (part_at sys q).period
    (part_at sys q).budget budget) (same ∙ tasks_kept sys is budgets q budget q (omega arith)) one) in
    record {
      one_each = length-set budgets q budget ∙ assigned.one_each;
      stands = λ r g m. elim (cases_eq r q) [
        | inl e ↦ subst (λ (z : ℕ). BudgetStands sys now z (part_at sys z).budget) (sym e) own
        | inr ne ↦
            stands_same sys budgets now r (budget_kept budgets q budget r (omega arith))
            (tasks_kept sys is budgets q budget r g) (part_at sys r).budget (assigned.stands r (omega arith) m)
      ];
    }

-- and one part more passes
pub pass_one : (sys : SystemView) → IsSystem sys → (budgets : List ℕ) (q budget : ℕ) → q < length budgets
    → PartsPassFrom sys budgets (suc q) → (tasks : List SporadicTask) → tasks ≡ node_tasks sys budgets (Part q)
    → TestPasses (part_at sys q).sched tasks (sbf (part_at sys q).period budget) (part_at sys q).period
    → PartsPassFrom sys (set budgets q budget) q
pass_one sys is budgets q budget h pass tasks same one =
    let now : List ℕ = set budgets q budget in
    let own : NodePasses sys now (Part q) =
    subst (λ (b : ℕ). TestPasses (part_at sys q).sched (node_tasks sys now (Part q)) (sbf (part_at sys q).period b)
    (part_at sys q).period) (sym (get_or-set_same budgets q budget 0 h))
    (subst (λ (ts : List SporadicTask). TestPasses (part_at sys q).sched ts (sbf (part_at sys q).period budget)
    (part_at sys q).period) (same ∙ tasks_kept sys is budgets q budget q (omega arith)) one) in
    λ r g m. elim (cases_eq r q) [
      | inl e ↦ subst (λ (z : ℕ). NodePasses sys now (Part z)) (sym e) own
      | inr ne ↦
          passes_same sys budgets now r (budget_kept budgets q budget r (omega arith))
          (tasks_kept sys is budgets q budget r g) (pass r (omega arith) m)
    ]

-- all that is visited before a part, and before a core
pub before_part : (sys : SystemView) (budgets : List ℕ) (q : ℕ) → AssignedFrom sys budgets (suc q)
    → PartsPassFrom sys budgets (suc q) → SettledBefore sys budgets (Part q)
before_part sys budgets q assigned pass = record { assigned = assigned; passes = each }
  where
    each : (other : Place) → IsNode sys other → VisitedBefore other (Part q) → NodePasses sys budgets other
    each (Part r) h l = pass r (omega arith) h
    each (Core c) h l = absurd l

pub before_core : (sys : SystemView) (budgets : List ℕ) (c : ℕ) → Assigned sys budgets → PartsPassFrom sys budgets 0
    → CoresPassTo sys budgets c → SettledBefore sys budgets (Core c)
before_core sys budgets c assigned pass before = record { assigned = assigned; passes = each }
  where
    each : (other : Place) → IsNode sys other → VisitedBefore other (Core c) → NodePasses sys budgets other
    each (Part r) h l = pass r (omega arith) h
    each (Core d) h l = before d l

-- parts and cores that pass admit the system
pub settled_admits : (sys : SystemView) (budgets : List ℕ) → Assigned sys budgets → PartsPassFrom sys budgets 0
    → CoresPassTo sys budgets (length sys.cores) → Admitted sys budgets
settled_admits sys budgets assigned pass cores = record { assigned = assigned; passes = each }
  where
    each : (node : Place) → IsNode sys node → NodePasses sys budgets node
    each (Part r) h = pass r (omega arith) h
    each (Core c) h = cores c h

-- the refusal of a node, all before it being settled, is the first
pub node_refuses : (sys : SystemView) (budgets : List ℕ) (node : Place) → IsNode sys node
    → SettledBefore sys budgets node → (tasks : List SporadicTask) → tasks ≡ node_tasks sys budgets node → (r : Refusal)
    → NodeRefuses (node_sched sys node) tasks (refusing_bound sys node) (node_cycle sys node) node r
    → FirstRefusal sys r
node_refuses sys budgets node h settled tasks same (Overfull place short) refuses =
    subst (λ (p : Place). FirstRefusal sys (Overfull p short)) (sym refuses.0)
    (record {
      is_node = h;
      budgets = budgets;
      settled = settled;
      cause =
          subst (λ (ts : List SporadicTask). TestFails (node_sched sys node) ts (refusing_bound sys node)
          (node_cycle sys node) short) same refuses.1;
    })
node_refuses sys budgets node h settled tasks same (Wide place) refuses =
    subst (λ (p : Place). FirstRefusal sys (Wide p)) (sym refuses.0)
    (record {
      is_node = h;
      budgets = budgets;
      settled = settled;
      cause =
          subst (λ (ts : List SporadicTask). IsSmall (node_sched sys node) ts (node_cycle sys node) → ⊥) same
          refuses.1;
    })
node_refuses sys budgets node h settled tasks same NoMemory refuses = absurd refuses

-- so it is of a part without a given budget, all before it being assigned
pub node_unassigned : (sys : SystemView) (budgets : List ℕ) (node : Place) → IsNode sys node
    → given_budget sys node ≡ None → AssignedFrom sys budgets (visited_from node) → (tasks : List SporadicTask)
    → tasks ≡ node_tasks sys budgets node → (r : Refusal)
    → NodeRefuses (node_sched sys node) tasks (refusing_bound sys node) (node_cycle sys node) node r
    → FirstUnassigned sys r
node_unassigned sys budgets node h computed assigned tasks same (Overfull place short) refuses =
    subst (λ (p : Place). FirstUnassigned sys (Overfull p short)) (sym refuses.0)
    (record {
      is_node = h;
      computed = computed;
      budgets = budgets;
      assigned = assigned;
      cause =
          subst (λ (ts : List SporadicTask). TestFails (node_sched sys node) ts (refusing_bound sys node)
          (node_cycle sys node) short) same refuses.1;
    })
node_unassigned sys budgets node h computed assigned tasks same (Wide place) refuses =
    subst (λ (p : Place). FirstUnassigned sys (Wide p)) (sym refuses.0)
    (record {
      is_node = h;
      computed = computed;
      budgets = budgets;
      assigned = assigned;
      cause =
          subst (λ (ts : List SporadicTask). IsSmall (node_sched sys node) ts (node_cycle sys node) → ⊥) same
          refuses.1;
    })
node_unassigned sys budgets node h computed assigned tasks same NoMemory refuses = absurd refuses

-- where budgets admit the system, no refusal is the answer, and so where they are assigned
pub not_refused : (sys : SystemView) → IsSystem sys → (r : Refusal) → FirstRefusal sys r → (budgets : List ℕ)
    → Admitted sys budgets → r ≡ NoMemory
not_refused sys is r refused budgets admitted = absurd (never_both sys is budgets r admitted refused)

pub not_unassigned : (sys : SystemView) → IsSystem sys → (r : Refusal) → FirstUnassigned sys r → (budgets : List ℕ)
    → Assigned sys budgets → r ≡ NoMemory
not_unassigned sys is r refused budgets assigned = absurd (never_assigned sys is budgets r assigned refused)

-- what is settled admits the one plan, and where budgets admit the system it is settled
pub admits_or_refuses : {A : Type 0} (sys : SystemView) → IsSystem sys → (result : Result A Refusal)
    (settled budgets : List ℕ)
    → IfOk result (λ done. Admitted sys settled) → IfErr result (λ r. FirstRefusal sys r) → Admitted sys budgets
    → MatchResult result (λ done. settled ≡ budgets) (λ r. ⊥)
admits_or_refuses sys is (Ok done) settled budgets admits refuses h = one_admission sys is settled budgets admits h
admits_or_refuses sys is (Err r) settled budgets admits refuses h = never_both sys is budgets r h refuses

-- a budget that was written is put back
pub put_back : (budgets now : List ℕ) (q budget was d : ℕ) → now ≡ set budgets q budget → was ≡ get_or budgets q d
    → set now q was ≡ budgets
put_back budgets now q budget was d e w =
    ap (λ (bs : List ℕ). set bs q was) e
    ∙ (set-set budgets q budget was ∙ (ap (λ (b : ℕ). set budgets q b) w ∙ set-get_or budgets q d))

-- budgets that are written back as a whole
pub written_back : (n : ℕ) (written before : List ℕ) → length written ≡ n
    → take n (written ++ drop (length written) before) ≡ written
written_back n written before e =
    subst (λ (k : ℕ). take k (written ++ drop (length written) before) ≡ written) e
    (take-append_seam written (drop (length written) before))

pub assigned_back : (sys : SystemView) (n : ℕ) (written before : List ℕ) → length written ≡ n → Assigned sys written
    → Assigned sys (take n (written ++ drop (length written) before))
assigned_back sys n written before e assigned =
    subst (λ (bs : List ℕ). Assigned sys bs) (sym (written_back n written before e)) assigned
