-- The two searches by halving: what is known between the least and the greatest that are left.
use Rattle.std.proofs.Common.{◌≡◌, ℕ, set, length-set, ◌-◌, ◌<◌, ◌≤◌, true, List, length, Option, Some, None, refl, sym, ◌∙◌, ap, subst, arith, get_or}
use Rattle.std.proofs.lemmas.List.{set-set}
use Rattle.slot_model.specs.declared.sched.Sched.{Sched}
use Rattle.slot_model.specs.Task.{SporadicTask, room_of, task_at}
use Rattle.slot_model.specs.Bound.{sbf, TestPasses}
use Rattle.slot_model.proofs.Budgets.{larger_passes}
use Rattle.tree_model.specs.View.{PartView, SystemView}
use Rattle.tree_model.specs.System.{IsSystem, part_at, own_tasks_at, is_leaf_at}
use Rattle.tree_model.specs.declared.pinned_core.Core.{Core as CoreView}
use Rattle.tree_model.proofs.NodeTasks.{part_here}
use Rattle.tree_model.specs.Tree.{budget_at}
use Rattle.tree_model.specs.Admission.{Admitted}
use Rattle.tree_model.proofs.InRange.{admitted_in_period}
use Rattle.compose_tree.proofs.Heavier.{lighter_test}
use Rattle.admission_session.specs.Answers.{IsAdmitted}
use Rattle.admission_session.specs.Leaves.{with_changed}
use Rattle.admission_session.proofs.KeptByEdits.{changed_here}
use Rattle.slack.specs.inner.Steps.{part_with_budget, with_budget, IsOpenTo, IsMostBudget, tasks_with}
use Rattle.slack.proofs.Lower.{standing_open}
use Rattle.slack.proofs.Most.{AtLeaf, at_leaf, at_changed, budget_admitted, differs, differs_first, heavier_with, with_budget_is}

-- with the least work the tasks pass, and with none past the greatest
pub record WorkBetween (sched : Sched) (tasks : List SporadicTask) (period budget i low high : ℕ) : Type 0 where
  pub no_less : (task_at tasks i).work ≤ low
  pub in_order : low ≤ high
  pub in_room : high ≤ room_of (task_at tasks i)
  pub passes : TestPasses sched (tasks_with tasks i low) (sbf period budget) period
  pub past : (work : ℕ) → high < work → work ≤ room_of (task_at tasks i)
      → TestPasses sched (tasks_with tasks i work) (sbf period budget) period → ⊥

pub work_higher : (sched : Sched) (tasks : List SporadicTask) (period budget i low high middle : ℕ) → low ≤ middle
    → middle ≤ high → TestPasses sched (tasks_with tasks i middle) (sbf period budget) period
    → WorkBetween sched tasks period budget i low high → WorkBetween sched tasks period budget i middle high
work_higher sched tasks period budget i low high middle l m passes h = record {
  no_less = omega (arith, l, h.no_less);
  in_order = m;
  in_room = h.in_room;
  passes = passes;
  past = h.past;
}

pub work_lower : (sched : Sched) (tasks : List SporadicTask) (period budget i low high middle : ℕ) → i < length tasks
    → low < middle → middle ≤ high → (TestPasses sched (tasks_with tasks i middle) (sbf period budget) period → ⊥)
    → WorkBetween sched tasks period budget i low high → WorkBetween sched tasks period budget i low (middle - 1)
work_lower sched tasks period budget i low high middle li l m fails h = record {
  no_less = h.no_less;
  in_order = omega (arith, l);
  in_room = omega (arith, m, h.in_room);
  passes = h.passes;
  past =
      λ work more room passing. fails (lighter_test sched (tasks_with tasks i middle) (tasks_with tasks i work)
      (heavier_with tasks i middle work li (omega (arith, more, l))) (sbf period budget) period passing);
}

-- with the least budget of the leaf the system is admitted, and with none past the greatest
pub record BudgetBetween (sys : SystemView) (q low high : ℕ) : Type 0 where
  pub some : 1 ≤ low
  pub in_order : low ≤ high
  pub in_period : high ≤ (part_at sys q).period
  pub admitted : IsAdmitted (with_budget sys q low)
  pub past : (budget : ℕ) → high < budget → budget ≤ (part_at sys q).period
      → IsAdmitted (with_budget sys q budget) → ⊥

-- the budget of the plan may be given
plan_admitted : (sys : SystemView) → IsSystem sys → (q : ℕ) → q < length sys.parts → is_leaf_at sys q ≡ true
    → (plan : List ℕ) → Admitted sys plan → IsAdmitted (with_budget sys q (budget_at plan q))
plan_admitted sys is q h leaf plan admitted =
    let fit = admitted_in_period sys is plan admitted q h in
    budget_admitted sys is q h leaf sys is plan admitted (budget_at plan q)
    (differs_first sys q h (part_with_budget (part_at sys q) (budget_at plan q)) refl refl) fit.0 fit.1 (omega arith)
    (at_leaf sys q h leaf plan admitted).passes

pub budget_begins : (sys : SystemView) → IsSystem sys → (q : ℕ) → q < length sys.parts → is_leaf_at sys q ≡ true
    → (plan : List ℕ) → Admitted sys plan → BudgetBetween sys q (budget_at plan q) (part_at sys q).period
budget_begins sys is q h leaf plan admitted =
    let fit = admitted_in_period sys is plan admitted q h in
    record {
      some = fit.0;
      in_order = fit.1;
      in_period = omega arith;
      admitted = plan_admitted sys is q h leaf plan admitted;
      past = λ budget more room made. omega (arith, more, room);
    }

pub budget_higher : (sys : SystemView) (q low high middle : ℕ) → low ≤ middle → middle ≤ high
    → IsAdmitted (with_budget sys q middle) → BudgetBetween sys q low high → BudgetBetween sys q middle high
budget_higher sys q low high middle l m made h = record {
  some = omega (arith, l, h.some);
  in_order = m;
  in_period = h.in_period;
  admitted = made;
  past = h.past;
}

-- a smaller budget, of which one that is smaller still passes, leaves the system admitted
smaller_admitted : (sys : SystemView) → IsSystem sys → (q : ℕ) → q < length sys.parts → is_leaf_at sys q ≡ true
    → (low middle budget : ℕ) → 1 ≤ low → low ≤ middle → middle ≤ budget → budget ≤ (part_at sys q).period
    → IsAdmitted (with_budget sys q low) → IsAdmitted (with_budget sys q budget)
    → IsAdmitted (with_budget sys q middle)
smaller_admitted sys is q h leaf low middle budget some l m in_period least made =
    let part = part_at sys q in
    let now_at : AtLeaf (part_with_budget part low) (budget_at least.0 q)
    = at_changed sys q h (part_with_budget part low) leaf least.0 least.1 in
    let here : budget_at made.0 q ≡ budget
    = (at_changed sys q h (part_with_budget part budget) leaf made.0 made.1).stands in
    let passes : TestPasses part.sched (own_tasks_at sys q) (sbf part.period low) part.period
    = subst (λ (b : ℕ). TestPasses part.sched (own_tasks_at sys q) (sbf part.period b) part.period) now_at.stands
    now_at.passes in
    budget_admitted sys is q h leaf (with_budget sys q budget)
    (with_budget_is sys is q h budget (omega (arith, some, l, m)) in_period) made.0 made.1 middle
    (differs sys q h (part_with_budget part budget) (part_with_budget part middle) refl refl)
    (omega (arith, some, l)) (omega (arith, m, in_period)) (omega (arith, m, here)) (
      passes.0,
      larger_passes part.sched (own_tasks_at sys q) part.period low middle (is.parts q h).period.0 l
          (omega (arith, m, in_period)) passes.1,
    )

pub budget_lower : (sys : SystemView) → IsSystem sys → (q : ℕ) → q < length sys.parts → is_leaf_at sys q ≡ true
    → (low high middle : ℕ) → low < middle → middle ≤ high → (IsAdmitted (with_budget sys q middle) → ⊥)
    → BudgetBetween sys q low high → BudgetBetween sys q low (middle - 1)
budget_lower sys is q h leaf low high middle l m fails k = record {
  some = k.some;
  in_order = omega (arith, l);
  in_period = omega (arith, m, k.in_period);
  admitted = k.admitted;
  past =
      λ budget more room made. fails (smaller_admitted sys is q h leaf low middle budget k.some (omega (arith, l))
      (omega (arith, more, l)) room k.admitted made);
}

-- an open budget
pub budget_ends : (sys : SystemView) (q low high : ℕ) → high ≤ low → (part_at sys q).budget ≡ None
    → BudgetBetween sys q low high → IsMostBudget sys q low
budget_ends sys q low high l able h = record {
  some = h.some;
  in_period = omega (arith, h.in_order, h.in_period);
  admitted = h.admitted;
  able =
      subst (λ (given : Option ℕ). IsOpenTo given (part_at sys q).period low) (sym able)
      (omega (arith, h.in_order, h.in_period));
  greatest =
      λ budget more fits made. h.past budget (omega (arith, more, h.in_order, l))
      (subst (λ (given : Option ℕ). IsOpenTo given (part_at sys q).period budget) able fits) made;
}

-- a given one is the only one
only_one : (given : Option ℕ) (period most budget g : ℕ) → given ≡ Some g → IsOpenTo given period most
    → IsOpenTo given period budget → budget ≡ most
only_one (Some given) period most budget g e p r = r ∙ sym p
only_one None period most budget g e p r = cc

pub given_ends : (sys : SystemView) → IsSystem sys → (q : ℕ) → q < length sys.parts → is_leaf_at sys q ≡ true
    → (plan : List ℕ) → Admitted sys plan → (g : ℕ) → (part_at sys q).budget ≡ Some g
    → IsMostBudget sys q (budget_at plan q)
given_ends sys is q h leaf plan admitted g given =
    let part = part_at sys q in
    let fit = admitted_in_period sys is plan admitted q h in
    let able : IsOpenTo part.budget part.period (budget_at plan q)
    = standing_open part.sched (own_tasks_at sys q) part.period part.budget (budget_at plan q)
    (at_leaf sys q h leaf plan admitted).stands in
    record {
      some = fit.0;
      in_period = fit.1;
      admitted = plan_admitted sys is q h leaf plan admitted;
      able = able;
      greatest =
          λ budget more fits made.
          omega (arith, more, only_one part.budget part.period (budget_at plan q) budget g given able fits);
    }

-- a budget that is given twice
pub budget_twice : (sys : SystemView) (q first second : ℕ) → q < length sys.parts
    → with_budget (with_budget sys q first) q second ≡ with_budget sys q second
budget_twice sys q first second h =
    let part : PartView = part_at sys q in
    let once : List PartView = set sys.parts q (part_with_budget part first) in
    ap (λ (parts : List PartView). record sys { parts = parts })
    (ap (λ (p : PartView). set once q (part_with_budget p second))
    (changed_here sys q (part_with_budget part first) h)
    ∙ set-set sys.parts q (part_with_budget part first) (part_with_budget part second))

-- a trial differs from the system in no more than the budget of the leaf
pub record IsTrial (sys trial : SystemView) (q : ℕ) : Type 0 where
  pub same : (budget : ℕ) → with_budget trial q budget ≡ with_budget sys q budget
  pub is_part : q < length trial.parts
  pub period : (part_at trial q).period ≡ (part_at sys q).period

pub trial_begins : (sys trial : SystemView) (q : ℕ) → trial ≡ sys → q < length sys.parts → IsTrial sys trial q
trial_begins sys trial q e h =
    subst (λ (s : SystemView). IsTrial sys s q) (sym e)
    (record { same = λ budget. refl; is_part = h; period = refl })

pub trial_goes_on : (sys trial next : SystemView) (q budget : ℕ) → IsTrial sys trial q
    → next ≡ with_budget trial q budget → IsTrial sys next q
trial_goes_on sys trial next q budget is e =
    subst (λ (s : SystemView). IsTrial sys s q) (sym e)
    (record {
      same = λ b. budget_twice trial q budget b is.is_part ∙ is.same b;
      is_part = omega (arith, is.is_part, length-set trial.parts q (part_with_budget (part_at trial q) budget));
      period =
          ap (λ (p : PartView). p.period) (changed_here trial q (part_with_budget (part_at trial q) budget) is.is_part)
          ∙ is.period;
    })

-- the given budget is that of the plan
pub most_given : (sys : SystemView) → IsSystem sys → (q : ℕ) → q < length sys.parts → is_leaf_at sys q ≡ true
    → (plan : List ℕ) → Admitted sys plan → (g : ℕ) → (part_at sys q).budget ≡ Some g → IsMostBudget sys q g
most_given sys is q h leaf plan admitted g given =
    let part : PartView = part_at sys q in
    let stands : IsOpenTo (Some g) part.period (budget_at plan q)
    = subst (λ (o : Option ℕ). IsOpenTo o part.period (budget_at plan q)) given
    (standing_open part.sched (own_tasks_at sys q) part.period part.budget (budget_at plan q)
    (at_leaf sys q h leaf plan admitted).stands) in
    subst (IsMostBudget sys q) stands (given_ends sys is q h leaf plan admitted g given)

-- a system whose parts are written with another budget is one
pub written_is : (sys : SystemView) (cores : List CoreView) (parts : List PartView)
    → ◌≡◌ {A = SystemView} (record { cores = cores; parts = parts }) sys → IsSystem sys → (q : ℕ) → q < length sys.parts
    → (part now : PartView) → part ≡ now → now ≡ get_or parts q now → (budget : ℕ) → 1 ≤ budget
    → budget ≤ (part_at sys q).period
    → IsSystem (record { cores = cores; parts = set parts q (part_with_budget part budget) })
written_is sys cores parts e is q h part now same read budget some fits =
    let all : parts ≡ sys.parts = ap (λ (s : SystemView). s.parts) e in
    let long : q < length parts = omega (arith, h, ap (λ (ps : List PartView). length ps) all) in
    let here : part ≡ part_at sys q = same ∙ part_here sys parts q now all long read in
    subst (λ (s : SystemView). IsSystem
    (record { cores = s.cores; parts = set s.parts q (part_with_budget part budget) }))
    (sym e)
    (subst (λ (p : PartView). IsSystem (with_budget sys q budget)
    → IsSystem (with_changed sys q (part_with_budget p budget))) (sym here) (λ made. made)
    (with_budget_is sys is q h budget some fits))
