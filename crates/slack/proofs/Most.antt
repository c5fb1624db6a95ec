-- With each work up to the greatest that passes under the greatest budget of the leaf the system
-- is admitted, and with no other.
use Rattle.std.proofs.Common.{◌≡◌, ◌≢◌, ℕ, ◌<◌, ◌≤◌, true, List, [], ◌∷◌, length, set, refl, sym, ◌∙◌, ap, subst, arith, inl, inr, length-set, get_or-set_other, get_or-set_same}
use Rattle.std.proofs.Math.Seq.{map-set_same}
use Rattle.std.proofs.lemmas.Bool.{cases_eq, cases_lt}
use Rattle.std.proofs.lemmas.List.{map-set, get_or-map, length-map}
use Rattle.slot_model.specs.declared.task.TheConstants.{LIMIT}
use Rattle.slot_model.specs.Task.{SporadicTask, IsConstrained, default_task, jittery_task, room_of, task_at}
use Rattle.slot_model.specs.Bound.{sbf, TestPasses}
use Rattle.slot_model.proofs.Budgets.{larger_passes}
use Rattle.tree_model.specs.declared.place.Place.TheVariants.{Part}
use Rattle.tree_model.specs.View.{NamedTask, PartView, SystemView}
use Rattle.tree_model.specs.System.{IsSystem, IsPart, AreDistinct, part_at, own_tasks, own_tasks_at, is_leaf, is_leaf_at}
use Rattle.tree_model.specs.Tree.{budget_at, node_tasks}
use Rattle.tree_model.specs.Admission.{IsGivenOrLeast, Admitted}
use Rattle.tree_model.proofs.NodeTasks.{leaf_tasks}
use Rattle.tree_model.proofs.Parents.{leaf_constrained}
use Rattle.tree_model.proofs.InRange.{admitted_in_period}
use Rattle.compose_tree.proofs.Heavier.{Heavier, lighter_test}
use Rattle.admission_session.specs.Leaves.{with_changed}
use Rattle.admission_session.specs.Answers.{IsAdmitted}
use Rattle.admission_session.proofs.KeptByEdits.{changed_at, changed_here}
use Rattle.admission_session.proofs.EditedSystems.{with_changed_is}
use Rattle.slack.specs.MostWork.{no_task, named_at, task_with_work, part_with_work, with_work, IsMostWork}
use Rattle.slack.specs.inner.Steps.{part_with_budget, with_budget, IsOpenTo, IsMostBudget, tasks_with, IsMostPassing}
use Rattle.slack.proofs.Lower.{DiffersAt, PartStands, open_stands, standing_open, lowered_admitted}

-- the task at a place with other work, and every other as it was
pub task_here : (tasks : List SporadicTask) (i work : ℕ) → i < length tasks
    → task_at (tasks_with tasks i work) i
    ≡ jittery_task (task_at tasks i).period (task_at tasks i).deadline work (task_at tasks i).jitter
task_here tasks i work h = get_or-set_same tasks i _ default_task h

pub task_there : (tasks : List SporadicTask) (i work k : ℕ) → k ≢ i
    → task_at (tasks_with tasks i work) k ≡ task_at tasks k
task_there tasks i work k ne = get_or-set_other tasks i k _ default_task ne

pub tasks_length : (tasks : List SporadicTask) (i work : ℕ) → length (tasks_with tasks i work) ≡ length tasks
tasks_length tasks i work = length-set tasks i _

-- more work of one task
pub heavier_with : (tasks : List SporadicTask) (i less more : ℕ) → i < length tasks → less ≤ more
    → Heavier (tasks_with tasks i less) (tasks_with tasks i more)
heavier_with tasks i less more h l = record {
  same_length = tasks_length tasks i less ∙ sym (tasks_length tasks i more);
  each = λ k lk. elim (cases_eq k i) [
    | inl e ↦ (
      more,
      ap (task_at (tasks_with tasks i more)) e
          ∙ (task_here tasks i more h
          ∙ ap (λ (t : SporadicTask). jittery_task t.period t.deadline more t.jitter)
          (sym (ap (task_at (tasks_with tasks i less)) e ∙ task_here tasks i less h))),
      omega (
        arith,
        l,
        ap (λ (t : SporadicTask). t.work)
            (ap (task_at (tasks_with tasks i less)) e ∙ task_here tasks i less h),
      ),
    )
    | inr ne ↦ (
      (task_at (tasks_with tasks i less) k).work,
      task_there tasks i more k ne ∙ sym (task_there tasks i less k ne),
      omega arith,
    )
  ];
}

pub heavier_than : (tasks : List SporadicTask) (i more : ℕ) → i < length tasks → (task_at tasks i).work ≤ more
    → Heavier tasks (tasks_with tasks i more)
heavier_than tasks i more h l = record {
  same_length = sym (tasks_length tasks i more);
  each = λ k lk. elim (cases_eq k i) [
    | inl e ↦ (
      more,
      ap (task_at (tasks_with tasks i more)) e
          ∙ (task_here tasks i more h
          ∙ ap (λ (j : ℕ). jittery_task (task_at tasks j).period (task_at tasks j).deadline more
          (task_at tasks j).jitter)
          (sym e)),
      omega (arith, l, ap (λ (j : ℕ). (task_at tasks j).work) e),
    )
    | inr ne ↦ ((task_at tasks k).work, task_there tasks i more k ne, omega arith)
  ];
}

-- the tasks of the leaf
pub own_with : (part : PartView) (i work : ℕ) → i < length part.tasks
    → own_tasks (part_with_work part i work) ≡ tasks_with (own_tasks part) i work
own_with part i work h =
    map-set (λ (t : NamedTask). t.task) part.tasks i (task_with_work (named_at part i) work)
    ∙ ap (λ (t : SporadicTask). set (own_tasks part) i (jittery_task t.period t.deadline work t.jitter))
    (sym (get_or-map (λ (t : NamedTask). t.task) part.tasks i no_task default_task h))

pub own_length : (part : PartView) → length (own_tasks part) ≡ length part.tasks
own_length part = length-map part.tasks (λ (t : NamedTask). t.task)

some_is_leaf : (tasks : List NamedTask) → 1 ≤ length tasks → is_leaf tasks ≡ true
some_is_leaf [] l = absurd (omega arith)
some_is_leaf (t ∷ tasks) l = refl

-- both systems are systems
part_with_work_is : (part : PartView) → IsPart part → (i work : ℕ) → i < length part.tasks → 1 ≤ work
    → work ≤ room_of (task_at (own_tasks part) i) → IsPart (part_with_work part i work)
part_with_work_is part is i work h some room = record {
  period = is.period;
  budget = is.budget;
  few_tasks =
      omega (arith, is.few_tasks, length-set part.tasks i (task_with_work (named_at part i) work));
  tasks = λ k l.
      let inside : k < length part.tasks
      = omega (arith, l, length-set part.tasks i (task_with_work (named_at part i) work)) in
      subst (λ (ts : List SporadicTask). IsConstrained (task_at ts k) × ((task_at ts k).period ≤ LIMIT))
      (sym (own_with part i work h)) (elim (cases_eq k i) [
        | inl e ↦
            subst (λ (t : SporadicTask). IsConstrained t × (t.period ≤ LIMIT))
            (sym (ap (task_at (tasks_with (own_tasks part) i work)) e
            ∙ task_here (own_tasks part) i work (omega (arith, h, own_length part)))) (
              record {
                works = some;
                in_deadline = omega (arith, room, some, (is.tasks i h).0.in_deadline, (is.tasks i h).0.works);
                in_period = (is.tasks i h).0.in_period;
              },
              (is.tasks i h).1,
            )
        | inr ne ↦
            subst (λ (t : SporadicTask). IsConstrained t × (t.period ≤ LIMIT))
            (sym (task_there (own_tasks part) i work k ne)) (is.tasks k inside)
      ]);
  task_names =
      subst AreDistinct (sym (map-set_same (λ (t : NamedTask). t.name) part.tasks i
      (task_with_work (named_at part i) work) no_task refl)) is.task_names;
}

pub with_work_is : (sys : SystemView) → IsSystem sys → (q : ℕ) → q < length sys.parts → is_leaf_at sys q ≡ true
    → (i work : ℕ) → i < length (part_at sys q).tasks → 1 ≤ work → work ≤ room_of (task_at (own_tasks_at sys q) i)
    → IsSystem (with_work sys q i work)
with_work_is sys is q h leaf i work hi some room =
    let part : PartView = part_at sys q in
    with_changed_is sys is q (part_with_work part i work) h refl refl
    (leaf ∙ sym (some_is_leaf (part_with_work part i work).tasks
    (omega (arith, hi, length-set part.tasks i (task_with_work (named_at part i) work)))))
    (part_with_work_is part (is.parts q h) i work hi some room)

pub with_budget_is : (sys : SystemView) → IsSystem sys → (q : ℕ) → q < length sys.parts → (budget : ℕ) → 1 ≤ budget
    → budget ≤ (part_at sys q).period → IsSystem (with_budget sys q budget)
with_budget_is sys is q h budget some in_period =
    with_changed_is sys is q (part_with_budget (part_at sys q) budget) h refl refl refl
    (record {
      period = (is.parts q h).period;
      budget = (some, in_period);
      few_tasks = (is.parts q h).few_tasks;
      tasks = (is.parts q h).tasks;
      task_names = (is.parts q h).task_names;
    })

-- they differ at the leaf alone
pub differs : (sys : SystemView) (q : ℕ) → q < length sys.parts → (a b : PartView) → a.parent ≡ b.parent
    → a.period ≡ b.period → DiffersAt (with_changed sys q a) (with_changed sys q b) q
differs sys q h a b parent period = record {
  cores = refl;
  one_each = length-set sys.parts q a ∙ sym (length-set sys.parts q b);
  others = λ r ne. sym (changed_at sys q a r ne) ∙ changed_at sys q b r ne;
  parent =
      ap (λ (p : PartView). p.parent) (changed_here sys q a h)
      ∙ (parent ∙ sym (ap (λ (p : PartView). p.parent) (changed_here sys q b h)));
  period =
      ap (λ (p : PartView). p.period) (changed_here sys q a h)
      ∙ (period ∙ sym (ap (λ (p : PartView). p.period) (changed_here sys q b h)));
}

pub differs_first : (sys : SystemView) (q : ℕ) → q < length sys.parts → (b : PartView)
    → (part_at sys q).parent ≡ b.parent
    → (part_at sys q).period ≡ b.period → DiffersAt sys (with_changed sys q b) q
differs_first sys q h b parent period = record {
  cores = refl;
  one_each = sym (length-set sys.parts q b);
  others = λ r ne. changed_at sys q b r ne;
  parent = parent ∙ sym (ap (λ (p : PartView). p.parent) (changed_here sys q b h));
  period = period ∙ sym (ap (λ (p : PartView). p.period) (changed_here sys q b h));
}

-- what stands and passes at a leaf of an admitted system
pub record AtLeaf (part : PartView) (budget : ℕ) : Type 0 where
  pub stands : IsGivenOrLeast part.sched (own_tasks part) part.period part.budget budget
  pub passes : TestPasses part.sched (own_tasks part) (sbf part.period budget) part.period

pub at_leaf : (sys : SystemView) (q : ℕ) → q < length sys.parts → is_leaf_at sys q ≡ true → (b : List ℕ)
    → Admitted sys b → AtLeaf (part_at sys q) (budget_at b q)
at_leaf sys q h leaf b admitted =
    let part : PartView = part_at sys q in
    let same : node_tasks sys b (Part q) ≡ own_tasks part = leaf_tasks sys b q leaf in
    record {
      stands =
          subst (λ (ts : List SporadicTask). IsGivenOrLeast part.sched ts part.period part.budget (budget_at b q)) same
          (admitted.assigned.stands q (omega arith) h);
      passes =
          subst (λ (ts : List SporadicTask). TestPasses part.sched ts (sbf part.period (budget_at b q)) part.period)
          same
          (admitted.passes (Part q) h);
    }

pub at_changed : (sys : SystemView) (q : ℕ) → q < length sys.parts → (leaf : PartView) → is_leaf leaf.tasks ≡ true
    → (b : List ℕ) → Admitted (with_changed sys q leaf) b → AtLeaf leaf (budget_at b q)
at_changed sys q h leaf some b admitted =
    subst (λ (p : PartView). AtLeaf p (budget_at b q)) (changed_here sys q leaf h)
    (at_leaf (with_changed sys q leaf) q (omega (arith, h, length-set sys.parts q leaf))
    (ap (λ (p : PartView). is_leaf p.tasks) (changed_here sys q leaf h) ∙ some) b admitted)

-- a change of the leaf of an admitted system, with which it passes under a budget that is no
-- greater
change_admitted : (sys : SystemView) (q : ℕ) → q < length sys.parts → (was : SystemView) (leaf : PartView)
    → DiffersAt was (with_changed sys q leaf) q → IsSystem was → IsSystem (with_changed sys q leaf)
    → is_leaf leaf.tasks ≡ true → (b : List ℕ) → Admitted was b → PartStands leaf (budget_at b q)
    → IsAdmitted (with_changed sys q leaf)
change_admitted sys q h was leaf d then is some b admitted stands =
    lowered_admitted was (with_changed sys q leaf) q d then is b admitted
    (ap (λ (p : PartView). is_leaf p.tasks) (changed_here sys q leaf h) ∙ some)
    (subst (λ (p : PartView). PartStands p (budget_at b q)) (sym (changed_here sys q leaf h)) stands)

-- a smaller budget of the leaf, with which it passes, leaves the system admitted
pub budget_admitted : (sys : SystemView) → IsSystem sys → (q : ℕ) → q < length sys.parts → is_leaf_at sys q ≡ true
    → (was : SystemView) → IsSystem was → (b : List ℕ) → Admitted was b → (less : ℕ)
    → DiffersAt was (with_budget sys q less) q → 1 ≤ less → less ≤ (part_at sys q).period → less ≤ budget_at b q
    → TestPasses (part_at sys q).sched (own_tasks_at sys q) (sbf (part_at sys q).period less) (part_at sys q).period
    → IsAdmitted (with_budget sys q less)
budget_admitted sys is q h leaf was then b admitted less d some in_period low passes =
    change_admitted sys q h was (part_with_budget (part_at sys q) less) d then
    (with_budget_is sys is q h less some in_period) leaf b admitted
    (record { budget = less; low = low; stands = refl; passes = passes })

-- with a work that passes under the greatest budget the system is admitted
work_admitted : (sys : SystemView) → IsSystem sys → (q : ℕ) → q < length sys.parts → is_leaf_at sys q ≡ true
    → (most : ℕ) → IsMostBudget sys q most → (i work : ℕ) → i < length (part_at sys q).tasks → 1 ≤ work
    → work ≤ room_of (task_at (own_tasks_at sys q) i)
    → TestPasses (part_at sys q).sched (tasks_with (own_tasks_at sys q) i work) (sbf (part_at sys q).period most)
    (part_at sys q).period → IsAdmitted (with_work sys q i work)
work_admitted sys is q h leaf most found i work hi some room passes =
    let part : PartView = part_at sys q in
    let changed : PartView = part_with_work part i work in
    let b : List ℕ = found.admitted.0 in
    let now_is : IsSystem (with_work sys q i work) = with_work_is sys is q h leaf i work hi some room in
    let same : budget_at b q ≡ most
    = (at_changed sys q h (part_with_budget part most) leaf b found.admitted.1).stands in
    change_admitted sys q h (with_budget sys q most) changed
    (differs sys q h (part_with_budget part most) changed refl refl)
    (with_budget_is sys is q h most found.some found.in_period) now_is
    (some_is_leaf changed.tasks (omega (arith, hi, length-set part.tasks i (task_with_work (named_at part i) work))))
    b found.admitted.1
    (subst (λ (k : ℕ). PartStands changed k) (sym same)
    (open_stands part.sched (own_tasks changed)
    (subst (λ (p : PartView). (k : ℕ) → k < length (own_tasks p) → IsConstrained (task_at (own_tasks p) k))
    (changed_here sys q changed h)
    (leaf_constrained (with_work sys q i work) now_is q (omega (arith, h, length-set sys.parts q changed))))
    part.period part.budget most (is.parts q h).period.0 found.in_period found.able
    (subst (λ (ts : List SporadicTask). TestPasses part.sched ts (sbf part.period most) part.period)
    (sym (own_with part i work hi)) passes)))

-- where the system is admitted with more work, the leaf passes with it under the greatest budget
work_passes : (sys : SystemView) → IsSystem sys → (q : ℕ) → q < length sys.parts → is_leaf_at sys q ≡ true
    → (most : ℕ) → IsMostBudget sys q most → (i work : ℕ) → i < length (part_at sys q).tasks
    → (task_at (own_tasks_at sys q) i).work ≤ work → 1 ≤ work → work ≤ room_of (task_at (own_tasks_at sys q) i)
    → (b : List ℕ) → Admitted (with_work sys q i work) b
    → TestPasses (part_at sys q).sched (tasks_with (own_tasks_at sys q) i work) (sbf (part_at sys q).period most)
    (part_at sys q).period
work_passes sys is q h leaf most found i work hi more some room b admitted =
    let part : PartView = part_at sys q in
    let changed : PartView = part_with_work part i work in
    let now : SystemView = with_work sys q i work in
    let d : ℕ = budget_at b q in
    let now_is : IsSystem now = with_work_is sys is q h leaf i work hi some room in
    let filled : is_leaf changed.tasks ≡ true
    = some_is_leaf changed.tasks
    (omega (arith, hi, length-set part.tasks i (task_with_work (named_at part i) work))) in
    let now_at : AtLeaf changed d = at_changed sys q h changed filled b admitted in
    let heavy : TestPasses part.sched (tasks_with (own_tasks part) i work) (sbf part.period d) part.period
    = subst (λ (ts : List SporadicTask). TestPasses part.sched ts (sbf part.period d) part.period)
    (own_with part i work hi) now_at.passes in
    let able : IsOpenTo part.budget part.period d
    = standing_open part.sched (own_tasks changed) part.period part.budget d now_at.stands in
    let fit : (1 ≤ d) × (d ≤ part.period)
    = subst (λ (p : PartView). (1 ≤ d) × (d ≤ p.period)) (changed_here sys q changed h)
    (admitted_in_period now now_is b admitted q (omega (arith, h, length-set sys.parts q changed))) in
    elim (cases_lt most d) [
      | inl past ↦
          absurd (found.greatest d past able (budget_admitted sys is q h leaf now now_is b admitted d
          (differs sys q h changed (part_with_budget part d) refl refl) fit.0 fit.1 (omega arith)
          (lighter_test part.sched (own_tasks part) (tasks_with (own_tasks part) i work)
          (heavier_than (own_tasks part) i work (omega (arith, hi, own_length part)) more) (sbf part.period d)
          part.period heavy)))
      | inr within ↦ (
        heavy.0,
        larger_passes part.sched (tasks_with (own_tasks part) i work) part.period d most (is.parts q h).period.0 within
            found.in_period heavy.1,
      )
    ]

-- so the greatest work that passes under the greatest budget is the greatest of all
pub is_most_work : (sys : SystemView) → IsSystem sys → (q : ℕ) → q < length sys.parts → is_leaf_at sys q ≡ true
    → (budget : ℕ) → IsMostBudget sys q budget → (i most : ℕ) → i < length (part_at sys q).tasks
    → IsMostPassing (part_at sys q).sched (own_tasks_at sys q) (part_at sys q).period budget i most
    → IsMostWork sys q i most
is_most_work sys is q h leaf budget found i most hi passing =
    let part : PartView = part_at sys q in
    let inside : i < length (own_tasks part) = omega (arith, hi, own_length part) in
    let works : 1 ≤ (task_at (own_tasks part) i).work = ((is.parts q h).tasks i hi).0.works in
    record {
      some = omega (arith, works, passing.no_less);
      in_room = passing.in_room;
      admitted = λ work some low.
          work_admitted sys is q h leaf budget found i work hi some (omega (arith, low, passing.in_room))
          (lighter_test part.sched (tasks_with (own_tasks part) i work) (tasks_with (own_tasks part) i most)
          (heavier_with (own_tasks part) i work most inside low) (sbf part.period budget) part.period passing.passes);
      past = λ work more room b admitted.
          passing.past work more room
          (work_passes sys is q h leaf budget found i work hi (omega (arith, more, passing.no_less))
          (omega (arith, more, passing.no_less, works)) room b admitted);
    }
