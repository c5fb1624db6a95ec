-- What `choose` answers: one thing, its statuses, and what it means.
use Rattle.std.proofs.Common.{◌≡◌, ℕ, ◌≤◌, true, List, refl, sym, ◌∙◌, ap, subst, inl, inr, arith}
use Rattle.std.proofs.lemmas.Bool.{false≢true}
use Rattle.slot_model.specs.Task.{SporadicTask, AreConstrained}
use Rattle.slot_model.specs.declared.sched.Sched.{Sched}
use Rattle.slot_model.specs.Supply.{GivesBudget}
use Rattle.slot_model.specs.Order.{before_of}
use Rattle.slot_model.specs.Miss.{MustMiss}
use Rattle.slot_model.proofs.Budgets.{larger_passes}
use Rattle.slot_model.proofs.WorstPattern.{periodic_laws}
use Rattle.least_budget.specs.declared.answers.Least.{Least}
use Rattle.least_budget.specs.declared.answers.Least.TheVariants.{Budget, Over, Wide as TooWide}
use Rattle.least_budget.specs.Answers.{IsLeast}
use Rattle.least_budget.proofs.Budgets.{not_passing_misses, over_misses}
use Rattle.least_budget.proofs.LevelRuns.{level_no_loss}
use Rattle.period_choice.specs.declared.choice.Choice.{Choice}
use Rattle.period_choice.specs.declared.choice.Choice.TheVariants.{Best, Nothing}
use Rattle.period_choice.specs.Choice.{is_over, IsChoice}
use Rattle.period_choice.proofs.OneChoice.{one_choice}
use Rattle.tree_model.specs.View.{SystemView}
use Rattle.tree_model.specs.System.{IsSystem, part_at, own_tasks_at}
use Rattle.tree_model.specs.NamedLeaf.{IsLeafNamed}
use Rattle.tree_model.proofs.Parents.{leaf_constrained}
use Rattle.command_frame.specs.declared.status.Status.{Status}
use Rattle.command_frame.specs.declared.status.Status.TheVariants.{Yes, No}
use Rattle.command_frame.specs.Answer.{IsOne}
use Rattle.guest_commands.specs.Choose.{choice_status, choice_text, IsChosen, Chooses, ChooseMeans, EndsChoosing, the_choose}
use Rattle.command_frame.specs.Steps.{IsJudged}
use Rattle.command_frame.proofs.CommandLaws.{CommandLaws}
use Rattle.command_frame.proofs.NamedLeaf.{one_on_leaf}
use Rattle.command_frame.proofs.OneFile.{ending_laws}

one_chosen : (sys : SystemView) (low high q : ℕ) → 1 ≤ low → IsOne (IsChosen sys low high q)
one_chosen sys low high q some = λ s t x y a b.
    let same : a.choice ≡ b.choice
    = one_choice (part_at sys q).sched (own_tasks_at sys q) low high some a.choice b.choice a.chosen b.chosen in
    (a.status_is ∙ ap choice_status same ∙ sym b.status_is, a.told ∙ ap (choice_text sys q) same ∙ sym b.told)

-- the choice that is told
pub told_chosen : (sys : SystemView) (low high q : ℕ) (status : Status) (text : List ℕ) (choice : Choice)
    → IsChoice (part_at sys q).sched (own_tasks_at sys q) low high choice → status ≡ choice_status choice
    → text ≡ choice_text sys q choice → IsChosen sys low high q status text
told_chosen sys low high q status text choice chosen is told =
    record { choice = choice; chosen = chosen; status_is = is; told = told }

-- its statuses
of_choice : (P : Status → Type 0) → P Yes → P No → (choice : Choice) → P (choice_status choice)
of_choice P at_yes at_no (Best period budget) = at_yes
of_choice P at_yes at_no (Nothing over wide) = at_no

chosen_status : (P : Status → Type 0) → P Yes → P No
    → (sys : SystemView) (low high q : ℕ) (status : Status) (text : List ℕ) → IsChosen sys low high q status text
    → P status
chosen_status P at_yes at_no sys low high q status text h =
    subst P (sym h.status_is) (of_choice P at_yes at_no h.choice)

choose_judged : (part : List ℕ) (low high : ℕ) (sys : SystemView) (status : Status) (text : List ℕ)
    → Chooses part low high sys status text → IsJudged status
choose_judged part low high sys status text h = elim h [
  | inl found ↦ chosen_status IsJudged tt tt sys low high found.value status text found.said
  | inr none ↦ subst IsJudged (sym none.status_is) tt
]

-- at a period that is short even as a whole, every budget must miss
period_misses : (sched : Sched) (tasks : List SporadicTask) → AreConstrained tasks → (q b : ℕ) → 1 ≤ q → b ≤ q
    → (answer : Least) → IsLeast sched tasks q answer → is_over answer ≡ true
    → MustMiss (GivesBudget q b) (before_of sched tasks) tasks
period_misses sched tasks fits q b some within (Budget least) h over = absurd (false≢true over)
period_misses sched tasks fits q b some within (Over short) h over =
    over_misses sched tasks fits q b some within short h.1
period_misses sched tasks fits q b some within TooWide h over = absurd (false≢true over)

-- what it means
choice_tells : (part : List ℕ) (low high : ℕ) → 1 ≤ low → (sys : SystemView) → IsSystem sys → (q : ℕ)
    → IsLeafNamed sys part q
    → (choice : Choice) → IsChoice (part_at sys q).sched (own_tasks_at sys q) low high choice
    → ChooseMeans part low high sys (choice_status choice) (choice_text sys q choice)
choice_tells part low high some sys is q found (Best period budget) best =
    let fits : AreConstrained (own_tasks_at sys q) = leaf_constrained sys is q found.is_part in
    let some_period : 1 ≤ period = omega (arith, some, best.from) in
    record {
      leaf = q;
      found = found;
      period = period;
      budget = budget;
      told = refl;
      best = best;
      no_loss =
          level_no_loss (part_at sys q).sched (own_tasks_at sys q) fits
          (periodic_laws period budget some_period best.is_least.1.in_range) best.is_least.1.passes;
      tight =
          λ b less. not_passing_misses (part_at sys q).sched (own_tasks_at sys q) fits period b some_period
          (omega (arith, less, best.is_least.1.in_range)) (best.is_least.1.least b less);
    }
choice_tells part low high some sys is q found (Nothing over wide) nothing =
    let fits : AreConstrained (own_tasks_at sys q) = leaf_constrained sys is q found.is_part in
    record {
      leaf = q;
      found = found;
      over = over;
      wide = wide;
      told = refl;
      nothing = nothing;
      none =
          λ p b from to within passes. nothing.none p from to (
            passes.0,
            larger_passes (part_at sys q).sched (own_tasks_at sys q) p b p (omega (arith, some, from)) within
                (omega arith) passes.1,
          );
      misses =
          λ p b from to short within. period_misses (part_at sys q).sched (own_tasks_at sys q) fits p b
          (omega (arith, some, from)) within (nothing.answer p) (nothing.answers p from to) short;
    }

choose_means : (part : List ℕ) (low high : ℕ) → 1 ≤ low → (sys : SystemView) → IsSystem sys
    → (status : Status) (text : List ℕ) → Chooses part low high sys status text
    → ChooseMeans part low high sys status text
choose_means part low high some sys is status text h = elim h [
  | inl found ↦ (let said = found.said in
      subst (λ (s : Status). ChooseMeans part low high sys s text) (sym said.status_is)
      (subst (ChooseMeans part low high sys (choice_status said.choice)) (sym said.told)
      (choice_tells part low high some sys is found.value found.gives said.choice said.chosen)))
  | inr none ↦ subst (λ (s : Status). ChooseMeans part low high sys s text) (sym none.status_is) tt
]

pub choose_laws : (file part : List ℕ) (low high : ℕ) → 1 ≤ low → CommandLaws (the_choose file part low high)
choose_laws file part low high some =
    ending_laws file (Chooses part low high) (ChooseMeans part low high)
    (EndsChoosing part)
    (record {
      one = λ sys is. one_on_leaf sys is part (IsChosen sys low high) (λ q found. one_chosen sys low high q some);
      judged = choose_judged part low high;
      means = choose_means part low high some;
      long = λ sys text. tt;
    })
    (record {
      verdict = λ contents sys spelled status text h. elim h [
        | inl found ↦
            chosen_status (EndsChoosing part contents) tt tt sys low high found.value status text found.said
        | inr none ↦
            subst (EndsChoosing part contents) (sym none.status_is)
            (record { sys = sys; spelled = spelled; such = none.refuses })
      ];
      no_memory = λ contents. tt;
    })
