-- What `interface` answers: one thing, its statuses, and what it means.
use Rattle.std.proofs.Common.{◌≡◌, ℕ, ◌<◌, ◌≤◌, List, refl, sym, ◌∙◌, ap, subst, inl, inr, arith}
use Rattle.std.proofs.lemmas.Bool.{cases_lt}
use Rattle.slot_model.specs.Task.{SporadicTask, AreConstrained}
use Rattle.slot_model.specs.Supply.{GivesByDeadline}
use Rattle.slot_model.specs.Order.{before_of}
use Rattle.slot_model.proofs.DeadlineSupply.{deadline_laws}
use Rattle.slot_model.proofs.BudgetSupplies.{deadline_budgets}
use Rattle.least_budget.specs.declared.answers.Least.{Least}
use Rattle.least_budget.specs.declared.answers.Least.TheVariants.{Budget, Over, Wide as TooWide}
use Rattle.least_budget.proofs.Budgets.{none_misses, smaller_misses}
use Rattle.least_budget.proofs.LevelRuns.{level_no_loss, short_misses}
use Rattle.least_budget.proofs.OneAnswer.{one_least_of}
use Rattle.edp_supply.specs.Least.{IsLeastExplicit}
use Rattle.tree_model.specs.View.{SystemView}
use Rattle.tree_model.specs.System.{IsSystem, part_at, own_tasks_at}
use Rattle.tree_model.specs.NamedLeaf.{IsLeafNamed}
use Rattle.tree_model.proofs.Parents.{leaf_constrained}
use Rattle.rt_report.specs.declared.fault.FileFault.TheVariants.{BadDeadline}
use Rattle.rt_report.specs.Fault.{fault_text}
use Rattle.command_frame.specs.declared.status.Status.{Status}
use Rattle.command_frame.specs.declared.status.Status.TheVariants.{Yes, No, Wide, BadFile}
use Rattle.command_frame.specs.Answer.{IsOne}
use Rattle.guest_commands.specs.Interface.{least_status, least_text, IsInterface, AtDeadline, Interfaces, InterfaceMeans, HasNoFit, the_interface}
use Rattle.command_frame.specs.NamedLeaf.{IsVerdictUnless}
use Rattle.command_frame.specs.Steps.{IsJudged}
use Rattle.command_frame.proofs.CommandLaws.{CommandLaws}
use Rattle.command_frame.proofs.NamedLeaf.{one_on_leaf}
use Rattle.command_frame.proofs.OneFile.{ending_laws}

-- a period has one least budget by a deadline
one_interface : (sys : SystemView) (q deadline : ℕ) → 1 ≤ deadline → deadline ≤ (part_at sys q).period
    → IsOne (IsInterface sys q deadline)
one_interface sys q deadline some in_period = λ s t x y a b.
    let period : ℕ = (part_at sys q).period in
    let same : a.answer ≡ b.answer
    = one_least_of (part_at sys q).sched (own_tasks_at sys q) _ period deadline
    (deadline_budgets period deadline some in_period).more a.answer b.answer a.least b.least in
    (a.status_is ∙ ap least_status same ∙ sym b.status_is, a.told ∙ ap (least_text sys q deadline) same ∙ sym b.told)

one_at_deadline : (sys : SystemView) (deadline q : ℕ) → 1 ≤ deadline → IsOne (AtDeadline sys deadline q)
one_at_deadline sys deadline q some = λ s t x y a b. elim (cases_lt (part_at sys q).period deadline) [
  | inl past ↦ (let p = a.past past in let r = b.past past in (p.0 ∙ sym r.0, p.1 ∙ sym r.1))
  | inr within ↦ one_interface sys q deadline some within s t x y (a.within within) (b.within within)
]

-- a deadline past the period, and the least budget that is told
pub told_past : (sys : SystemView) (deadline q : ℕ) (status : Status) (text : List ℕ)
    → (part_at sys q).period < deadline → status ≡ BadFile → text ≡ fault_text BadDeadline 1
    → AtDeadline sys deadline q status text
told_past sys deadline q status text past is told =
    record { past = λ l. (is, told); within = λ m. absurd (omega (arith, past, m)) }

pub told_within : (sys : SystemView) (deadline q : ℕ) (status : Status) (text : List ℕ) (answer : Least)
    → deadline ≤ (part_at sys q).period
    → IsLeastExplicit (part_at sys q).sched (own_tasks_at sys q) (part_at sys q).period deadline answer
    → status ≡ least_status answer → text ≡ least_text sys q deadline answer → AtDeadline sys deadline q status text
told_within sys deadline q status text answer within least is told =
    record {
      past = λ l. absurd (omega (arith, within, l));
      within = λ m. record { answer = answer; least = least; status_is = is; told = told };
    }

-- its statuses
of_least : (P : Status → Type 0) → P Yes → P No → P Wide → (answer : Least) → P (least_status answer)
of_least P at_yes at_no at_wide (Budget budget) = at_yes
of_least P at_yes at_no at_wide (Over short) = at_no
of_least P at_yes at_no at_wide TooWide = at_wide

at_deadline_status : (P : Status → Type 0) → P Yes → P No → P Wide
    → (sys : SystemView) (deadline q : ℕ) (status : Status) (text : List ℕ)
    → ((part_at sys q).period < deadline → P BadFile) → AtDeadline sys deadline q status text → P status
at_deadline_status P at_yes at_no at_wide sys deadline q status text bad h =
    elim (cases_lt (part_at sys q).period deadline) [
      | inl past ↦ subst P (sym (h.past past).0) (bad past)
      | inr within ↦
          (let is = h.within within in subst P (sym is.status_is) (of_least P at_yes at_no at_wide is.answer))
    ]

interface_judged : (part : List ℕ) (deadline : ℕ) (sys : SystemView) (status : Status) (text : List ℕ)
    → Interfaces part deadline sys status text → IsJudged status
interface_judged part deadline sys status text h = elim h [
  | inl found ↦ at_deadline_status IsJudged tt tt tt sys deadline found.value status text (λ past. tt) found.said
  | inr none ↦ subst IsJudged (sym none.status_is) tt
]

-- what it means: with the least budget no job is lost, and with less some must miss
least_tells : (part : List ℕ) (deadline : ℕ) → 1 ≤ deadline → (sys : SystemView) → IsSystem sys → (q : ℕ)
    → IsLeafNamed sys part q → deadline ≤ (part_at sys q).period
    → (answer : Least)
    → IsLeastExplicit (part_at sys q).sched (own_tasks_at sys q) (part_at sys q).period deadline answer
    → InterfaceMeans part deadline sys (least_status answer) (least_text sys q deadline answer)
least_tells part deadline some sys is q found in_period (Budget budget) least =
    let period : ℕ = (part_at sys q).period in
    let fits : AreConstrained (own_tasks_at sys q) = leaf_constrained sys is q found.is_part in
    record {
      leaf = q;
      found = found;
      budget = budget;
      told = refl;
      in_deadline = least.1.in_range;
      in_period = in_period;
      no_loss =
          level_no_loss (part_at sys q).sched (own_tasks_at sys q) fits
          (deadline_laws period budget deadline some least.1.in_range in_period) least.1.passes;
      tight =
          λ b less. none_misses (part_at sys q).sched (own_tasks_at sys q) fits
          (deadline_laws period b deadline some (omega (arith, less, least.1.in_range)) in_period)
          (least.1.least b less);
    }
least_tells part deadline some sys is q found in_period (Over short) least =
    let period : ℕ = (part_at sys q).period in
    let tasks : List SporadicTask = own_tasks_at sys q in
    let fits : AreConstrained tasks = leaf_constrained sys is q found.is_part in
    record {
      leaf = q;
      found = found;
      short = short;
      told = refl;
      first = least.1;
      misses =
          λ b within. smaller_misses (before_of (part_at sys q).sched tasks) tasks
          (λ c. GivesByDeadline period c deadline) deadline b
          (λ slots g. (deadline_budgets period deadline some in_period).fewer b deadline slots within g)
          (short_misses (part_at sys q).sched tasks fits
          (deadline_laws period deadline deadline some (omega arith) in_period) short least.1);
    }
least_tells part deadline some sys is q found in_period TooWide least = tt

interface_means : (part : List ℕ) (deadline : ℕ) → 1 ≤ deadline → (sys : SystemView) → IsSystem sys
    → (status : Status) (text : List ℕ) → Interfaces part deadline sys status text
    → InterfaceMeans part deadline sys status text
interface_means part deadline some sys is status text h = elim h [
  | inl found ↦ elim (cases_lt (part_at sys found.value).period deadline) [
    | inl past ↦ subst (λ (s : Status). InterfaceMeans part deadline sys s text) (sym (found.said.past past).0) tt
    | inr within ↦ (let said = found.said.within within in
        subst (λ (s : Status). InterfaceMeans part deadline sys s text) (sym said.status_is)
        (subst (InterfaceMeans part deadline sys (least_status said.answer)) (sym said.told)
        (least_tells part deadline some sys is found.value found.gives within said.answer said.least)))
  ]
  | inr none ↦ subst (λ (s : Status). InterfaceMeans part deadline sys s text) (sym none.status_is) tt
]

pub interface_laws : (file part : List ℕ) (deadline : ℕ) → 1 ≤ deadline → CommandLaws (the_interface file part deadline)
interface_laws file part deadline some =
    ending_laws file (Interfaces part deadline) (InterfaceMeans part deadline)
    (IsVerdictUnless (HasNoFit part deadline))
    (record {
      one =
          λ sys is. one_on_leaf sys is part (AtDeadline sys deadline) (λ q found. one_at_deadline sys deadline q some);
      judged = interface_judged part deadline;
      means = interface_means part deadline some;
      long = λ sys text. tt;
    })
    (record {
      verdict = λ contents sys spelled status text h. elim h [
        | inl found ↦
            at_deadline_status (IsVerdictUnless (HasNoFit part deadline) contents) tt tt tt sys deadline found.value
            status text (λ past. record { sys = sys; spelled = spelled; such = inr (found.value, found.gives, past) })
            found.said
        | inr none ↦
            subst (IsVerdictUnless (HasNoFit part deadline) contents) (sym none.status_is)
            (record { sys = sys; spelled = spelled; such = inl none.refuses })
      ];
      no_memory = λ contents. tt;
    })
