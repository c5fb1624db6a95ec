-- What the answers about one leaf mean, taken apart, and which files are refused. A definition that
-- says less breaks one of these.
use Rattle.std.proofs.Common.{◌≡◌, ◌⊎◌, ℕ, ◌+◌, ◌<◌, ◌≤◌, true, false, List, [], ◌∷◌, length, Some, None, refl, arith, inl, inr}
use Rattle.std.specs.Prelude.{All, Ok, IsOk, codes, slice_index_or}
use Rattle.std.specs.Fmt.{digits}
use Rattle.slot_model.specs.declared.sched.Short.{Short}
use Rattle.slot_model.specs.declared.sched.Short.TheVariants.{At}
use Rattle.slot_model.specs.declared.sched.Sched.{Sched}
use Rattle.slot_model.specs.declared.sched.Sched.TheVariants.{Edf, Rm, Dm, Listed}
use Rattle.slot_model.specs.Task.{SporadicTask, plain_task, room_of, task_at}
use Rattle.slot_model.specs.Supply.{GivesBudget, GivesByDeadline, worst_slot}
use Rattle.slot_model.specs.Order.{before_of}
use Rattle.slot_model.specs.Bound.{sbf, sbf_by, IsShortfall, TestPasses}
use Rattle.slot_model.specs.Miss.{NoJobLost, MustMiss}
use Rattle.least_budget.specs.declared.answers.Least.TheVariants.{Budget, Over, Wide as LeastWide}
use Rattle.period_choice.specs.declared.choice.Choice.TheVariants.{Best, Nothing}
use Rattle.period_choice.specs.Choice.{is_over, IsBest, IsNothing}
use Rattle.response_times.specs.Response.{IsGreatestResponse}
use Rattle.response_times.specs.Replay.{ShowsResponse}
use Rattle.tree_model.specs.declared.place.Place.TheVariants.{Part}
use Rattle.tree_model.specs.declared.place.Parent.{Parent}
use Rattle.tree_model.specs.declared.place.Parent.TheVariants.{Core as on_core, Part as on_part}
use Rattle.tree_model.specs.declared.plan.Refusal.{Refusal}
use Rattle.tree_model.specs.declared.plan.Refusal.TheVariants.{Overfull, Wide as NodeWide}
use Rattle.tree_model.specs.View.{NamedTask, PartView, SystemView}
use Rattle.tree_model.specs.System.{IsSystem, part_at, own_tasks_at}
use Rattle.tree_model.specs.Tree.{NoLoss}
use Rattle.tree_model.specs.Admission.{Admitted, FirstRefusal}
use Rattle.tree_model.specs.NamedLeaf.{IsLeafNamed}
use Rattle.slack.specs.MostWork.{AreMostWorks, with_work}
use Rattle.system_file.specs.SystemFile.{system_of}
use Rattle.rt_report.specs.declared.responses.Response.{Response}
use Rattle.rt_report.specs.Choose.{best_text, nothing_text}
use Rattle.rt_report.specs.Interface.{interface_text}
use Rattle.rt_report.specs.Refusal.{refusal_text}
use Rattle.rt_report.specs.Responses.{responses_text}
use Rattle.rt_report.specs.Slack.{slack_text}
use Rattle.command_frame.specs.declared.status.Status.{Status}
use Rattle.command_frame.specs.declared.status.Status.TheVariants.{Yes, No, Wide, BadFile}
use Rattle.command_frame.specs.Answer.{Contents, IsReadable}
use Rattle.command_frame.specs.Budgets.{composing, refusal_status, IsTrulyOverfull}
use Rattle.command_frame.specs.CommandSpec.{IsVerdict}
use Rattle.command_frame.specs.NamedLeaf.{HasNoLeaf, OnLeaf}
use Rattle.command_frame.proofs.Attempt.{refused_first, said_of_given}
use Rattle.command_frame.proofs.Budgets.{composing_decided}
use Rattle.guest_commands.specs.Interface.{AtDeadline, Interfaces, InterfaceMeans, IsInterface, least_status, least_text, the_interface}
use Rattle.guest_commands.specs.Choose.{ChooseMeans, Chooses, IsChosen, choice_status, the_choose}
use Rattle.guest_commands.specs.Slack.{SlackensLeaf, Slackens, SlackMeans, TellsWorks, the_slack}
use Rattle.guest_commands.specs.Responses.{AreResponses, IsReplayOf, IsResponseOf, IsTold, RespondsInTree, Responds, RespondMeans, answered_tasks, the_responses}

-- `interface`: with the budget that is told no job of the leaf is lost, and with each smaller one
-- it must miss; or with each up to the deadline
what_an_interface_gives : (sys : SystemView) (part : List ℕ) (deadline : ℕ) (text : List ℕ)
    → InterfaceMeans part deadline sys Yes text
    → (leaf : ℕ) × (budget : ℕ) × IsLeafNamed sys part leaf
    × (text ≡ interface_text (part_at sys leaf) deadline budget) × (budget ≤ deadline)
    × (deadline ≤ (part_at sys leaf).period)
    × NoJobLost (GivesByDeadline (part_at sys leaf).period budget deadline)
    (before_of (part_at sys leaf).sched (own_tasks_at sys leaf)) (own_tasks_at sys leaf)
    × ((b : ℕ) → b < budget → MustMiss (GivesByDeadline (part_at sys leaf).period b deadline)
    (before_of (part_at sys leaf).sched (own_tasks_at sys leaf)) (own_tasks_at sys leaf))
what_an_interface_gives sys part deadline text told =
    (told.leaf, told.budget, told.found, told.told, told.in_deadline, told.in_period, told.no_loss, told.tight)

what_no_interface_gives : (sys : SystemView) (part : List ℕ) (deadline : ℕ) (text : List ℕ)
    → InterfaceMeans part deadline sys No text
    → (leaf : ℕ) × (short : Short) × IsLeafNamed sys part leaf × (text ≡ refusal_text sys (Overfull (Part leaf) short))
    × IsShortfall (part_at sys leaf).sched (own_tasks_at sys leaf) (sbf_by (part_at sys leaf).period deadline deadline)
    short
    × ((b : ℕ) → b ≤ deadline → MustMiss (GivesByDeadline (part_at sys leaf).period b deadline)
    (before_of (part_at sys leaf).sched (own_tasks_at sys leaf)) (own_tasks_at sys leaf))
what_no_interface_gives sys part deadline text told =
    (told.leaf, told.short, told.found, told.told, told.first, told.misses)

-- the file is refused where no leaf has the name, or the deadline passes its period
what_refuses_a_deadline : (file part : List ℕ) (deadline : ℕ) (contents : Contents)
    → (the_interface file part deadline).EndsAs contents BadFile
    → (sys : SystemView) × IsReadable 1 contents (λ bytes. system_of bytes ≡ Ok sys)
    × (((q : ℕ) → IsLeafNamed sys part q → ⊥)
    ⊎ ((q : ℕ) × IsLeafNamed sys part q × ((part_at sys q).period < deadline)))
what_refuses_a_deadline file part deadline contents ends = (ends.sys, ends.spelled, ends.such)

-- `choose`: the budget that is told is the best of the range, with it no job of the leaf is lost,
-- and with each smaller one it must miss; or nothing passes
what_a_choice_gives : (sys : SystemView) (part : List ℕ) (low high : ℕ) (text : List ℕ)
    → ChooseMeans part low high sys Yes text
    → (leaf : ℕ) × (period : ℕ) × (budget : ℕ) × IsLeafNamed sys part leaf
    × (text ≡ best_text (part_at sys leaf) period budget)
    × IsBest (part_at sys leaf).sched (own_tasks_at sys leaf) low high period budget
    × NoJobLost (GivesBudget period budget) (before_of (part_at sys leaf).sched (own_tasks_at sys leaf))
    (own_tasks_at sys leaf)
    × ((b : ℕ) → b < budget → MustMiss (GivesBudget period b)
    (before_of (part_at sys leaf).sched (own_tasks_at sys leaf)) (own_tasks_at sys leaf))
what_a_choice_gives sys part low high text told =
    (told.leaf, told.period, told.budget, told.found, told.told, told.best, told.no_loss, told.tight)

what_no_choice_gives : (sys : SystemView) (part : List ℕ) (low high : ℕ) (text : List ℕ)
    → ChooseMeans part low high sys No text
    → (leaf : ℕ) × (over : ℕ) × (wide : ℕ) × IsLeafNamed sys part leaf × (text ≡ nothing_text over wide)
    × (nothing : IsNothing (part_at sys leaf).sched (own_tasks_at sys leaf) low high over wide)
    × ((q b : ℕ) → low ≤ q → q ≤ high → b ≤ q
    → TestPasses (part_at sys leaf).sched (own_tasks_at sys leaf) (sbf q b) q → ⊥)
    × ((q b : ℕ) → low ≤ q → q ≤ high → is_over (nothing.answer q) ≡ true → b ≤ q →
    MustMiss (GivesBudget q b) (before_of (part_at sys leaf).sched (own_tasks_at sys leaf)) (own_tasks_at sys leaf))
what_no_choice_gives sys part low high text told =
    (told.leaf, told.over, told.wide, told.found, told.told, told.nothing, told.none, told.misses)

a_choice_is_never_wide : (file part : List ℕ) (low high : ℕ) (contents : Contents)
    → (the_choose file part low high).EndsAs contents Wide → ⊥
a_choice_is_never_wide file part low high contents ends = ends

what_refuses_a_choice : (file part : List ℕ) (low high : ℕ) (contents : Contents)
    → (the_choose file part low high).EndsAs contents BadFile
    → (sys : SystemView) × IsReadable 1 contents (λ bytes. system_of bytes ≡ Ok sys)
    × ((q : ℕ) → IsLeafNamed sys part q → ⊥)
what_refuses_a_choice file part low high contents ends = (ends.sys, ends.spelled, ends.such)

-- `slack`: no job is lost under budgets that admit the system, nor with each work up to the one
-- that is told
what_slack_gives : (sys : SystemView) (part text : List ℕ) → SlackMeans part sys Yes text
    → (leaf : ℕ) × (budgets : List ℕ) × (works : List ℕ) × IsLeafNamed sys part leaf × Admitted sys budgets
    × NoLoss sys budgets × AreMostWorks sys leaf works × (text ≡ slack_text (part_at sys leaf) works)
    × ((i work : ℕ) → i < length (part_at sys leaf).tasks → 1 ≤ work → work ≤ slice_index_or works i 0
    → (under : List ℕ) × Admitted (with_work sys leaf i work) under × NoLoss (with_work sys leaf i work) under)
what_slack_gives sys part text told =
    (told.leaf, told.budgets, told.works, told.found, told.admitted, told.no_loss, told.most, told.told, told.safe)

what_no_slack_gives : (sys : SystemView) (part text : List ℕ) → SlackMeans part sys No text → IsTrulyOverfull sys text
what_no_slack_gives sys part text over = over

what_refuses_slack : (file part : List ℕ) (contents : Contents) → (the_slack file part).EndsAs contents BadFile
    → (sys : SystemView) × IsReadable 1 contents (λ bytes. system_of bytes ≡ Ok sys)
    × ((q : ℕ) → IsLeafNamed sys part q → ⊥)
what_refuses_slack file part contents ends = (ends.sys, ends.spelled, ends.such)

-- `responses`: budgets admit the system and lose no job, and a line tells the greatest response of
-- its task, which is in the task's room, and which no job of it passes in the tree
what_responses_give : (sys : SystemView) (text : List ℕ) → RespondMeans sys Yes text
    → (budgets : List ℕ) × (rows : List Response) × Admitted sys budgets × NoLoss sys budgets
    × AreResponses sys budgets rows × All (RespondsInTree sys budgets) rows × (text ≡ responses_text sys rows)
what_responses_give sys text told =
    (told.budgets, told.rows, told.admitted, told.no_loss, told.responses, told.in_tree, told.told)

what_a_response_gives : (sched : Sched) (tasks : List SporadicTask) (period budget i : ℕ) (row : Response)
    → IsResponseOf sched tasks period budget i row
    → IsGreatestResponse (GivesBudget period budget) (before_of sched tasks) tasks i row.worst
    × (row.limit ≡ room_of (task_at tasks i)) × (row.worst ≤ row.limit)
    × IsReplayOf sched tasks period budget i row.worst row.replay
what_a_response_gives sched tasks period budget i row of = (of.greatest, of.limit_is, of.in_limit, of.replayed)

what_no_responses_give : (sys : SystemView) (text : List ℕ) → RespondMeans sys No text → IsTrulyOverfull sys text
what_no_responses_give sys text over = over

-- a name of no leaf is told before anything else is asked: of `interface` the deadline, of `slack`
-- whether the system is admitted
no_leaf_is_told : (sys : SystemView) (part : List ℕ) (Says : ℕ → Status → List ℕ → Type 0) (status : Status)
    (text : List ℕ) → HasNoLeaf sys part → OnLeaf sys part Says status text
    → (status ≡ BadFile) × (text ≡ codes "fault=NoSuchLeaf file=1\n")
unfolding digits
no_leaf_is_told sys part Says status text none said = elim said [
  | inl given ↦ absurd (none given.value given.gives)
  | inr refused ↦ (refused.status_is, refused.told)
]

a_name_of_no_leaf : (sys : SystemView) (part : List ℕ) (deadline low high : ℕ) (status : Status) (text : List ℕ)
    → HasNoLeaf sys part
    → Interfaces part deadline sys status text ⊎ (Chooses part low high sys status text
    ⊎ Slackens part sys status text)
    → (status ≡ BadFile) × (text ≡ codes "fault=NoSuchLeaf file=1\n")
a_name_of_no_leaf sys part deadline low high status text none said = elim said [
  | inl of_interface ↦ no_leaf_is_told sys part (AtDeadline sys deadline) status text none of_interface
  | inr other ↦ elim other [
    | inl of_choose ↦ no_leaf_is_told sys part (IsChosen sys low high) status text none of_choose
    | inr of_slack ↦ no_leaf_is_told sys part (SlackensLeaf sys) status text none of_slack
  ]
]

-- a deadline past the period is told, also where the leaf is wide; one at its end has an interface
a_deadline_past_the_period : (sys : SystemView) (q deadline : ℕ) (status : Status) (text : List ℕ)
    → (part_at sys q).period < deadline → AtDeadline sys deadline q status text
    → (status ≡ BadFile) × (text ≡ codes "fault=BadDeadline file=1\n")
unfolding digits
a_deadline_past_the_period sys q deadline status text past told = told.past past

a_deadline_at_the_period : (sys : SystemView) (q : ℕ) (status : Status) (text : List ℕ)
    → AtDeadline sys (part_at sys q).period q status text
    → IsInterface sys q (part_at sys q).period status text
a_deadline_at_the_period sys q status text told = told.within (omega arith)

statuses_of_leaves : (least_status (Budget 27) ≡ Yes) × (least_status (Over (At 20)) ≡ No)
    × (least_status LeastWide ≡ Wide) × (choice_status (Best 7 2) ≡ Yes) × (choice_status (Nothing 3 1) ≡ No)
statuses_of_leaves = (refl, refl, refl, refl, refl)

a_leaf_that_is_wide : (sys : SystemView) (q deadline : ℕ)
    → least_text sys q deadline LeastWide ≡ refusal_text sys (NodeWide (Part q))
a_leaf_that_is_wide sys q deadline = refl

-- which tasks have a line: those of each leaf that is not under earliest deadline first, in file
-- order
abbrev part : Parent → Sched → List NamedTask → PartView
part parent sched tasks =
    record {
      name = codes "p";
      parent = parent;
      sched = sched;
      period = 10;
      budget = None;
      extra = false;
      tasks = tasks;
    }

abbrev tasks_of : List NamedTask
tasks_of =
    record { name = codes "t"; task = plain_task 10 10 1 } ∷ record { name = codes "u"; task = plain_task 20 20 1 } ∷ []

abbrev one_of_each : SystemView
one_of_each = record {
  cores = record { name = codes "c"; sched = Edf; supply = None } ∷ [];
  parts =
      part (on_core 0) Rm [] ∷ part (on_part 0) Edf tasks_of ∷ part (on_part 0) Rm tasks_of
      ∷ part (on_core 0) Dm tasks_of ∷ part (on_core 0) Listed tasks_of ∷ [];
}

who_has_a_line : answered_tasks one_of_each ≡ (2, 0) ∷ (2, 1) ∷ (3, 0) ∷ (3, 1) ∷ (4, 0) ∷ (4, 1) ∷ []
who_has_a_line = refl

-- a replay of 1,000,000 slots is told, and a longer one is skipped
the_longest_replay : (sched : Sched) (tasks : List SporadicTask) (period i : ℕ)
    → (IsReplayOf sched tasks period 4 i 999996 None → ⊥) × IsReplayOf sched tasks period 4 i 999997 None
the_longest_replay sched tasks period i = (λ skipped. omega (arith, skipped), omega arith)

what_a_replay_tells : (sched : Sched) (tasks : List SporadicTask) (period budget i worst t : ℕ)
    → IsReplayOf sched tasks period budget i worst (Some t)
    → (budget + worst ≤ 1000000) × (t ≡ worst)
    × ShowsResponse (before_of sched tasks) tasks (worst_slot period budget) budget worst i t
what_a_replay_tells sched tasks period budget i worst t told = told

-- a file of a system lets each be judged, and `responses` gets its verdict
a_file_that_is_judged : (file word : List ℕ) (deadline low high : ℕ) (bytes : List ℕ) → length bytes ≤ 67108864
    → IsOk (system_of bytes)
    → (the_responses file).CanJudge (Some bytes ∷ []) × (the_interface file word deadline).CanJudge (Some bytes ∷ [])
    × (the_choose file word low high).CanJudge (Some bytes ∷ []) × (the_slack file word).CanJudge (Some bytes ∷ [])
a_file_that_is_judged file word deadline low high bytes short good =
    let read : IsReadable 1 (Some bytes ∷ []) (λ b. IsOk (system_of b))
    = record { bytes = bytes; there = refl; short = short; good = good } in
    (read, read, read, read)

responses_end_with_a_verdict : (file : List ℕ) (contents : Contents) (status : Status)
    → (the_responses file).EndsAs contents status → IsVerdict status
responses_end_with_a_verdict file contents status ends = ends

-- a system that budgets admit is answered yes by `responses`, and by `slack` of a leaf of it
who_is_admitted_is_answered_yes : (sys : SystemView) → IsSystem sys → (budgets : List ℕ) (leaf : ℕ) (status : Status)
    (text : List ℕ) → Admitted sys budgets → Responds sys status text ⊎ SlackensLeaf sys leaf status text
    → status ≡ Yes
who_is_admitted_is_answered_yes sys is budgets leaf status text admitted said = elim said [
  | inl of_responses ↦
      (said_of_given (composing sys) (IsTold sys) status text (composing_decided sys is) budgets admitted
      of_responses).is_yes
  | inr of_slack ↦
      (said_of_given (composing sys) (λ under. TellsWorks sys leaf) status text (composing_decided sys is) budgets
      admitted of_slack).is_yes
]

-- and one that a node refuses is answered as `admit` answers it
who_is_refused_is_told_the_node : (sys : SystemView) → IsSystem sys → (refusal : Refusal) (leaf : ℕ) (status : Status)
    (text : List ℕ) → FirstRefusal sys refusal → Responds sys status text ⊎ SlackensLeaf sys leaf status text
    → (status ≡ refusal_status refusal) × (text ≡ refusal_text sys refusal)
who_is_refused_is_told_the_node sys is refusal leaf status text first said = elim said [
  | inl of_responses ↦
      refused_first (composing sys) (IsTold sys) (composing_decided sys is) refusal first status text of_responses
  | inr of_slack ↦
      refused_first (composing sys) (λ under. TellsWorks sys leaf) (composing_decided sys is) refusal first status
      text of_slack
]
