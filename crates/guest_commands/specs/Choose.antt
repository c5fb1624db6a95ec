-- `choose FILE PART LOW HIGH`: what it answers, and what its yes and no mean to who sets the period
-- of a guest.
use Rattle.std.specs.Prelude.{◌≡◌, ℕ, ◌<◌, ◌≤◌, true, List, ⊤}
use Rattle.slot_model.specs.Supply.{GivesBudget}
use Rattle.slot_model.specs.Order.{before_of}
use Rattle.slot_model.specs.Bound.{sbf, TestPasses}
use Rattle.slot_model.specs.Miss.{NoJobLost, MustMiss}
use Rattle.period_choice.specs.declared.choice.Choice.{Choice}
use Rattle.period_choice.specs.declared.choice.Choice.TheVariants.{Best, Nothing}
use Rattle.period_choice.specs.Choice.{is_over, IsBest, IsNothing, IsChoice}
use Rattle.tree_model.specs.View.{SystemView}
use Rattle.tree_model.specs.System.{part_at, own_tasks_at}
use Rattle.tree_model.specs.NamedLeaf.{IsLeafNamed}
use Rattle.rt_report.specs.Choose.{best_text, nothing_text}
use Rattle.command_frame.specs.declared.status.Status.{Status}
use Rattle.command_frame.specs.declared.status.Status.TheVariants.{Yes, No, Wide}
use Rattle.command_frame.specs.CommandSpec.{CommandSpec}
use Rattle.command_frame.specs.Answer.{Contents}
use Rattle.command_frame.specs.OverFiles.{over_system_ending}
use Rattle.command_frame.specs.NamedLeaf.{HasNoLeaf, OnLeaf, IsVerdictUnless}

-- the status and the text that tell a choice for leaf q
abbrev pub choice_status : Choice → Status
choice_status (Best period budget) = Yes
choice_status (Nothing over wide) = No

abbrev pub choice_text : SystemView → ℕ → Choice → List ℕ
choice_text sys q (Best period budget) = best_text (part_at sys q) period budget
choice_text sys q (Nothing over wide) = nothing_text over wide

-- the text tells the period of the range at which leaf q needs the least share of the processor
pub record IsChosen (sys : SystemView) (low high q : ℕ) (status : Status) (text : List ℕ)
    : Type 0 where
  pub choice : Choice
  pub chosen : IsChoice (part_at sys q).sched (own_tasks_at sys q) low high choice
  pub status_is : status ≡ choice_status choice
  pub told : text ≡ choice_text sys q choice

-- the answer to a system
abbrev pub Chooses : List ℕ → ℕ → ℕ → SystemView → Status → List ℕ → Type 0
Chooses part low high sys = OnLeaf sys part (IsChosen sys low high)

-- Yes means: of all budgets that pass at a period of the range, the one that the text tells has the
-- least share of its period, at the shortest period with that share. Over every list that gives it
-- in each period of that length the leaf loses no job, and with every smaller whole one it must
-- miss.
pub record TellsBest (sys : SystemView) (part : List ℕ) (low high : ℕ) (text : List ℕ)
    : Type 0 where
  pub leaf : ℕ
  pub found : IsLeafNamed sys part leaf
  pub period : ℕ
  pub budget : ℕ
  pub told : text ≡ best_text (part_at sys leaf) period budget
  pub best : IsBest (part_at sys leaf).sched (own_tasks_at sys leaf) low high period budget
  pub no_loss : let tasks = own_tasks_at sys leaf in
      NoJobLost (GivesBudget period budget) (before_of (part_at sys leaf).sched tasks) tasks
  pub tight : let tasks = own_tasks_at sys leaf in (b : ℕ) → b < budget →
      MustMiss (GivesBudget period b) (before_of (part_at sys leaf).sched tasks) tasks

-- no means: no budget passes at any period of the range, and the text tells at how many even the
-- whole period is short, and how many are too wide; at each of the former the leaf must miss with
-- every whole budget
pub record TellsNothing (sys : SystemView) (part : List ℕ) (low high : ℕ) (text : List ℕ)
    : Type 0 where
  pub leaf : ℕ
  pub found : IsLeafNamed sys part leaf
  pub over : ℕ
  pub wide : ℕ
  pub told : text ≡ nothing_text over wide
  pub nothing : IsNothing (part_at sys leaf).sched (own_tasks_at sys leaf) low high over wide
  pub none : (q b : ℕ) → low ≤ q → q ≤ high → b ≤ q →
      TestPasses (part_at sys leaf).sched (own_tasks_at sys leaf) (sbf q b) q → ⊥
  pub misses : let tasks = own_tasks_at sys leaf in (q b : ℕ) → low ≤ q → q ≤ high →
      is_over (nothing.answer q) ≡ true → b ≤ q →
      MustMiss (GivesBudget q b) (before_of (part_at sys leaf).sched tasks) tasks

-- what an answer to a system means
abbrev pub ChooseMeans : List ℕ → ℕ → ℕ → SystemView → Status → List ℕ → Type 0
ChooseMeans part low high sys Yes text = TellsBest sys part low high text
ChooseMeans part low high sys No text = TellsNothing sys part low high text
ChooseMeans part low high sys _ text = ⊤

-- it ends with yes or no, or there is no leaf of that name, or memory runs out
abbrev pub EndsChoosing : List ℕ → Contents → Status → Type 0
EndsChoosing part contents Wide = ⊥
EndsChoosing part contents status = IsVerdictUnless (λ sys. HasNoLeaf sys part) contents status

-- what there is to say of the command
abbrev pub the_choose : (file part : List ℕ) (low high : ℕ) → CommandSpec
the_choose file part low high =
    over_system_ending (Chooses part low high) (ChooseMeans part low high) (EndsChoosing part) file
