-- `slack FILE PART`: what it answers, and what its yes and no mean to who lets a task grow.
use Rattle.std.specs.Prelude.{◌≡◌, ℕ, ◌<◌, ◌≤◌, List, length, slice_index_or, ⊤}
use Rattle.tree_model.specs.View.{SystemView}
use Rattle.tree_model.specs.System.{part_at}
use Rattle.tree_model.specs.Admission.{Admitted}
use Rattle.tree_model.specs.NamedLeaf.{IsLeafNamed}
use Rattle.tree_model.specs.Tree.{NoLoss}
use Rattle.slack.specs.MostWork.{AreMostWorks, with_work}
use Rattle.rt_report.specs.Slack.{slack_text}
use Rattle.command_frame.specs.declared.status.Status.{Status}
use Rattle.command_frame.specs.declared.status.Status.TheVariants.{Yes, No}
use Rattle.command_frame.specs.CommandSpec.{CommandSpec}
use Rattle.command_frame.specs.OverFiles.{over_system_ending}
use Rattle.command_frame.specs.Budgets.{OnAdmitted, IsTrulyOverfull}
use Rattle.command_frame.specs.NamedLeaf.{HasNoLeaf, OnLeaf, IsVerdictUnless}

-- yes: the text tells the greatest work of each task of leaf q
pub record TellsWorks (sys : SystemView) (q : ℕ) (status : Status) (text : List ℕ) : Type 0 where
  pub is_yes : status ≡ Yes
  pub works : List ℕ
  pub most : AreMostWorks sys q works
  pub told : text ≡ slack_text (part_at sys q) works

-- the answer for leaf q: budgets admit the system, or the first refusal is told, no or wide
abbrev pub SlackensLeaf : SystemView → ℕ → Status → List ℕ → Type 0
SlackensLeaf sys q = OnAdmitted sys (λ budgets. TellsWorks sys q)

-- the answer to a system
abbrev pub Slackens : List ℕ → SystemView → Status → List ℕ → Type 0
Slackens part sys = OnLeaf sys part (SlackensLeaf sys)

-- budgets admit the system, and no job is lost on any level in any permitted run, whenever each
-- server begins
abbrev pub CanKeepDeadlines : SystemView → Type 0
CanKeepDeadlines sys = (budgets : List ℕ) × Admitted sys budgets × NoLoss sys budgets

-- yes means: budgets admit the system, under which no job is lost on any level in any permitted
-- run, and the text tells the greatest work of each task of the leaf: with each work from 1 to it
-- the system is admitted and loses no job, and with each from one more up to what the task's
-- deadline leaves past its jitter it is not admitted
pub record TellsSlack (sys : SystemView) (part : List ℕ) (text : List ℕ) : Type 0 where
  pub leaf : ℕ
  pub found : IsLeafNamed sys part leaf
  pub budgets : List ℕ
  pub admitted : Admitted sys budgets
  pub no_loss : NoLoss sys budgets
  pub works : List ℕ
  pub most : AreMostWorks sys leaf works
  pub safe : (i work : ℕ) → i < length (part_at sys leaf).tasks → 1 ≤ work →
      work ≤ slice_index_or works i 0 → CanKeepDeadlines (with_work sys leaf i work)
  pub told : text ≡ slack_text (part_at sys leaf) works

-- what an answer to a system means; its no means what that of `admit` does
abbrev pub SlackMeans : List ℕ → SystemView → Status → List ℕ → Type 0
SlackMeans part sys Yes text = TellsSlack sys part text
SlackMeans part sys No text = IsTrulyOverfull sys text
SlackMeans part sys _ text = ⊤

-- the system has no leaf of that name
abbrev pub LacksLeaf : List ℕ → SystemView → Type 0
LacksLeaf part sys = HasNoLeaf sys part

-- what there is to say of the command
abbrev pub the_slack : (file part : List ℕ) → CommandSpec
the_slack file part =
    over_system_ending (Slackens part) (SlackMeans part) (IsVerdictUnless (LacksLeaf part)) file
