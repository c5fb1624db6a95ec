-- `admit FILE`: what it answers, and what its yes and no mean to who ships hardware on them.
use Rattle.std.specs.Prelude.{◌≡◌, ℕ, List, ⊤}
use Rattle.tree_model.specs.View.{SystemView}
use Rattle.tree_model.specs.Tree.{NoLoss}
use Rattle.tree_model.specs.Admission.{Admitted}
use Rattle.compose_tree.specs.Keeping.{Keeping}
use Rattle.compose_tree.specs.Truth.{IsTight}
use Rattle.miss_witness.specs.declared.replay.Replay.{Replay}
use Rattle.rt_report.specs.Admit.{admit_text}
use Rattle.miss_witness.specs.Replay.{AreReplays, AllDefeat}
use Rattle.command_frame.specs.declared.status.Status.{Status}
use Rattle.command_frame.specs.declared.status.Status.TheVariants.{Yes, No}
use Rattle.command_frame.specs.Budgets.{OnAdmitted, IsTrulyOverfull}
use Rattle.command_frame.specs.CommandSpec.{CommandSpec}
use Rattle.command_frame.specs.OverFiles.{over_system}

-- yes: the text tells the budgets, with the replay of each computed leaf
pub record IsAdmission (sys : SystemView) (budgets : List ℕ) (status : Status) (text : List ℕ)
    : Type 0 where
  pub is_yes : status ≡ Yes
  pub replays : List Replay
  pub replayed : AreReplays sys budgets replays
  pub told : text ≡ admit_text sys budgets replays

-- the answer to a system: budgets admit it, or the first refusal is told, no or wide
abbrev pub Admits : SystemView → Status → List ℕ → Type 0
Admits sys = OnAdmitted sys (IsAdmission sys)

-- yes means: the budgets that the text tells admit the system, no job is lost on any level in any
-- permitted run, whenever each server begins, nor at any node by itself over any supply of its own
-- kind, and every whole budget below a computed leaf budget must miss: the supply and the release
-- that the text tells of the leaf defeat each of them, and the miss that it tells is the first of
-- the first run of that release
pub record KeepsDeadlines (sys : SystemView) (text : List ℕ) : Type 0 where
  pub budgets : List ℕ
  pub replays : List Replay
  pub told : text ≡ admit_text sys budgets replays
  pub admitted : Admitted sys budgets
  pub no_loss : NoLoss sys budgets
  pub each_node : Keeping sys budgets
  pub tight : IsTight sys budgets
  pub replayed : AreReplays sys budgets replays
  pub defeat : AllDefeat sys replays

-- what an answer to a system means: no means that the first refusal is true, and of a wide one
-- nothing is claimed
abbrev pub AdmitMeans : SystemView → Status → List ℕ → Type 0
AdmitMeans sys Yes text = KeepsDeadlines sys text
AdmitMeans sys No text = IsTrulyOverfull sys text
AdmitMeans sys _ text = ⊤

-- what there is to say of the command
abbrev pub the_admit : List ℕ → CommandSpec
the_admit = over_system Admits AdmitMeans
